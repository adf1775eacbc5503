use Rattle.std.proofs.Common.{arith, w64, to_z-of_z}
use Rattle.std.proofs.lemmas.Int.{to_z_pos}
use Rattle.line.specs.ReadLaws.{zero_sub, pos_fits, neg_fits}
use Rattle.line.specs.Shape.{signed_of}
use Rattle.line.proofs.shape.signed.Goals as goal

pub returns-then-negative : goal.returns-then-negative
unfolding signed_of
returns-then-negative c = rw (c.if-negative.true, c.cast_signed-n.ensures, to_z_pos w64 c.args.size (omega arith), to_z-of_z (pos_fits c.args.size (omega arith)), zero_sub, to_z-of_z (neg_fits c.args.size (omega arith)))

pub returns-else-negative : goal.returns-else-negative
unfolding signed_of
returns-else-negative c = rw (c.if-negative.false, c.cast_signed-n.ensures, to_z_pos w64 c.args.size (omega arith), to_z-of_z (pos_fits c.args.size (omega arith)))
