use Rattle.std.proofs.Common.{arith, refl, to_z-of_z}
use Rattle.reply.specs.PushLaws.{onto}
use Rattle.reply.specs.Reply.{places_of, signed_text}
use Rattle.reply.proofs.signed.Goals as goal

pub returns : goal.returns
unfolding places_of signed_text
returns c = rw (to_z-of_z c.ranges.x) at (onto _ _ _ _ (onto _ _ _ _ (onto _ _ _ _ c.empty.ensures refl (omega arith)) c.signed.ensures (omega arith)) c.end.ensures (omega arith))
