use Rattle.whole.specs.Bits.{par}
use Rattle.weighing.specs.RangeLaws.{seeing_ranged}
use Rattle.weighing.proofs.take_sample.Goals as goal

pub invariant_of-v : goal.invariant_of-v
invariant_of-v c = record { ranged = rw (c.see.ensures, c.seen_of.ensures, (par c.ranges.x).value) (seeing_ranged c.args.u.unit c.args.x c.args.still c.args.u.ranged) }
