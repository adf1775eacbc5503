use Rattle.std.proofs.Common.{arith}
use Rattle.weighing.specs.RangeLaws.{scale_now}
use Rattle.weighing.proofs.limits.Goals as goal

pub invariant_of-result : goal.invariant_of-result
invariant_of-result c = let s = scale_now c.args.u.unit c.args.u.ranged in record { nov_to = omega arith; rsn_to = omega arith }
