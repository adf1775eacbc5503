use Rattle.std.proofs.Common.{arith}
use Rattle.weighing.specs.RangeLaws.{zeros_now_lem}
use Rattle.weighing.proofs.tracked_now.Goals as goal

pub tracked_zero-requires : goal.tracked_zero-requires
tracked_zero-requires c = let z = zeros_now_lem c.args.u.unit c.args.u.ranged in omega arith
