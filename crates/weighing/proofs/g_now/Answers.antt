use Rattle.std.proofs.Common.{arith}
use Rattle.weighing.specs.RangeLaws.{v_now_lem, zeros_now_lem}
use Rattle.weighing.proofs.g_now.Goals as goal

pub above_zeros-requires : goal.above_zeros-requires
above_zeros-requires c = let z = zeros_now_lem c.args.u.unit c.args.u.ranged in rw c.v_now.ensures (omega (arith, v_now_lem c.args.u.unit c.args.u.ranged), (omega arith, omega arith))
