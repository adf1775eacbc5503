use Rattle.std.proofs.Common.{arith}
use Rattle.weighing.specs.RangeLaws.{g_now_lem, scale_now}
use Rattle.weighing.proofs.gross_now.Goals as goal

pub gross_of-requires : goal.gross_of-requires
gross_of-requires c = let s = scale_now c.args.u.unit c.args.u.ranged in rw c.g_now.ensures (omega (arith, g_now_lem c.args.u.unit c.args.u.ranged), (omega arith, omega arith))
