use Rattle.std.proofs.Common.{arith}
use Rattle.weight.specs.Ranges.{less_to}
use Rattle.weight.proofs.ZeroLaws.{later_share_to}
use Rattle.weighing.specs.Reading.{v_now}
use Rattle.weighing.specs.RangeLaws.{v_now_lem, zeros_now_lem}
use Rattle.measuring.proofs.on_cdl.Goals as goal

pub less_by-z1-requires : goal.less_by-z1-requires
less_by-z1-requires c = let z = zeros_now_lem c.args.u.unit c.args.u.ranged in rw c.v_now.ensures (omega (arith, v_now_lem c.args.u.unit c.args.u.ranged), omega arith)

pub within_share-near-requires : goal.within_share-near-requires
within_share-near-requires c =
    let z = zeros_now_lem c.args.u.unit c.args.u.ranged in (
      omega (arith, c.later_share-share.ensures, later_share_to c.args.u.unit.used.lft),
      rw (c.less_by-z1.ensures, c.v_now.ensures) (omega (arith, less_to (v_now c.args.u.unit) c.args.u.unit.zeros.z0, v_now_lem c.args.u.unit c.args.u.ranged)),
    )
