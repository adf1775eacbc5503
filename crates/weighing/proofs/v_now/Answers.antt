use Rattle.weighing.specs.RangeLaws.{scale_now, cell_now}
use Rattle.weighing.proofs.v_now.Goals as goal

pub in_tenths-requires : goal.in_tenths-requires
in_tenths-requires c = (scale_now c.args.u.unit c.args.u.ranged, rw c.cell_of.ensures (cell_now c.args.u.unit c.args.u.ranged))
