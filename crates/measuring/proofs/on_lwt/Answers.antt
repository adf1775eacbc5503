use Rattle.state.specs.RangedLaws.{point_of}
use Rattle.measuring.specs.CurveLaws.{given_in}
use Rattle.measuring.proofs.on_lwt.Goals as goal

pub span_ok-requires : goal.span_ok-requires
span_ok-requires c =
    let g = c.in_ok-w.ensures.given in (
      point_of c.args.u.unit.point c.args.u.ranged.point_ok,
      rw g.1 (given_in c.args.u.unit c.args.p c.args.u.ranged.seen_ok g.0),
    )
