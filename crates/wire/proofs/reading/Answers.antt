use Rattle.cases.specs.PickLaws.{yes_via}
use Rattle.state.specs.RangedLaws.{ranged_yes}
use Rattle.wire.proofs.reading.Goals as goal

pub invariant_of-reading_now : goal.invariant_of-reading_now
invariant_of-reading_now c = record { ranged = ranged_yes c.args.u (yes_via _ _ c.is_ranged.ensures c.if-is_ranged.true) }
