use Rattle.cases.specs.PickLaws.{yes_via}
use Rattle.state.specs.RangedLaws.{ranged_yes}
use Rattle.state.proofs.in_range.InRange.new.Goals as goal

pub invariant_of-result : goal.invariant_of-result
invariant_of-result c = record { ranged = ranged_yes c.args.unit (yes_via _ _ c.is_ranged.ensures c.if-is_ranged.true) }
