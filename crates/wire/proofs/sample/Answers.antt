use Rattle.cases.specs.PickLaws.{yes_via}
use Rattle.state.specs.RangedLaws.{ranged_yes}
use Rattle.wire.proofs.sample.Goals as goal

pub invariant_of-take_sample : goal.invariant_of-take_sample
invariant_of-take_sample c = record { ranged = ranged_yes c.args.u (yes_via _ _ c.is_ranged.ensures c.if-is_ranged.true) }
