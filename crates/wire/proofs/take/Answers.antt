use Rattle.cases.specs.PickLaws.{yes_via}
use Rattle.state.specs.RangedLaws.{ranged_yes}
use Rattle.wire.proofs.take.Goals as goal

pub invariant_of-serve : goal.invariant_of-serve
invariant_of-serve c = record { ranged = ranged_yes c.args.u (yes_via _ _ c.is_ranged.ensures c.if-is_ranged.true) }
