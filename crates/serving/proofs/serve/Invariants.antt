use Rattle.std.proofs.Common.{◌≡◌}
use Rattle.state.specs.Changes.{lined}
use Rattle.serving.proofs.TurnLaws.{Serving}
use Rattle.serving.proofs.serve.Given as goal

abbrev pub invariant-loop-b : goal.invariant-loop-b
invariant-loop-b l = Serving l.initial.v l.bytes l.initial.room l.room (lined l.v l.kept l.pos) l.b-index l.at × (l.taken ≡ l.b-index)
