use Rattle.session.specs.WalkLaws.{Walked}
use Rattle.bench.proofs.scan.Given as goal

abbrev pub invariant-loop-to : goal.invariant-loop-to
invariant-loop-to l = Walked l.fn.s l.buf l.at l.state l.from l.to
