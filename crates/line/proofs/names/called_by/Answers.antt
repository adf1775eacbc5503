use Rattle.std.proofs.Common.{◌≡◌, ◌∙◌, sym, length, rules}
use Rattle.line.proofs.NameLaws.{found_here, found_on}
use Rattle.line.proofs.names.called_by.Goals as goal

pub returns-then-eq : goal.returns-then-eq
returns-then-eq c = let three : length c.args.n.0 ≡ 3 = search rules in found_here c.loop-letters.letters-index _ c.args.n three c.loop-letters-test.true c.loop-letters.invariant (sym c.eq.ensures ∙ c.if-eq.true)

pub loop-letters-preserved : goal.loop-letters-preserved
loop-letters-preserved c = let three : length c.args.n.0 ≡ 3 = search rules in found_on c.loop-letters.letters-index _ c.args.n three c.loop-letters-test.true c.loop-letters.invariant (sym c.eq.ensures ∙ c.if-eq.false)
