use Rattle.cases.specs.PickLaws.{cases}
use Rattle.line.specs.Line.{quoted_of}
use Rattle.line.proofs.cut.quote.Goals as goal

pub returns-then-b-eq34 : goal.returns-then-b-eq34
unfolding quoted_of
returns-then-b-eq34 c = search cases

pub returns-else-b-eq34 : goal.returns-else-b-eq34
unfolding quoted_of
returns-else-b-eq34 c = search cases
