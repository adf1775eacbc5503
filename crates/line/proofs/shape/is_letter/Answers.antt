use Rattle.std.proofs.Common.{rules}
use Rattle.line.specs.Shape.{is_letter}
use Rattle.line.proofs.shape.is_letter.Goals as goal

pub returns : goal.returns
unfolding is_letter
returns c = search rules
