use Rattle.std.proofs.Common.{rules}
use Rattle.line.specs.Line.{drops_of}
use Rattle.line.proofs.cut.drops.Goals as goal

pub returns : goal.returns
unfolding drops_of
returns c = search rules
