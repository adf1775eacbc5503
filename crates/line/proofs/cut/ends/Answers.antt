use Rattle.std.proofs.Common.{rules}
use Rattle.line.specs.Line.{ends_of}
use Rattle.line.proofs.cut.ends.Goals as goal

pub returns : goal.returns
unfolding ends_of
returns c = search rules
