use Rattle.std.proofs.Common.{le-ltb}
use Rattle.line.specs.Line.{counted_of}
use Rattle.line.proofs.cut.counted.Goals as goal

pub returns : goal.returns
unfolding counted_of
returns c = simp (le-ltb _ _ c.if-p-lt-MOST.false, c.quote.ensures)
