use Rattle.std.proofs.Common.{◌<◌, rules, lt-ltb}
use Rattle.line.specs.Line.{most, counted_of}
use Rattle.line.proofs.cut.stored.Goals as goal

pub returns : goal.returns
unfolding counted_of
returns c = let room : c.args.p.len < most = search rules in simp (lt-ltb _ _ room, c.quote.ensures)
