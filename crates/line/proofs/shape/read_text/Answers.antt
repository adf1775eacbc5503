use Rattle.std.proofs.Common.{◌≡◌, ◌-◌, length, take, rules}
use Rattle.cases.specs.PickLaws.{cases, named}
use Rattle.line.specs.ReadLaws.{ands}
use Rattle.line.specs.Shape.{text_of}
use Rattle.line.proofs.shape.read_text.Goals as goal

pub returns-in_default : goal.returns-in_default
unfolding text_of
returns-in_default c = search (cases, ands, named) depth 8

pub returns-in_default-2 : goal.returns-in_default-2
unfolding text_of
returns-in_default-2 c = search (cases, ands, named) depth 8

pub returns-then-not-all_plain : goal.returns-then-not-all_plain
unfolding text_of
returns-then-not-all_plain c = search (cases, ands, named) depth 8

pub returns : goal.returns
unfolding text_of
returns c = let n : length (take (length c.args.s.now - 1) c.args.s.now) ≡ length c.args.s.now - 1 = search rules in rw n (search (cases, ands, named) depth 8)
