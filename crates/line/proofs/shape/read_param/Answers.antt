use Rattle.std.proofs.Common.{◌≡◌, ◌∙◌, get_or, le-ltb, rules}
use Rattle.cases.specs.PickLaws.{cases}
use Rattle.line.specs.ReadLaws.{query_part, text_part, number_part}
use Rattle.line.specs.Shape.{param_of}
use Rattle.line.proofs.shape.read_param.Goals as goal

pub returns-in-empty : goal.returns-in-empty
unfolding param_of
returns-in-empty c = search cases depth 8

pub returns-in-63 : goal.returns-in-63
unfolding param_of
returns-in-63 c = let b : get_or c.args.t.now 0 0 ≡ 0x3f = search rules in simp (le-ltb _ _ c.in-63.len_at_least, b) (c.then_some.ensures ∙ rw c.is_empty.ensures (query_part c.args.t.now c.in-63.len_at_least))

pub returns-in-34 : goal.returns-in-34
unfolding param_of
returns-in-34 c = let b : get_or c.args.t.now 0 0 ≡ 0x22 = search rules in simp (le-ltb _ _ c.in-34.len_at_least, b) (text_part _ _ c.read_text.ensures)

pub returns-in-45 : goal.returns-in-45
unfolding param_of
returns-in-45 c = let b : get_or c.args.t.now 0 0 ≡ 0x2d = search rules in simp (le-ltb _ _ c.in-45.len_at_least, b) (number_part _ _ _ c.read_number.ensures)

pub returns-in-43 : goal.returns-in-43
unfolding param_of
returns-in-43 c = let b : get_or c.args.t.now 0 0 ≡ 0x2b = search rules in simp (le-ltb _ _ c.in-43.len_at_least, b) (number_part _ _ _ c.read_number-in-43.ensures)

pub returns-in_default : goal.returns-in_default
unfolding param_of
returns-in_default c = search cases depth 8
