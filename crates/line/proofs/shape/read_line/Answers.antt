use Rattle.std.proofs.Common.{◌≡◌, ◌∙◌, sym, ◌&&◌, true, false, get_or}
use Rattle.std.proofs.Math.Bool.{and_assoc}
use Rattle.cases.specs.PickLaws.{cases}
use Rattle.line.specs.ReadLaws.{three_via, command_part}
use Rattle.line.specs.Shape.{is_letter, shape_of}
use Rattle.line.proofs.shape.read_line.Goals as goal

pub returns-in_default : goal.returns-in_default
unfolding shape_of
returns-in_default c = search cases

pub returns-then-is_letter : goal.returns-then-is_letter
unfolding shape_of
returns-then-is_letter c =
    let all : (is_letter (get_or c.args.s.now 0 0) && (is_letter (get_or c.args.s.now 1 0) && is_letter (get_or c.args.s.now 2 0))) ≡ true = three_via _ _ _ _ _ _ _ c.is_letter.ensures c.is_letter-2.ensures c.is_letter-3.ensures (sym (and_assoc c.is_letter.result c.is_letter-2.result c.is_letter-3.result) ∙ c.if-is_letter.true) in
    search (cases, command_part) depth 8

pub returns : goal.returns
unfolding shape_of
returns c =
    let all : (is_letter (get_or c.args.s.now 0 0) && (is_letter (get_or c.args.s.now 1 0) && is_letter (get_or c.args.s.now 2 0))) ≡ false = three_via _ _ _ _ _ _ _ c.is_letter.ensures c.is_letter-2.ensures c.is_letter-3.ensures (sym (and_assoc c.is_letter.result c.is_letter-2.result c.is_letter-3.result) ∙ c.if-is_letter.false) in
    search cases depth 8
