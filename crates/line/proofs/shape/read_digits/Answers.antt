use Rattle.std.proofs.Common.{◌≡◌, ◌∙◌, sym, ◌&&◌, true, leb, length, get_or, rules}
use Rattle.line.specs.ReadLaws.{digits_yes, digits_no, digits_other, all_no, all_on, all_end, value_on, value_end, digit_room}
use Rattle.line.specs.Shape.{is_digit}
use Rattle.line.proofs.shape.read_digits.Goals as goal

pub returns-then-not-contains-clause-value : goal.returns-then-not-contains-clause-value
returns-then-not-contains-clause-value c =
    let within : (leb 1 (length c.args.s.now) && leb (length c.args.s.now) 10) ≡ c.contains.result = search rules in
    digits_no c.args.s.now (within ∙ c.if-not-contains.true)

pub returns-then-not-is_ascii_digit-clause-value : goal.returns-then-not-is_ascii_digit-clause-value
unfolding is_digit
returns-then-not-is_ascii_digit-clause-value c =
    let within : (leb 1 (length c.args.s.now) && leb (length c.args.s.now) 10) ≡ c.contains.result = search rules in
    digits_other c.args.s.now (within ∙ c.if-not-contains.false)
    (all_no is_digit c.args.s.now c.loop-b.b-index c.loop-b.invariant.0 c.loop-b-test.true (sym c.if-not-is_ascii_digit.ensures.value))

pub loop-b-preserved : goal.loop-b-preserved
unfolding is_digit
loop-b-preserved c =
    let on : is_digit (get_or c.args.s.now c.loop-b.b-index 0) ≡ true = sym c.if-not-is_ascii_digit.ensures.value in (
      all_on is_digit c.args.s.now c.loop-b.b-index c.loop-b.invariant.0 c.loop-b-test.true on,
      rw c.from.ensures (value_on c.args.s.now c.loop-b.b-index c.loop-b.v c.loop-b.invariant.1 c.loop-b-test.true),
      digit_room _ _ _ c.loop-b.invariant.2 (search rules),
    )

pub returns-clause-value : goal.returns-clause-value
returns-clause-value c =
    let within : (leb 1 (length c.args.s.now) && leb (length c.args.s.now) 10) ≡ c.contains.result = search rules in
    value_end c.args.s.now c.loop-b.b-index c.loop-b.v c.loop-b.invariant.1 (search rules)
    ∙ digits_yes c.args.s.now (within ∙ c.if-not-contains.false) (all_end is_digit c.args.s.now c.loop-b.b-index c.loop-b.invariant.0 (search rules))
