use Rattle.std.proofs.Common.{◌≡◌, ap, ◌∙◌, ℕ, ◌*◌, ◌≤◌, arith, ℤ, pos, nat_abs, ◌*ℤ◌, to_z, of_z, w64}
use Rattle.std.proofs.Math.Nat.{mul-le-mul}
use Rattle.whole.specs.Round.{round_div}
use Rattle.whole.specs.Sizes.{times_one}
use Rattle.whole.proofs.RoundLaws.{round_div_bound}
use Rattle.whole.specs.Bits.{small, ran, nat, mul_fits, mul_is}
use Rattle.weight.specs.Weight.{gross, as_digits}
use Rattle.weight.proofs.gross_of.Goals as goal

-- what the call gave is the quotient of g
quotient : (g q : ℤ) (d : ℕ) → nat_abs g ≤ 1099511627776 → q ≡ round_div (to_z w64 (of_z w64 g) *ℤ pos 1) d → q ≡ round_div g d
quotient g q d h e = e ∙ ap (λ z. round_div z d) (ap (λ z. z *ℤ pos 1) (small g (omega arith)).value ∙ times_one g)

-- and times a step it fits
product_to : (g q : ℤ) (rsn : ℕ) → nat_abs g ≤ 1099511627776 → 1 ≤ rsn → rsn ≤ 50 → q ≡ round_div g (10 * rsn) → nat_abs q * rsn ≤ 1099511627776 * 50
product_to g q rsn h l m e = mul-le-mul {n₂ = 1099511627776} (rw e (round_div_bound g _ 1099511627776 (omega arith) (omega arith))) m

pub overflow_mul-result : goal.overflow_mul-result
overflow_mul-result c =
    let q = quotient c.args.g.0 c.round_mul_div-n.result _ c.requires.0 c.round_mul_div-n.ensures in
    mul_fits (ran c.round_mul_div-n.result c.round_mul_div-n.type_inv) (nat c.args.rsn (omega arith)) (omega (arith, product_to c.args.g.0 _ c.args.rsn c.requires.0 c.requires.1.0 c.requires.1.1 q))

pub returns : goal.returns
unfolding gross
returns c =
    let q = quotient c.args.g.0 c.round_mul_div-n.result _ c.requires.0 c.round_mul_div-n.ensures in
    let l = product_to c.args.g.0 _ c.args.rsn c.requires.0 c.requires.1.0 c.requires.1.1 q in
    ap as_digits ((mul_is (ran c.round_mul_div-n.result c.round_mul_div-n.type_inv) (nat c.args.rsn (omega arith)) (omega (arith, l))).value ∙ ap (λ z. z *ℤ pos c.args.rsn) q)
