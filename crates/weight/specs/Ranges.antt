-- How large a weight and what is worked out on the way can be, within document 01's sets. All products fit 64 bits. Assumes nothing.
use Rattle.std.specs.Prelude.{ℕ, ◌+◌, ◌*◌, ◌≤◌, pos, nat_abs, ◌-ℤ◌, ◌≤ℤ◌}
use Rattle.std.proofs.Common.{mul-le-mul, arith}
use Rattle.whole.specs.Round.{round_div}
use Rattle.whole.specs.Sizes.{abs_sub, abs_mul}
use Rattle.whole.specs.Order.{at_least}
use Rattle.whole.proofs.RoundLaws.{round_div_bound, round_div_abs, round_low}
use Rattle.weight.specs.declared.Cell.{Cell}
use Rattle.weight.specs.declared.Tenths.{Tenths}
use Rattle.weight.specs.declared.Digits.{Digits}
use Rattle.weight.specs.declared.Scale.{Scale}
use Rattle.weight.specs.Weight.{span_of, corrected, tenths, less, above_zeros, gross, in_tenths}

-- the scale's values by document 01's sets, as facts that omega reads
pub record ScaleIn (s : Scale) : Type 0 where
  pub l_to : nat_abs s.curve.l.0 ≤ 1599999
  pub w_to : nat_abs s.curve.w.0 ≤ 1599999
  pub span_from : pos 10000 ≤ℤ span_of s.curve
  pub c_from : 200000 ≤ s.curve.c
  pub c_to : s.curve.c ≤ 1200000
  pub gca_from : 970000 ≤ s.gca
  pub gca_to : s.gca ≤ 990000
  pub gde_from : 970000 ≤ s.gde
  pub gde_to : s.gde ≤ 990000
  pub nov_from : 100 ≤ s.nov
  pub nov_to : s.nov ≤ 100000
  pub rsn_from : 1 ≤ s.rsn
  pub rsn_to : s.rsn ≤ 50

module _ (s : Scale) (ok : ScaleIn s) where
  -- W - L
  pub span_least : 10000 ≤ nat_abs (span_of s.curve)
  span_least = at_least ok.span_from

  pub span_most : nat_abs (span_of s.curve) ≤ 3199998
  span_most = omega (arith, abs_sub s.curve.w.0 s.curve.l.0)

  -- 10·NOV·C
  pub factor_most : 10 * s.nov * s.curve.c ≤ 1200000000000
  factor_most = mul-le-mul {n₁ = 10 * s.nov} {n₂ = 1000000} (omega arith) ok.c_to

  module _ (x : Cell) (hx : nat_abs x.0 ≤ 1599999) where
    pub above_most : nat_abs (x.0 -ℤ s.curve.l.0) ≤ 3199998
    above_most = omega (arith, abs_sub x.0 s.curve.l.0)

    pub above_product : nat_abs (x.0 -ℤ s.curve.l.0) * s.gca ≤ 3167998020000
    above_product = mul-le-mul above_most ok.gca_to

    -- |u|
    pub corrected_most : nat_abs (corrected s x).0 ≤ 3265978
    unfolding corrected
    corrected_most = round_div_bound _ s.gde 3265978 (omega arith) (rw (abs_mul (x.0 -ℤ s.curve.l.0) (pos s.gca)) (omega (arith, above_product)))

    -- |u|·10·NOV·C, which doubled is below 2^63
    pub corrected_product : nat_abs (corrected s x).0 * (10 * s.nov * s.curve.c) ≤ 3919173600000000000
    corrected_product = mul-le-mul corrected_most factor_most

    -- |v|
    pub tenths_most : nat_abs (tenths s x).0 ≤ 391917360
    unfolding tenths
    tenths_most =
        round_div_bound _ (nat_abs (span_of s.curve) * 1000000) 391917360 (omega (arith, span_least))
        (rw (abs_mul (corrected s x).0 (pos (10 * s.nov * s.curve.c))) (omega (arith, corrected_product, span_least)))

pub ruleset sizes = (span_least, span_most, corrected_most, corrected_product)

pub less_to : (a b : Tenths) → nat_abs (less a b).0 ≤ nat_abs a.0 + nat_abs b.0
unfolding less
less_to a b = abs_sub a.0 b.0

-- |g|
pub above_to : (v z0 z1 : Tenths) → nat_abs (above_zeros v z0 z1).0 ≤ nat_abs v.0 + nat_abs z0.0 + nat_abs z1.0
above_to v z0 z1 = omega (arith, less_to (less v z0) z1, less_to v z0)

-- |gross|: ten times its size is at most g's and half a step
pub gross_to : (rsn : ℕ) (g : Tenths) → 1 ≤ rsn → 10 * nat_abs (gross rsn g).0 ≤ nat_abs g.0 + 5 * rsn
unfolding gross
gross_to rsn g h =
    rw (abs_mul (round_div g.0 (10 * rsn)) (pos rsn), round_div_abs g.0 (10 * rsn))
    (omega (arith, round_low (nat_abs g.0) (10 * rsn) (omega arith)))

pub in_tenths_to : (t : Digits) → nat_abs (in_tenths t).0 ≤ nat_abs t.0 * 10
unfolding in_tenths
in_tenths_to t = omega (arith, abs_mul t.0 (pos 10))
