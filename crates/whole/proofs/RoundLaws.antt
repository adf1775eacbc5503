-- Laws of rounding: its bounds, and what pins it: the nearest (`nearest`), of two equally near the larger in size (`half_away`), and nothing else (`only_one`).
-- Assumes nothing.
use Rattle.std.specs.Prelude.{◌≡◌, refl, Bool, true, false, not, cond, ℕ, zero, suc, ◌+◌, ◌*◌, ◌-◌, ◌/◌, ◌<◌, ◌≤◌, T, ltb, leb, ℤ, pos, negsuc, neg_ℤ, nat_abs, ◌-ℤ◌, ◌*ℤ◌}
use Rattle.std.proofs.Common.{sym, ap, ◌∙◌, div-lt_iff_lt-mul, le-mul_of_pos_right, mul-pos, zero-lt-suc, zero-mul, leb-true, leb-false, ltb→lt, nltb→le}
use Rattle.std.proofs.Math.Nat.{div-mul-le_self, lt-div-mul-add, div-eq_of_lt-le}
use native.Mathlib.Omega.{arith}
use Rattle.std.proofs.Math.IntN.{sub_ℕ, neg_ℤ-neg_ℤ, +ℤ_idr}
use Rattle.cases.specs.PickLaws.{split}
use Rattle.whole.specs.Round.{round_nat, round_div, like}
use Rattle.whole.specs.Sizes.{abs_mul, abs_like}
use Rattle.whole.specs.Order.{like_self}

-- ---- rounding
-- the two bounds that pin a rounded size: within a half of d below, less than a half above
module _ (n d : ℕ) (h : 0 < d) where
  two_pos : 0 < 2 * d
  two_pos = omega arith

  pub round_low : round_nat n d * (2 * d) ≤ 2 * n + d
  unfolding round_nat
  round_low = div-mul-le_self (2 * n + d) (2 * d)

  pub round_high : 2 * n + d < round_nat n d * (2 * d) + 2 * d
  unfolding round_nat
  round_high = lt-div-mul-add {a = 2 * n + d} {b = 2 * d} two_pos

  -- and only one number has them
  pub round_only : (q : ℕ) → q * (2 * d) ≤ 2 * n + d → 2 * n + d < q * (2 * d) + 2 * d → round_nat n d ≡ q
  unfolding round_nat
  round_only q l u = div-eq_of_lt-le {k = q} (2 * d) {m = 2 * n + d} l (omega arith)

  -- where n is at most k times d, what it rounds to is at most k
  pub round_bound : (k : ℕ) → n ≤ k * d → round_nat n d ≤ k
  unfolding round_nat
  round_bound k l = let q : (2 * n + d) / (2 * d) < k + 1 = (div-lt_iff_lt-mul {k = 2 * d} {x = 2 * n + d} {y = k + 1} two_pos).1 (omega arith) in omega arith

  -- so it is at most n
  pub round_le : round_nat n d ≤ n
  round_le = round_bound n (le-mul_of_pos_right n h)

pub round_exact : (k d : ℕ) → 0 < d → round_nat (k * d) d ≡ k
round_exact k d h = round_only (k * d) d h k (omega arith) (omega arith)

-- ---- rounding a signed number
pub round_div_abs : (z : ℤ) (d : ℕ) → nat_abs (round_div z d) ≡ round_nat (nat_abs z) d
unfolding round_div
round_div_abs z d = abs_like z (round_nat (nat_abs z) d)

pub round_div_bound : (z : ℤ) (d k : ℕ) → 0 < d → nat_abs z ≤ k * d → nat_abs (round_div z d) ≤ k
round_div_bound z d k h l = rw (round_div_abs z d) (round_bound (nat_abs z) d h k l)

-- the sign of a product with a positive number
like_negpos : (p n : ℕ) → 0 < p → like (neg_ℤ (pos p)) n ≡ neg_ℤ (pos n)
like_negpos zero n h = absurd (none h)
  where
    none : 0 < 0 → ⊥
    none k = omega arith
like_negpos (suc p) n h = refl

like_mul : (z : ℤ) (m n : ℕ) → 0 < m → like (z *ℤ pos m) n ≡ like z n
like_mul (pos a) m n h = refl
like_mul (negsuc a) m n h = like_negpos (suc a * m) n (mul-pos (zero-lt-suc a) h)

like_zero : (z : ℤ) → like z 0 ≡ pos 0
like_zero (pos _) = refl
like_zero (negsuc _) = refl

-- a product rounded: the work can be done on the sizes, under the first factor's sign
pub round_div_mul : (z : ℤ) (m d : ℕ) → 0 < d → round_div (z *ℤ pos m) d ≡ like z (round_nat (nat_abs z * m) d)
unfolding round_div
round_div_mul z zero d h =
    ap (λ (n : ℕ). like (z *ℤ pos 0) (round_nat n d)) (abs_mul z (pos 0))
    ∙ ap (λ (n : ℕ). like (z *ℤ pos 0) n) at_zero ∙ like_zero (z *ℤ pos 0) ∙ sym (ap (like z) at_zero ∙ like_zero z)
  where
    at_zero : round_nat (nat_abs z * 0) d ≡ 0
    at_zero = let l : round_nat (nat_abs z * 0) d ≤ nat_abs z * 0 = round_le (nat_abs z * 0) d h in omega arith
round_div_mul z (suc m) d h = ap (λ (n : ℕ). like (z *ℤ pos (suc m)) (round_nat n d)) (abs_mul z (pos (suc m))) ∙ like_mul z (suc m) _ (zero-lt-suc m)

pub round_div_exact : (z : ℤ) (d : ℕ) → 0 < d → round_div (z *ℤ pos d) d ≡ z
round_div_exact z d h = round_div_mul z d d h ∙ ap (like z) (round_exact (nat_abs z) d h) ∙ like_self z

-- ---- it is to nearest, and a half goes away from zero
abs_dist : (a b : ℕ) → nat_abs (sub_ℕ a b) ≡ (a - b) + (b - a)
abs_dist a b = by_test (ltb a b) (negsuc (b - suc a)) (pos (a - b)) _ (λ t. let h : a < b = ltb→lt a b t in omega arith) (λ t. let h : b ≤ a = nltb→le a b t in omega arith)
  where
    by_test : (b : Bool) (x y : ℤ) (n : ℕ) → (T b → nat_abs x ≡ n) → (T (not b) → nat_abs y ≡ n) → nat_abs (cond b x y) ≡ n
    by_test true x y n f g = f tt
    by_test false x y n f g = g tt

-- |±a - ±b| of two numbers of one sign
abs_like_sub : (z : ℤ) (a b : ℕ) → nat_abs (like z a -ℤ like z b) ≡ (a - b) + (b - a)
abs_like_sub (pos _) a zero = omega arith
abs_like_sub (pos _) a (suc b) = abs_dist a (suc b)
abs_like_sub (negsuc _) zero b = rw (neg_ℤ-neg_ℤ (pos b)) (omega arith)
abs_like_sub (negsuc _) (suc a) b = rw (neg_ℤ-neg_ℤ (pos b)) (omega (arith, abs_dist b (suc a)))

like_times : (z : ℤ) (q d : ℕ) → like z q *ℤ pos d ≡ like z (q * d)
like_times (pos _) q d = refl
like_times (negsuc _) zero d = rw (zero-mul d)
like_times (negsuc _) (suc q) d = refl

-- what is left over by rounding, as a size
abs_rest : (z : ℤ) (q d : ℕ) → nat_abs (z -ℤ like z q *ℤ pos d) ≡ (nat_abs z - q * d) + (q * d - nat_abs z)
abs_rest z q d = ap (λ (y : ℤ). nat_abs (z -ℤ y)) (like_times z q d) ∙ ap (λ (y : ℤ). nat_abs (y -ℤ like z (q * d))) (sym (like_self z)) ∙ abs_like_sub z (nat_abs z) (q * d)

pub nearest : (z : ℤ) (d : ℕ) → 0 < d → 2 * nat_abs (z -ℤ round_div z d *ℤ pos d) ≤ d
unfolding round_div
nearest z d h = rw (abs_rest z (round_nat (nat_abs z) d) d) (omega (arith, round_low (nat_abs z) d h, round_high (nat_abs z) d h))

pub half_away : (z : ℤ) (d : ℕ) → 0 < d → 2 * nat_abs (z -ℤ round_div z d *ℤ pos d) ≡ d → nat_abs z < nat_abs (round_div z d) * d
unfolding round_div
half_away z d h e = rw (abs_like z (round_nat (nat_abs z) d)) (omega (arith, round_low (nat_abs z) d h, round_high (nat_abs z) d h, rw (abs_rest z (round_nat (nat_abs z) d) d) at e))

-- ---- and nothing else is: what has both properties is what `round_div` gives
module _ (n q d : ℕ) (h : 0 < d) where
  pinned : 2 * ((n - q * d) + (q * d - n)) ≤ d → (2 * ((n - q * d) + (q * d - n)) ≡ d → n < q * d) → round_nat n d ≡ q
  pinned near away =
      split (λ _. round_nat n d ≡ q) (leb (2 * ((n - q * d) + (q * d - n)) + 1) d)
      (λ t. let l : 2 * ((n - q * d) + (q * d - n)) + 1 ≤ d = leb-true _ _ t in round_only n d h q (omega arith) (omega arith))
      (λ t. let l : d < 2 * ((n - q * d) + (q * d - n)) + 1 = leb-false _ _ t in let k : n < q * d = away (omega arith) in round_only n d h q (omega arith) (omega arith))

apart_plus : (a m : ℕ) → nat_abs (pos a -ℤ neg_ℤ (pos m)) ≡ a + m
apart_plus a m = rw (neg_ℤ-neg_ℤ (pos m))

apart_minus : (a m : ℕ) → nat_abs (negsuc a -ℤ pos m) ≡ suc a + m
apart_minus a zero = ap nat_abs (+ℤ_idr (negsuc a)) ∙ omega arith
apart_minus a (suc m) = omega arith

pub only_one : (z r : ℤ) (d : ℕ) → 0 < d → 2 * nat_abs (z -ℤ r *ℤ pos d) ≤ d → (2 * nat_abs (z -ℤ r *ℤ pos d) ≡ d → nat_abs z < nat_abs r * d) → r ≡ round_div z d
unfolding round_div
only_one (pos a) (pos b) d h near away =
    let e = abs_rest (pos a) b d in ap pos (sym (pinned a b d h (rw e at near) (rw e at away)))
only_one (negsuc a) (negsuc b) d h near away =
    let e = abs_rest (negsuc a) (suc b) d in ap (λ (n : ℕ). neg_ℤ (pos n)) (sym (pinned (suc a) (suc b) d h (rw e at near) (rw e at away)))
only_one (pos a) (negsuc b) d h near away = absurd (let e = apart_plus a (suc b * d) in let k : 2 * (a + suc b * d) ≤ d = rw e at near in omega arith)
only_one (negsuc a) (pos zero) d h near away =
    let e = apart_minus a (0 * d) in
    let z : 0 * d ≡ 0 = zero-mul d in
    let near' : 2 * (suc a + 0 * d) ≤ d = rw e at near in
    let away' : 2 * (suc a + 0 * d) ≡ d → suc a < 0 * d = rw e at away in
    let k : round_nat (suc a) d ≡ 0 = pinned (suc a) 0 d h (omega arith) (λ q. away' (omega arith)) in
    rw k
only_one (negsuc a) (pos (suc b)) d h near away = absurd (let e = apart_minus a (suc b * d) in let k : 2 * (suc a + suc b * d) ≤ d = rw e at near in omega arith)
