-- A signed local holds bits n, and the number that the machine reads from them is `to_z w n`. `Reads w n z` says that this number is z.
-- Each law takes what the operands read as and a bound on their sizes, and gives that the operation is defined (`_fits`, which answers the
-- operation's goal) and what its result reads as (`_is`). The bound is a fact of ℕ, which omega proves. Assumes nothing.
--     par c.ranges.x    a parameter x            lit       a literal
--     field (..)            a field of a parameter   nat n h   an unsigned number n that was cast
--     ran c.f.result c.f.type_inv    what a call of f gave    p .value  at the return
use Rattle.std.specs.Prelude.{◌≡◌, refl, Bool, true, false, not, ℕ, zero, suc, ◌+◌, ◌*◌, ◌^◌, ◌<◌, ◌≤◌, T, ltb, ℤ, pos, negsuc, neg_ℤ, nat_abs, ◌+ℤ◌, ◌-ℤ◌, ◌*ℤ◌, ◌<ℤ◌, ◌≤ℤ◌}
use Rattle.std.proofs.Common.{sym, ap, subst, ◌∙◌, lt_of_le_of_lt, le-add_right, le-add_left, arith, lt-ltb, ltb→lt, to_z-of_z}
use Rattle.std.proofs.Math.IntN.{neg_ℤ-neg_ℤ, +ℤ_idl}
use Rattle.std.specs.Int.Signed.{mag, lt_z, le_z, non_neg, quot_z, rem_z, mag_rem, lt_z_yes, lt_z_no, le_z_yes}
use Rattle.std.specs.Int.{Width, w64}
use mir.Val.{SFits, Fits, bits, hbits, to_z, of_z}
use Rattle.std.proofs.Math.Facts.{to_z_pos}
use Rattle.whole.specs.Sizes.{abs_add, abs_sub, abs_mul, abs_neg, abs_fits, abs_quot_le}
use Rattle.whole.specs.Order.{le_z_not}

pub record Reads (w : Width) (n : ℕ) (z : ℤ) : Type 0 where
  pub value : to_z w n ≡ z

pub par : {w : Width} {z : ℤ} → SFits w z → Reads w (of_z w z) z
par f = record { value = to_z-of_z f }

pub nat : (n : ℕ) → n < 2 ^ 63 → Reads w64 n (pos n)
nat n h = record { value = to_z_pos w64 h }

-- what a call gave: `ran c.f.result c.f.type_inv`
pub ran : (z : ℤ) → mag z < 2 ^ 63 → Reads w64 (of_z w64 z) z
ran z h = par (record { sfits = h })

-- a number whose size is known to be small, as a field whose range a `requires` gives
pub small : (z : ℤ) → nat_abs z < 2 ^ 63 → Reads w64 (of_z w64 z) z
small z h = par (abs_fits h)

-- the literal 0
pub lit0 : Reads w64 0 (pos 0)
lit0 = record { value = refl }

-- another literal: `lit 100 tt`
pub lit : (n : ℕ) → T (ltb n (2 ^ 63)) → Reads w64 n (pos n)
lit n t = nat n (ltb→lt n (2 ^ 63) t)

module _ {w : Width} {m n : ℕ} {a b : ℤ} (p : Reads w m a) (q : Reads w n b) where
  pub add_fits : nat_abs a + nat_abs b < 2 ^ hbits w → SFits w (to_z w m +ℤ to_z w n)
  add_fits h = rw (p.value, q.value) (abs_fits (lt_of_le_of_lt (abs_add a b) h))

  pub add_is : nat_abs a + nat_abs b < 2 ^ hbits w → Reads w (of_z w (to_z w m +ℤ to_z w n)) (a +ℤ b)
  add_is h = record { value = to_z-of_z (add_fits h) ∙ rw (p.value, q.value) }

  pub sub_fits : nat_abs a + nat_abs b < 2 ^ hbits w → SFits w (to_z w m -ℤ to_z w n)
  sub_fits h = rw (p.value, q.value) (abs_fits (lt_of_le_of_lt (abs_sub a b) h))

  pub sub_is : nat_abs a + nat_abs b < 2 ^ hbits w → Reads w (of_z w (to_z w m -ℤ to_z w n)) (a -ℤ b)
  sub_is h = record { value = to_z-of_z (sub_fits h) ∙ rw (p.value, q.value) }

  pub mul_fits : nat_abs a * nat_abs b < 2 ^ hbits w → SFits w (to_z w m *ℤ to_z w n)
  mul_fits h = rw (p.value, q.value) (abs_fits (rw (abs_mul a b) h))

  pub mul_is : nat_abs a * nat_abs b < 2 ^ hbits w → Reads w (of_z w (to_z w m *ℤ to_z w n)) (a *ℤ b)
  mul_is h = record { value = to_z-of_z (mul_fits h) ∙ rw (p.value, q.value) }

  -- a test, of the numbers; and its fact
  pub lt_is : lt_z (to_z w m) (to_z w n) ≡ lt_z a b
  lt_is = rw (p.value, q.value)

  pub le_is : le_z (to_z w m) (to_z w n) ≡ le_z a b
  le_is = rw (p.value, q.value)

  pub lt_yes : lt_z (to_z w m) (to_z w n) ≡ true → a <ℤ b
  lt_yes t = lt_z_yes (subst T (sym (rw (p.value, q.value) at t)) tt)

  pub lt_no : lt_z (to_z w m) (to_z w n) ≡ false → b ≤ℤ a
  lt_no t = lt_z_no (subst (λ (x : Bool). T (not x)) (sym (rw (p.value, q.value) at t)) tt)

  pub le_yes : le_z (to_z w m) (to_z w n) ≡ true → a ≤ℤ b
  le_yes t = le_z_yes (subst T (sym (rw (p.value, q.value) at t)) tt)

  pub le_no : le_z (to_z w m) (to_z w n) ≡ false → b <ℤ a
  le_no t = le_z_not (subst (λ (x : Bool). T (not x)) (sym (rw (p.value, q.value) at t)) tt)

  -- `x == y` compares the bits
  pub eq_yes : m ≡ n → a ≡ b
  eq_yes e = sym p.value ∙ ap (to_z w) e ∙ q.value

  -- division and remainder toward zero, by a number that is not 0; the dividend is not the least number
  pub div_fits : 0 < n → nat_abs a < 2 ^ hbits w → (0 < n) × SFits w (quot_z (to_z w m) (to_z w n))
  div_fits l h = (l, rw (p.value, q.value) (abs_fits (lt_of_le_of_lt (abs_quot_le a b) h)))

  pub div_is : 0 < n → nat_abs a < 2 ^ hbits w → Reads w (of_z w (quot_z (to_z w m) (to_z w n))) (quot_z a b)
  div_is l h = record { value = to_z-of_z (div_fits l h).1 ∙ rw (p.value, q.value) }

  rem_fits : SFits w a → SFits w (rem_z (to_z w m) (to_z w n))
  rem_fits f = rw (p.value, q.value) (record { sfits = lt_of_le_of_lt (mag_rem a b) f.sfits })

  pub rem_is : SFits w a → Reads w (of_z w (rem_z (to_z w m) (to_z w n))) (rem_z a b)
  rem_is f = record { value = to_z-of_z (rem_fits f) ∙ rw (p.value, q.value) }

module _ {w : Width} {m : ℕ} {a : ℤ} (p : Reads w m a) where
  -- -x is `0 - x`
  pub neg_fits : nat_abs a < 2 ^ hbits w → SFits w (pos 0 -ℤ to_z w m)
  neg_fits h = rw (p.value, +ℤ_idl (neg_ℤ a)) (abs_fits (rw (abs_neg a) h))

  pub neg_is : nat_abs a < 2 ^ hbits w → Reads w (of_z w (pos 0 -ℤ to_z w m)) (neg_ℤ a)
  neg_is h = record { value = to_z-of_z (neg_fits h) ∙ rw (p.value, +ℤ_idl (neg_ℤ a)) }

  -- `x as u64` of a number that is not negative
  pub unsigned_fits : {w' : Width} → T (non_neg a) → nat_abs a < 2 ^ bits w' → T (non_neg (to_z w m)) × Fits w' (nat_abs (to_z w m))
  unsigned_fits h k = (rw p.value h, record { fits = rw p.value k })

  -- `x as i32`, `x as i64`
  pub signed_fits : {w' : Width} → SFits w' a → SFits w' (to_z w m)
  signed_fits f = rw p.value f

  pub signed_is : {w' : Width} → SFits w' a → Reads w' (of_z w' (to_z w m)) a
  signed_is f = record { value = to_z-of_z (signed_fits f) ∙ p.value }

-- ---- with nothing named: rules for omega, which finds the numbers in the goal and proves the bound from what is in reach, at i64.
--     overflow_sub-n c = omega (arith, sub_ok)     the goal of `x - y`, x and y parameters or fields      returns c = omega (arith, sub_eq)
module _ (a b : ℤ) where
  left_small : nat_abs a + nat_abs b < 2 ^ 63 → Reads w64 (of_z w64 a) a
  left_small h = small a (lt_of_le_of_lt (le-add_right (nat_abs a) (nat_abs b)) h)

  right_small : nat_abs a + nat_abs b < 2 ^ 63 → Reads w64 (of_z w64 b) b
  right_small h = small b (lt_of_le_of_lt (le-add_left (nat_abs b) (nat_abs a)) h)

  pub add_ok : nat_abs a + nat_abs b < 2 ^ 63 → SFits w64 (to_z w64 (of_z w64 a) +ℤ to_z w64 (of_z w64 b))
  add_ok h = add_fits (left_small h) (right_small h) h

  pub add_eq : nat_abs a + nat_abs b < 2 ^ 63 → to_z w64 (of_z w64 (to_z w64 (of_z w64 a) +ℤ to_z w64 (of_z w64 b))) ≡ a +ℤ b
  add_eq h = (add_is (left_small h) (right_small h) h).value

  pub sub_ok : nat_abs a + nat_abs b < 2 ^ 63 → SFits w64 (to_z w64 (of_z w64 a) -ℤ to_z w64 (of_z w64 b))
  sub_ok h = sub_fits (left_small h) (right_small h) h

  pub sub_eq : nat_abs a + nat_abs b < 2 ^ 63 → to_z w64 (of_z w64 (to_z w64 (of_z w64 a) -ℤ to_z w64 (of_z w64 b))) ≡ a -ℤ b
  sub_eq h = (sub_is (left_small h) (right_small h) h).value

pub neg_ok : (a : ℤ) → nat_abs a < 2 ^ 63 → SFits w64 (pos 0 -ℤ to_z w64 (of_z w64 a))
neg_ok a h = neg_fits (small a h) h

pub neg_eq : (a : ℤ) → nat_abs a < 2 ^ 63 → to_z w64 (of_z w64 (pos 0 -ℤ to_z w64 (of_z w64 a))) ≡ neg_ℤ a
neg_eq a h = (neg_is (small a h) h).value

-- `x * n` with a literal n
module _ (a : ℤ) (n : ℕ) (h : nat_abs a * (n + 1) < 2 ^ 63) where
  factor_small : nat_abs a < 2 ^ 63
  factor_small = omega arith

  mul_lit_fits : SFits w64 (to_z w64 (of_z w64 a) *ℤ pos n)
  mul_lit_fits = rw (small a factor_small).value (abs_fits (rw (abs_mul a (pos n)) (omega arith)))

pub mul_ok : (a : ℤ) (n : ℕ) → nat_abs a * (n + 1) < 2 ^ 63 → SFits w64 (to_z w64 (of_z w64 a) *ℤ pos n)
mul_ok a n h = mul_lit_fits a n h

pub mul_eq : (a : ℤ) (n : ℕ) → nat_abs a * (n + 1) < 2 ^ 63 → to_z w64 (of_z w64 (to_z w64 (of_z w64 a) *ℤ pos n)) ≡ a *ℤ pos n
mul_eq a n h = to_z-of_z (mul_lit_fits a n h) ∙ ap (λ z. z *ℤ pos n) (small a (factor_small a n h)).value

-- `x + n` and `x - n` with a literal n
module _ (a : ℤ) (n : ℕ) where
  pub add_lit_ok : nat_abs a + n < 2 ^ 63 → SFits w64 (to_z w64 (of_z w64 a) +ℤ pos n)
  add_lit_ok h = rw (small a (omega arith)).value (abs_fits (lt_of_le_of_lt (abs_add a (pos n)) h))

  pub add_lit_eq : nat_abs a + n < 2 ^ 63 → to_z w64 (of_z w64 (to_z w64 (of_z w64 a) +ℤ pos n)) ≡ a +ℤ pos n
  add_lit_eq h = to_z-of_z (add_lit_ok h) ∙ ap (λ z. z +ℤ pos n) (small a (omega arith)).value

  pub sub_lit_ok : nat_abs a + n < 2 ^ 63 → SFits w64 (to_z w64 (of_z w64 a) -ℤ pos n)
  sub_lit_ok h = rw (small a (omega arith)).value (abs_fits (lt_of_le_of_lt (abs_sub a (pos n)) h))

  pub sub_lit_eq : nat_abs a + n < 2 ^ 63 → to_z w64 (of_z w64 (to_z w64 (of_z w64 a) -ℤ pos n)) ≡ a -ℤ pos n
  sub_lit_eq h = to_z-of_z (sub_lit_ok h) ∙ ap (λ z. z -ℤ pos n) (small a (omega arith)).value

-- `x - y - z`: the need of the second minus, and what it gives
module _ (a b c : ℤ) (h : nat_abs a + nat_abs b + nat_abs c < 2 ^ 63) where
  first_two : Reads w64 (of_z w64 (to_z w64 (of_z w64 a) -ℤ to_z w64 (of_z w64 b))) (a -ℤ b)
  first_two = sub_is (small a (omega arith)) (small b (omega arith)) (omega arith)

  both : nat_abs (a -ℤ b) + nat_abs c < 2 ^ 63
  both = omega (arith, abs_sub a b)

  third_fits : SFits w64 (to_z w64 (of_z w64 (to_z w64 (of_z w64 a) -ℤ to_z w64 (of_z w64 b))) -ℤ to_z w64 (of_z w64 c))
  third_fits = sub_fits first_two (small c (omega arith)) both

  third_is : to_z w64 (of_z w64 (to_z w64 (of_z w64 (to_z w64 (of_z w64 a) -ℤ to_z w64 (of_z w64 b))) -ℤ to_z w64 (of_z w64 c))) ≡ a -ℤ b -ℤ c
  third_is = (sub_is first_two (small c (omega arith)) both).value

pub sub2_ok : (a b c : ℤ) → nat_abs a + nat_abs b + nat_abs c < 2 ^ 63 → SFits w64 (to_z w64 (of_z w64 (to_z w64 (of_z w64 a) -ℤ to_z w64 (of_z w64 b))) -ℤ to_z w64 (of_z w64 c))
sub2_ok a b c h = third_fits a b c h

pub sub2_eq : (a b c : ℤ) → nat_abs a + nat_abs b + nat_abs c < 2 ^ 63 → to_z w64 (of_z w64 (to_z w64 (of_z w64 (to_z w64 (of_z w64 a) -ℤ to_z w64 (of_z w64 b))) -ℤ to_z w64 (of_z w64 c))) ≡ a -ℤ b -ℤ c
sub2_eq a b c h = third_is a b c h

-- a number as it is: `returns c = omega (arith, same_eq)`
pub same_eq : (a : ℤ) → mag a < 2 ^ 63 → to_z w64 (of_z w64 a) ≡ a
same_eq a h = (ran a h).value

-- ---- the size of a number below zero, by way of the one above it, which has an opposite
next_up : (n : ℕ) → negsuc n +ℤ pos 1 ≡ neg_ℤ (pos n)
next_up zero = refl
next_up (suc n) = rw (lt-ltb 1 (suc (suc n)) (omega arith)) (ap negsuc (omega arith))

up_is : (z : ℤ) → z <ℤ pos 0 → z +ℤ pos 1 ≡ neg_ℤ (pos (mag z))
up_is (pos n) h = absurd (none n (ltb→lt n 0 h.lt))
  where
    none : (n : ℕ) → n < 0 → ⊥
    none n k = omega arith
up_is (negsuc n) h = next_up n

size_up : (z : ℤ) → z <ℤ pos 0 → mag z + 1 ≡ nat_abs z
size_up (pos n) h = absurd (none n (ltb→lt n 0 h.lt))
  where
    none : (n : ℕ) → n < 0 → ⊥
    none n k = omega arith
size_up (negsuc n) h = omega arith

module _ {n : ℕ} {z : ℤ} (p : Reads w64 n z) (f : SFits w64 z) (h : z <ℤ pos 0) where
  opposite_to : nat_abs (neg_ℤ (pos (mag z))) < 2 ^ 63
  opposite_to = rw (abs_neg (pos (mag z))) f.sfits

  pub up_fits : SFits w64 (to_z w64 n +ℤ pos 1)
  up_fits = rw (p.value, up_is z h) (abs_fits opposite_to)

  up_reads : Reads w64 (of_z w64 (to_z w64 n +ℤ pos 1)) (neg_ℤ (pos (mag z)))
  up_reads = record { value = to_z-of_z up_fits ∙ rw p.value (up_is z h) }

  pub down_fits : SFits w64 (pos 0 -ℤ to_z w64 (of_z w64 (to_z w64 n +ℤ pos 1)))
  down_fits = neg_fits up_reads opposite_to

  down_reads : Reads w64 (of_z w64 (pos 0 -ℤ to_z w64 (of_z w64 (to_z w64 n +ℤ pos 1)))) (pos (mag z))
  down_reads = record { value = (neg_is up_reads opposite_to).value ∙ neg_ℤ-neg_ℤ (pos (mag z)) }

  pub down_size : nat_abs (to_z w64 (of_z w64 (pos 0 -ℤ to_z w64 (of_z w64 (to_z w64 n +ℤ pos 1))))) + 1 ≡ nat_abs z
  down_size = rw down_reads.value (size_up z h)

  pub down_unsigned : T (non_neg (to_z w64 (of_z w64 (pos 0 -ℤ to_z w64 (of_z w64 (to_z w64 n +ℤ pos 1)))))) × Fits w64 (nat_abs (to_z w64 (of_z w64 (pos 0 -ℤ to_z w64 (of_z w64 (to_z w64 n +ℤ pos 1))))))
  down_unsigned = unsigned_fits down_reads tt (let l : mag z < 2 ^ 63 = f.sfits in omega arith)

-- a number of the machine has a size that fits
pub size_to : {z : ℤ} → SFits w64 z → nat_abs z ≤ 2 ^ 63
size_to {z = pos n} f = let l : n < 2 ^ 63 = f.sfits in omega arith
size_to {z = negsuc n} f = let l : n < 2 ^ 63 = f.sfits in omega arith
