-- Which sizes, with a minus and without one, are an x of signed 32 bits; and that a digit has a place among the digits. Assumes nothing.
use Rattle.std.specs.Prelude.{Bool, true, false, Some, None, ◌&&◌, ◌≡◌, refl, ℕ, zero, suc, ◌≤◌, ◌<◌, leb, ℤ, pos, negsuc, neg_ℤ}
use Rattle.std.proofs.Common.{arith, lit<, le-leb, leb-true, SFits}
use Rattle.std.proofs.lemmas.Bool.{lt-leb}
use Rattle.std.specs.Int.{w32}
use Rattle.cases.specs.TestsLaws.{both_yes}
use Rattle.session.specs.declared.Event.TheVariants as event
use Rattle.session.specs.Form.{is_digit, signed_of, in_range, sample_of}

-- the range, by sizes
plus_range : (n : ℕ) → in_range (pos n) ≡ leb n 2147483647
unfolding in_range
plus_range n = refl

minus_range : (n : ℕ) → in_range (neg_ℤ (pos (suc n))) ≡ (leb n 2147483647 && true)
unfolding in_range
minus_range n = refl

pub minus_none : (negative : Bool) (n : ℕ) (still : Bool) → negative ≡ true → 2147483648 < n → None ≡ sample_of (signed_of negative n) still
unfolding sample_of signed_of
minus_none negative zero still e h = absurd (omega arith)
minus_none negative (suc n) still e h = rw (e, minus_range n, lt-leb n 2147483647 (omega arith))

pub minus_some : (negative : Bool) (n : ℕ) (still : Bool) → negative ≡ true → n ≤ 2147483648 → Some (event.Sample (neg_ℤ (pos n)) still) ≡ sample_of (signed_of negative n) still
unfolding sample_of signed_of
minus_some negative zero still e h = rw (e, plus_range 0)
minus_some negative (suc n) still e h = rw (e, minus_range n, le-leb n 2147483647 (omega arith))

pub plus_none : (negative : Bool) (n : ℕ) (still : Bool) → negative ≡ false → 2147483647 < n → None ≡ sample_of (signed_of negative n) still
unfolding sample_of signed_of
plus_none negative n still e h = rw (e, plus_range n, lt-leb n 2147483647 h)

pub plus_some : (negative : Bool) (n : ℕ) (still : Bool) → negative ≡ false → n ≤ 2147483647 → Some (event.Sample (pos n) still) ≡ sample_of (signed_of negative n) still
unfolding sample_of signed_of
plus_some negative n still e h = rw (e, plus_range n, le-leb n 2147483647 h)

-- a size that no x has is none with either sign
pub beyond : (negative : Bool) (n : ℕ) (still : Bool) → 2147483648 < n → None ≡ sample_of (signed_of negative n) still
beyond true n still h = minus_none true n still refl h
beyond false n still h = plus_none false n still refl (omega arith)

pub minus_fits : (n : ℕ) → n ≤ 2147483648 → SFits w32 (neg_ℤ (pos n))
minus_fits zero h = record { sfits = lit< tt }
minus_fits (suc n) h = record { sfits = omega arith }

-- in signed 32 bits, or not
pub some_of : (x : ℤ) (still : Bool) → SFits w32 x → Some (event.Sample x still) ≡ sample_of x still
unfolding signed_of
some_of (pos n) still h = let l : n < 2147483648 = h.sfits in plus_some false n still refl (omega arith)
some_of (negsuc n) still h = let l : n < 2147483648 = h.sfits in minus_some true (suc n) still refl (omega arith)

pub none_of : (x : ℤ) (still : Bool) → (SFits w32 x → ⊥) → None ≡ sample_of x still
unfolding signed_of
none_of (pos n) still h = let l : n < 2147483648 → ⊥ = λ k. h (record { sfits = k }) in plus_none false n still refl (omega (arith, l))
none_of (negsuc n) still h = let l : n < 2147483648 → ⊥ = λ k. h (record { sfits = k }) in minus_none true (suc n) still refl (omega (arith, l))

pub digit_low : (b : ℕ) → is_digit b ≡ true → 0x30 ≤ b
unfolding is_digit
digit_low b e = leb-true 0x30 b (both_yes (leb 0x30 b) (leb b 0x39) e).0
