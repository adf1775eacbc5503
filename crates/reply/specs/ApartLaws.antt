-- A signed number taken apart: its size where it is not below zero, else one less, so that the least number needs no size of its own. The builders of
-- signed replies say it by std's `unsigned_abs` now; these laws of ℤ stand beside them. Assumes nothing.
use Rattle.std.specs.Prelude.{Bool, true, false, ◌≡◌, refl, ℕ, suc, ◌+◌, ◌-◌, ◌%◌, ◌^◌, ◌<◌, ℤ, pos, negsuc, nat_abs, ◌-ℤ◌, ◌<ℤ◌, ◌≤ℤ◌}
use Rattle.std.proofs.Common.{sym, ap, ◌∙◌, arith, ltb→lt, SFits, to_z, of_z, to_z-of_z}
use Rattle.std.proofs.Math.IntN.{+ℤ_comm, -ℤ_one}
use Rattle.std.specs.Int.Signed.{mag, lt_z}
use Rattle.std.specs.Int.{w64}
use Rattle.cases.specs.PickLaws.{not_both}
use Rattle.whole.specs.Bits.{Reads, ran, lit0, lt_yes}
use Rattle.reply.specs.Reply.{sign_of, twos}

pub record Parts : Type 0 where
  pub negative : Bool
  pub n : ℕ

-- the sign, a blank or '-', and the size
pub record Sized : Type 0 where
  pub sign : ℕ
  pub size : ℕ

abbrev pub parts_of : ℤ → Parts
parts_of (pos n) = record { negative = false; n = n }
parts_of (negsuc n) = record { negative = true; n = n }

abbrev pub sized_of : ℤ → Sized
sized_of z = record { sign = sign_of z; size = nat_abs z }

none_below : (n : ℕ) → pos n <ℤ pos 0 → ⊥
none_below n h = let k : n < 0 = ltb→lt n 0 h.lt in omega arith

turn : {z : ℤ} → z <ℤ pos 0 → negsuc 0 -ℤ z ≡ pos (parts_of z).n
turn {z = pos n} h = absurd (none_below n h)
turn {z = negsuc n} h = +ℤ_comm (negsuc 0) (pos (suc n)) ∙ -ℤ_one (pos (suc n))

pub apart_small : (z : ℤ) → mag z < 2 ^ 63 → (parts_of z).n < 2 ^ 63
apart_small (pos n) h = h
apart_small (negsuc n) h = h

pub apart_below : {z : ℤ} → z <ℤ pos 0 → record { negative = true; n = (parts_of z).n } ≡ parts_of z
apart_below {z = pos n} h = absurd (none_below n h)
apart_below {z = negsuc n} h = refl

pub apart_else : {z : ℤ} → pos 0 ≤ℤ z → record { negative = false; n = nat_abs z } ≡ parts_of z
apart_else {z = pos n} h = refl
apart_else {z = negsuc n} h = absurd h.le

-- `-1 - x` of a number below zero is defined, also of the least one
module _ (z : ℤ) (f : mag z < 2 ^ 63) (t : lt_z (to_z w64 (of_z w64 z)) (pos 0) ≡ true) where
  turned : negsuc 0 -ℤ to_z w64 (of_z w64 z) ≡ pos (parts_of z).n
  turned = rw (ran z f).value (turn (lt_yes (ran z f) lit0 t))

  pub turned_fits : SFits w64 (negsuc 0 -ℤ to_z w64 (of_z w64 z))
  turned_fits = rw turned (record { sfits = apart_small z f })

  pub turned_is : Reads w64 (of_z w64 (negsuc 0 -ℤ to_z w64 (of_z w64 z))) (pos (parts_of z).n)
  turned_is = record { value = to_z-of_z turned_fits ∙ turned }

-- the two ways of a number p that was taken apart
same_n : {p q : Parts} → p ≡ q → p.n ≡ q.n
same_n e = ap (λ (x : Parts). x.n) e

told : {p q : Parts} → p ≡ q → p.negative ≡ q.negative
told e = ap (λ (x : Parts). x.negative) e

pub part_small : (z : ℤ) (p : Parts) → p ≡ parts_of z → mag z < 2 ^ 63 → p.n < 2 ^ 63
part_small z p e h = omega (arith, same_n e, apart_small z h)

pub below : (z : ℤ) (p : Parts) → p ≡ parts_of z → p.negative ≡ true → (sign_of z ≡ 45) × (nat_abs z ≡ p.n + 1) × ((m : ℕ) → twos m z ≡ m - suc (p.n % m))
unfolding twos
below (pos n) p e h = absurd (not_both p.negative h (told e))
below (negsuc n) p e h = (refl, omega (arith, same_n e), λ m. ap (λ (k : ℕ). m - suc (k % m)) (sym (same_n e)))

pub not_below : (z : ℤ) (p : Parts) → p ≡ parts_of z → p.negative ≡ false → (sign_of z ≡ 32) × (nat_abs z ≡ p.n) × ((m : ℕ) → twos m z ≡ p.n % m)
unfolding twos
not_below (pos n) p e h = (refl, sym (same_n e), λ m. ap (λ (k : ℕ). k % m) (sym (same_n e)))
not_below (negsuc n) p e h = absurd (not_both p.negative (told e) h)
