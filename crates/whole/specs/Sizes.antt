-- Laws of signed numbers by their sizes, so that ranges are facts of ℕ that omega reads. Assumes nothing.
use Rattle.std.specs.Prelude.{◌≡◌, refl, Bool, true, false, not, cond, ℕ, zero, suc, ◌+◌, ◌*◌, ◌-◌, ◌/◌, ◌^◌, ◌<◌, ◌≤◌, T, ltb, ℤ, pos, negsuc, neg_ℤ, nat_abs, ◌+ℤ◌, ◌-ℤ◌, ◌*ℤ◌}
use Rattle.std.proofs.Common.{div-le_self, arith, ltb→lt}
use Rattle.std.proofs.Math.IntN.{sub_ℕ, one, *ℤ-one}
use Rattle.std.proofs.lemmas.Int.{unsigned_abs-mul, fits_signed_from_abs}
use Rattle.std.specs.Int.Signed.{mag, quot_z}
use Rattle.std.specs.Int.{Width}
use mir.Val.{SFits, hbits}
use Rattle.whole.specs.Round.{like}

-- ---- sizes
pub abs_neg : (z : ℤ) → nat_abs (neg_ℤ z) ≡ nat_abs z
abs_neg (pos zero) = refl
abs_neg (pos (suc n)) = refl
abs_neg (negsuc n) = refl

abs_cond : (b : Bool) (x y : ℤ) (n : ℕ) → (T b → nat_abs x ≤ n) → (T (not b) → nat_abs y ≤ n) → nat_abs (cond b x y) ≤ n
abs_cond true x y n f g = f tt
abs_cond false x y n f g = g tt

abs_subℕ : (a b : ℕ) → nat_abs (sub_ℕ a b) ≤ a + b
abs_subℕ a b = abs_cond (ltb a b) (negsuc (b - suc a)) (pos (a - b)) (a + b) (λ t. let h : a < b = ltb→lt a b t in omega arith) (λ t. omega arith)

pub abs_add : (a b : ℤ) → nat_abs (a +ℤ b) ≤ nat_abs a + nat_abs b
abs_add (pos a) (pos b) = omega arith
abs_add (pos a) (negsuc b) = abs_subℕ a (suc b)
abs_add (negsuc a) (pos b) = let h : nat_abs (sub_ℕ b (suc a)) ≤ b + suc a = abs_subℕ b (suc a) in omega arith
abs_add (negsuc a) (negsuc b) = omega arith

pub abs_sub : (a b : ℤ) → nat_abs (a -ℤ b) ≤ nat_abs a + nat_abs b
abs_sub a b = rw (← abs_neg b) (abs_add a (neg_ℤ b))

pub abs_mul : (a b : ℤ) → nat_abs (a *ℤ b) ≡ nat_abs a * nat_abs b
abs_mul a b = unsigned_abs-mul a b

pub abs_like : (z : ℤ) (n : ℕ) → nat_abs (like z n) ≡ n
abs_like (pos _) n = refl
abs_like (negsuc _) n = abs_neg (pos n)

pub abs_quot : (a b : ℤ) → nat_abs (quot_z a b) ≡ nat_abs a / nat_abs b
abs_quot (pos a) (pos b) = refl
abs_quot (pos a) (negsuc b) = abs_neg (pos (a / suc b))
abs_quot (negsuc a) (pos b) = abs_neg (pos (suc a / b))
abs_quot (negsuc a) (negsuc b) = refl

pub abs_quot_le : (a b : ℤ) → nat_abs (quot_z a b) ≤ nat_abs a
abs_quot_le a b = rw (abs_quot a b) (div-le_self (nat_abs a) (nat_abs b))

pub times_one : (z : ℤ) → z *ℤ pos 1 ≡ z
unfolding one
times_one z = *ℤ-one z

-- ---- a size's bound gives the machine's range
mag_abs : (z : ℤ) → mag z ≤ nat_abs z
mag_abs (pos n) = omega arith
mag_abs (negsuc n) = omega arith

pub abs_fits : {w : Width} {z : ℤ} → nat_abs z < 2 ^ hbits w → SFits w z
abs_fits {w} {z} h = fits_signed_from_abs w z h
