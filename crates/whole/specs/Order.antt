-- Laws of signs and of the order of signed numbers. Assumes nothing.
use Rattle.std.specs.Prelude.{◌≡◌, refl, not, ℕ, zero, suc, ◌<◌, ◌≤◌, T, ℤ, pos, negsuc, neg_ℤ, nat_abs, ◌<ℤ◌, ◌≤ℤ◌}
use Rattle.std.proofs.Common.{le_trans, arith, ltb→lt, leb→le, lt→ltb, le→leb}
use Rattle.std.proofs.Math.Dec.{leb-zero, nleb→lt}
use Rattle.std.specs.Int.Signed.{lt_z, le_z, non_neg}
use Rattle.whole.specs.Round.{like}

-- ---- signs
pub like_self : (z : ℤ) → like z (nat_abs z) ≡ z
like_self (pos n) = refl
like_self (negsuc n) = refl

pub nonneg_is : {z : ℤ} → pos 0 ≤ℤ z → z ≡ pos (nat_abs z)
nonneg_is {z = pos n} h = refl
nonneg_is {z = negsuc n} h = absurd h.le

pub neg_is : {z : ℤ} → z <ℤ pos 0 → z ≡ neg_ℤ (pos (nat_abs z))
neg_is {z = pos n} h = absurd (none n (ltb→lt n 0 h.lt))
  where
    none : (n : ℕ) → n < 0 → ⊥
    none n k = omega arith
neg_is {z = negsuc n} h = refl

pub like_nonneg : {z : ℤ} (n : ℕ) → pos 0 ≤ℤ z → like z n ≡ pos n
like_nonneg {z = pos _} n h = refl
like_nonneg {z = negsuc _} n h = absurd h.le

pub like_neg : {z : ℤ} (n : ℕ) → z <ℤ pos 0 → like z n ≡ neg_ℤ (pos n)
like_neg {z = pos k} n h = absurd (none k (ltb→lt k 0 h.lt))
  where
    none : (k : ℕ) → k < 0 → ⊥
    none k l = omega arith
like_neg {z = negsuc _} n h = refl

pub neg_of_neg : {z : ℤ} → z <ℤ pos 0 → T (non_neg (neg_ℤ z))
neg_of_neg {z = pos n} h = absurd (none n (ltb→lt n 0 h.lt))
  where
    none : (n : ℕ) → n < 0 → ⊥
    none n k = omega arith
neg_of_neg {z = negsuc n} h = tt

-- a lower bound that is a positive literal
pub at_least : {n : ℕ} {z : ℤ} → pos n ≤ℤ z → n ≤ nat_abs z
at_least {n} {z = pos m} h = leb→le n m h.le
at_least {n} {z = negsuc m} h = absurd h.le

-- a number between -n and n
pub between : (z : ℤ) (n : ℕ) → z ≤ℤ pos n → neg_ℤ (pos n) ≤ℤ z → nat_abs z ≤ n
between (pos m) n h k = leb→le m n h.le
between (negsuc m) zero h k = absurd k.le
between (negsuc m) (suc n) h k = let l : m ≤ n = leb→le m n k.le in omega arith

-- a test `<=` that failed
nle : (a b : ℤ) → T (not (le_z a b)) → T (lt_z b a)
nle (pos a) (pos b) t = lt→ltb b a (nleb→lt a b t)
nle (pos a) (negsuc b) t = tt
nle (negsuc a) (pos b) t = t
nle (negsuc a) (negsuc b) t = lt→ltb a b (nleb→lt b a t)

pub le_z_not : {a b : ℤ} → T (not (le_z a b)) → b <ℤ a
le_z_not {a} {b} t = record { lt = nle a b t }

pub <ℤ_weak : {a b : ℤ} → a <ℤ b → a ≤ℤ b
<ℤ_weak {a = pos a} {b = pos b} h = let l : a < b = ltb→lt a b h.lt in record { le = le→leb a b (omega arith) }
<ℤ_weak {a = pos a} {b = negsuc b} h = absurd h.lt
<ℤ_weak {a = negsuc a} {b = pos b} h = record { le = tt }
<ℤ_weak {a = negsuc a} {b = negsuc b} h = let l : b < a = ltb→lt b a h.lt in record { le = le→leb b a (omega arith) }

le_trans' : (a b c : ℤ) → T (le_z a b) → T (le_z b c) → T (le_z a c)
le_trans' (pos a) (pos b) (pos c) h k = le→leb a c (le_trans (leb→le a b h) (leb→le b c k))
le_trans' (pos a) (pos b) (negsuc c) h k = k
le_trans' (pos a) (negsuc b) c h k = absurd h
le_trans' (negsuc a) (pos b) (pos c) h k = tt
le_trans' (negsuc a) (pos b) (negsuc c) h k = absurd k
le_trans' (negsuc a) (negsuc b) (pos c) h k = tt
le_trans' (negsuc a) (negsuc b) (negsuc c) h k = le→leb c a (le_trans (leb→le c b k) (leb→le b a h))

pub ≤ℤ_trans : {a b c : ℤ} → a ≤ℤ b → b ≤ℤ c → a ≤ℤ c
≤ℤ_trans {a} {b} {c} h k = record { le = le_trans' a b c h.le k.le }

-- the test `0 <= z`
pub plus_is : (z : ℤ) → le_z (pos 0) z ≡ non_neg z
plus_is (pos n) = leb-zero n
plus_is (negsuc n) = refl
