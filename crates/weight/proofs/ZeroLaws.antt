-- Laws of the zeros: what the first zeroing and tracking give lies in its band, and a move is one tenth. Assumes nothing.
use Rattle.std.specs.Prelude.{◌≡◌, refl, Bool, true, false, ◌&&◌, ℕ, ◌+◌, ◌*◌, ◌≤◌, leb, ltb, eqb, ℤ, pos, negsuc, nat_abs, ◌+ℤ◌, ◌-ℤ◌}
use Rattle.std.proofs.Common.{mul-le-mul, le_refl, arith, le-leb, leb-true, ltb-true, ltb-false}
use Rattle.std.proofs.Math.IntN.{+ℤ_comm, +ℤ-neg_ℤ_cancel}
use Rattle.std.specs.Int.Signed.{lt_z}
use Rattle.cases.specs.Pick.{pick}
use Rattle.cases.specs.PickLaws.{split}
use Rattle.cases.specs.TestsLaws.{both_yes}
use Rattle.whole.specs.Sizes.{abs_add, abs_sub}
use Rattle.weight.specs.declared.Tenths.{Tenths}
use Rattle.weight.specs.declared.Digits.{Digits}
use Rattle.weight.specs.Weight.{as_tenths, less, in_tenths}
use Rattle.weight.specs.Zero.{within_share, later_share, first_share, first_zero, tracked_value, tracks, moved, stays, tracked}
use Rattle.weight.specs.Ranges.{less_to, in_tenths_to}

-- what both have, whatever the test
pick_both : {A : Type 0} (P : A → Type 0) (b : Bool) (x y : A) → P x → P y → P (pick b x y)
pick_both P b x y p q = split (λ t. P (pick t x y)) b (λ _. p) (λ _. q)

-- ---- shares
pub first_share_to : (zse : ℕ) → first_share zse ≤ 20
first_share_to zse =
    pick_both (λ n. n ≤ 20) (eqb zse 0) 0 _ (omega arith)
    (pick_both (λ n. n ≤ 20) (eqb zse 1) 2 _ (omega arith)
    (pick_both (λ n. n ≤ 20) (eqb zse 2) 5 _ (omega arith) (pick_both (λ n. n ≤ 20) (eqb zse 3) 10 20 (omega arith) (omega arith))))

pub later_share_to : (lft : ℕ) → later_share lft ≤ 20
later_share_to lft = pick_both (λ n. n ≤ 20) (eqb lft 0) 20 2 (omega arith) (omega arith)

pub later_share_from : (lft : ℕ) → 2 ≤ later_share lft
later_share_from lft = pick_both (λ n. 2 ≤ n) (eqb lft 0) 20 2 (omega arith) (omega arith)

-- a share of at most 20 % keeps a zero small
pub share_small : (p nov : ℕ) (z : Tenths) → p ≤ 20 → nov ≤ 100000 → within_share p nov z ≡ true → nat_abs z.0 ≤ 200000
unfolding within_share
share_small p nov z h k e =
    let l : nat_abs z.0 * 100 ≤ p * (10 * nov) = leb-true _ _ e in
    let m : p * (10 * nov) ≤ 20 * (10 * nov) = mul-le-mul {n₂ = 20} h (le_refl (10 * nov)) in omega arith

pub zero_within : (p nov : ℕ) → within_share p nov (as_tenths (pos 0)) ≡ true
unfolding within_share
zero_within p nov = le-leb 0 (p * (10 * nov)) (omega arith)

-- what is within 2 % is within CDL's band
pub within_later : (lft nov : ℕ) (z : Tenths) → within_share 2 nov z ≡ true → within_share (later_share lft) nov z ≡ true
unfolding within_share
within_later lft nov z e =
    let l : nat_abs z.0 * 100 ≤ 2 * (10 * nov) = leb-true _ _ e in
    split (λ t. leb (nat_abs z.0 * 100) (pick t 20 2 * (10 * nov)) ≡ true) (eqb lft 0)
    (λ _. le-leb (nat_abs z.0 * 100) (20 * (10 * nov)) (omega arith))
    (λ _. e)

-- ---- the first zeroing lies in its band
pub first_within : (zse nov : ℕ) (v : Tenths) → within_share (first_share zse) nov (first_zero zse nov v) ≡ true
unfolding first_zero
first_within zse nov v =
    split (λ t. within_share (first_share zse) nov (pick t v (as_tenths (pos 0))) ≡ true) (within_share (first_share zse) nov v)
    (λ e. e) (λ e. zero_within (first_share zse) nov)

-- ---- tracking
pub moved_to : (z1 s : Tenths) → nat_abs (moved z1 s).0 ≤ nat_abs z1.0 + 1
unfolding moved
moved_to z1 s =
    pick_both (λ (z : Tenths). nat_abs z.0 ≤ nat_abs z1.0 + 1) (lt_z (pos 0) s.0) _ _ (abs_add z1.0 (pos 1))
    (pick_both (λ (z : Tenths). nat_abs z.0 ≤ nat_abs z1.0 + 1) (lt_z s.0 (pos 0)) _ z1 (abs_sub z1.0 (pos 1)) (omega arith))

-- a move is one tenth
one_up : (z : ℤ) → nat_abs ((z +ℤ pos 1) -ℤ z) ≡ 1
one_up z = rw (+ℤ_comm z (pos 1), +ℤ-neg_ℤ_cancel (pos 1) z)

one_down : (z : ℤ) → nat_abs ((z -ℤ pos 1) -ℤ z) ≡ 1
one_down z = rw (+ℤ_comm z (negsuc 0), +ℤ-neg_ℤ_cancel (negsuc 0) z)

not_zero : (z : ℤ) → ltb 0 (nat_abs z) ≡ true → lt_z (pos 0) z ≡ false → lt_z z (pos 0) ≡ true
not_zero (pos n) h e = absurd (omega (arith, ltb-true 0 n h, ltb-false 0 n e))
not_zero (negsuc n) h e = refl

pub moved_one : (rsn : ℕ) (z1 s : Tenths) → tracks rsn s ≡ true → nat_abs ((moved z1 s).0 -ℤ z1.0) ≡ 1
unfolding moved tracks
moved_one rsn z1 s h =
    split (λ t. nat_abs ((pick t (as_tenths (z1.0 +ℤ pos 1)) (pick (lt_z s.0 (pos 0)) (as_tenths (z1.0 -ℤ pos 1)) z1)).0 -ℤ z1.0) ≡ 1) (lt_z (pos 0) s.0)
    (λ e. one_up z1.0)
    (λ e. rw (not_zero s.0 (both_yes (ltb 0 (nat_abs s.0)) (ltb (nat_abs s.0) (5 * rsn)) h).0 e) (one_down z1.0))

pub tracked_value_to : (tas : ℕ) (g : Tenths) (tare : Digits) → nat_abs (tracked_value tas g tare).0 ≤ nat_abs g.0 + nat_abs tare.0 * 10
tracked_value_to tas g tare =
    pick_both (λ (z : Tenths). nat_abs z.0 ≤ nat_abs g.0 + nat_abs tare.0 * 10) (eqb tas 0) (less g (in_tenths tare)) g
    (omega (arith, less_to g (in_tenths tare), in_tenths_to tare)) (omega arith)

-- a zero that is tracked is left as it is, or moved, and then it was within 2 % and is
pub tracked_cases : (P : Tenths → Type 0) (rsn nov : ℕ) (z1 s : Tenths) →
    P z1 → (tracks rsn s ≡ true → within_share 2 nov z1 ≡ true → within_share 2 nov (moved z1 s) ≡ true → P (moved z1 s)) → P (tracked rsn nov z1 s)
unfolding tracked
tracked_cases P rsn nov z1 s p q =
    split (λ t. P (pick t (moved z1 s) z1)) (tracks rsn s && stays nov z1 (moved z1 s))
    (λ e. let h = both_yes (tracks rsn s) (stays nov z1 (moved z1 s)) e in let k = both_yes (within_share 2 nov z1) (within_share 2 nov (moved z1 s)) h.1 in q h.0 k.0 k.1)
    (λ e. p)

-- so it keeps CDL's band
pub tracked_within : (lft rsn nov : ℕ) (z1 s : Tenths) → within_share (later_share lft) nov z1 ≡ true → within_share (later_share lft) nov (tracked rsn nov z1 s) ≡ true
tracked_within lft rsn nov z1 s h =
    tracked_cases (λ z. within_share (later_share lft) nov z ≡ true) rsn nov z1 s h (λ a b c. within_later lft nov (moved z1 s) c)
