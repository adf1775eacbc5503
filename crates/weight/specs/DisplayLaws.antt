-- Laws of the display range, of over and under, and of net. Assumes nothing.
use Rattle.std.specs.Prelude.{◌≡◌, refl, Bool, true, false, not, ℕ, ◌+◌, ◌*◌, ◌<◌, ◌≤◌, T, leb, eqb, ℤ, pos, neg_ℤ, nat_abs, ◌+ℤ◌, ◌≤ℤ◌}
use Rattle.std.proofs.Common.{sym, ap, subst, arith, eq-eqb, ne_eqb, le-leb}
use Rattle.std.proofs.lemmas.Bool.{lt-leb}
use Rattle.std.proofs.Math.IntN.{ -ℤ-+ℤ_cancel}
use Rattle.std.specs.Int.Signed.{lt_z, lt_z_no}
use Rattle.cases.specs.Pick.{pick}
use Rattle.cases.specs.PickLaws.{split, never}
use Rattle.whole.specs.Order.{between}
use Rattle.weight.specs.declared.Digits.{Digits}
use Rattle.weight.specs.declared.Place.{Place}
use Rattle.weight.specs.declared.Place.TheVariants.{Within, Over, Under}
use Rattle.weight.specs.Weight.{net}
use Rattle.weight.specs.Display.{place_by, cell_place, by_mode, highest, lowest}

-- ---- by LFT
module _ {A : Type 0} (lft : ℕ) (a b c : A) where
  pub mode_0 : lft ≡ 0 → by_mode lft a b c ≡ a
  mode_0 h = rw (eq-eqb lft 0 h)

  pub mode_1 : (lft ≡ 0 → ⊥) → lft ≤ 2 → by_mode lft a b c ≡ b
  mode_1 h l = rw (ne_eqb lft 0 h, le-leb lft 2 l)

  pub mode_3 : (lft ≡ 0 → ⊥) → 2 < lft → by_mode lft a b c ≡ c
  mode_3 h l = rw (ne_eqb lft 0 h, lt-leb lft 2 l)

-- what all three have, whatever the mode
mode_all : (P : ℕ → Type 0) (lft a b c : ℕ) → P a → P b → P c → P (by_mode lft a b c)
mode_all P lft a b c x y z =
    split (λ t. P (pick t a (pick (leb lft 2) b c))) (eqb lft 0) (λ _. x) (λ _. split (λ t. P (pick t b c)) (leb lft 2) (λ _. y) (λ _. z))

module _ (lft nov rsn : ℕ) (h : nov ≤ 100000) (k : rsn ≤ 50) where
  pub highest_to : highest lft nov rsn ≤ 16000000
  unfolding highest
  highest_to = mode_all (λ n. n ≤ 16000000) lft (160 * nov) (100 * (nov + 9 * rsn)) (105 * nov) (omega arith) (omega arith) (omega arith)

  pub lowest_to : lowest lft nov rsn ≤ 16000000
  unfolding lowest
  lowest_to = mode_all (λ n. n ≤ 16000000) lft (160 * nov) (100 * (20 * rsn)) (2 * nov) (omega arith) (omega arith) (omega arith)

-- ---- what is neither over nor under lies between the limits
abbrev is_within : Place → Bool
is_within Within = true
is_within Over = false
is_within Under = false

no : {b : Bool} → b ≡ false → T (not b)
no e = subst (λ (t : Bool). T (not t)) (sym e) tt

pub place_within : (lo hi n : ℤ) → place_by lo hi n ≡ Within → (n ≤ℤ hi) × (lo ≤ℤ n)
unfolding place_by
place_within lo hi n =
    split (λ t. lt_z hi n ≡ t → pick t Over (pick (lt_z n lo) Under Within) ≡ Within → (n ≤ℤ hi) × (lo ≤ℤ n)) (lt_z hi n)
    (λ e f h. absurd (never (sym (ap is_within h))))
    (λ e f. split (λ t. lt_z n lo ≡ t → pick t Under Within ≡ Within → (n ≤ℤ hi) × (lo ≤ℤ n)) (lt_z n lo)
    (λ e' f' h. absurd (never (sym (ap is_within h))))
    (λ e' f' h. (lt_z_no (no e), lt_z_no (no e'))) refl) refl

-- so a sample that is neither is in the cell's range
pub cell_within : (x : ℤ) → cell_place x ≡ Within → nat_abs x ≤ 1599999
cell_within x h = let k = place_within (neg_ℤ (pos 1599999)) (pos 1599999) x h in between x 1599999 k.0 k.1

-- ---- net and tare are gross, to the digit
pub net_and_tare : (g tare : Digits) → (net g tare).0 +ℤ tare.0 ≡ g.0
unfolding net
net_and_tare g tare = -ℤ-+ℤ_cancel g.0 tare.0
