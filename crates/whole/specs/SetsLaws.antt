-- What a number of a set has. Assumes nothing.
use Rattle.std.specs.Prelude.{◌≡◌, refl, Bool, true, false, ◌||◌, List, [], ◌∷◌, ℕ, ◌≤◌, leb, eqb, ℤ, pos, nat_abs}
use Rattle.std.proofs.Common.{sym, subst, leb-true, eqb-true}
use Rattle.cases.specs.PickLaws.{not_both}
use Rattle.cases.specs.TestsLaws.{both_yes}
use Rattle.whole.specs.Sets.{Range, Between, Among, Sized, one_of, has, inside}

pub between_yes : (n lo hi : ℕ) → inside (Between lo hi) (pos n) ≡ true → (lo ≤ n) × (n ≤ hi)
between_yes n lo hi e = let h = both_yes (leb lo n) (leb n hi) e in (leb-true lo n h.0, leb-true n hi h.1)

pub sized_yes : (z : ℤ) (n : ℕ) → inside (Sized n) z ≡ true → nat_abs z ≤ n
sized_yes z n e = leb-true (nat_abs z) n e

-- what each number of a list has
abbrev pub Each : (ℕ → Type 0) → List ℕ → Type 0
Each P [] = Unit {0}
Each P (m ∷ ms) = P m × Each P ms

or_yes : (P : Type 0) (b c : Bool) → (b ≡ true → P) → (c ≡ true → P) → (b || c) ≡ true → P
or_yes P true c f g e = f refl
or_yes P false c f g e = g e

one_yes : (P : ℕ → Type 0) (b : Bool) (n : ℕ) (ms : List ℕ) → (b ≡ true → P n) → Each P ms → one_of b n ms ≡ true → P n
one_yes P b n [] f a e = f e
one_yes P b n (m ∷ ms) f a e = one_yes P (b || eqb n m) n ms (or_yes (P n) b (eqb n m) f (λ q. subst P (sym (eqb-true n m q)) a.0)) a.1 e

pub among_yes : (P : ℕ → Type 0) (n m : ℕ) (ms : List ℕ) → P m → Each P ms → inside (Among (m ∷ ms)) (pos n) ≡ true → P n
among_yes P n m ms p a e = one_yes P (eqb n m) n ms (λ q. subst P (sym (eqb-true n m q)) p) a e

-- a number of a set that holds none below zero is one of them by its size alone
pub has_plus : (s : Range) (b : Bool) (n : ℕ) → has s b n ≡ true → has s true n ≡ true
has_plus (Between lo hi) true n e = e
has_plus (Between lo hi) false n e = absurd (not_both false e refl)
has_plus (Among ms) true n e = e
has_plus (Among ms) false n e = absurd (not_both false e refl)
has_plus (Sized m) b n e = e
