-- Sets of whole numbers as the table of commands gives them. What a reader must believe.
use Rattle.std.specs.Prelude.{Bool, false, ◌&&◌, ◌||◌, List, [], ◌∷◌, ℕ, leb, eqb, ℤ, nat_abs}
use Rattle.std.specs.Int.Signed.{non_neg}

pub data Range : Type 0 where
  -- from the first to the second
  Between : ℕ → ℕ → Range
  -- those listed
  Among : List ℕ → Range
  -- at most so far from 0
  Sized : ℕ → Range

-- a natural number is one of a list, or the verdict so far, b, is yes already
abbrev pub one_of : Bool → ℕ → List ℕ → Bool
one_of b n [] = b
one_of b n (m ∷ ms) = one_of (b || eqb n m) n ms

abbrev pub among : ℕ → List ℕ → Bool
among n [] = false
among n (m ∷ ms) = one_of (eqb n m) n ms

-- of a number, whether it is at least 0, and its size
abbrev pub has : Range → Bool → ℕ → Bool
has (Between lo hi) plus n = plus && (leb lo n && leb n hi)
has (Among ms) plus n = plus && among n ms
has (Sized most) plus n = leb n most

abbrev pub inside : Range → ℤ → Bool
inside s z = has s (non_neg z) (nat_abs z)
