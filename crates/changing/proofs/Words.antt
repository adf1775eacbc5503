-- A password's bytes: seven of a text with zeros behind, and seven compared with seven. Assumes nothing.
use Rattle.std.specs.Prelude.{◌≡◌, refl, Bool, true, false, ◌&&◌, List, [], ◌∷◌, ◌++◌, ℕ, min, length, get_or, take, drop, eqb}
use Rattle.std.proofs.Common.{sym, ap, ◌∙◌, arith}
use lib.Pointwise.{pointwise}
use Rattle.cases.specs.Tests.{all_from}
use Rattle.state.specs.declared.Password.{Password}
use Rattle.plans.specs.Plans.{same_word}

abbrev conj : List Bool → Bool
conj [] = true
conj (b ∷ bs) = b && conj bs

from_is : (a : Bool) (bs : List Bool) → all_from a bs ≡ (a && conj bs)
from_is true [] = refl
from_is false [] = refl
from_is true (b ∷ bs) = from_is b bs
from_is false (b ∷ bs) = from_is false bs

swap : (a b : Bool) → (a && b) ≡ (b && a)
swap true true = refl
swap true false = refl
swap false true = refl
swap false false = refl

abbrev seven_of : List ℕ → List ℕ
seven_of s = get_or s 0 0 ∷ get_or s 1 0 ∷ get_or s 2 0 ∷ get_or s 3 0 ∷ get_or s 4 0 ∷ get_or s 5 0 ∷ get_or s 6 0 ∷ []

seven : (s : List ℕ) → length s ≡ 7 → s ≡ seven_of s
seven [] l = absurd (omega arith)
seven (a ∷ []) l = absurd (omega arith)
seven (a ∷ b ∷ []) l = absurd (omega arith)
seven (a ∷ b ∷ c ∷ []) l = absurd (omega arith)
seven (a ∷ b ∷ c ∷ d ∷ []) l = absurd (omega arith)
seven (a ∷ b ∷ c ∷ d ∷ e ∷ []) l = absurd (omega arith)
seven (a ∷ b ∷ c ∷ d ∷ e ∷ f ∷ []) l = absurd (omega arith)
seven (a ∷ b ∷ c ∷ d ∷ e ∷ f ∷ g ∷ []) l = refl
seven (a ∷ b ∷ c ∷ d ∷ e ∷ f ∷ g ∷ h ∷ s) l = absurd (omega arith)

abbrev bytes_of : List ℕ → List ℕ → List Bool
bytes_of s t =
    eqb (get_or s 0 0) (get_or t 0 0) ∷ eqb (get_or s 1 0) (get_or t 1 0) ∷ eqb (get_or s 2 0) (get_or t 2 0) ∷ eqb (get_or s 3 0) (get_or t 3 0)
    ∷ eqb (get_or s 4 0) (get_or t 4 0) ∷ eqb (get_or s 5 0) (get_or t 5 0) ∷ eqb (get_or s 6 0) (get_or t 6 0) ∷ []

-- the derived comparison is the one of the definition
pub same_is : (a b : Password) → length a.bytes ≡ 7 → length b.bytes ≡ 7 → (pointwise eqb a.bytes b.bytes && eqb a.len b.len) ≡ same_word a b
unfolding same_word
same_is a b k l =
    let x : pointwise eqb a.bytes b.bytes ≡ pointwise eqb (seven_of a.bytes) (seven_of b.bytes) =
    ap (λ (s : List ℕ). pointwise eqb s b.bytes) (seven a.bytes k) ∙ ap (λ (s : List ℕ). pointwise eqb (seven_of a.bytes) s) (seven b.bytes l) in
    rw x (swap _ (eqb a.len b.len) ∙ sym (from_is (eqb a.len b.len) (bytes_of a.bytes b.bytes)))

-- the bytes that a text has, and zeros behind them
pub filled : (t : List ℕ) (n : ℕ) → n ≡ min (length t) 7 → take n t ++ drop n (0 ∷ 0 ∷ 0 ∷ 0 ∷ 0 ∷ 0 ∷ 0 ∷ []) ≡ seven_of t
filled [] n e = rw e
filled (a ∷ []) n e = rw e
filled (a ∷ b ∷ []) n e = rw e
filled (a ∷ b ∷ c ∷ []) n e = rw e
filled (a ∷ b ∷ c ∷ d ∷ []) n e = rw e
filled (a ∷ b ∷ c ∷ d ∷ e ∷ []) n p = rw p
filled (a ∷ b ∷ c ∷ d ∷ e ∷ f ∷ []) n p = rw p
filled (a ∷ b ∷ c ∷ d ∷ e ∷ f ∷ g ∷ t) n p = let k : n ≡ 7 = omega arith in rw k
