-- How the lines of the bench form are written, for the laws that they are read back, and no others. What a reader must believe.
use Rattle.std.specs.Prelude.{Bool, true, ◌≡◌, List, [], ◌∷◌, ◌++◌, ℕ, zero, suc, ◌+◌, ◌/◌, ◌%◌, ℤ, pos, negsuc}
use Rattle.std.specs.Int.{w32}
use Rattle.std.proofs.Common.{SFits}
use Rattle.cases.specs.Pick.{pick}
use Rattle.session.specs.Form.{is_digits, has_minus, size_in, value_from, signed_of}

-- `n` in `k` decimal digits, zeros in front where it has fewer
unfoldable pub decimal_in : ℕ → ℕ → List ℕ
decimal_in zero n = []
decimal_in (suc k) n = decimal_in k (n / 10) ++ ((0x30 + n % 10) ∷ [])

-- x in `k` digits, after a minus where it is below 0
abbrev pub text_in : ℕ → ℤ → List ℕ
text_in k (pos n) = decimal_in k n
text_in k (negsuc n) = 0x2d ∷ decimal_in k (suc n)

-- `s` blank x blank, and 1 where the sample is still, else 0
abbrev pub sample_line : List ℕ → Bool → List ℕ
sample_line x still = 0x73 ∷ 0x20 ∷ x ++ (0x20 ∷ pick still 0x31 0x30 ∷ [])

-- a line is a sample's: its x is a minus or none and digits, and in signed 32 bits
pub record IsSample (line : List ℕ) (x : ℤ) (still : Bool) : Type 0 where
  pub text : List ℕ
  pub digits : is_digits (size_in text) ≡ true
  pub value : signed_of (has_minus text) (value_from 0 (size_in text)) ≡ x
  pub range : SFits w32 x
  pub whole : line ≡ sample_line text still

-- words with one blank between each and the next
unfoldable pub joined : List ℕ → List (List ℕ) → List ℕ
joined w [] = w
joined w (v ∷ t) = w ++ (0x20 ∷ joined v t)
