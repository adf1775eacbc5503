-- How a reply is read back, by hand as it were: the laws of `ReadLaws` say that each form reads as the value that it was made of.
use Rattle.std.specs.Prelude.{List, [], ◌∷◌, map, ℕ, suc, ◌+◌, ◌-◌, ◌*◌, ◌^◌, ◌≤◌, get_or, take, drop, eqb, ltb, ℤ, pos, negsuc, neg_ℤ}
use Rattle.cases.specs.Pick.{pick}

-- places to a base, the highest first, behind those that read as v
unfoldable pub value_of : ℕ → ℕ → List ℕ → ℕ
value_of base v [] = v
value_of base v (d ∷ s) = value_of base (v * base + d) s

-- decimal digits
abbrev pub read_digits : List ℕ → ℕ
read_digits s = value_of 10 0 (map (◌- 48) s)

-- every byte is one of `0` to `9`
unfoldable pub AreDigits : List ℕ → Type 0
AreDigits [] = Unit {0}
AreDigits (b ∷ s) = (48 ≤ b) × (b ≤ 57) × AreDigits s

-- a sign and 7 digits
abbrev pub read_signed : List ℕ → ℤ
read_signed s = pick (eqb (get_or s 0 0) 45) (neg_ℤ (pos (read_digits (take 7 (drop 1 s))))) (pos (read_digits (take 7 (drop 1 s))))

-- two's complement below m: from the half on v stands for v - m
abbrev pub read_twos : ℕ → ℕ → ℤ
read_twos m v = pick (ltb (2 * v) m) (pos v) (negsuc (m - suc v))

-- w bytes
abbrev pub read_word : ℕ → List ℕ → ℤ
read_word w s = read_twos (256 ^ w) (value_of 256 0 (take w s))
