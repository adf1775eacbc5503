-- How letters, numbers and texts are written, for the laws that what is written is read back. What a reader must believe.
use Rattle.std.specs.Prelude.{Bool, ◌&&◌, ◌≡◌, List, [], ◌∷◌, ◌++◌, ℕ, zero, suc, ◌+◌, ◌/◌, ◌%◌, get_or, leb, Some, Ok}
use Rattle.cases.specs.Pick.{pick}
use Rattle.line.specs.declared.names.Letters.{Letters}
use Rattle.line.specs.declared.shape.Param.{Param}
use Rattle.line.specs.Names.{Entry, letters}
use Rattle.line.specs.Shape.{param_of, command, shape_of}

-- `n` in `k` decimal digits, zeros in front where it has fewer
unfoldable pub decimal : ℕ → ℕ → List ℕ
decimal zero n = []
decimal (suc k) n = decimal k (n / 10) ++ ((0x30 + n % 10) ∷ [])

-- a text between quotes
abbrev pub between : List ℕ → List ℕ
between t = 0x22 ∷ t ++ (0x22 ∷ [])

-- an upper-case letter, and the same letter in either case
unfoldable pub is_upper : ℕ → Bool
is_upper b = leb 0x41 b && leb b 0x5a

unfoldable pub cased : Bool → ℕ → ℕ
cased lower b = pick lower (b + 0x20) b

-- a name's letters, and that they are upper-case
abbrev pub letters_of : Entry → Letters
letters_of e = letters (get_or e.letters 0 0) (get_or e.letters 1 0) (get_or e.letters 2 0)

abbrev pub upper_of : Entry → Bool
upper_of e = is_upper (get_or e.letters 0 0) && (is_upper (get_or e.letters 1 0) && is_upper (get_or e.letters 2 0))

-- a line of a name's letters, each in either case, and of what is well-formed is that command
abbrev pub Reads : Entry → Type 0
Reads e =
    (x y z : Bool) (t : List ℕ) (p : Param) → param_of t ≡ Some p →
    shape_of (cased x (get_or e.letters 0 0) ∷ cased y (get_or e.letters 1 0) ∷ cased z (get_or e.letters 2 0) ∷ t) ≡ Ok (command e.name p)
