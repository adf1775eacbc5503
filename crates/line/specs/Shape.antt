-- The shape of a kept line. Document 01, "Command lines", second paragraph. What a reader must believe.
use Rattle.std.specs.Prelude.{Bool, true, false, not, ◌&&◌, ◌||◌, List, [], ◌∷◌, ℕ, ◌+◌, ◌-◌, ◌*◌, ◌^◌, ◌<◌, ℤ, pos, neg_ℤ, length, get_or, take, drop, leb, ltb, eqb, Option, Some, None, Result, Ok, Err}
use Rattle.cases.specs.Pick.{pick}
use Rattle.line.specs.declared.names.Letters.{Letters}
use Rattle.line.specs.declared.names.Name.{Name}
use Rattle.line.specs.declared.shape.Param.{Param}
use Rattle.line.specs.declared.shape.Param.TheVariants as param
use Rattle.line.specs.declared.shape.Command.{Command}
use Rattle.line.specs.declared.shape.Fault.{Fault}
use Rattle.line.specs.declared.shape.Fault.TheVariants as fault
use Rattle.line.specs.Names.{letters, called_of}
use Rattle.line.specs.Param.{number}

-- every byte passes a test
unfoldable pub all_of : (ℕ → Bool) → List ℕ → Bool
all_of f [] = true
all_of f (b ∷ t) = f b && all_of f t

-- letters: A to Z and a to z (reading 4, docs/DECISIONS.md)
unfoldable pub is_letter : ℕ → Bool
is_letter b = (leb 0x41 b && leb b 0x5a) || (leb 0x61 b && leb b 0x7a)

-- a letter of either case stands for the one of upper case
unfoldable pub fold_of : ℕ → ℕ
fold_of b = pick (leb 0x61 b && leb b 0x7a) (b - 0x20) b

-- digits: 0 to 9
unfoldable pub is_digit : ℕ → Bool
is_digit b = leb 0x30 b && leb b 0x39

-- the value of digits, after `v` was read before them
unfoldable pub value_from : ℕ → List ℕ → ℕ
value_from v [] = v
value_from v (b ∷ t) = value_from (v * 10 + (b - 0x30)) t

-- digits alone, at least one and at most ten, zeros in front counted (reading 4, docs/DECISIONS.md)
abbrev pub is_digits : List ℕ → Bool
is_digits s = leb 1 (length s) && (leb (length s) 10 && all_of is_digit s)

unfoldable pub digits_of : List ℕ → Option ℕ
digits_of s = pick (is_digits s) (Some (value_from 0 s)) None

-- what ten digits can say
abbrev pub Small : Option ℕ → Type 0
Small None = Unit
Small (Some v) = v < 10 ^ 10

-- a size with its sign; 0 has none
unfoldable pub signed_of : Bool → ℕ → ℤ
signed_of negative n = pick negative (neg_ℤ (pos n)) (pos n)

-- a number's digits, after its sign if it has one
abbrev pub number_by : Bool → Option ℕ → Option Param
number_by negative None = None
number_by negative (Some n) = Some (param.Number (number (signed_of negative n)))

unfoldable pub number_of : Bool → List ℕ → Option Param
number_of negative s = number_by negative (digits_of s)

-- what a text may hold: 20 to 7E hex, but no quote (reading 2, docs/DECISIONS.md)
unfoldable pub is_plain : ℕ → Bool
is_plain b = leb 0x20 b && (leb b 0x7e && not (eqb b 0x22))

-- after the opening quote: the text's bytes, then the closing quote. A text is named by its place in the line, after three letters and a quote, and its length
unfoldable pub text_of : List ℕ → Option Param
text_of s =
    pick (leb 1 (length s) && (eqb (get_or s (length s - 1) 0) 0x22 && all_of is_plain (take (length s - 1) s)))
    (Some (param.Text 4 (length s - 1)))
    None

-- what follows the three letters: no byte, a lone "?", a text, or a number with "-", "+" or no sign (reading 4, docs/DECISIONS.md)
unfoldable pub param_of : List ℕ → Option Param
param_of t =
    pick (ltb (length t) 1) (Some param.Nothing)
    (pick (eqb (get_or t 0 0) 0x3f) (pick (ltb 1 (length t)) None (Some param.Query))
    (pick (eqb (get_or t 0 0) 0x22) (text_of (drop 1 t))
    (pick (eqb (get_or t 0 0) 0x2d) (number_of true (drop 1 t))
    (pick (eqb (get_or t 0 0) 0x2b) (number_of false (drop 1 t))
    (number_of false t)))))

-- what may follow the letters of a name: the same for every name
abbrev pub param_for : Letters → List ℕ → Option Param
param_for n t = param_of t

-- a line's shape: a command, or why it is none
abbrev pub Shape : Type 0
Shape = Result Command Fault

abbrev pub command : Name → Param → Command
command n p = record { name = n; param = p }

abbrev pub ill_formed : Shape
ill_formed = Err fault.Malformed

abbrev pub unnamed : Shape
unnamed = Err fault.Unknown

abbrev pub calls : Name → Param → Shape
calls n p = Ok (command n p)

-- a well-formed line is a command if its name is one: malformed before unknown
abbrev pub known_of : Option Name → Param → Shape
known_of None p = Err fault.Unknown
known_of (Some n) p = calls n p

unfoldable pub command_of : Letters → Option Param → Shape
command_of n None = Err fault.Malformed
command_of n (Some p) = known_of (called_of n) p

-- a line: three letters, upper or lower case, and what follows them
unfoldable pub shape_of : List ℕ → Shape
shape_of s =
    pick (ltb (length s) 3) (Err fault.Malformed)
    (pick (is_letter (get_or s 0 0) && (is_letter (get_or s 1 0) && is_letter (get_or s 2 0)))
    (command_of (letters (fold_of (get_or s 0 0)) (fold_of (get_or s 1 0)) (fold_of (get_or s 2 0))) (param_for (letters (fold_of (get_or s 0 0)) (fold_of (get_or s 1 0)) (fold_of (get_or s 2 0))) (drop 3 s)))
    (Err fault.Malformed))
