-- A line of the bench form, as the list of its bytes without the LF. Document 01, "Readings and replies to hold to", the paragraph on the
-- bench program. What a reader must believe.
use Rattle.std.specs.Prelude.{Bool, true, false, Option, Some, None, ◌&&◌, ◌||◌, List, [], ◌∷◌, ℕ, ◌+◌, ◌-◌, ◌*◌, ℤ, pos, neg_ℤ, leb, eqb}
use Rattle.std.specs.Int.Signed.{le_z}
use Rattle.cases.specs.Pick.{pick}
use Rattle.session.specs.declared.Event.{Event}
use Rattle.session.specs.declared.Event.TheVariants as event

-- a line as words with one blank between each and the next: two blanks have an empty word between them
pub record Words : Type 0 where
  pub first : List ℕ
  pub others : List (List ℕ)

unfoldable pub words_of : List ℕ → Words
words_of [] = record { first = []; others = [] }
words_of (b ∷ t) =
    pick (eqb b 0x20)
    (record { first = []; others = (words_of t).first ∷ (words_of t).others })
    (record { first = b ∷ (words_of t).first; others = (words_of t).others })

-- one byte alone
abbrev pub is_byte : ℕ → List ℕ → Bool
is_byte k [] = false
is_byte k (a ∷ []) = eqb a k
is_byte k (a ∷ b ∷ t) = false

-- digits, one or more, of any count; their value, after `v` was read before them
unfoldable pub is_digit : ℕ → Bool
is_digit b = leb 0x30 b && leb b 0x39

unfoldable pub all_digits : List ℕ → Bool
all_digits [] = true
all_digits (b ∷ t) = is_digit b && all_digits t

abbrev pub is_digits : List ℕ → Bool
is_digits [] = false
is_digits (b ∷ t) = all_digits (b ∷ t)

unfoldable pub value_from : ℕ → List ℕ → ℕ
value_from v [] = v
value_from v (b ∷ t) = value_from (v * 10 + (b - 0x30)) t

-- x: a minus or none, then digits; -0 is 0
abbrev pub has_minus : List ℕ → Bool
has_minus [] = false
has_minus (a ∷ t) = eqb a 0x2d

abbrev pub size_in : List ℕ → List ℕ
size_in [] = []
size_in (a ∷ t) = pick (eqb a 0x2d) t (a ∷ t)

unfoldable pub signed_of : Bool → ℕ → ℤ
signed_of negative n = pick negative (neg_ℤ (pos n)) (pos n)

-- in signed 32 bits
unfoldable pub in_range : ℤ → Bool
in_range x = le_z (neg_ℤ (pos 2147483648)) x && le_z x (pos 2147483647)

unfoldable pub sample_of : ℤ → Bool → Option Event
sample_of x still = pick (in_range x) (Some (event.Sample x still)) None

-- three words and no more: `s`, x, and 0 or 1
unfoldable pub sample_in : List ℕ → List (List ℕ) → Option Event
sample_in s [] = None
sample_in s (x ∷ []) = None
sample_in s (x ∷ f ∷ []) =
    pick (is_byte 0x73 s && (is_digits (size_in x) && (is_byte 0x31 f || is_byte 0x30 f)))
    (sample_of (signed_of (has_minus x) (value_from 0 (size_in x))) (is_byte 0x31 f))
    None
sample_in s (x ∷ f ∷ w ∷ t) = None

-- `c` blank and any bytes, or none
abbrev pub is_command : List ℕ → Bool
is_command [] = false
is_command (a ∷ []) = false
is_command (a ∷ b ∷ t) = eqb a 0x63 && eqb b 0x20

-- a command, `r` alone, a sample, or no such form
unfoldable pub event_of : List ℕ → Option Event
event_of line =
    pick (is_command line) (Some event.Command)
    (pick (is_byte 0x72 line) (Some event.Restart)
    (sample_in (words_of line).first (words_of line).others))

-- the bytes of a command, which the unit takes; of any other line none
abbrev pub after_two : List ℕ → List ℕ
after_two [] = []
after_two (a ∷ []) = []
after_two (a ∷ b ∷ t) = t

unfoldable pub command_of : List ℕ → List ℕ
command_of line = pick (is_command line) (after_two line) []
