-- The reader that takes a line byte by byte: its states and steps. `ReaderLaws` has that what it makes of a line is what `Form` says of the line.
use Rattle.std.specs.Prelude.{Bool, true, false, Option, Some, None, List, [], ◌∷◌, ℕ, ◌+◌, ◌-◌, ◌*◌, eqb, ltb}
use Rattle.cases.specs.Pick.{pick}
use Rattle.session.specs.declared.Decimal.{Decimal}
use Rattle.session.specs.declared.State.{State}
use Rattle.session.specs.declared.State.TheVariants as state
use Rattle.session.specs.declared.Stepped.{Stepped}
use Rattle.session.specs.declared.Event.{Event}
use Rattle.session.specs.declared.Event.TheVariants as event
use Rattle.session.specs.Form.{is_digit, signed_of, sample_of}

abbrev pub decimal : Bool → ℕ → Decimal
decimal negative size = record { minus = pick negative 1 0; size = size }

-- one digit more; a size beyond every x stays as it is, however many digits follow
unfoldable pub grown_of : ℕ → ℕ → ℕ
grown_of size digit = pick (ltb 2147483648 size) size (size * 10 + digit)

unfoldable pub digit_of : Decimal → ℕ → State
digit_of d b = pick (is_digit b) (state.Digits (record { minus = d.minus; size = grown_of d.size (b - 0x30) })) state.Hopeless

abbrev pub on_of : ℕ → ℕ → State → State
on_of b want then = pick (eqb b want) then state.Hopeless

unfoldable pub first_of : ℕ → State
first_of b = pick (eqb b 0x63) state.C (pick (eqb b 0x73) state.S (on_of b 0x72 state.R))

unfoldable pub sign_of : ℕ → State
sign_of b = pick (eqb b 0x2d) state.Minus (digit_of (decimal false 0) b)

unfoldable pub more_of : Decimal → ℕ → State
more_of d b = pick (eqb b 0x20) (state.Blank d) (digit_of d b)

unfoldable pub flag_of : Decimal → ℕ → State
flag_of d b = pick (eqb b 0x31) (state.Flag d true) (on_of b 0x30 (state.Flag d false))

abbrev pub next_of : State → ℕ → State
next_of state.Start b = first_of b
next_of state.C b = on_of b 0x20 state.Command
next_of state.Command b = state.Command
next_of state.S b = on_of b 0x20 state.X
next_of state.X b = sign_of b
next_of state.Minus b = digit_of (decimal true 0) b
next_of (state.Digits d) b = more_of d b
next_of (state.Blank d) b = flag_of d b
next_of _ b = state.Hopeless

-- bytes of the line were read
abbrev pub begun_of : State → Bool
begun_of state.Start = false
begun_of _ = true

-- the bytes of a command alone are handed on
abbrev pub pass_of : State → Bool
pass_of state.Command = true
pass_of _ = false

abbrev pub stepped_of : State → ℕ → Stepped
stepped_of s b = record { next = next_of s b; pass = pass_of s }

-- the line ends
abbrev pub ended_of : State → Option Event
ended_of state.Command = Some event.Command
ended_of (state.Flag d f) = sample_of (signed_of (eqb d.minus 1) d.size) f
ended_of state.R = Some event.Restart
ended_of _ = None

-- a line's bytes, one after the other: the state after them, and the bytes that were handed on
unfoldable pub state_after : State → List ℕ → State
state_after s [] = s
state_after s (b ∷ t) = state_after (stepped_of s b).next t

unfoldable pub handed_on : State → List ℕ → List ℕ
handed_on s [] = []
handed_on s (b ∷ t) = pick (stepped_of s b).pass (b ∷ handed_on (stepped_of s b).next t) (handed_on (stepped_of s b).next t)
