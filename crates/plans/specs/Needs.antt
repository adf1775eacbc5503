-- A need: what is looked at, and its bound. Whether it holds, and the reason where it does not, are worked out from it. Document 01, "Reasons for "?"". What a reader must believe.
use Rattle.std.specs.Prelude.{Option, Some, None, ℕ, Bool, true, false, ◌||◌, List, [], ◌∷◌, ltb, eqb, ℤ}
use Rattle.cases.specs.Pick.{pick}
use Rattle.whole.specs.Sets.{Range as Set, inside}
use Rattle.weight.specs.declared.Tenths.{Tenths}
use Rattle.weight.specs.declared.Curve.{Curve}
use Rattle.weight.specs.declared.Place.{Place}
use Rattle.weight.specs.declared.Place.TheVariants as place
use Rattle.weight.specs.Sets.{spans}
use Rattle.weight.specs.Zero.{within_share}
use Rattle.state.specs.declared.Seen.{Seen}
use Rattle.state.specs.declared.Reason.{Reason}
use Rattle.state.specs.declared.Reason.TheVariants.{Long, Form, Unknown, Locked, Barred, Value, Differs, Unsteady, Pointless, Range, Stands}
use Rattle.weighing.specs.Reading.{steady_of, sampled_of}

pub data Need : Type 0 where
  -- the line is not too long
  Fits : Bool → Need
  -- its shape is well-formed, and one that the command has
  Shaped : Bool → Need
  -- its name is known
  Known : Bool → Need
  -- P: the lock is open
  Opened : Bool → Need
  -- S: LFT is 0
  Unsealed : ℕ → Need
  -- a number or a length is in its set
  In : ℤ → Set → Need
  -- SPW's text is the password
  Same : Bool → Need
  -- the reading is steady; for MSV there is one
  Steady : Seen → Need
  Sampled : Seen → Need
  -- a zero point waits
  Held : Bool → Need
  -- gross is in the display range; it is in the tare range
  Shows : Place → Need
  Tares : ℤ → Set → Need
  -- a zero is within p % of NOV
  Share : Tenths → ℕ → ℕ → Need
  -- the counter is not at its end
  Below : ℕ → ℕ → Need
  -- W - L is wide enough
  Spans : Curve → Need
  -- a need that is waived where the test holds
  Unless : Bool → Need → Need

abbrev pub is_within : Place → Bool
is_within place.Within = true
is_within place.Over = false
is_within place.Under = false

abbrev pub holds_of : Need → Bool
holds_of (Fits b) = b
holds_of (Shaped b) = b
holds_of (Known b) = b
holds_of (Opened b) = b
holds_of (Unsealed lft) = eqb lft 0
holds_of (In z s) = inside s z
holds_of (Same b) = b
holds_of (Steady s) = steady_of s
holds_of (Sampled s) = sampled_of s
holds_of (Held b) = b
holds_of (Shows p) = is_within p
holds_of (Tares z s) = inside s z
holds_of (Share z p nov) = within_share p nov z
holds_of (Below n top) = ltb n top
holds_of (Spans k) = spans k
holds_of (Unless b n) = b || holds_of n

abbrev pub reason_of : Need → Reason
reason_of (Fits b) = Long
reason_of (Shaped b) = Form
reason_of (Known b) = Unknown
reason_of (Opened b) = Locked
reason_of (Unsealed lft) = Barred
reason_of (In z s) = Value
reason_of (Same b) = Differs
reason_of (Steady s) = Unsteady
reason_of (Sampled s) = Unsteady
reason_of (Held b) = Pointless
reason_of (Shows p) = Range
reason_of (Tares z s) = Range
reason_of (Share z p nov) = Range
reason_of (Below n top) = Stands
reason_of (Spans k) = Value
reason_of (Unless b n) = reason_of n

-- the reason of the first need that does not hold, if one does not
abbrev pub first_failed : List Need → Option Reason
first_failed [] = None
first_failed (n ∷ ns) = pick (holds_of n) (first_failed ns) (Some (reason_of n))
