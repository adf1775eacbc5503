-- What reaches a unit, the machine that document 01 describes, and a host's calls of the public operations. What a reader must believe.
use Rattle.std.specs.Prelude.{◌≡◌, Bool, List, [], ◌∷◌, ◌++◌, ℕ, ◌-◌, ◌<◌, ◌≤◌, ℤ, length, take, drop}
use Rattle.cases.specs.Run.{room_of}
use Rattle.line.specs.Line.{is_end, moved_of}
use Rattle.line.specs.Shape.{shape_of, Shape}
use Rattle.reply.specs.Reply.{ROOM}
use Rattle.state.specs.declared.Unit.{Unit as TheUnit}
use Rattle.state.specs.Changes.{new_unit, restarted_of}
use Rattle.weighing.specs.Samples.{sample_of}
use Rattle.plans.specs.Plans.{Plan}
use Rattle.plans.specs.Obey.{line_plan}
use Rattle.serving.specs.declared.Taken.{Taken}
use Rattle.serving.specs.Step.{step_next, step_text}
use Rattle.serving.specs.Machine.{taken_of}
use Rattle.wire.specs.Wire.{sampled, restarted, block_of}

-- a new unit
abbrev pub New : TheUnit → Type 0
New u = u ≡ new_unit

-- ---- the machine: bytes, samples and restarts in, replies and units out
pub data Event : Type 0 where
  byte : ℕ → Event
  sample : ℤ → Bool → Event
  power : Event

abbrev pub next : TheUnit → Event → TheUnit
next u (byte b) = step_next u b
next u (sample x still) = sample_of u x still
next u power = restarted_of u

abbrev pub reply : TheUnit → Event → List ℕ
reply u (byte b) = step_text u b
reply u (sample x still) = []
reply u power = []

-- the unit after some events, and all replies to them, one after the other
unfoldable pub after : TheUnit → List Event → TheUnit
after u [] = u
after u (e ∷ es) = after (next u e) es

unfoldable pub replies : TheUnit → List Event → List ℕ
replies u [] = []
replies u (e ∷ es) = reply u e ++ replies (next u e) es

abbrev pub bytes : List ℕ → List Event
bytes [] = []
bytes (b ∷ s) = byte b ∷ bytes s

-- ---- the line that a unit holds
-- a byte is its end mark
abbrev pub ends : TheUnit → ℕ → Bool
ends u b = is_end (moved_of u.pos b).act

-- the bytes it kept, and their shape
abbrev pub line : TheUnit → List ℕ
line u = take u.pos.len u.kept

abbrev pub shape : TheUnit → Shape
shape u = shape_of (line u)

-- what it asks for: its needs in document 01's order, what is done where they hold, and the reply then
abbrev pub plan : TheUnit → Plan
plan u = line_plan u (line u) u.pos.long

-- ---- a host's calls, each with the results that came back: a block with its room before and after, a sample, a restart
pub data Call : Type 0 where
  Took : (block room : List ℕ) → Taken → (room' : List ℕ) → Call
  Sampled : ℤ → Bool → TheUnit → Call
  Restarted : TheUnit → Call

-- what the operation's contract says of them
abbrev pub Allowed : TheUnit → Call → Type 0
Allowed u (Took s m r m') = (r ≡ taken_of (block_of u (length m) s)) × (m' ≡ room_of (block_of u (length m) s) m)
Allowed u (Sampled x still v) = v ≡ sampled u x still
Allowed u (Restarted v) = v ≡ restarted u

-- each call is made with the unit that the one before it handed back
abbrev pub handed : Call → TheUnit
handed (Took s m r m') = r.next
handed (Sampled x still v) = v
handed (Restarted v) = v

abbrev pub Calls : TheUnit → List Call → Type 0
Calls u [] = Unit {0}
Calls u (c ∷ cs) = Allowed u c × Calls (handed c) cs

-- the unit after them
abbrev pub last : TheUnit → List Call → TheUnit
last u [] = u
last u (c ∷ cs) = last (handed c) cs

-- the events that a call was: of a block the bytes taken
abbrev pub events : Call → List Event
events (Took s m r m') = bytes (take r.taken s)
events (Sampled x still v) = sample x still ∷ []
events (Restarted v) = power ∷ []

abbrev pub all_events : List Call → List Event
all_events [] = []
all_events (c ∷ cs) = events c ++ all_events cs

-- ---- what the machine says of a call
pub record Right (u : TheUnit) (s m : List ℕ) (r : Taken) (m' : List ℕ) : Type 0 where
  -- unit and replies are those of the bytes taken
  pub unit : r.next ≡ after u (bytes (take r.taken s))
  pub written : r.written ≡ length (replies u (bytes (take r.taken s)))
  pub replied : take r.written m' ≡ replies u (bytes (take r.taken s))
  -- all other room keeps its bytes
  pub others : drop r.written m' ≡ drop r.written m
  pub room : length m' ≡ length m
  -- before a byte that is taken ROOM bytes are free, and before one that is left they are not
  pub most : r.taken ≤ length s
  pub free : (k : ℕ) → k < r.taken → ROOM ≤ length m - length (replies u (bytes (take k s)))
  pub full : r.taken < length s → length m - r.written < ROOM

abbrev pub Served : TheUnit → Call → Type 0
Served u (Took s m r m') = Right u s m r m'
Served u (Sampled x still v) = v ≡ next u (sample x still)
Served u (Restarted v) = v ≡ next u power

-- each call is served by the machine as it stands after the events of all calls before it
abbrev pub AllServed : TheUnit → List Call → Type 0
AllServed u [] = Unit {0}
AllServed u (c ∷ cs) = Served u c × AllServed (after u (events c)) cs
