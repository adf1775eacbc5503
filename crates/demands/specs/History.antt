-- The words of demand 3: accepted saves and trade-mode changes, how many there were, and the settings straight after the last one. What a reader must believe.
use Rattle.std.specs.Prelude.{◌≡◌, List, [], ◌∷◌, ℕ, ◌+◌, ◌<◌}
use Rattle.cases.specs.Pick.{pick}
use Rattle.state.specs.declared.Settings.{Settings}
use Rattle.state.specs.declared.Unit.{Unit as TheUnit}
use Rattle.plans.specs.Kinds.{Kind, plain, saving, trading, kind_line}
use Rattle.demands.specs.Host.{Event, byte, sample, power, next, reply, ends, shape}

-- what an event is: a line at its end mark counts by its shape and its reply, all else is neither
abbrev pub kind_of : TheUnit → Event → Kind
kind_of u (byte b) = pick (ends u b) (kind_line u.used.lft (shape u) (reply u (byte b))) plain
kind_of u (sample x still) = plain
kind_of u power = plain

-- 1 for a trade-mode change
abbrev pub counted : Kind → ℕ
counted plain = 0
counted saving = 0
counted trading = 1

-- the trade-mode changes accepted
unfoldable pub changes : TheUnit → List Event → ℕ
changes u [] = 0
changes u (e ∷ es) = counted (kind_of u e) + changes (next u e) es

-- the settings to remember: those in use straight after a save or a trade-mode change, else the ones remembered so far
abbrev pub remembered : Kind → Settings → Settings → Settings
remembered plain used before = before
remembered saving used before = used
remembered trading used before = used

unfoldable pub last_saved : Settings → TheUnit → List Event → Settings
last_saved before u [] = before
last_saved before u (e ∷ es) = last_saved (remembered (kind_of u e) (next u e).used before) (next u e) es

-- no accepted save or trade-mode change
abbrev pub Quiet : TheUnit → List Event → Type 0
Quiet u [] = Unit {0}
Quiet u (e ∷ es) = (kind_of u e ≡ plain) × Quiet (next u e) es

-- the unit is sealed
abbrev pub IsSealed : TheUnit → Type 0
IsSealed u = 0 < u.used.lft
