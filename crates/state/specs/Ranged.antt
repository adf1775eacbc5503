-- The ranges that a unit's fields lie in: all that the arithmetic needs, and what a public operation tests. What a reader must believe.
-- A unit by value can hold any numbers; every unit that is reached is within these (docs/DECISIONS.md, decision 3).
use Rattle.std.specs.Prelude.{ℕ, Bool, true, List, [], ◌∷◌, leb, pos}
use Rattle.cases.specs.Tests.{all_of}
use Rattle.whole.specs.Sets.{Sized, inside}
use Rattle.weight.specs.Sets.{cells, loads, scale_in}
use Rattle.state.specs.declared.Seen.{Seen}
use Rattle.state.specs.declared.Seen.TheVariants as seen
use Rattle.state.specs.declared.Sealed.{Sealed}
use Rattle.state.specs.declared.Free.{Free}
use Rattle.state.specs.declared.Settings.{Settings}
use Rattle.state.specs.declared.Zeros.{Zeros}
use Rattle.state.specs.declared.Point.{Point}
use Rattle.state.specs.declared.Password.{Password}
use Rattle.state.specs.declared.Unit.{Unit as TheUnit}
use Rattle.state.specs.Settings.{codes, switches, modes, formats}
use Rattle.state.specs.Changes.{ceiling}

abbrev pub sealed_tests : Sealed → List Bool
sealed_tests q =
    scale_in q.scale ∷ inside loads (pos q.cwt) ∷ inside codes (pos q.enu) ∷ inside codes (pos q.dpt) ∷ inside codes (pos q.zse) ∷ inside switches (pos q.ztr) ∷ []

unfoldable pub sealed_in : Sealed → Bool
sealed_in q = all_of (sealed_tests q)

-- no tare is wider than the largest NOV
abbrev pub free_tests : Free → List Bool
free_tests f = inside formats (pos f.cof) ∷ inside switches (pos f.tas) ∷ inside (Sized 100000) f.tare.0 ∷ []

unfoldable pub free_in : Free → Bool
free_in f = all_of (free_tests f)

abbrev pub settings_tests : Settings → List Bool
settings_tests s = sealed_in s.sealed ∷ inside modes (pos s.lft) ∷ free_in s.free ∷ []

unfoldable pub settings_in : Settings → Bool
settings_in s = all_of (settings_tests s)

-- no zero is wider than 20 % of the largest NOV
abbrev pub zeros_tests : Zeros → List Bool
zeros_tests z = inside (Sized 200000) z.z0.0 ∷ inside (Sized 200000) z.z1.0 ∷ []

unfoldable pub zeros_in : Zeros → Bool
zeros_in z = all_of (zeros_tests z)

unfoldable pub point_in : Point → Bool
point_in p = inside cells p.at.0

unfoldable pub seen_in : Seen → Bool
seen_in seen.Nothing = true
seen_in seen.Over = true
seen_in seen.Under = true
seen_in (seen.Number x still) = inside cells x.0

-- the counter, the reason's number and the password's length
abbrev pub lock_tests : ℕ → ℕ → Password → List Bool
lock_tests counter reason w = leb counter ceiling ∷ leb reason 11 ∷ leb w.len 7 ∷ []

unfoldable pub lock_in : ℕ → ℕ → Password → Bool
lock_in counter reason w = all_of (lock_tests counter reason w)

abbrev pub ranged_tests : TheUnit → List Bool
ranged_tests u =
    settings_in u.used ∷ settings_in u.saved ∷ zeros_in u.zeros ∷ point_in u.point ∷ seen_in u.seen ∷ lock_in u.counter u.reason u.password ∷ []

unfoldable pub ranged_of : TheUnit → Bool
ranged_of u = all_of (ranged_tests u)
