-- What commands and events change. Document 01, "Curve, zero and tare" and "Saving, password, trade mode". What a reader must believe.
use Rattle.std.specs.Prelude.{ℕ, ◌+◌, min, Bool, true, false, not, ◌&&◌, List, [], ◌∷◌, ltb, eqb, pos}
use Rattle.line.specs.declared.cut.Pos.{Pos}
use Rattle.line.specs.Line.{none_kept, fresh_pos}
use Rattle.weight.specs.declared.Cell.{Cell}
use Rattle.weight.specs.Weight.{as_cell, as_tenths, as_digits}
use Rattle.state.specs.declared.Seen.{Seen}
use Rattle.state.specs.declared.Seen.TheVariants as seen
use Rattle.state.specs.declared.Sealed.{Sealed}
use Rattle.state.specs.declared.Free.{Free}
use Rattle.state.specs.declared.Settings.{Settings}
use Rattle.state.specs.declared.Zeros.{Zeros}
use Rattle.state.specs.declared.Point.{Point}
use Rattle.state.specs.declared.Password.{Password}
use Rattle.state.specs.declared.Unit.{Unit as TheUnit}
use Rattle.state.specs.declared.Reason.{Reason}
use Rattle.state.specs.Reasons.{number_of}
use Rattle.state.specs.Settings.{factory_of}

-- ---- small values
abbrev pub no_zeros : Bool → Zeros
no_zeros waits = record { z0 = as_tenths (pos 0); z1 = as_tenths (pos 0); waits = waits }

abbrev pub no_point : Point
no_point = record { held = false; at = as_cell (pos 0) }

abbrev pub point_at : Cell → Point
point_at x = record { held = true; at = x }

-- AED
abbrev pub factory_word : Password
factory_word = record { bytes = 65 ∷ 69 ∷ 68 ∷ 0 ∷ 0 ∷ 0 ∷ 0 ∷ []; len = 3 }

-- gross shown, tare 0
abbrev pub grossed : Free → Free
grossed f = record { cof = f.cof; tas = 1; tare = as_digits (pos 0) }

abbrev pub with_free : Settings → Free → Settings
with_free s f = record { sealed = s.sealed; lft = s.lft; free = f }

abbrev pub with_sealed : Settings → Sealed → Settings
with_sealed s q = record { sealed = q; lft = s.lft; free = s.free }

-- ---- the wide builders: each gives some fields anew and keeps the others
abbrev pub in_use : TheUnit → Settings → Settings → Zeros → Point → ℕ → TheUnit
in_use u s t z p c =
    record { kept = u.kept; pos = u.pos; used = s; saved = t; zeros = z; seen = u.seen; point = p; unlocked = u.unlocked; password = u.password; counter = c; reason = u.reason }

abbrev pub gated : TheUnit → Bool → ℕ → TheUnit
gated u b n =
    record { kept = u.kept; pos = u.pos; used = u.used; saved = u.saved; zeros = u.zeros; seen = u.seen; point = u.point; unlocked = b; password = u.password; counter = u.counter; reason = n }

abbrev pub sighted : TheUnit → Seen → Zeros → TheUnit
sighted u s z =
    record { kept = u.kept; pos = u.pos; used = u.used; saved = u.saved; zeros = z; seen = s; point = u.point; unlocked = u.unlocked; password = u.password; counter = u.counter; reason = u.reason }

abbrev pub lined : TheUnit → List ℕ → Pos → TheUnit
lined u k p =
    record { kept = k; pos = p; used = u.used; saved = u.saved; zeros = u.zeros; seen = u.seen; point = u.point; unlocked = u.unlocked; password = u.password; counter = u.counter; reason = u.reason }

abbrev pub worded : TheUnit → Password → TheUnit
worded u w =
    record { kept = u.kept; pos = u.pos; used = u.used; saved = u.saved; zeros = u.zeros; seen = u.seen; point = u.point; unlocked = u.unlocked; password = w; counter = u.counter; reason = u.reason }

-- ---- changes of the settings
-- the resets: sealed settings changed, z0, z1 and tare 0, gross shown, no waiting for the first zeroing
abbrev pub altered_of : TheUnit → Sealed → Point → TheUnit
altered_of u q p = in_use u (record { sealed = q; lft = u.used.lft; free = grossed u.used.free }) u.saved (no_zeros false) p u.counter

-- changes with no reset: CWT, the free settings, the zeros, the waiting point
abbrev pub resealed_of : TheUnit → Sealed → TheUnit
resealed_of u q = in_use u (with_sealed u.used q) u.saved u.zeros u.point u.counter

abbrev pub freed_of : TheUnit → Free → TheUnit
freed_of u f = in_use u (with_free u.used f) u.saved u.zeros u.point u.counter

abbrev pub zeroed_of : TheUnit → Zeros → TheUnit
zeroed_of u z = in_use u u.used u.saved z u.point u.counter

abbrev pub pointed_of : TheUnit → Point → TheUnit
pointed_of u p = in_use u u.used u.saved u.zeros p u.counter

-- TDD1: all settings are saved
abbrev pub saved_of : TheUnit → TheUnit
saved_of u = in_use u u.used u.used u.zeros u.point u.counter

-- TDD0 and TDD2: other settings in use, z0 and z1 0, no waiting point, no waiting first zeroing
abbrev pub recalled_of : TheUnit → Settings → TheUnit
recalled_of u s = in_use u s u.saved (no_zeros false) no_point u.counter

-- the counter's end, and one change more
abbrev pub ceiling : ℕ
ceiling = 9999999

abbrev pub next_count : ℕ → ℕ
next_count c = min (c + 1) ceiling

-- LFT becomes n: counted, no waiting point, the resets, then all settings saved
abbrev pub traded_of : TheUnit → ℕ → TheUnit
traded_of u n =
    let s : Settings = record { sealed = u.used.sealed; lft = n; free = grossed u.used.free } in
    in_use u s s (no_zeros false) no_point (next_count u.counter)

-- ---- restarts
-- a unit that starts: these settings in use and saved, z0 and z1 0, no line, reading, reason or waiting point, locked
abbrev pub started_of : Settings → Password → ℕ → Bool → TheUnit
started_of s w c waits =
    record { kept = none_kept; pos = fresh_pos; used = s; saved = s; zeros = no_zeros waits; seen = seen.Nothing; point = no_point; unlocked = false; password = w; counter = c; reason = 0 }

-- a restart: the saved settings come back; password and counter stay; the first zeroing waits where ZSE > 0
abbrev pub restarted_of : TheUnit → TheUnit
restarted_of u = started_of u.saved u.password u.counter (ltb 0 u.saved.sealed.zse)

-- a new unit: as if restarted from factory settings
abbrev pub new_unit : TheUnit
new_unit = started_of factory_of factory_word 0 false

-- ---- refusals: the reason's number and nothing else, but that 11 locks
abbrev pub refused_unit : TheUnit → Reason → TheUnit
refused_unit u r = gated u (not (eqb (number_of r) 11) && u.unlocked) (number_of r)
