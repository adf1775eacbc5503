-- What changes of a unit promise to its settings, saved settings, zeros, tare and counter. Assumes nothing.
use Rattle.std.specs.Prelude.{◌≡◌, refl, false, ℕ, ◌+◌, ◌<◌, pos}
use Rattle.std.proofs.Common.{arith}
use Rattle.weight.specs.Weight.{as_tenths, as_digits}
use Rattle.state.specs.declared.Sealed.{Sealed}
use Rattle.state.specs.declared.Point.{Point}
use Rattle.state.specs.declared.Reason.{Reason}
use Rattle.state.specs.declared.Settings.{Settings}
use Rattle.state.specs.declared.Unit.{Unit as TheUnit}
use Rattle.state.specs.Changes.{altered_of, saved_of, recalled_of, traded_of, restarted_of, new_unit, refused_unit}

-- the resets: z0, z1 and tare 0, gross shown, no waiting for the first zeroing
pub record Reset (u : TheUnit) : Type 0 where
  pub first : u.zeros.z0 ≡ as_tenths (pos 0)
  pub later : u.zeros.z1 ≡ as_tenths (pos 0)
  pub tare : u.used.free.tare ≡ as_digits (pos 0)
  pub gross : u.used.free.tas ≡ 1
  pub waits : u.zeros.waits ≡ false

pub altered_resets : (u : TheUnit) (q : Sealed) (p : Point) → Reset (altered_of u q p)
altered_resets u q p = record { first = refl; later = refl; tare = refl; gross = refl; waits = refl }

-- a trade-mode change makes the resets, saves all settings, drops the waiting point and counts one, up to the counter's end
pub record Traded (u v : TheUnit) (n : ℕ) : Type 0 where
  pub reset : Reset v
  pub mode : v.used.lft ≡ n
  pub sealed : v.used.sealed ≡ u.used.sealed
  pub saved : v.saved ≡ v.used
  pub point : v.point.held ≡ false
  pub counted : u.counter < 9999999 → v.counter ≡ u.counter + 1
  pub stands : u.counter ≡ 9999999 → v.counter ≡ 9999999

pub traded_so : (u : TheUnit) (n : ℕ) → Traded u (traded_of u n) n
traded_so u n = record {
  reset = record { first = refl; later = refl; tare = refl; gross = refl; waits = refl };
  mode = refl;
  sealed = refl;
  saved = refl;
  point = refl;
  counted = λ h. omega arith;
  stands = λ h. omega arith;
}

-- a restart brings the saved settings back, with no zeros, no waiting point, no reason and the lock closed; password and counter stay
pub record Restarted (u v : TheUnit) : Type 0 where
  pub used : v.used ≡ u.saved
  pub saved : v.saved ≡ u.saved
  pub first : v.zeros.z0 ≡ as_tenths (pos 0)
  pub later : v.zeros.z1 ≡ as_tenths (pos 0)
  pub point : v.point.held ≡ false
  pub reason : v.reason ≡ 0
  pub locked : v.unlocked ≡ false
  pub password : v.password ≡ u.password
  pub counter : v.counter ≡ u.counter

pub restarted_so : (u : TheUnit) → Restarted u (restarted_of u)
restarted_so u = record { used = refl; saved = refl; first = refl; later = refl; point = refl; reason = refl; locked = refl; password = refl; counter = refl }

-- a new unit is as a restart would leave it
pub new_so : Restarted new_unit new_unit
new_so = record { used = refl; saved = refl; first = refl; later = refl; point = refl; reason = refl; locked = refl; password = refl; counter = refl }

-- a save and a recall leave password and counter
pub record Stored (u v : TheUnit) (s t : Settings) : Type 0 where
  pub used : v.used ≡ s
  pub saved : v.saved ≡ t
  pub password : v.password ≡ u.password
  pub counter : v.counter ≡ u.counter

pub saved_so : (u : TheUnit) → Stored u (saved_of u) u.used u.used
saved_so u = record { used = refl; saved = refl; password = refl; counter = refl }

pub recalled_so : (u : TheUnit) (s : Settings) → Stored u (recalled_of u s) s u.saved
recalled_so u s = record { used = refl; saved = refl; password = refl; counter = refl }

-- a refusal moves no setting, zero or counter
pub record Unmoved (u v : TheUnit) : Type 0 where
  pub used : v.used ≡ u.used
  pub saved : v.saved ≡ u.saved
  pub zeros : v.zeros ≡ u.zeros
  pub point : v.point ≡ u.point
  pub password : v.password ≡ u.password
  pub counter : v.counter ≡ u.counter

pub refused_so : (u : TheUnit) (r : Reason) → Unmoved u (refused_unit u r)
refused_so u r = record { used = refl; saved = refl; zeros = refl; point = refl; password = refl; counter = refl }
