-- What a line does to the settings in use, the saved ones and the counter, as one of five effects.
use Rattle.std.specs.Prelude.{◌≡◌, ℕ, min, ◌+◌, ◌<◌}
use Rattle.state.specs.declared.Settings.{Settings}
use Rattle.state.specs.declared.Unit.{Unit as TheUnit}
use Rattle.state.specs.Changes.{ceiling}
use Rattle.plans.specs.Kinds.{Kind, plain, saving, trading}

-- the settings in use, the saved ones and the counter of a unit
pub record Store : Type 0 where
  pub used : Settings
  pub saved : Settings
  pub counter : ℕ

abbrev pub store_of : TheUnit → Store
store_of u = record { used = u.used; saved = u.saved; counter = u.counter }

pub data Effect (s t : Store) : Kind → Type 0 where
  -- sealed settings, LFT, saved settings and counter stand
  keeps : t.used.sealed ≡ s.used.sealed → t.used.lft ≡ s.used.lft → t.saved ≡ s.saved → t.counter ≡ s.counter → Effect s t plain
  -- settings change at LFT 0, which stays
  alters : s.used.lft ≡ 0 → t.used.lft ≡ 0 → t.saved ≡ s.saved → t.counter ≡ s.counter → Effect s t plain
  -- the saved settings come back
  recalls : t.used ≡ s.saved → t.saved ≡ s.saved → t.counter ≡ s.counter → Effect s t plain
  -- all settings are saved
  saves : t.used ≡ s.used → t.saved ≡ s.used → t.counter ≡ s.counter → Effect s t saving
  -- LFT changes, and all settings are saved; where it seals, the counter was not at its end
  trades : (t.used.lft ≡ s.used.lft → ⊥) → t.used.sealed ≡ s.used.sealed → t.saved ≡ t.used → t.counter ≡ min (s.counter + 1) ceiling → (0 < t.used.lft → s.counter < ceiling) → Effect s t trading
