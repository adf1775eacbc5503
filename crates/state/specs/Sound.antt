-- The joint rules of a unit: no tare and no zero outside its band, and the saved LFT is LFT. Document 01, "Curve, zero and tare" and "Saving, password, trade mode". What a reader must believe.
use Rattle.std.specs.Prelude.{◌≡◌, Bool, true, List, [], ◌∷◌, eqb}
use Rattle.cases.specs.Tests.{all_of}
use Rattle.whole.specs.Sets.{inside}
use Rattle.weight.specs.Sets.{tares}
use Rattle.weight.specs.Zero.{within_share, later_share, first_share}
use Rattle.state.specs.declared.Settings.{Settings}
use Rattle.state.specs.declared.Zeros.{Zeros}
use Rattle.state.specs.declared.Unit.{Unit as TheUnit}
use Rattle.state.specs.Ranged.{ranged_of}

-- the tare is in its range
abbrev pub tare_in : Settings → Bool
tare_in s = inside (tares s.lft s.sealed.scale.nov) s.free.tare.0

-- z0 is within the first zeroing's share, z1 within CDL's band
abbrev pub first_in : Settings → Zeros → Bool
first_in s z = within_share (first_share s.sealed.zse) s.sealed.scale.nov z.z0

abbrev pub later_in : Settings → Zeros → Bool
later_in s z = within_share (later_share s.lft) s.sealed.scale.nov z.z1

-- the bands: tare in use and saved in their ranges, z0 and z1 within their shares; and the saved LFT is the one in use
pub record Banded (s t : Settings) (z : Zeros) : Type 0 where
  pub tare_used : tare_in s ≡ true
  pub tare_saved : tare_in t ≡ true
  pub first_ok : first_in s z ≡ true
  pub later_ok : later_in s z ≡ true
  pub lft_saved : t.lft ≡ s.lft

abbrev pub BandedOf : TheUnit → Type 0
BandedOf u = Banded u.used u.saved u.zeros

abbrev pub sound_tests : TheUnit → List Bool
sound_tests u = ranged_of u ∷ tare_in u.used ∷ tare_in u.saved ∷ first_in u.used u.zeros ∷ later_in u.used u.zeros ∷ eqb u.saved.lft u.used.lft ∷ []

unfoldable pub sound_of : TheUnit → Bool
sound_of u = all_of (sound_tests u)
