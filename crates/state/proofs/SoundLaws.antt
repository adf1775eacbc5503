-- A sound unit's rules as facts, and the builders that keep them. Assumes nothing.
use Rattle.std.specs.Prelude.{◌≡◌, refl, Bool, true, false, ℕ, eqb, pos}
use Rattle.std.proofs.Common.{eqb-true, eq-eqb}
use Rattle.std.proofs.Math.Dec.{leb-zero}
use Rattle.cases.specs.Pick.{pick}
use Rattle.cases.specs.PickLaws.{split}
use Rattle.cases.specs.TestsLaws.{all_yes, yes_all}
use Rattle.whole.specs.Sets.{Between, Sized, has, inside}
use Rattle.weight.specs.Weight.{as_digits}
use Rattle.weight.specs.Sets.{tares}
use Rattle.weight.proofs.ZeroLaws.{zero_within}
use Rattle.state.specs.declared.Settings.{Settings}
use Rattle.state.specs.declared.Unit.{Unit as TheUnit}
use Rattle.state.specs.Settings.{factory_of}
use Rattle.state.specs.Changes.{no_zeros, new_unit, restarted_of}
use Rattle.state.specs.RangedLaws.{Ranged, ranged_yes, yes_ranged}
use Rattle.state.specs.KeepLaws.{new_ranged, restarted_keeps}
use Rattle.state.specs.Sound.{Banded, BandedOf, tare_in, sound_tests, sound_of}

pub sound_yes : (u : TheUnit) → sound_of u ≡ true → Ranged u × BandedOf u
unfolding sound_of
sound_yes u e =
    let h = all_yes (sound_tests u) e in
    (ranged_yes u h.0, record { tare_used = h.1.0; tare_saved = h.1.1.0; first_ok = h.1.1.1.0; later_ok = h.1.1.1.1.0; lft_saved = eqb-true _ _ h.1.1.1.1.1.0 })

pub yes_sound : (u : TheUnit) → Ranged u → BandedOf u → sound_of u ≡ true
unfolding sound_of
yes_sound u r b = yes_all (sound_tests u) (yes_ranged r, (b.tare_used, (b.tare_saved, (b.first_ok, (b.later_ok, (eq-eqb _ _ b.lft_saved, tt))))))

-- no tare lies in each range
pub zero_tare : (lft nov : ℕ) → inside (tares lft nov) (pos 0) ≡ true
zero_tare lft nov = split (λ b. has (pick b (Sized nov) (Between 0 nov)) true 0 ≡ true) (eqb lft 0) (λ _. leb-zero nov) (λ _. rw (leb-zero nov))

-- gross shown, tare 0, no zeros
pub reset_banded : (s t : Settings) (b : Bool) → s.free.tare ≡ as_digits (pos 0) → tare_in t ≡ true → t.lft ≡ s.lft → Banded s t (no_zeros b)
reset_banded s t b e k l = record { tare_used = rw e (zero_tare s.lft s.sealed.scale.nov); tare_saved = k; first_ok = zero_within _ _; later_ok = zero_within _ _; lft_saved = l }

-- settings in use with no zeros
pub recalled_banded : (s t : Settings) (b : Bool) → tare_in s ≡ true → tare_in t ≡ true → t.lft ≡ s.lft → Banded s t (no_zeros b)
recalled_banded s t b e k l = record { tare_used = e; tare_saved = k; first_ok = zero_within _ _; later_ok = zero_within _ _; lft_saved = l }

pub new_banded : BandedOf new_unit
new_banded = reset_banded factory_of factory_of false refl (zero_tare 0 3000) refl

pub restarted_banded : (u : TheUnit) → BandedOf u → BandedOf (restarted_of u)
restarted_banded u h = recalled_banded u.saved u.saved _ h.tare_saved h.tare_saved refl

-- a new unit is sound, and a restart keeps soundness
pub new_sound : sound_of new_unit ≡ true
new_sound = yes_sound new_unit new_ranged new_banded

pub restarted_sound : (u : TheUnit) → sound_of u ≡ true → sound_of (restarted_of u) ≡ true
restarted_sound u e = let h = sound_yes u e in yes_sound (restarted_of u) (restarted_keeps h.0) (restarted_banded u h.1)
