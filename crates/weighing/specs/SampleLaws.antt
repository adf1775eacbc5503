-- Samples keep the ranges and the bands; and what the first zeroing and tracking do. Assumes nothing.
use Rattle.std.specs.Prelude.{◌≡◌, Bool, true, false, ℤ, ◌+ℤ◌}
use Rattle.std.proofs.Common.{le-leb}
use Rattle.cases.specs.Pick.{pick}
use Rattle.cases.specs.PickLaws.{split}
use Rattle.cases.specs.TestsLaws.{yes_all}
use Rattle.weight.specs.Zero.{within_share, later_share, first_share}
use Rattle.weight.proofs.ZeroLaws.{share_small, first_share_to, later_share_to, first_within, tracked_within}
use Rattle.weight.specs.DisplayLaws.{net_and_tare}
use Rattle.state.specs.declared.Unit.{Unit as TheUnit}
use Rattle.state.specs.Ranged.{zeros_tests, zeros_in}
use Rattle.state.specs.RangedLaws.{Ranged}
use Rattle.state.specs.KeepLaws.{in_use_keeps, counter_in}
use Rattle.state.specs.Sound.{first_in, later_in, sound_of, BandedOf}
use Rattle.state.proofs.SoundLaws.{sound_yes, yes_sound}
use Rattle.weighing.specs.Reading.{steady_of, seen_of, gross_now, net_now}
use Rattle.weighing.specs.Samples.{seeing, tries, first_now, tracks_now, tracked_now, zeros_now, zeroing, sample_of}
use Rattle.weighing.specs.RangeLaws.{scale_now, seeing_ranged}

module _ (u : TheUnit) (b : BandedOf u) where
  first_band : first_in u.used (zeros_now u) ≡ true
  unfolding first_now
  first_band =
      split (λ t. within_share (first_share u.used.sealed.zse) u.used.sealed.scale.nov (pick t (first_now u) u.zeros.z0) ≡ true) (tries u)
      (λ _. first_within u.used.sealed.zse u.used.sealed.scale.nov _) (λ _. b.first_ok)

  later_band : later_in u.used (zeros_now u) ≡ true
  unfolding tracked_now
  later_band =
      split (λ t. within_share (later_share u.used.lft) u.used.sealed.scale.nov (pick t (tracked_now u) u.zeros.z1) ≡ true) (tracks_now u)
      (λ _. tracked_within u.used.lft u.used.sealed.scale.rsn u.used.sealed.scale.nov u.zeros.z1 _ b.later_ok) (λ _. b.later_ok)

  zeroing_banded : BandedOf (zeroing u)
  zeroing_banded = record { tare_used = b.tare_used; tare_saved = b.tare_saved; first_ok = first_band; later_ok = later_band; lft_saved = b.lft_saved }

  zeroing_ranged : Ranged u → Ranged (zeroing u)
  unfolding zeros_in
  zeroing_ranged h =
      let nov = (scale_now u h).nov_to in
      in_use_keeps h u.used u.saved (zeros_now u) u.point u.counter h.used_in h.saved_in
      (yes_all (zeros_tests (zeros_now u))
      (le-leb _ 200000 (share_small _ _ (zeros_now u).z0 (first_share_to u.used.sealed.zse) nov first_band), (le-leb _ 200000 (share_small _ _ (zeros_now u).z1 (later_share_to u.used.lft) nov later_band), tt)))
      h.point_ok (counter_in h)

-- a sample keeps a unit sound
pub sampled_sound : (u : TheUnit) (x : ℤ) (still : Bool) → sound_of u ≡ true → sound_of (sample_of u x still) ≡ true
sampled_sound u x still e =
    let h = sound_yes u e in
    let r = seeing_ranged u x still h.0 in
    yes_sound (sample_of u x still) (zeroing_ranged (seeing u x still) h.1 r) (zeroing_banded (seeing u x still) h.1)

-- the first zeroing has a single try: after a steady sample it waits no more
pub one_try : (u : TheUnit) (x : ℤ) (still : Bool) → steady_of (seen_of x still) ≡ true → (sample_of u x still).zeros.waits ≡ false
one_try u x still e = rw e

-- a sample that is not steady moves no zero
pub unsteady_stays : (u : TheUnit) (x : ℤ) (still : Bool) → steady_of (seen_of x still) ≡ false → (sample_of u x still).zeros ≡ u.zeros
unsteady_stays u x still e = rw e

-- net and tare are gross, to the digit
pub net_now_lem : (u : TheUnit) → (net_now u).0 +ℤ u.used.free.tare.0 ≡ (gross_now u).0
net_now_lem u = net_and_tare (gross_now u) u.used.free.tare
