-- The weights of a ranged unit, as the arithmetic's contracts ask for them; and what over and under are judged by. Assumes nothing.
use Rattle.std.specs.Prelude.{◌≡◌, refl, Bool, true, ◌≤◌, ℤ, nat_abs}
use Rattle.std.proofs.Common.{arith, le-leb, lit≤}
use Rattle.whole.specs.SetsLaws.{sized_yes}
use Rattle.weight.specs.declared.Place.{Place}
use Rattle.weight.specs.declared.Place.TheVariants as place
use Rattle.weight.specs.Weight.{as_cell}
use Rattle.weight.specs.Ranges.{ScaleIn, tenths_most, above_to, gross_to}
use Rattle.weight.specs.Display.{cell_place}
use Rattle.weight.specs.DisplayLaws.{cell_within}
use Rattle.state.specs.declared.Seen.{Seen}
use Rattle.state.specs.declared.Seen.TheVariants as seen
use Rattle.state.specs.declared.Free.{Free}
use Rattle.state.specs.declared.Unit.{Unit as TheUnit}
use Rattle.state.specs.Changes.{freed_of}
use Rattle.state.specs.Ranged.{seen_in}
use Rattle.state.specs.RangedLaws.{Ranged, scale_of, tare_of, zeros_of}
use Rattle.weighing.specs.Reading.{seen_at, seen_of, cell_of, v_now, g_now, gross_now, place_now}
use Rattle.weighing.specs.Samples.{seeing}

-- a sample as it is held is in the cell's range
held_in : (p : Place) (x : ℤ) (still : Bool) → (p ≡ place.Within → nat_abs x ≤ 1599999) → seen_in (seen_at p (as_cell x) still) ≡ true
unfolding seen_in
held_in place.Within x still f = le-leb (nat_abs x) 1599999 (f refl)
held_in place.Over x still f = refl
held_in place.Under x still f = refl

pub seen_ok : (x : ℤ) (still : Bool) → seen_in (seen_of x still) ≡ true
seen_ok x still = held_in (cell_place x) x still (cell_within x)

pub cell_in : (s : Seen) → seen_in s ≡ true → nat_abs (cell_of s).0 ≤ 1599999
unfolding seen_in
cell_in seen.Nothing e = lit≤ tt
cell_in seen.Over e = lit≤ tt
cell_in seen.Under e = lit≤ tt
cell_in (seen.Number x still) e = sized_yes x.0 1599999 e

-- seeing a sample keeps the ranges
pub seeing_ranged : (u : TheUnit) (x : ℤ) (still : Bool) → Ranged u → Ranged (seeing u x still)
seeing_ranged u x still h =
    record { used_in = h.used_in; saved_in = h.saved_in; zeros_ok = h.zeros_ok; point_ok = h.point_ok; seen_ok = seen_ok x still; lock_ok = h.lock_ok }

module _ (u : TheUnit) (h : Ranged u) where
  pub scale_now : ScaleIn u.used.sealed.scale
  scale_now = scale_of u.used h.used_in

  pub cell_now : nat_abs (cell_of u.seen).0 ≤ 1599999
  cell_now = cell_in u.seen h.seen_ok

  pub zeros_now_lem : (nat_abs u.zeros.z0.0 ≤ 200000) × (nat_abs u.zeros.z1.0 ≤ 200000)
  zeros_now_lem = zeros_of u.zeros h.zeros_ok

  pub tare_now : nat_abs u.used.free.tare.0 ≤ 100000
  tare_now = tare_of u.used h.used_in

  pub v_now_lem : nat_abs (v_now u).0 ≤ 391917360
  unfolding v_now
  v_now_lem = tenths_most u.used.sealed.scale scale_now (cell_of u.seen) cell_now

  pub g_now_lem : nat_abs (g_now u).0 ≤ 392317360
  g_now_lem = let z = zeros_now_lem in omega (arith, above_to (v_now u) u.zeros.z0 u.zeros.z1, v_now_lem)

  pub gross_now_lem : nat_abs (gross_now u).0 ≤ 39231761
  unfolding gross_now
  gross_now_lem = let s = scale_now in omega (arith, gross_to u.used.sealed.scale.rsn (g_now u) s.rsn_from, g_now_lem)

-- over and under are judged on gross: whatever TAS and the tare are, a unit's place is the same
pub placed_by_gross : (u : TheUnit) (f : Free) → place_now (freed_of u f) ≡ place_now u
unfolding v_now gross_now
placed_by_gross u f = refl
