-- What a unit within its ranges has, as facts that the arithmetic's contracts ask for. Assumes nothing.
use Rattle.std.specs.Prelude.{◌≡◌, true, ◌≤◌, nat_abs}
use Rattle.cases.specs.TestsLaws.{all_yes, yes_all}
use Rattle.whole.specs.SetsLaws.{sized_yes}
use Rattle.weight.specs.Ranges.{ScaleIn}
use Rattle.weight.specs.SetsLaws.{scale_in_lem}
use Rattle.state.specs.declared.Settings.{Settings}
use Rattle.state.specs.declared.Zeros.{Zeros}
use Rattle.state.specs.declared.Point.{Point}
use Rattle.state.specs.declared.Unit.{Unit as TheUnit}
use Rattle.state.specs.Ranged.{sealed_tests, sealed_in, free_tests, free_in, settings_tests, settings_in, zeros_tests, zeros_in, point_in, seen_in, lock_in, ranged_tests, ranged_of}

-- the groups of a ranged unit
pub record Ranged (u : TheUnit) : Type 0 where
  pub used_in : settings_in u.used ≡ true
  pub saved_in : settings_in u.saved ≡ true
  pub zeros_ok : zeros_in u.zeros ≡ true
  pub point_ok : point_in u.point ≡ true
  pub seen_ok : seen_in u.seen ≡ true
  pub lock_ok : lock_in u.counter u.reason u.password ≡ true

pub ranged_yes : (u : TheUnit) → ranged_of u ≡ true → Ranged u
unfolding ranged_of
ranged_yes u e =
    let h = all_yes (ranged_tests u) e in
    record { used_in = h.0; saved_in = h.1.0; zeros_ok = h.1.1.0; point_ok = h.1.1.1.0; seen_ok = h.1.1.1.1.0; lock_ok = h.1.1.1.1.1.0 }

pub yes_ranged : {u : TheUnit} → Ranged u → ranged_of u ≡ true
unfolding ranged_of
yes_ranged {u} h = yes_all (ranged_tests u) (h.used_in, (h.saved_in, (h.zeros_ok, (h.point_ok, (h.seen_ok, (h.lock_ok, tt))))))

-- ---- what the arithmetic asks for
settings_parts : (s : Settings) → settings_in s ≡ true → (sealed_in s.sealed ≡ true) × (free_in s.free ≡ true)
unfolding settings_in
settings_parts s e = let h = all_yes (settings_tests s) e in (h.0, h.1.1.0)

pub scale_of : (s : Settings) → settings_in s ≡ true → ScaleIn s.sealed.scale
unfolding sealed_in
scale_of s e = scale_in_lem s.sealed.scale (all_yes (sealed_tests s.sealed) (settings_parts s e).0).0

pub tare_of : (s : Settings) → settings_in s ≡ true → nat_abs s.free.tare.0 ≤ 100000
unfolding free_in
tare_of s e = sized_yes s.free.tare.0 100000 (all_yes (free_tests s.free) (settings_parts s e).1).1.1.0

pub zeros_of : (z : Zeros) → zeros_in z ≡ true → (nat_abs z.z0.0 ≤ 200000) × (nat_abs z.z1.0 ≤ 200000)
unfolding zeros_in
zeros_of z e = let h = all_yes (zeros_tests z) e in (sized_yes z.z0.0 200000 h.0, sized_yes z.z1.0 200000 h.1.0)

pub point_of : (p : Point) → point_in p ≡ true → nat_abs p.at.0 ≤ 1599999
unfolding point_in
point_of p e = sized_yes p.at.0 1599999 e
