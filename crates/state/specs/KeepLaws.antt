-- The ranges are kept by the changes: one law for each builder. Assumes nothing.
use Rattle.std.specs.Prelude.{◌≡◌, Bool, true, false, ℕ, ◌+◌, min, leb, pos}
use Rattle.std.proofs.Math.Path.{refl}
use Rattle.std.proofs.Common.{arith, le-leb}
use Rattle.cases.specs.Tests.{all_of}
use Rattle.cases.specs.TestsLaws.{all_yes, yes_all}
use Rattle.whole.specs.Sets.{inside}
use Rattle.weight.specs.declared.Scale.{Scale}
use Rattle.weight.specs.Sets.{gravities, loads, nominals, steps, spans, scale_tests, scale_in, curve_tests}
use Rattle.state.specs.declared.Setting.{Setting}
use Rattle.state.specs.declared.Setting.TheVariants.{Gca, Gde, Nov, Rsn, Enu, Dpt, Zse, Ztr}
use Rattle.state.specs.declared.Reason.{Reason}
use Rattle.state.specs.declared.Reason.TheVariants.{None, Long, Form, Unknown, Locked, Barred, Value, Differs, Unsteady, Pointless, Range, Stands}
use Rattle.state.specs.declared.Sealed.{Sealed}
use Rattle.state.specs.declared.Free.{Free}
use Rattle.state.specs.declared.Settings.{Settings}
use Rattle.state.specs.declared.Zeros.{Zeros}
use Rattle.state.specs.declared.Point.{Point}
use Rattle.state.specs.declared.Password.{Password}
use Rattle.state.specs.declared.Unit.{Unit as TheUnit}
use Rattle.state.specs.Reasons.{number_of}
use Rattle.state.specs.Settings.{modes, set_of, put, scale_with, with_scale, with_cwt, factory_of}
use Rattle.state.specs.Changes.{no_zeros, no_point, grossed, ceiling, next_count, in_use, gated, worded, new_unit, restarted_of, refused_unit}
use Rattle.state.specs.Ranged.{sealed_tests, sealed_in, free_tests, free_in, settings_tests, settings_in, zeros_in, point_in, seen_in, lock_tests, lock_in}
use Rattle.state.specs.RangedLaws.{Ranged}

-- ---- settings
pub settings_in_lem : (q : Sealed) (n : ℕ) (f : Free) → sealed_in q ≡ true → inside modes (pos n) ≡ true → free_in f ≡ true → settings_in (record { sealed = q; lft = n; free = f }) ≡ true
unfolding settings_in
settings_in_lem q n f a b c = yes_all (settings_tests (record { sealed = q; lft = n; free = f })) (a, (b, (c, tt)))

pub settings_parts : (s : Settings) → settings_in s ≡ true → (sealed_in s.sealed ≡ true) × ((inside modes (pos s.lft) ≡ true) × (free_in s.free ≡ true))
unfolding settings_in
settings_parts s e = let h = all_yes (settings_tests s) e in (h.0, (h.1.0, h.1.1.0))

-- gross shown, tare 0
pub grossed_in : (f : Free) → free_in f ≡ true → free_in (grossed f) ≡ true
unfolding free_in
grossed_in f e = yes_all (free_tests (grossed f)) ((all_yes (free_tests f) e).0, (refl, (refl, tt)))

-- a scale with one value changed
pub scale_made : (s : Scale) → all_of (curve_tests s.curve) ≡ true → inside gravities (pos s.gca) ≡ true → inside gravities (pos s.gde) ≡ true →
    inside nominals (pos s.nov) ≡ true → inside steps (pos s.rsn) ≡ true → scale_in s ≡ true
unfolding scale_in
scale_made s k a d n r = yes_all (scale_tests s) (k, (a, (d, (n, (r, tt)))))

pub scale_parts : (s : Scale) → scale_in s ≡ true → (all_of (curve_tests s.curve) ≡ true) × ((inside gravities (pos s.gca) ≡ true) × ((inside gravities (pos s.gde) ≡ true) × ((inside nominals (pos s.nov) ≡ true) × (inside steps (pos s.rsn) ≡ true))))
unfolding scale_in
scale_parts s e = let h = all_yes (scale_tests s) e in (h.0, (h.1.0, (h.1.1.0, (h.1.1.1.0, h.1.1.1.1.0))))

pub with_scale_in : (q : Sealed) (s : Scale) → sealed_in q ≡ true → scale_in s ≡ true → sealed_in (with_scale q s) ≡ true
unfolding sealed_in
with_scale_in q s e k = yes_all (sealed_tests (with_scale q s)) (k, (all_yes (sealed_tests q) e).1)

pub scale_in_sealed : (q : Sealed) → sealed_in q ≡ true → scale_in q.scale ≡ true
unfolding sealed_in
scale_in_sealed q e = (all_yes (sealed_tests q) e).0

pub cwt_in_sealed : (q : Sealed) → sealed_in q ≡ true → inside loads (pos q.cwt) ≡ true
unfolding sealed_in
cwt_in_sealed q e = (all_yes (sealed_tests q) e).1.0

pub with_cwt_in : (q : Sealed) (n : ℕ) → sealed_in q ≡ true → inside loads (pos n) ≡ true → sealed_in (with_cwt q n) ≡ true
unfolding sealed_in
with_cwt_in q n e k = let h = all_yes (sealed_tests q) e in yes_all (sealed_tests (with_cwt q n)) (h.0, (k, h.1.1))

-- a setting changed to a value of its set
module _ (q : Sealed) (n : ℕ) (e : sealed_in q ≡ true) where
  scaled : (s : Scale) → scale_in s ≡ true → sealed_in (with_scale q s) ≡ true
  scaled s k = with_scale_in q s e k

  pub put_in : (k : Setting) → inside (set_of k) (pos n) ≡ true → sealed_in (put k q n) ≡ true
  unfolding sealed_in
  put_in Gca v = let h = scale_parts q.scale (all_yes (sealed_tests q) e).0 in scaled _ (scale_made (scale_with q.scale n q.scale.gde q.scale.nov q.scale.rsn) h.0 v h.1.1.0 h.1.1.1.0 h.1.1.1.1)
  put_in Gde v = let h = scale_parts q.scale (all_yes (sealed_tests q) e).0 in scaled _ (scale_made (scale_with q.scale q.scale.gca n q.scale.nov q.scale.rsn) h.0 h.1.0 v h.1.1.1.0 h.1.1.1.1)
  put_in Nov v = let h = scale_parts q.scale (all_yes (sealed_tests q) e).0 in scaled _ (scale_made (scale_with q.scale q.scale.gca q.scale.gde n q.scale.rsn) h.0 h.1.0 h.1.1.0 v h.1.1.1.1)
  put_in Rsn v = let h = scale_parts q.scale (all_yes (sealed_tests q) e).0 in scaled _ (scale_made (scale_with q.scale q.scale.gca q.scale.gde q.scale.nov n) h.0 h.1.0 h.1.1.0 h.1.1.1.0 v)
  put_in Enu v = let h = all_yes (sealed_tests q) e in yes_all (sealed_tests (put Enu q n)) (h.0, (h.1.0, (v, (h.1.1.1.0, (h.1.1.1.1.0, (h.1.1.1.1.1.0, tt))))))
  put_in Dpt v = let h = all_yes (sealed_tests q) e in yes_all (sealed_tests (put Dpt q n)) (h.0, (h.1.0, (h.1.1.0, (v, (h.1.1.1.1.0, (h.1.1.1.1.1.0, tt))))))
  put_in Zse v = let h = all_yes (sealed_tests q) e in yes_all (sealed_tests (put Zse q n)) (h.0, (h.1.0, (h.1.1.0, (h.1.1.1.0, (v, (h.1.1.1.1.1.0, tt))))))
  put_in Ztr v = let h = all_yes (sealed_tests q) e in yes_all (sealed_tests (put Ztr q n)) (h.0, (h.1.0, (h.1.1.0, (h.1.1.1.0, (h.1.1.1.1.0, (v, tt))))))

pub factory_in : settings_in factory_of ≡ true
unfolding settings_in sealed_in free_in scale_in spans
factory_in = refl

pub no_zeros_in : (b : Bool) → zeros_in (no_zeros b) ≡ true
unfolding zeros_in
no_zeros_in b = refl

pub no_point_in : point_in no_point ≡ true
unfolding point_in
no_point_in = refl

-- ---- lock, reason and counter
lock_parts : (c r : ℕ) (w : Password) → lock_in c r w ≡ true → (leb c ceiling ≡ true) × ((leb r 11 ≡ true) × (leb w.len 7 ≡ true))
unfolding lock_in
lock_parts c r w e = let h = all_yes (lock_tests c r w) e in (h.0, (h.1.0, h.1.1.0))

lock_made : (c r : ℕ) (w : Password) → leb c ceiling ≡ true → leb r 11 ≡ true → leb w.len 7 ≡ true → lock_in c r w ≡ true
unfolding lock_in
lock_made c r w a b d = yes_all (lock_tests c r w) (a, (b, (d, tt)))

reason_in : (r : Reason) → leb (number_of r) 11 ≡ true
reason_in None = refl
reason_in Long = refl
reason_in Form = refl
reason_in Unknown = refl
reason_in Locked = refl
reason_in Barred = refl
reason_in Value = refl
reason_in Differs = refl
reason_in Unsteady = refl
reason_in Pointless = refl
reason_in Range = refl
reason_in Stands = refl

pub next_in : (c : ℕ) → leb (next_count c) ceiling ≡ true
next_in c = le-leb (min (c + 1) 9999999) 9999999 (omega arith)

-- ---- the builders
module _ {u : TheUnit} (h : Ranged u) where
  pub in_use_keeps : (s t : Settings) (z : Zeros) (p : Point) (c : ℕ) → settings_in s ≡ true → settings_in t ≡ true → zeros_in z ≡ true → point_in p ≡ true → leb c ceiling ≡ true → Ranged (in_use u s t z p c)
  in_use_keeps s t z p c hs ht hz hp hc =
      let l = lock_parts u.counter u.reason u.password h.lock_ok in
      record { used_in = hs; saved_in = ht; zeros_ok = hz; point_ok = hp; seen_ok = h.seen_ok; lock_ok = lock_made c u.reason u.password hc l.1.0 l.1.1 }

  pub counter_in : leb u.counter ceiling ≡ true
  counter_in = (lock_parts u.counter u.reason u.password h.lock_ok).0

  pub gated_keeps : (b : Bool) (r : ℕ) → leb r 11 ≡ true → Ranged (gated u b r)
  gated_keeps b r e =
      let l = lock_parts u.counter u.reason u.password h.lock_ok in
      record { used_in = h.used_in; saved_in = h.saved_in; zeros_ok = h.zeros_ok; point_ok = h.point_ok; seen_ok = h.seen_ok; lock_ok = lock_made u.counter r u.password l.0 e l.1.1 }

  pub reason_kept : leb u.reason 11 ≡ true
  reason_kept = (lock_parts u.counter u.reason u.password h.lock_ok).1.0

  pub refused_keeps : (r : Reason) → Ranged (refused_unit u r)
  refused_keeps r = gated_keeps _ (number_of r) (reason_in r)

  pub worded_keeps : (w : Password) → leb w.len 7 ≡ true → Ranged (worded u w)
  worded_keeps w e =
      let l = lock_parts u.counter u.reason u.password h.lock_ok in
      record { used_in = h.used_in; saved_in = h.saved_in; zeros_ok = h.zeros_ok; point_ok = h.point_ok; seen_ok = h.seen_ok; lock_ok = lock_made u.counter u.reason w l.0 l.1.0 e }

  pub restarted_keeps : Ranged (restarted_of u)
  unfolding seen_in
  restarted_keeps =
      let l = lock_parts u.counter u.reason u.password h.lock_ok in
      record { used_in = h.saved_in; saved_in = h.saved_in; zeros_ok = no_zeros_in _; point_ok = no_point_in; seen_ok = refl; lock_ok = lock_made u.counter 0 u.password l.0 refl l.1.1 }

pub new_ranged : Ranged new_unit
unfolding seen_in lock_in
new_ranged = record { used_in = factory_in; saved_in = factory_in; zeros_ok = no_zeros_in false; point_ok = no_point_in; seen_ok = refl; lock_ok = refl }
