-- Every line keeps the ranges of a unit's fields. Assumes nothing.
use Rattle.std.specs.Prelude.{◌≡◌, refl, true, false, List, [], ℕ, ◌≤◌, leb, eqb, ℤ, pos, nat_abs, length}
use Rattle.std.proofs.Common.{sym, arith}
use borrow.Author.Tests.{le-leb}
use Rattle.std.specs.Int.Signed.{non_neg}
use Rattle.cases.specs.Pick.{pick}
use Rattle.cases.specs.PickLaws.{split, never}
use Rattle.cases.specs.Tests.{all_of}
use Rattle.cases.specs.TestsLaws.{all_yes, yes_all}
use Rattle.whole.specs.Sets.{Between, Sized, has, inside}
use Rattle.whole.specs.SetsLaws.{between_yes, sized_yes, has_plus}
use Rattle.line.specs.declared.cut.Pos.{Pos}
use Rattle.line.specs.declared.names.Name.{Name}
use Rattle.line.specs.declared.names.Name.TheVariants as name
use Rattle.line.specs.declared.shape.Param.{Param}
use Rattle.line.specs.declared.shape.Param.TheVariants as param
use Rattle.line.specs.Param.{is_nothing, number_in, text_in}
use Rattle.weight.specs.declared.Cell.{Cell}
use Rattle.weight.specs.declared.Digits.{Digits}
use Rattle.weight.specs.Weight.{as_digits}
use Rattle.weight.specs.Sets.{gravities, loads, cells, tares, spans, point_tests, curve_tests}
use Rattle.weight.specs.Zero.{within_share, later_share}
use Rattle.weight.proofs.ZeroLaws.{share_small, later_share_to}
use Rattle.state.specs.declared.Setting.{Setting}
use Rattle.state.specs.declared.Setting.TheVariants as setting
use Rattle.state.specs.declared.Free.{Free}
use Rattle.state.specs.declared.Sealed.{Sealed}
use Rattle.state.specs.declared.Settings.{Settings}
use Rattle.state.specs.declared.Point.{Point}
use Rattle.weight.specs.declared.Tenths.{Tenths}
use Rattle.state.specs.declared.Unit.{Unit as TheUnit}
use Rattle.state.specs.Settings.{modes, switches, formats, set_of, with_cwt, factory_of}
use Rattle.state.specs.Changes.{no_point, point_at, grossed, in_use, altered_of, freed_of, zeroed_of, saved_of, recalled_of, traded_of}
use Rattle.state.specs.Ranged.{free_tests, free_in, zeros_tests, zeros_in, point_in, sealed_in, settings_in}
use Rattle.state.specs.RangedLaws.{Ranged}
use Rattle.state.specs.KeepLaws.{settings_in_lem, settings_parts, grossed_in, scale_made, scale_parts, scale_in_sealed, cwt_in_sealed, with_scale_in, with_cwt_in, put_in, factory_in, no_zeros_in, no_point_in, next_in, in_use_keeps, counter_in, gated_keeps, reason_kept, refused_keeps, worded_keeps, restarted_keeps}
use Rattle.weighing.specs.Reading.{cell_of, gross_now}
use Rattle.weighing.specs.RangeLaws.{scale_now, cell_now}
use Rattle.plans.specs.Needs.{reason_of}
use Rattle.plans.specs.Plans.{size, point_given, curve_given, gca_given, cleared_now, word_of, command_plan, setting_plan, lwt_plan}
use Rattle.plans.specs.Obey.{Outcome, obey_of, AllHold}
use Rattle.plans.specs.JudgeLaws.{every_line, query_by}

module _ (u : TheUnit) (h : Ranged u) where
  sealed_now : sealed_in u.used.sealed ≡ true
  sealed_now = (settings_parts u.used h.used_in).0

  mode_now : inside modes (pos u.used.lft) ≡ true
  mode_now = (settings_parts u.used h.used_in).1.0

  free_now : free_in u.used.free ≡ true
  free_now = (settings_parts u.used h.used_in).1.1

  -- sealed settings changed, with the resets
  altered : (q : Sealed) (p : Point) → sealed_in q ≡ true → point_in p ≡ true → Ranged (altered_of u q p)
  altered q p e k = in_use_keeps h _ u.saved _ p u.counter (settings_in_lem q u.used.lft (grossed u.used.free) e mode_now (grossed_in u.used.free free_now)) h.saved_in (no_zeros_in false) k (counter_in h)

  reset : (k : Setting) (q : Param) → AllHold (setting_plan u k q).needs → Ranged (setting_plan u k q).done
  reset k q n = altered _ u.point (put_in u.used.sealed (size q) sealed_now k (has_plus (set_of k) (non_neg (number_in q).0) (size q) n.1.1.1.0)) h.point_ok

  freed : (f : Free) → free_in f ≡ true → Ranged (freed_of u f)
  freed f e = in_use_keeps h _ u.saved u.zeros u.point u.counter (settings_in_lem u.used.sealed u.used.lft f sealed_now mode_now e) h.saved_in h.zeros_ok h.point_ok (counter_in h)

  free_with : (cof tas : ℕ) (t : Digits) → inside formats (pos cof) ≡ true → inside switches (pos tas) ≡ true → inside (Sized 100000) t.0 ≡ true → free_in (record { cof = cof; tas = tas; tare = t }) ≡ true
  unfolding free_in
  free_with cof tas t a b c = yes_all (free_tests (record { cof = cof; tas = tas; tare = t })) (a, (b, (c, tt)))

  free_parts : (inside formats (pos u.used.free.cof) ≡ true) × ((inside switches (pos u.used.free.tas) ≡ true) × (inside (Sized 100000) u.used.free.tare.0 ≡ true))
  unfolding free_in
  free_parts = let f = all_yes (free_tests u.used.free) free_now in (f.0, (f.1.0, f.1.1.0))

  -- a tare in its range is no wider than NOV
  tare_sized : (lft nov : ℕ) (z : ℤ) → nov ≤ 100000 → inside (tares lft nov) z ≡ true → inside (Sized 100000) z ≡ true
  tare_sized lft nov z k =
      split (λ b. has (pick b (Sized nov) (Between 0 nov)) (non_neg z) (nat_abs z) ≡ true → inside (Sized 100000) z ≡ true) (eqb lft 0)
      (λ _ e. le-leb (nat_abs z) 100000 (let l = sized_yes z nov e in omega arith))
      (λ _ e. le-leb (nat_abs z) 100000 (let l = between_yes (nat_abs z) 0 nov (has_plus (Between 0 nov) (non_neg z) (nat_abs z) e) in omega arith))

  nov_now : u.used.sealed.scale.nov ≤ 100000
  nov_now = (scale_now u h).nov_to

  pointed : (p : Point) → point_in p ≡ true → Ranged (in_use u u.used u.saved u.zeros p u.counter)
  pointed p e = in_use_keeps h u.used u.saved u.zeros p u.counter h.used_in h.saved_in h.zeros_ok e (counter_in h)

  -- the point that LDW and LWT are given is in the cell's range
  seen_cell : inside cells (cell_of u.seen).0 ≡ true
  seen_cell = le-leb (nat_abs (cell_of u.seen).0) 1599999 (cell_now u h)

  given_ldw : (q : Param) → AllHold (command_plan u [] name.Ldw q).needs → inside cells (point_given u q).0 ≡ true
  given_ldw param.Nothing n = seen_cell
  given_ldw param.Query n = refl
  given_ldw (param.Number x) n = n.1.1.1.0
  given_ldw (param.Text a k) n = refl

  given_lwt : (q : Param) → AllHold (lwt_plan u q).needs → (inside cells (point_given u q).0 ≡ true) × (spans (curve_given u (point_given u q)) ≡ true)
  given_lwt param.Nothing n = (seen_cell, n.1.1.1.1.1.0)
  given_lwt param.Query n = absurd (never (sym n.0))
  given_lwt (param.Number x) n = (n.1.1.1.0, n.1.1.1.1.1.0)
  given_lwt (param.Text a k) n = absurd (never (sym n.0))

  point_at_lem : (x : Cell) → inside cells x.0 ≡ true → point_in (point_at x) ≡ true
  unfolding point_in
  point_at_lem x e = e

  point_cell : inside cells u.point.at.0 ≡ true
  unfolding point_in
  point_cell = h.point_ok

  curve_in : (w : Cell) → inside cells w.0 ≡ true → spans (curve_given u w) ≡ true → all_of (curve_tests (curve_given u w)) ≡ true
  curve_in w e s =
      yes_all (curve_tests (curve_given u w))
      (yes_all (point_tests (curve_given u w)) (point_cell, (e, (cwt_in_sealed u.used.sealed sealed_now, tt))), (s, tt))

  gca_in : (q : Param) → inside gravities (pos (gca_given u q)) ≡ true
  gca_in q =
      let s = scale_parts u.used.sealed.scale (scale_in_sealed u.used.sealed sealed_now) in
      split (λ b. inside gravities (pos (pick b u.used.sealed.scale.gde u.used.sealed.scale.gca)) ≡ true) (is_nothing q) (λ _. s.1.1.0) (λ _. s.1.0)

  lwt : (q : Param) → AllHold (lwt_plan u q).needs → Ranged (lwt_plan u q).done
  lwt q n =
      let g = given_lwt q n in
      let s = scale_parts u.used.sealed.scale (scale_in_sealed u.used.sealed sealed_now) in
      altered _ no_point (with_scale_in u.used.sealed _ sealed_now (scale_made _ (curve_in (point_given u q) g.0 g.1) (gca_in q) s.1.1.0 s.1.1.1.0 s.1.1.1.1)) no_point_in

  recalled : (s : Settings) → settings_in s ≡ true → Ranged (recalled_of u s)
  recalled s e = in_use_keeps h s u.saved _ no_point u.counter e h.saved_in (no_zeros_in false) no_point_in (counter_in h)

  traded : (n : ℕ) → inside modes (pos n) ≡ true → Ranged (traded_of u n)
  traded n e =
      let s = settings_in_lem u.used.sealed n (grossed u.used.free) sealed_now e (grossed_in u.used.free free_now) in
      in_use_keeps h _ _ _ no_point _ s s (no_zeros_in false) no_point_in (next_in u.counter)

  kept : Ranged (saved_of u)
  kept = in_use_keeps h u.used u.used u.zeros u.point u.counter h.used_in h.used_in h.zeros_ok h.point_ok (counter_in h)

  zeros_with : (z : Tenths) → inside (Sized 200000) z.0 ≡ true → zeros_in (record { z0 = u.zeros.z0; z1 = z; waits = u.zeros.waits }) ≡ true
  unfolding zeros_in
  zeros_with z k = yes_all (zeros_tests (record { z0 = u.zeros.z0; z1 = z; waits = u.zeros.waits })) ((all_yes (zeros_tests u.zeros) h.zeros_ok).0, (k, tt))

  cleared : (z : Tenths) → within_share (later_share u.used.lft) u.used.sealed.scale.nov z ≡ true → Ranged (zeroed_of u (record { z0 = u.zeros.z0; z1 = z; waits = u.zeros.waits }))
  cleared z e = in_use_keeps h u.used u.saved _ u.point u.counter h.used_in h.saved_in (zeros_with z (le-leb (nat_abs z.0) 200000 (share_small _ _ z (later_share_to u.used.lft) nov_now e))) h.point_ok (counter_in h)

  word_short : (t : List ℕ) → inside (Between 1 7) (pos (length t)) ≡ true → leb (word_of t).len 7 ≡ true
  unfolding word_of
  word_short t e = le-leb (length t) 7 (between_yes (length t) 1 7 e).1

  command : (s : List ℕ) (n : Name) (q : Param) → AllHold (command_plan u s n q).needs → Ranged (command_plan u s n q).done
  command s name.Gca q n = reset setting.Gca q n
  command s name.Gde q n = reset setting.Gde q n
  command s name.Cwt q n =
      in_use_keeps h _ u.saved u.zeros u.point u.counter
      (settings_in_lem (with_cwt u.used.sealed (size q)) u.used.lft u.used.free (with_cwt_in u.used.sealed (size q) sealed_now (has_plus loads (non_neg (number_in q).0) (size q) n.1.1.1.0)) mode_now free_now)
      h.saved_in h.zeros_ok h.point_ok (counter_in h)
  command s name.Ldw q n = pointed _ (point_at_lem _ (given_ldw q n))
  command s name.Lwt q n = lwt q n
  command s name.Nov q n = reset setting.Nov q n
  command s name.Rsn q n = reset setting.Rsn q n
  command s name.Enu q n = reset setting.Enu q n
  command s name.Dpt q n = reset setting.Dpt q n
  command s name.Zse q n = reset setting.Zse q n
  command s name.Ztr q n = reset setting.Ztr q n
  command s name.Lft q n =
      split (λ b. Ranged (pick b u (traded_of u (size q)))) (eqb (size q) u.used.lft) (λ _. h) (λ _. traded (size q) (has_plus modes (non_neg (number_in q).0) (size q) n.1.1.0))
  command s name.Cof q n = freed _ (free_with (size q) _ _ (has_plus formats (non_neg (number_in q).0) (size q) n.1.0) free_parts.1.0 free_parts.1.1)
  command s name.Tas q n = freed _ (free_with _ (size q) _ free_parts.0 (has_plus switches (non_neg (number_in q).0) (size q) n.1.0) free_parts.1.1)
  command s name.Tav q n = freed _ (free_with _ _ (as_digits (number_in q).0) free_parts.0 free_parts.1.0 (tare_sized u.used.lft _ (number_in q).0 nov_now n.1.0))
  command s name.Tar q n = freed _ (free_with _ 0 (gross_now u) free_parts.0 refl (tare_sized u.used.lft _ (gross_now u).0 nov_now n.1.1.1.0))
  command s name.Cdl q n = cleared (cleared_now u) n.1.1.0
  command s name.Res q n = restarted_keeps h
  command s name.Tdd q n =
      split (λ b. Ranged (pick b (recalled_of u factory_of) (pick (eqb (size q) 1) (saved_of u) (recalled_of u u.saved)))) (eqb (size q) 0)
      (λ _. recalled factory_of factory_in)
      (λ _. split (λ b. Ranged (pick b (saved_of u) (recalled_of u u.saved))) (eqb (size q) 1) (λ _. kept) (λ _. recalled u.saved h.saved_in))
  command s name.Spw q n = gated_keeps h true u.reason (reason_kept h)
  command s name.Dpw q n = worded_keeps h _ (word_short (text_in q s) n.1.0)
  command s name.Msv q n = h
  command s name.Tcr q n = h
  command s name.Esr q n = h

pub obey_ranged : (u : TheUnit) (kept : List ℕ) (p : Pos) → Ranged u → Ranged (obey_of u kept p).next
obey_ranged u kept p h = every_line (λ (o : Outcome). Ranged o.next) u kept p h (λ n. refused_keeps h (reason_of n)) (query_by (λ _ v. Ranged v) u (λ _. h) (gated_keeps h u.unlocked 0 refl)) (λ s n q a. command u h s n q a)
