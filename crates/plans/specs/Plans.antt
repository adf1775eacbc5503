-- What each command needs, in document 01's order of reasons, what it does when all hold, and what it then replies. Document 01, "Commands", "Curve, zero and tare", "Saving, password, trade mode". What a reader must believe.
use Rattle.std.specs.Prelude.{ℕ, Bool, true, false, ◌||◌, List, [], ◌∷◌, ◌++◌, ltb, eqb, ℤ, pos, nat_abs, length, get_or}
use Rattle.cases.specs.Pick.{pick}
use Rattle.cases.specs.Tests.{all_of}
use Rattle.whole.specs.Sets.{Range as Set, Between}
use Rattle.line.specs.declared.names.Name.{Name}
use Rattle.line.specs.declared.names.Name.TheVariants as name
use Rattle.line.specs.declared.shape.Param.{Param}
use Rattle.line.specs.declared.shape.Param.TheVariants as param
use Rattle.line.specs.Param.{is_nothing, is_number, is_text, number_in, text_in}
use Rattle.weight.specs.declared.Cell.{Cell}
use Rattle.weight.specs.declared.Curve.{Curve}
use Rattle.weight.specs.declared.Tenths.{Tenths}
use Rattle.weight.specs.Weight.{as_cell, as_digits}
use Rattle.weight.specs.Sets.{cells, loads, tares}
use Rattle.weight.specs.Zero.{later_share, cleared}
use Rattle.reply.specs.Reply.{done_text}
use Rattle.state.specs.declared.Setting.{Setting}
use Rattle.state.specs.declared.Setting.TheVariants as setting
use Rattle.state.specs.declared.Sealed.{Sealed}
use Rattle.state.specs.declared.Password.{Password}
use Rattle.state.specs.declared.Unit.{Unit as TheUnit}
use Rattle.state.specs.Settings.{switches, modes, formats, set_of, put, with_cwt, with_scale, factory_of}
use Rattle.state.specs.Changes.{no_point, point_at, gated, worded, altered_of, resealed_of, freed_of, zeroed_of, pointed_of, saved_of, recalled_of, ceiling, traded_of, restarted_of}
use Rattle.weighing.specs.Reading.{cell_of, v_now, gross_now, gross_place}
use Rattle.plans.specs.Needs.{Need, Shaped, Opened, Unsealed, In, Same, Steady, Held, Shows, Tares, Share, Below, Spans, Unless}

pub record Plan : Type 0 where
  pub needs : List Need
  pub done : TheUnit
  pub text : List ℕ

abbrev pub plan : List Need → TheUnit → List ℕ → Plan
plan ns d t = record { needs = ns; done = d; text = t }

-- ---- settings
-- P S: the lock is open, LFT is 0, and the value allowed
abbrev pub marked : TheUnit → ℤ → Set → List Need
marked u z s = Opened u.unlocked ∷ Unsealed u.used.lft ∷ In z s ∷ []

abbrev pub size : Param → ℕ
size p = nat_abs (number_in p).0

-- GCA, GDE, NOV, RSN, ENU, DPT, ZSE, ZTR: with the resets
abbrev pub setting_plan : TheUnit → Setting → Param → Plan
setting_plan u k p = plan (Shaped (is_number p) ∷ marked u (number_in p).0 (set_of k)) (altered_of u (put k u.used.sealed (size p)) u.point) done_text

-- CWT waits for the next LWT
abbrev pub cwt_plan : TheUnit → Param → Plan
cwt_plan u p = plan (Shaped (is_number p) ∷ marked u (number_in p).0 loads) (resealed_of u (with_cwt u.used.sealed (size p))) done_text

-- COF, TAS, TAV are free
abbrev pub cof_plan : TheUnit → Param → Plan
cof_plan u p = plan (Shaped (is_number p) ∷ In (number_in p).0 formats ∷ []) (freed_of u (record { cof = size p; tas = u.used.free.tas; tare = u.used.free.tare })) done_text

abbrev pub tas_plan : TheUnit → Param → Plan
tas_plan u p = plan (Shaped (is_number p) ∷ In (number_in p).0 switches ∷ []) (freed_of u (record { cof = u.used.free.cof; tas = size p; tare = u.used.free.tare })) done_text

abbrev pub tares_now : TheUnit → Set
tares_now u = tares u.used.lft u.used.sealed.scale.nov

abbrev pub tav_plan : TheUnit → Param → Plan
tav_plan u p =
    plan (Shaped (is_number p) ∷ In (number_in p).0 (tares_now u) ∷ [])
    (freed_of u (record { cof = u.used.free.cof; tas = u.used.free.tas; tare = as_digits (number_in p).0 })) done_text

-- ---- the curve
-- LDW and LWT take a number, or nothing: then the reading, which must be steady
abbrev pub point_needs : TheUnit → Param → List Need
point_needs u param.Nothing = Shaped true ∷ Opened u.unlocked ∷ Unsealed u.used.lft ∷ Steady u.seen ∷ []
point_needs u param.Query = Shaped false ∷ []
point_needs u (param.Number x) = Shaped true ∷ marked u x.0 cells
point_needs u (param.Text a k) = Shaped false ∷ []

abbrev pub point_given : TheUnit → Param → Cell
point_given u param.Nothing = cell_of u.seen
point_given u param.Query = as_cell (pos 0)
point_given u (param.Number x) = as_cell x.0
point_given u (param.Text a k) = as_cell (pos 0)

-- LDW holds a waiting zero point
abbrev pub ldw_plan : TheUnit → Param → Plan
ldw_plan u p = plan (point_needs u p) (pointed_of u (point_at (point_given u p))) done_text

-- LWT uses the waiting point up as L, has W from its number or the reading, and puts the waiting CWT into use; from a reading, GCA is made equal to GDE too
abbrev pub curve_given : TheUnit → Cell → Curve
curve_given u w = record { l = u.point.at; w = w; c = u.used.sealed.cwt }

abbrev pub new_curve : Sealed → Curve → ℕ → Sealed
new_curve q k gca = with_scale q (record { curve = k; gca = gca; gde = q.scale.gde; nov = q.scale.nov; rsn = q.scale.rsn })

abbrev pub gca_given : TheUnit → Param → ℕ
gca_given u p = pick (is_nothing p) u.used.sealed.scale.gde u.used.sealed.scale.gca

abbrev pub lwt_plan : TheUnit → Param → Plan
lwt_plan u p =
    plan (point_needs u p ++ (Held u.point.held ∷ Spans (curve_given u (point_given u p)) ∷ []))
    (altered_of u (new_curve u.used.sealed (curve_given u (point_given u p)) (gca_given u p)) no_point) done_text

-- ---- zero and tare
-- TAR: the tare is now gross, and what is shown is net
abbrev pub tar_plan : TheUnit → Param → Plan
tar_plan u p =
    plan (Shaped (is_nothing p) ∷ Steady u.seen ∷ Shows (gross_place u) ∷ Tares (gross_now u).0 (tares_now u) ∷ [])
    (freed_of u (record { cof = u.used.free.cof; tas = 0; tare = gross_now u })) done_text

-- CDL sets z1 to v less z0
abbrev pub cleared_now : TheUnit → Tenths
cleared_now u = cleared (v_now u) u.zeros.z0

abbrev pub cdl_plan : TheUnit → Param → Plan
cdl_plan u p =
    plan (Shaped (is_nothing p) ∷ Steady u.seen ∷ Share (cleared_now u) (later_share u.used.lft) u.used.sealed.scale.nov ∷ [])
    (zeroed_of u (record { z0 = u.zeros.z0; z1 = cleared_now u; waits = u.zeros.waits })) done_text

-- ---- saving, password, trade mode
-- LFT with its present value has no effect; a change is counted, and the counter's end bars it but for a change to 0
abbrev pub lft_plan : TheUnit → Param → Plan
lft_plan u p =
    plan (Shaped (is_number p) ∷ Opened u.unlocked ∷ In (number_in p).0 modes ∷ Unless (eqb (size p) u.used.lft || eqb (size p) 0) (Below u.counter ceiling) ∷ [])
    (pick (eqb (size p) u.used.lft) u (traded_of u (size p))) done_text

-- TDD: 1 saves, 2 brings the saved settings back, 0 the factory's; P and S bar 0 alone, and come after the value
abbrev pub tdd_plan : TheUnit → Param → Plan
tdd_plan u p =
    plan (Shaped (is_number p) ∷ In (number_in p).0 (Between 0 2) ∷ Unless (ltb 0 (size p)) (Opened u.unlocked) ∷ Unless (ltb 0 (size p)) (Unsealed u.used.lft) ∷ [])
    (pick (eqb (size p) 0) (recalled_of u factory_of) (pick (eqb (size p) 1) (saved_of u) (recalled_of u u.saved))) done_text

-- RES restarts and replies nothing
abbrev pub res_plan : TheUnit → Param → Plan
res_plan u p = plan (Shaped (is_nothing p) ∷ []) (restarted_of u) []

-- a text as a password holds it: its length, and its first seven bytes with zeros behind
unfoldable pub word_of : List ℕ → Password
word_of t =
    record { bytes = get_or t 0 0 ∷ get_or t 1 0 ∷ get_or t 2 0 ∷ get_or t 3 0 ∷ get_or t 4 0 ∷ get_or t 5 0 ∷ get_or t 6 0 ∷ []; len = length t }

abbrev pub same_tests : Password → Password → List Bool
same_tests a b =
    eqb a.len b.len ∷ eqb (get_or a.bytes 0 0) (get_or b.bytes 0 0) ∷ eqb (get_or a.bytes 1 0) (get_or b.bytes 1 0)
    ∷ eqb (get_or a.bytes 2 0) (get_or b.bytes 2 0) ∷ eqb (get_or a.bytes 3 0) (get_or b.bytes 3 0) ∷ eqb (get_or a.bytes 4 0) (get_or b.bytes 4 0)
    ∷ eqb (get_or a.bytes 5 0) (get_or b.bytes 5 0) ∷ eqb (get_or a.bytes 6 0) (get_or b.bytes 6 0) ∷ []

unfoldable pub same_word : Password → Password → Bool
same_word a b = all_of (same_tests a b)

-- SPW: the right text unlocks
abbrev pub spw_plan : TheUnit → List ℕ → Param → Plan
spw_plan u s p = plan (Shaped (is_text p) ∷ Same (same_word (word_of (text_in p s)) u.password) ∷ []) (gated u true u.reason) done_text

-- DPW is free, takes 1 to 7 bytes and leaves the lock
abbrev pub dpw_plan : TheUnit → List ℕ → Param → Plan
dpw_plan u s p = plan (Shaped (is_text p) ∷ In (pos (length (text_in p s))) (Between 1 7) ∷ []) (worded u (word_of (text_in p s))) done_text

-- a form that the command lacks
abbrev pub lacking : TheUnit → Plan
lacking u = plan (Shaped false ∷ []) u done_text

-- ---- the table
abbrev pub command_plan : TheUnit → List ℕ → Name → Param → Plan
command_plan u s name.Gca p = setting_plan u setting.Gca p
command_plan u s name.Gde p = setting_plan u setting.Gde p
command_plan u s name.Cwt p = cwt_plan u p
command_plan u s name.Ldw p = ldw_plan u p
command_plan u s name.Lwt p = lwt_plan u p
command_plan u s name.Nov p = setting_plan u setting.Nov p
command_plan u s name.Rsn p = setting_plan u setting.Rsn p
command_plan u s name.Enu p = setting_plan u setting.Enu p
command_plan u s name.Dpt p = setting_plan u setting.Dpt p
command_plan u s name.Zse p = setting_plan u setting.Zse p
command_plan u s name.Ztr p = setting_plan u setting.Ztr p
command_plan u s name.Lft p = lft_plan u p
command_plan u s name.Cof p = cof_plan u p
command_plan u s name.Tas p = tas_plan u p
command_plan u s name.Tav p = tav_plan u p
command_plan u s name.Tar p = tar_plan u p
command_plan u s name.Cdl p = cdl_plan u p
command_plan u s name.Res p = res_plan u p
command_plan u s name.Tdd p = tdd_plan u p
command_plan u s name.Spw p = spw_plan u s p
command_plan u s name.Dpw p = dpw_plan u s p
command_plan u s name.Msv p = lacking u
command_plan u s name.Tcr p = lacking u
command_plan u s name.Esr p = lacking u
