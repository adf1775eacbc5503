-- Every line keeps a unit sound: no zero and no tare outside its band. Assumes nothing.
use Rattle.std.specs.Prelude.{◌≡◌, refl, true, false, ◌||◌, List, ℕ, eqb, ltb}
use Rattle.std.proofs.Common.{◌∙◌, eqb-true}
use Rattle.cases.specs.Pick.{pick}
use Rattle.cases.specs.PickLaws.{split}
use Rattle.line.specs.declared.cut.Pos.{Pos}
use Rattle.line.specs.declared.names.Name.{Name}
use Rattle.line.specs.declared.names.Name.TheVariants as name
use Rattle.line.specs.declared.shape.Param.{Param}
use Rattle.weight.specs.declared.Digits.{Digits}
use Rattle.state.specs.declared.Unit.{Unit as TheUnit}
use Rattle.state.specs.Settings.{factory_of}
use Rattle.state.specs.Changes.{saved_of, recalled_of, traded_of}
use Rattle.state.specs.Sound.{tare_in, sound_of, Banded, BandedOf}
use Rattle.state.proofs.SoundLaws.{sound_yes, yes_sound, zero_tare, reset_banded, recalled_banded, restarted_banded}
use Rattle.plans.specs.Plans.{size, command_plan}
use Rattle.plans.specs.Obey.{Outcome, obey_of, AllHold}
use Rattle.plans.specs.JudgeLaws.{every_line, query_by}
use Rattle.plans.proofs.Keeps.{obey_ranged}

module _ (u : TheUnit) (b : BandedOf u) where
  -- another tare in its range
  tared : (cof tas : ℕ) (t : Digits) → tare_in (record { sealed = u.used.sealed; lft = u.used.lft; free = record { cof = cof; tas = tas; tare = t } }) ≡ true →
      Banded (record { sealed = u.used.sealed; lft = u.used.lft; free = record { cof = cof; tas = tas; tare = t } }) u.saved u.zeros
  tared cof tas t e = record { tare_used = e; tare_saved = b.tare_saved; first_ok = b.first_ok; later_ok = b.later_ok; lft_saved = b.lft_saved }

  traded : (n : ℕ) → BandedOf (traded_of u n)
  traded n = reset_banded _ _ false refl (zero_tare n u.used.sealed.scale.nov) refl

  tdd : (n : ℕ) → (ltb 0 n || eqb u.used.lft 0) ≡ true → BandedOf (pick (eqb n 0) (recalled_of u factory_of) (pick (eqb n 1) (saved_of u) (recalled_of u u.saved)))
  tdd n h =
      split (λ t. eqb n 0 ≡ t → BandedOf (pick t (recalled_of u factory_of) (pick (eqb n 1) (saved_of u) (recalled_of u u.saved)))) (eqb n 0)
      (λ e k. let z : n ≡ 0 = eqb-true n 0 e in reset_banded factory_of u.saved false refl b.tare_saved (b.lft_saved ∙ eqb-true u.used.lft 0 (rw z at h)))
      (λ e k. split (λ t. BandedOf (pick t (saved_of u) (recalled_of u u.saved))) (eqb n 1)
      (λ _. record { tare_used = b.tare_used; tare_saved = b.tare_used; first_ok = b.first_ok; later_ok = b.later_ok; lft_saved = refl })
      (λ _. recalled_banded u.saved u.saved false b.tare_saved b.tare_saved refl)) refl

  command : (s : List ℕ) (n : Name) (q : Param) → AllHold (command_plan u s n q).needs → BandedOf (command_plan u s n q).done
  command s name.Gca q n = reset_banded _ _ _ refl b.tare_saved b.lft_saved
  command s name.Gde q n = reset_banded _ _ _ refl b.tare_saved b.lft_saved
  command s name.Cwt q n = record { tare_used = b.tare_used; tare_saved = b.tare_saved; first_ok = b.first_ok; later_ok = b.later_ok; lft_saved = b.lft_saved }
  command s name.Ldw q n = b
  command s name.Lwt q n = reset_banded _ _ _ refl b.tare_saved b.lft_saved
  command s name.Nov q n = reset_banded _ _ _ refl b.tare_saved b.lft_saved
  command s name.Rsn q n = reset_banded _ _ _ refl b.tare_saved b.lft_saved
  command s name.Enu q n = reset_banded _ _ _ refl b.tare_saved b.lft_saved
  command s name.Dpt q n = reset_banded _ _ _ refl b.tare_saved b.lft_saved
  command s name.Zse q n = reset_banded _ _ _ refl b.tare_saved b.lft_saved
  command s name.Ztr q n = reset_banded _ _ _ refl b.tare_saved b.lft_saved
  command s name.Lft q n = split (λ t. BandedOf (pick t u (traded_of u (size q)))) (eqb (size q) u.used.lft) (λ _. b) (λ _. traded (size q))
  command s name.Cof q n = tared _ _ _ b.tare_used
  command s name.Tas q n = tared _ _ _ b.tare_used
  command s name.Tav q n = tared _ _ _ n.1.0
  command s name.Tar q n = tared _ _ _ n.1.1.1.0
  command s name.Cdl q n = record { tare_used = b.tare_used; tare_saved = b.tare_saved; first_ok = b.first_ok; later_ok = n.1.1.0; lft_saved = b.lft_saved }
  command s name.Res q n = restarted_banded u b
  command s name.Tdd q n = tdd (size q) n.1.1.1.0
  command s name.Spw q n = b
  command s name.Dpw q n = b
  command s name.Msv q n = b
  command s name.Tcr q n = b
  command s name.Esr q n = b

pub obey_sound : (u : TheUnit) (kept : List ℕ) (p : Pos) → sound_of u ≡ true → sound_of (obey_of u kept p).next ≡ true
obey_sound u kept p e =
    let h = sound_yes u e in
    yes_sound (obey_of u kept p).next (obey_ranged u kept p h.0)
    (every_line (λ (o : Outcome). BandedOf o.next) u kept p h.1 (λ n. h.1) (query_by (λ _ v. BandedOf v) u (λ _. h.1) h.1) (λ s n q a. command u h.1 s n q a))
