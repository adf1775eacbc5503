-- Each line has one of the five effects of specs/Effects; and what a refusal does. Assumes nothing.
use Rattle.std.specs.Prelude.{◌≡◌, refl, Bool, true, false, ◌||◌, List, ℕ, eqb, ltb, take}
use Rattle.std.proofs.Common.{sym, arith, eqb-true, ne_eqb, ltb-true}
use Rattle.std.proofs.lemmas.Bool.{eqb-false}
use Rattle.cases.specs.Pick.{pick}
use Rattle.cases.specs.PickLaws.{split, never}
use Rattle.line.specs.declared.cut.Pos.{Pos}
use Rattle.line.specs.declared.names.Name.{Name}
use Rattle.line.specs.declared.names.Name.TheVariants as name
use Rattle.line.specs.declared.shape.Param.{Param}
use Rattle.line.specs.declared.shape.Param.TheVariants as param
use Rattle.line.specs.Shape.{shape_of, Shape}
use Rattle.state.specs.declared.Unit.{Unit as TheUnit}
use Rattle.state.specs.Settings.{factory_of}
use Rattle.state.specs.Changes.{ceiling, saved_of, recalled_of, traded_of}
use Rattle.plans.specs.Effects.{store_of, Effect, keeps, alters, recalls, saves, trades}
use Rattle.plans.specs.Plans.{size, command_plan, lwt_plan}
use Rattle.plans.specs.Kinds.{Kind, plain, saving, trading, kind_done, is_refusal, kind_line}
use Rattle.plans.specs.Obey.{Outcome, obey_of, AllHold}
use Rattle.plans.specs.JudgeLaws.{line_by, query_by}
use Rattle.plans.specs.Answers.{query_other, command_other, other_not}

abbrev Of : TheUnit → TheUnit → Kind → Type 0
Of u v k = Effect (store_of u) (store_of v) k

stands : (u : TheUnit) → Of u u plain
stands u = keeps refl refl refl refl

unsealed : (lft : ℕ) → eqb lft 0 ≡ true → lft ≡ 0
unsealed lft e = eqb-true lft 0 e

third : (a b c : Bool) → (a || b) || c ≡ true → a ≡ false → b ≡ false → c ≡ true
third a b c h e f = cc

module _ (u : TheUnit) where
  lwt : (q : Param) → AllHold (lwt_plan u q).needs → Of u (lwt_plan u q).done plain
  lwt param.Nothing n = let z = unsealed u.used.lft n.1.1.0 in alters z z refl refl
  lwt param.Query n = absurd (never (sym n.0))
  lwt (param.Number x) n = let z = unsealed u.used.lft n.1.1.0 in alters z z refl refl
  lwt (param.Text a k) n = absurd (never (sym n.0))

  lft : (n : ℕ) → ((eqb n u.used.lft || eqb n 0) || ltb u.counter ceiling) ≡ true → Of u (pick (eqb n u.used.lft) u (traded_of u n)) (pick (eqb n u.used.lft) plain trading)
  lft n h =
      split (λ b. eqb n u.used.lft ≡ b → Of u (pick b u (traded_of u n)) (pick b plain trading)) (eqb n u.used.lft)
      (λ e k. stands u)
      (λ e k. trades (eqb-false n u.used.lft e) refl refl refl (λ l. ltb-true u.counter ceiling (third _ _ _ h e (ne_eqb n 0 (λ z. absurd (omega arith)))))) refl

  tdd : (n : ℕ) → (ltb 0 n || eqb u.used.lft 0) ≡ true →
      Of u (pick (eqb n 0) (recalled_of u factory_of) (pick (eqb n 1) (saved_of u) (recalled_of u u.saved))) (pick (eqb n 1) saving plain)
  tdd n h =
      split (λ b. eqb n 0 ≡ b → Of u (pick b (recalled_of u factory_of) (pick (eqb n 1) (saved_of u) (recalled_of u u.saved))) (pick (eqb n 1) saving plain)) (eqb n 0)
      (λ e k. let z : n ≡ 0 = eqb-true n 0 e in rw z (alters (unsealed u.used.lft (rw z at h)) refl refl refl))
      (λ e k. split (λ b. Of u (pick b (saved_of u) (recalled_of u u.saved)) (pick b saving plain)) (eqb n 1) (λ _. saves refl refl refl) (λ _. recalls refl refl refl)) refl

  command : (s : List ℕ) (n : Name) (q : Param) → AllHold (command_plan u s n q).needs → Of u (command_plan u s n q).done (kind_done u.used.lft n q)
  command s name.Gca q n = let z = unsealed u.used.lft n.1.1.0 in alters z z refl refl
  command s name.Gde q n = let z = unsealed u.used.lft n.1.1.0 in alters z z refl refl
  command s name.Cwt q n = let z = unsealed u.used.lft n.1.1.0 in alters z z refl refl
  command s name.Ldw q n = stands u
  command s name.Lwt q n = lwt q n
  command s name.Nov q n = let z = unsealed u.used.lft n.1.1.0 in alters z z refl refl
  command s name.Rsn q n = let z = unsealed u.used.lft n.1.1.0 in alters z z refl refl
  command s name.Enu q n = let z = unsealed u.used.lft n.1.1.0 in alters z z refl refl
  command s name.Dpt q n = let z = unsealed u.used.lft n.1.1.0 in alters z z refl refl
  command s name.Zse q n = let z = unsealed u.used.lft n.1.1.0 in alters z z refl refl
  command s name.Ztr q n = let z = unsealed u.used.lft n.1.1.0 in alters z z refl refl
  command s name.Lft q n = lft (size q) n.1.1.1.0
  command s name.Cof q n = keeps refl refl refl refl
  command s name.Tas q n = keeps refl refl refl refl
  command s name.Tav q n = keeps refl refl refl refl
  command s name.Tar q n = keeps refl refl refl refl
  command s name.Cdl q n = stands u
  command s name.Res q n = recalls refl refl refl
  command s name.Tdd q n = tdd (size q) n.1.1.1.0
  command s name.Spw q n = keeps refl refl refl refl
  command s name.Dpw q n = keeps refl refl refl refl
  command s name.Msv q n = stands u
  command s name.Tcr q n = stands u
  command s name.Esr q n = stands u

-- each line has the effect of its kind
pub effect : (u : TheUnit) (kept : List ℕ) (p : Pos) →
    Effect (store_of u) (store_of (obey_of u kept p).next) (kind_line u.used.lft (shape_of (take p.len kept)) (obey_of u kept p).text)
unfolding is_refusal
effect u kept p =
    line_by (λ (x : Shape) (o : Outcome). Effect (store_of u) (store_of o.next) (kind_line u.used.lft x o.text)) u
    (λ x n. keeps refl refl refl refl)
    (λ n q e h. rw (other_not _ (query_other u n), e) (query_by (λ _ v. Of u v plain) u (λ _. stands u) (keeps refl refl refl refl) n))
    (λ s n q e h. rw (other_not _ (command_other u s n q), e) (command u s n q h))
    kept p (stands u)
