-- What a done line does to the reason that stands. Assumes nothing.
use Rattle.std.specs.Prelude.{◌≡◌, refl, List, ℕ, eqb, take}
use Rattle.std.proofs.Common.{ap}
use Rattle.cases.specs.Pick.{pick}
use Rattle.cases.specs.PickLaws.{split}
use Rattle.line.specs.declared.names.Name.{Name}
use Rattle.line.specs.declared.names.Name.TheVariants as name
use Rattle.line.specs.declared.shape.Param.{Param}
use Rattle.line.specs.declared.cut.Pos.{Pos}
use Rattle.line.specs.Shape.{shape_of, Shape, calls}
use Rattle.reply.specs.Reply.{refused_text}
use Rattle.state.specs.declared.Unit.{Unit as TheUnit}
use Rattle.state.specs.Settings.{factory_of}
use Rattle.state.specs.Changes.{saved_of, recalled_of, traded_of}
use Rattle.plans.specs.Plans.{size, command_plan}
use Rattle.plans.specs.Obey.{Outcome, obey_of}
use Rattle.plans.specs.JudgeLaws.{line_by, query_by}

-- a done command leaves the reason as it was; RES restarts, which clears it
pub reason_left : (u : TheUnit) (s : List ℕ) (n : Name) (q : Param) → (n ≡ name.Res → ⊥) → (command_plan u s n q).done.reason ≡ u.reason
reason_left u s name.Gca q e = refl
reason_left u s name.Gde q e = refl
reason_left u s name.Cwt q e = refl
reason_left u s name.Ldw q e = refl
reason_left u s name.Lwt q e = refl
reason_left u s name.Nov q e = refl
reason_left u s name.Rsn q e = refl
reason_left u s name.Enu q e = refl
reason_left u s name.Dpt q e = refl
reason_left u s name.Zse q e = refl
reason_left u s name.Ztr q e = refl
reason_left u s name.Lft q e = split (λ b. (pick b u (traded_of u (size q))).reason ≡ u.reason) (eqb (size q) u.used.lft) (λ _. refl) (λ _. refl)
reason_left u s name.Cof q e = refl
reason_left u s name.Tas q e = refl
reason_left u s name.Tav q e = refl
reason_left u s name.Tar q e = refl
reason_left u s name.Cdl q e = refl
reason_left u s name.Res q e = absurd (e refl)
reason_left u s name.Tdd q e =
    split (λ b. (pick b (recalled_of u factory_of) (pick (eqb (size q) 1) (saved_of u) (recalled_of u u.saved))).reason ≡ u.reason) (eqb (size q) 0) (λ _. refl)
    (λ _. split (λ b. (pick b (saved_of u) (recalled_of u u.saved)).reason ≡ u.reason) (eqb (size q) 1) (λ _. refl) (λ _. refl))
reason_left u s name.Spw q e = refl
reason_left u s name.Dpw q e = refl
reason_left u s name.Msv q e = refl
reason_left u s name.Tcr q e = refl
reason_left u s name.Esr q e = refl

-- a line that is done leaves the reason, but for ESR? and RES
pub reason_stays : (u : TheUnit) (kept : List ℕ) (p : Pos) →
    ((obey_of u kept p).text ≡ refused_text → ⊥) →
    ((q : Param) → shape_of (take p.len kept) ≡ calls name.Esr q → ⊥) →
    ((q : Param) → shape_of (take p.len kept) ≡ calls name.Res q → ⊥) →
    (obey_of u kept p).next.reason ≡ u.reason
reason_stays u kept p =
    line_by (λ (x : Shape) (o : Outcome).
    (o.text ≡ refused_text → ⊥) → ((q : Param) → x ≡ calls name.Esr q → ⊥) → ((q : Param) → x ≡ calls name.Res q → ⊥) → o.next.reason ≡ u.reason) u
    (λ x n a b c. absurd (a refl))
    (λ n q e h a b c. query_by (λ m v. (m ≡ name.Esr → ⊥) → v.reason ≡ u.reason) u (λ _ _. refl) (λ z. absurd (z refl)) n (λ z. b q (ap (λ (m : Name). calls m q) z)))
    (λ s n q e h a b c. reason_left u s n q (λ z. c q (ap (λ (m : Name). calls m q) z)))
    kept p (λ a b c. refl)
