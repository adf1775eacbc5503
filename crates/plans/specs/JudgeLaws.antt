-- Laws of a command's needs, for every list of them: which refusal a line meets, or that it is done; and what holds of it either way. Assumes nothing.
use Rattle.std.specs.Prelude.{Some, None, ◌≡◌, refl, Bool, true, false, ℕ, eqb, take, Ok, Err}
use Rattle.std.proofs.Common.{sym, ap, ◌∙◌, inl, inr}
use mathlib.Core.List.{List, [], ◌∷◌}
use Rattle.std.proofs.lemmas.Option.{none-some}
use Rattle.cases.specs.Pick.{pick}
use borrow.Author.Tests.{eqb-true, ne_eqb}
use Rattle.cases.specs.PickLaws.{split, never}
use Rattle.line.specs.declared.cut.Pos.{Pos}
use Rattle.line.specs.declared.names.Name.{Name}
use Rattle.line.specs.declared.shape.Param.{Param}
use Rattle.line.specs.declared.shape.Fault.TheVariants as fault
use Rattle.line.specs.Param.{is_query}
use Rattle.line.specs.Shape.{shape_of, Shape, calls}
use Rattle.state.specs.declared.Unit.{Unit as TheUnit}
use Rattle.line.specs.declared.names.Name.TheVariants as name
use Rattle.state.specs.Reasons.{passes_of}
use Rattle.state.specs.Changes.{gated}
use Rattle.plans.specs.Needs.{Need, Fits, Shaped, Known, Opened, Unsealed, In, Same, Steady, Sampled, Held, Shows, Tares, Share, Below, Spans, Unless, holds_of, reason_of, first_failed}
use Rattle.plans.specs.Plans.{Plan, command_plan}
use Rattle.plans.specs.Queries.{query_plan}
use Rattle.plans.specs.Obey.{AllHold, done_of, Why, Outcome, refused_of, settled_of, judge, refusing, served_plan, shape_plan, line_plan, obey_of}

-- no need's reason passes
pub bars : (n : Need) → passes_of (reason_of n) ≡ false
bars (Fits b) = refl
bars (Shaped b) = refl
bars (Known b) = refl
bars (Opened b) = refl
bars (Unsealed lft) = refl
bars (In z s) = refl
bars (Same b) = refl
bars (Steady s) = refl
bars (Sampled s) = refl
bars (Held b) = refl
bars (Shows p) = refl
bars (Tares z s) = refl
bars (Share z p nov) = refl
bars (Below n top) = refl
bars (Spans k) = refl
bars (Unless b n) = bars n

-- a need that fails bars the command by its reason
pub barred : (n : Need) (ns : List Need) → holds_of n ≡ false → first_failed (n ∷ ns) ≡ Some (reason_of n)
barred n ns h = rw h

further : {u : TheUnit} {d o : Outcome} {n : Need} {ns : List Need} → holds_of n ≡ true → Why u ns d o → Why u (n ∷ ns) d o
further h (inl p) = inl ((h, p.0), p.1)
further {n = n} h (inr w) =
    inr (record {
      before = n ∷ w.before;
      failing = w.failing;
      after = w.after;
      all = ap (λ (l : List Need). n ∷ l) w.all;
      hold = (h, w.hold);
      fails = w.fails;
      outcome = w.outcome;
    })

why_settled : (u : TheUnit) (p : Plan) (ns : List Need) → Why u ns (done_of p) (settled_of u p (first_failed ns))
why_settled u p [] = inl (tt, refl)
why_settled u p (n ∷ ns) =
    split (λ b. holds_of n ≡ b → Why u (n ∷ ns) (done_of p) (settled_of u p (pick b (first_failed ns) (Some (reason_of n))))) (holds_of n)
    (λ h e. further h (why_settled u p ns))
    (λ h e. inr (record { before = []; failing = n; after = ns; all = refl; hold = tt; fails = h; outcome = refl })) refl

-- where all needs hold the plan is done
all_pass : (u : TheUnit) (p : Plan) (ns : List Need) → AllHold ns → settled_of u p (first_failed ns) ≡ done_of p
all_pass u p [] h = refl
all_pass u p (n ∷ ns) h = rw h.0 (all_pass u p ns h.1)

-- and where none fails all hold
pub holding : (ns : List Need) → first_failed ns ≡ None → AllHold ns
holding [] e = tt
holding (n ∷ ns) e =
    split (λ b. holds_of n ≡ b → pick b (first_failed ns) (Some (reason_of n)) ≡ None → AllHold (n ∷ ns)) (holds_of n)
    (λ _ h k. (h, holding ns k)) (λ _ h k. absurd (none-some _ (sym k))) refl e

pub all_done : (u : TheUnit) (p : Plan) → AllHold p.needs → judge u p ≡ done_of p
unfolding judge
all_done u p h = all_pass u p p.needs h

pub why : (u : TheUnit) (p : Plan) → Why u p.needs (done_of p) (judge u p)
unfolding judge
why u p = why_settled u p p.needs

judged_by : (P : Outcome → Type 0) (u : TheUnit) (p : Plan) (ns : List Need) → ((n : Need) → P (refused_of u (reason_of n))) → (AllHold ns → P (done_of p)) → P (settled_of u p (first_failed ns))
judged_by P u p [] f g = g tt
judged_by P u p (n ∷ ns) f g =
    split (λ b. P (settled_of u p (pick b (first_failed ns) (Some (reason_of n))))) (holds_of n)
    (λ h. judged_by P u p ns f (λ hs. g (h, hs))) (λ h. f n)

-- what holds of each refusal, and of the done command where all its needs hold, holds of the judged line
pub judged : (P : Outcome → Type 0) (u : TheUnit) (p : Plan) → ((n : Need) → P (refused_of u (reason_of n))) → (AllHold p.needs → P (done_of p)) → P (judge u p)
unfolding judge
judged P u p f g = judged_by P u p p.needs f g

-- ---- a law of every line with its shape: of the refusals, of each query and of each command where its needs hold
module _ (P : Shape → Outcome → Type 0) (u : TheUnit)
    (refusal : (x : Shape) (n : Need) → P x (refused_of u (reason_of n)))
    (query : (n : Name) (q : Param) → is_query q ≡ true → AllHold (query_plan u n).needs → P (calls n q) (done_of (query_plan u n)))
    (command : (s : List ℕ) (n : Name) (q : Param) → is_query q ≡ false → AllHold (command_plan u s n q).needs → P (calls n q) (done_of (command_plan u s n q))) where
  pub shaped_by : (s : List ℕ) (x : Shape) → P x (judge u (shape_plan u s x))
  shaped_by s (Err fault.Malformed) = judged (P (Err fault.Malformed)) u (refusing u (Shaped false)) (refusal (Err fault.Malformed)) (λ h. absurd (never (sym h.0)))
  shaped_by s (Err fault.Unknown) = judged (P (Err fault.Unknown)) u (refusing u (Known false)) (refusal (Err fault.Unknown)) (λ h. absurd (never (sym h.0)))
  shaped_by s (Ok c) =
      split (λ b. P (Ok c) (judge u (pick b (query_plan u c.name) (command_plan u s c.name c.param)))) (is_query c.param)
      (λ e. judged (P (Ok c)) u (query_plan u c.name) (refusal (Ok c)) (query c.name c.param e))
      (λ e. judged (P (Ok c)) u (command_plan u s c.name c.param) (refusal (Ok c)) (command s c.name c.param e))

  -- of a line that kept something
  pub served_by : (s : List ℕ) (long : Bool) → P (shape_of s) (judge u (line_plan u s long))
  served_by s long =
      split (λ b. P (shape_of s) (judge u (pick b (refusing u (Fits false)) (shape_plan u s (shape_of s))))) long
      (λ _. judged (P (shape_of s)) u (refusing u (Fits false)) (refusal (shape_of s)) (λ h. absurd (never (sym h.0))))
      (λ _. shaped_by s (shape_of s))

  -- of any
  pub line_by : (kept : List ℕ) (p : Pos) → P (Err fault.Malformed) (record { next = u; text = [] }) → P (shape_of (take p.len kept)) (obey_of u kept p)
  unfolding obey_of shape_of
  line_by kept p quiet =
      split (λ b. P (shape_of (take p.len kept)) (pick b (record { next = u; text = [] }) (judge u (line_plan u (take p.len kept) p.long)))) (eqb p.len 0)
      (λ e. let z : p.len ≡ 0 = eqb-true p.len 0 e in rw z quiet)
      (λ _. served_by (take p.len kept) p.long)

-- a line that is not too long and has a shape is judged by that shape's plan
shape_none : shape_of [] ≡ (Err fault.Malformed)
unfolding shape_of
shape_none = refl

not_empty : (kept : List ℕ) (p : Pos) (n : Name) (q : Param) → shape_of (take p.len kept) ≡ calls n q → eqb p.len 0 ≡ true → ⊥
not_empty kept p n q s z =
    let l : p.len ≡ 0 = eqb-true p.len 0 z in
    let c : shape_of [] ≡ calls n q = rw l at s in
    let d : (Err fault.Malformed) ≡ calls n q = sym shape_none ∙ c in
    let e : true ≡ false = cc in
    never e

pub obeyed : (u : TheUnit) (kept : List ℕ) (p : Pos) (n : Name) (q : Param) → p.long ≡ false → shape_of (take p.len kept) ≡ calls n q →
    obey_of u kept p ≡ judge u (served_plan u (take p.len kept) n q)
unfolding obey_of
obeyed u kept p n q l s =
    let t = take p.len kept in
    split (λ b. pick b (record { next = u; text = [] }) (judge u (line_plan u t p.long)) ≡ judge u (served_plan u t n q)) (eqb p.len 0)
    (λ z. absurd (not_empty kept p n q s z)) (λ z. rw (l, s))

-- a line that kept something, by its plan
pub judged_line : (u : TheUnit) (kept : List ℕ) (p : Pos) → (p.len ≡ 0 → ⊥) → obey_of u kept p ≡ judge u (line_plan u (take p.len kept) p.long)
unfolding obey_of
judged_line u kept p h = rw (ne_eqb p.len 0 h)

-- the same of the outcome alone
module _ (P : Outcome → Type 0) where
  pub every_line : (u : TheUnit) (kept : List ℕ) (p : Pos) →
      P (record { next = u; text = [] }) →
      ((n : Need) → P (refused_of u (reason_of n))) →
      ((n : Name) → P (done_of (query_plan u n))) →
      ((s : List ℕ) (n : Name) (q : Param) → AllHold (command_plan u s n q).needs → P (done_of (command_plan u s n q))) →
      P (obey_of u kept p)
  every_line u kept p quiet refusal query command = line_by (λ _ o. P o) u (λ _ n. refusal n) (λ n q e h. query n) (λ s n q e h. command s n q h) kept p quiet

-- a query leaves the unit, but that ESR? clears the reason
pub query_by : (P : Name → TheUnit → Type 0) (u : TheUnit) → ((n : Name) → P n u) → P name.Esr (gated u u.unlocked 0) → (n : Name) → P n (query_plan u n).done
query_by P u same cleared name.Gca = same name.Gca
query_by P u same cleared name.Gde = same name.Gde
query_by P u same cleared name.Cwt = same name.Cwt
query_by P u same cleared name.Ldw = same name.Ldw
query_by P u same cleared name.Lwt = same name.Lwt
query_by P u same cleared name.Nov = same name.Nov
query_by P u same cleared name.Rsn = same name.Rsn
query_by P u same cleared name.Enu = same name.Enu
query_by P u same cleared name.Dpt = same name.Dpt
query_by P u same cleared name.Zse = same name.Zse
query_by P u same cleared name.Ztr = same name.Ztr
query_by P u same cleared name.Lft = same name.Lft
query_by P u same cleared name.Cof = same name.Cof
query_by P u same cleared name.Tas = same name.Tas
query_by P u same cleared name.Tav = same name.Tav
query_by P u same cleared name.Tar = same name.Tar
query_by P u same cleared name.Cdl = same name.Cdl
query_by P u same cleared name.Res = same name.Res
query_by P u same cleared name.Tdd = same name.Tdd
query_by P u same cleared name.Spw = same name.Spw
query_by P u same cleared name.Dpw = same name.Dpw
query_by P u same cleared name.Msv = same name.Msv
query_by P u same cleared name.Tcr = same name.Tcr
query_by P u same cleared name.Esr = cleared
