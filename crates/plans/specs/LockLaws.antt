-- Reason 11, which locks, is SPW's alone. Assumes nothing.
use Rattle.std.specs.Prelude.{◌≡◌, refl, Bool, true, false, ◌||◌, List, [], ◌∷◌, ◌++◌, ℕ, eqb, Ok, Err}
use Rattle.std.proofs.Common.{sym, ap, ◌∙◌, eq-eqb}
use Rattle.cases.specs.Pick.{pick}
use Rattle.cases.specs.PickLaws.{split, never}
use Rattle.line.specs.declared.names.Name.{Name}
use Rattle.line.specs.declared.names.Name.TheVariants as name
use Rattle.line.specs.declared.shape.Param.{Param}
use Rattle.line.specs.declared.shape.Param.TheVariants as param
use Rattle.line.specs.declared.shape.Fault.TheVariants as fault
use Rattle.line.specs.Param.{is_query}
use Rattle.line.specs.Shape.{shape_of, Shape, calls}
use Rattle.state.specs.declared.Unit.{Unit as TheUnit}
use Rattle.state.specs.Reasons.{number_of}
use Rattle.plans.specs.Needs.{Need, Fits, reason_of}
use Rattle.plans.specs.Plans.{command_plan}
use Rattle.plans.specs.Queries.{query_plan}
use Rattle.plans.specs.Obey.{Outcome, FirstFails, refusing, shape_plan, line_plan}

-- some need would refuse with 11
abbrev eleven : List Need → Bool
eleven [] = false
eleven (n ∷ ns) = eqb (number_of (reason_of n)) 11 || eleven ns

or_right : (a b : Bool) → b ≡ true → a || b ≡ true
or_right true b h = refl
or_right false b h = h

or_left : (a b : Bool) → a ≡ true → a || b ≡ true
or_left true b h = refl
or_left false b h = absurd (never (sym h))

found : (before : List Need) (n : Need) (after : List Need) → number_of (reason_of n) ≡ 11 → eleven (before ++ (n ∷ after)) ≡ true
found [] n after e = or_left (eqb (number_of (reason_of n)) 11) (eleven after) (eq-eqb _ _ e)
found (m ∷ before) n after e = or_right (eqb (number_of (reason_of m)) 11) (eleven (before ++ (n ∷ after))) (found before n after e)

query_none : (u : TheUnit) (n : Name) → eleven (query_plan u n).needs ≡ false
query_none u name.Gca = refl
query_none u name.Gde = refl
query_none u name.Cwt = refl
query_none u name.Ldw = refl
query_none u name.Lwt = refl
query_none u name.Nov = refl
query_none u name.Rsn = refl
query_none u name.Enu = refl
query_none u name.Dpt = refl
query_none u name.Zse = refl
query_none u name.Ztr = refl
query_none u name.Lft = refl
query_none u name.Cof = refl
query_none u name.Tas = refl
query_none u name.Tav = refl
query_none u name.Tar = refl
query_none u name.Cdl = refl
query_none u name.Res = refl
query_none u name.Tdd = refl
query_none u name.Spw = refl
query_none u name.Dpw = refl
query_none u name.Msv = refl
query_none u name.Tcr = refl
query_none u name.Esr = refl

command_spw : (u : TheUnit) (s : List ℕ) (n : Name) (q : Param) → eleven (command_plan u s n q).needs ≡ true → n ≡ name.Spw
command_spw u s name.Gca q h = absurd (never (sym h))
command_spw u s name.Gde q h = absurd (never (sym h))
command_spw u s name.Cwt q h = absurd (never (sym h))
command_spw u s name.Ldw param.Nothing h = absurd (never (sym h))
command_spw u s name.Ldw param.Query h = absurd (never (sym h))
command_spw u s name.Ldw (param.Number x) h = absurd (never (sym h))
command_spw u s name.Ldw (param.Text a k) h = absurd (never (sym h))
command_spw u s name.Lwt param.Nothing h = absurd (never (sym h))
command_spw u s name.Lwt param.Query h = absurd (never (sym h))
command_spw u s name.Lwt (param.Number x) h = absurd (never (sym h))
command_spw u s name.Lwt (param.Text a k) h = absurd (never (sym h))
command_spw u s name.Nov q h = absurd (never (sym h))
command_spw u s name.Rsn q h = absurd (never (sym h))
command_spw u s name.Enu q h = absurd (never (sym h))
command_spw u s name.Dpt q h = absurd (never (sym h))
command_spw u s name.Zse q h = absurd (never (sym h))
command_spw u s name.Ztr q h = absurd (never (sym h))
command_spw u s name.Lft q h = absurd (never (sym h))
command_spw u s name.Cof q h = absurd (never (sym h))
command_spw u s name.Tas q h = absurd (never (sym h))
command_spw u s name.Tav q h = absurd (never (sym h))
command_spw u s name.Tar q h = absurd (never (sym h))
command_spw u s name.Cdl q h = absurd (never (sym h))
command_spw u s name.Res q h = absurd (never (sym h))
command_spw u s name.Tdd q h = absurd (never (sym h))
command_spw u s name.Spw q h = refl
command_spw u s name.Dpw q h = absurd (never (sym h))
command_spw u s name.Msv q h = absurd (never (sym h))
command_spw u s name.Tcr q h = absurd (never (sym h))
command_spw u s name.Esr q h = absurd (never (sym h))

-- the line is SPW
pub record BySpw (x : Shape) : Type 0 where
  pub param : Param
  pub is : x ≡ calls name.Spw param

shaped_spw : (u : TheUnit) (s : List ℕ) (x : Shape) → eleven (shape_plan u s x).needs ≡ true → BySpw x
shaped_spw u s (Err fault.Malformed) h = absurd (never (sym h))
shaped_spw u s (Err fault.Unknown) h = absurd (never (sym h))
shaped_spw u s (Ok c) h =
    split (λ b. eleven (pick b (query_plan u c.name) (command_plan u s c.name c.param)).needs ≡ true → BySpw (Ok c)) (is_query c.param)
    (λ _ k. let z : true ≡ false = sym k ∙ query_none u c.name in absurd (never z))
    (λ _ k. record { param = c.param; is = ap (λ (m : Name). calls m c.param) (command_spw u s c.name c.param k) }) h

pub eleven_by_spw : (u : TheUnit) (s : List ℕ) (long : Bool) (o : Outcome) (w : FirstFails u (line_plan u s long).needs o) → number_of (reason_of w.failing) ≡ 11 → BySpw (shape_of s)
eleven_by_spw u s long o w e =
    split (λ b. eleven (pick b (refusing u (Fits false)) (shape_plan u s (shape_of s))).needs ≡ true → BySpw (shape_of s)) long
    (λ _ h. absurd (never (sym h))) (λ _. shaped_spw u s (shape_of s))
    (ap eleven w.all ∙ found w.before w.failing w.after e)
