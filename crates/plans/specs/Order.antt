-- The order in which needs are looked at: that of document 01's table of reasons, with its two exceptions; and what a query may need. Assumes nothing.
use Rattle.std.specs.Prelude.{Some, None, ◌≡◌, refl, Bool, true, ◌&&◌, List, [], ◌∷◌, ◌++◌, ℕ, leb}
use Rattle.std.proofs.Common.{ap}
use Rattle.cases.specs.Pick.{pick}
use Rattle.line.specs.declared.names.Name.{Name}
use Rattle.line.specs.declared.names.Name.TheVariants as name
use Rattle.line.specs.declared.shape.Param.{Param}
use Rattle.line.specs.declared.shape.Param.TheVariants as param
use Rattle.state.specs.declared.Seen.{Seen}
use Rattle.state.specs.declared.Reason.{Reason}
use Rattle.state.specs.declared.Reason.TheVariants as reason
use Rattle.state.specs.declared.Reason.TheVariants.{Long, Form, Unknown, Locked, Barred, Value, Differs, Unsteady, Pointless, Range, Stands}
use Rattle.state.specs.declared.Unit.{Unit as TheUnit}
use Rattle.weighing.specs.Reading.{sampled_of}
use Rattle.plans.specs.Needs.{Need, reason_of, first_failed}
use Rattle.plans.specs.Plans.{point_needs, tdd_plan, lwt_plan, command_plan}
use Rattle.plans.specs.Queries.{query_plan}

-- a reason's row in the table
abbrev pub row_of : Reason → ℕ
row_of reason.None = 0
row_of Long = 1
row_of Form = 2
row_of Unknown = 3
row_of Locked = 4
row_of Barred = 5
row_of Value = 6
row_of Differs = 7
row_of Unsteady = 8
row_of Pointless = 9
row_of Range = 10
row_of Stands = 11

abbrev pub reasons_of : List Need → List Reason
reasons_of [] = []
reasons_of (n ∷ ns) = reason_of n ∷ reasons_of ns

-- no reason stands behind one of a later row
abbrev from : ℕ → List Reason → Bool
from a [] = true
from a (r ∷ rs) = leb a (row_of r) && from (row_of r) rs

abbrev pub InOrder : List Need → Type 0
InOrder ns = from 0 (reasons_of ns) ≡ true

-- LDW's needs, and LWT's but its own two
points : (u : TheUnit) (q : Param) → InOrder (point_needs u q)
points u param.Nothing = refl
points u param.Query = refl
points u (param.Number x) = refl
points u (param.Text a k) = refl

-- the needs of each command but two stand in the table's order
pub in_order : (u : TheUnit) (s : List ℕ) (n : Name) (q : Param) → (n ≡ name.Tdd → ⊥) → (n ≡ name.Lwt → ⊥) → InOrder (command_plan u s n q).needs
in_order u s name.Gca q d l = refl
in_order u s name.Gde q d l = refl
in_order u s name.Cwt q d l = refl
in_order u s name.Ldw q d l = points u q
in_order u s name.Lwt q d l = absurd (l refl)
in_order u s name.Nov q d l = refl
in_order u s name.Rsn q d l = refl
in_order u s name.Enu q d l = refl
in_order u s name.Dpt q d l = refl
in_order u s name.Zse q d l = refl
in_order u s name.Ztr q d l = refl
in_order u s name.Lft q d l = refl
in_order u s name.Cof q d l = refl
in_order u s name.Tas q d l = refl
in_order u s name.Tav q d l = refl
in_order u s name.Tar q d l = refl
in_order u s name.Cdl q d l = refl
in_order u s name.Res q d l = refl
in_order u s name.Tdd q d l = absurd (d refl)
in_order u s name.Spw q d l = refl
in_order u s name.Dpw q d l = refl
in_order u s name.Msv q d l = refl
in_order u s name.Tcr q d l = refl
in_order u s name.Esr q d l = refl

-- TDD's value comes before the lock
pub tdd_order : (u : TheUnit) (q : Param) → reasons_of (tdd_plan u q).needs ≡ Form ∷ Value ∷ Locked ∷ Barred ∷ []
tdd_order u q = refl

-- LWT's span comes last
pub lwt_order : (u : TheUnit) (q : Param) → InOrder (point_needs u q) × (reasons_of (lwt_plan u q).needs ≡ reasons_of (point_needs u q) ++ (Pointless ∷ Value ∷ []))
lwt_order u param.Nothing = (refl, refl)
lwt_order u param.Query = (refl, refl)
lwt_order u (param.Number x) = (refl, refl)
lwt_order u (param.Text a k) = (refl, refl)

-- whether a query is refused lies in its name and in what was seen: neither the lock nor LFT bars it
pub query_free : (u v : TheUnit) (n : Name) → u.seen ≡ v.seen → first_failed (query_plan u n).needs ≡ first_failed (query_plan v n).needs
query_free u v name.Gca e = refl
query_free u v name.Gde e = refl
query_free u v name.Cwt e = refl
query_free u v name.Ldw e = refl
query_free u v name.Lwt e = refl
query_free u v name.Nov e = refl
query_free u v name.Rsn e = refl
query_free u v name.Enu e = refl
query_free u v name.Dpt e = refl
query_free u v name.Zse e = refl
query_free u v name.Ztr e = refl
query_free u v name.Lft e = refl
query_free u v name.Cof e = refl
query_free u v name.Tas e = refl
query_free u v name.Tav e = refl
query_free u v name.Tar e = refl
query_free u v name.Cdl e = refl
query_free u v name.Res e = refl
query_free u v name.Tdd e = refl
query_free u v name.Spw e = refl
query_free u v name.Dpw e = refl
query_free u v name.Msv e = ap (λ (x : Seen). pick (sampled_of x) None (Some Unsteady)) e
query_free u v name.Tcr e = refl
query_free u v name.Esr e = refl
