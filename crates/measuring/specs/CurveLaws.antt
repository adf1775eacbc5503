-- What the steps of LDW and LWT come to. Assumes nothing.
use Rattle.std.specs.Prelude.{◌≡◌, ◌≤◌, nat_abs, refl, Some, None, Bool, true, false, eqb}
use Rattle.std.proofs.Common.{◌∙◌, lit≤}
use Rattle.cases.specs.Pick.{pick}
use Rattle.cases.specs.PickLaws.{split, never}
use Rattle.line.specs.declared.shape.Param.{Param}
use Rattle.line.specs.declared.shape.Param.TheVariants as param
use Rattle.line.specs.declared.shape.Number.{Number}
use Rattle.line.specs.Param.{is_nothing, is_number}
use Rattle.reply.specs.declared.Reply.{Reply}
use Rattle.reply.specs.Reply.{done_text, reply_of}
use Rattle.whole.specs.Sets.{inside}
use Rattle.whole.specs.SetsLaws.{sized_yes}
use Rattle.weight.specs.Weight.{as_cell}
use Rattle.weight.specs.Sets.{cells, spans}
use Rattle.state.specs.declared.Reason.TheVariants.{Form, Value, Pointless}
use Rattle.state.specs.declared.Unit.{Unit as TheUnit}
use Rattle.state.specs.Ranged.{seen_in}
use Rattle.weighing.specs.RangeLaws.{cell_in}
use Rattle.plans.specs.Needs.{first_failed}
use Rattle.plans.specs.Plans.{point_needs, point_given, curve_given, ldw_plan, lwt_plan}
use Rattle.plans.specs.JudgeLaws.{holding}
use Rattle.plans.specs.Obey.{refused_of, judge}
use Rattle.plans.specs.ObeyLaws.{answer_of, settled_as, gate_of, settled_as_lem}

-- LDW and LWT take a number or nothing
pub ldw_lacks : (u : TheUnit) (p : Param) → is_nothing p ≡ false → is_number p ≡ false → answer_of (refused_of u Form) ≡ answer_of (judge u (ldw_plan u p))
unfolding judge
ldw_lacks u param.Nothing e f = absurd (never e)
ldw_lacks u param.Query e f = refl
ldw_lacks u (param.Number x) e f = absurd (never f)
ldw_lacks u (param.Text a k) e f = refl

pub lwt_lacks : (u : TheUnit) (p : Param) → is_nothing p ≡ false → is_number p ≡ false → answer_of (refused_of u Form) ≡ answer_of (judge u (lwt_plan u p))
unfolding judge
lwt_lacks u param.Nothing e f = absurd (never e)
lwt_lacks u param.Query e f = refl
lwt_lacks u (param.Number x) e f = absurd (never f)
lwt_lacks u (param.Text a k) e f = refl

-- the span counts only where the point is allowed
span_late : (u d : TheUnit) (q : Reply) (o l a h s : Bool) →
    settled_as u d q (gate_of o l a (pick h (pick (pick a s false) None (Some Value)) (Some Pointless))) ≡ settled_as u d q (gate_of o l a (pick h (pick s None (Some Value)) (Some Pointless)))
span_late u d q o l a h s =
    split (λ t. settled_as u d q (gate_of o l t (pick h (pick (pick t s false) None (Some Value)) (Some Pointless))) ≡ settled_as u d q (gate_of o l t (pick h (pick s None (Some Value)) (Some Pointless)))) a (λ _. refl) (λ _. refl)

pub lwt_typed : (u : TheUnit) (x : Number) →
    settled_as u (lwt_plan u (param.Number x)).done (reply_of done_text)
    (gate_of u.unlocked (eqb u.used.lft 0) (inside cells x.0)
    (pick u.point.held (pick (pick (inside cells x.0) (spans (curve_given u (as_cell x.0))) false) None (Some Value)) (Some Pointless)))
    ≡ answer_of (judge u (lwt_plan u (param.Number x)))
lwt_typed u x =
    span_late u (lwt_plan u (param.Number x)).done (reply_of done_text) u.unlocked (eqb u.used.lft 0) (inside cells x.0) u.point.held (spans (curve_given u (as_cell x.0)))
    ∙ settled_as_lem u (lwt_plan u (param.Number x))

-- a point that is given, typed or read, is in the cell's range
pub given_in : (u : TheUnit) (p : Param) → seen_in u.seen ≡ true → first_failed (point_needs u p) ≡ None → nat_abs (point_given u p).0 ≤ 1599999
given_in u param.Nothing h e = cell_in u.seen h
given_in u param.Query h e = lit≤ tt
given_in u (param.Number x) h e = sized_yes x.0 1599999 (holding (point_needs u (param.Number x)) e).1.1.1.0
given_in u (param.Text a k) h e = lit≤ tt
