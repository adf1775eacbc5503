-- What the code's steps come to. Assumes nothing.
use Rattle.std.specs.Prelude.{◌≡◌, refl, false, ◌∷◌, Option, Some, None, Result, Ok, Err, Bool, List, [], ℕ, ℤ, nat_abs}
use Rattle.std.specs.Int.Signed.{non_neg}
use Rattle.cases.specs.Pick.{pick}
use Rattle.whole.specs.declared.Whole.{Whole}
use Rattle.line.specs.declared.shape.Number.{Number}
use Rattle.line.specs.declared.shape.Param.{Param}
use Rattle.line.specs.declared.shape.Param.TheVariants as param
use Rattle.reply.specs.declared.Reply.{Reply}
use Rattle.reply.specs.Reply.{done_text, reply_of}
use Rattle.state.specs.declared.Reason.{Reason}
use Rattle.state.specs.declared.Reason.TheVariants.{Form, Locked, Barred, Value}
use Rattle.state.specs.declared.Change.{Change}
use Rattle.state.specs.declared.Change.TheVariants as change
use Rattle.state.specs.declared.Unit.{Unit as TheUnit}
use Rattle.state.specs.Reasons.{passes_of}
use Rattle.state.specs.Parts.{changed_by}
use Rattle.plans.specs.declared.Judged.{Judged}
use Rattle.plans.specs.declared.Obeyed.{Obeyed}
use Rattle.plans.specs.Needs.{Need, Shaped, first_failed}
use Rattle.plans.specs.Plans.{Plan}
use Rattle.plans.specs.Obey.{Outcome, refused_of, settled_of, judge}

-- what a need's test comes to: nothing, or the reason why it failed
abbrev pub failed_of : Result (Unit {0}) Reason → Option Reason
failed_of (Ok x) = None
failed_of (Err r) = Some r

abbrev pub need_of : Bool → Reason → Option Reason
need_of b r = pick b None (Some r)

-- P, S and the value, in this order, and what the needs behind them say
abbrev pub gate_of : Bool → Bool → Bool → Option Reason → Option Reason
gate_of opened unsealed value rest = pick opened (pick unsealed (pick value rest (Some Value)) (Some Barred)) (Some Locked)

-- a number by its sign and size
abbrev pub size_of : ℤ → Whole
size_of z = record { plus = non_neg z; n = nat_abs z }

-- a number, or a form that the command lacks
abbrev pub number_typed : Param → Result Number Reason
number_typed param.Nothing = Err Form
number_typed param.Query = Err Form
number_typed (param.Number x) = Ok x
number_typed (param.Text a k) = Err Form

abbrev pub value_typed : Param → Result Whole Reason
value_typed param.Nothing = Err Form
value_typed param.Query = Err Form
value_typed (param.Number x) = Ok (size_of x.0)
value_typed (param.Text a k) = Err Form

-- an outcome with its text as a reply
pub record Answer : Type 0 where
  pub unit : TheUnit
  pub reply : Reply

abbrev pub answer_of : Outcome → Answer
answer_of o = record { unit = o.next; reply = reply_of o.text }

-- what the code hands on, as an answer: a line's change and reply
abbrev pub obeyed_as : TheUnit → Obeyed → Answer
obeyed_as u o = record { unit = changed_by u o.change; reply = o.reply }

-- a done command says 0, or nothing where the unit has started again
abbrev pub said_of : Change → List ℕ
said_of change.Restart = []
said_of (change.To c) = done_text

-- and a command's: done by its change, or refused
abbrev pub judged_as : TheUnit → Result Change Reason → Answer
judged_as u (Ok c) = record { unit = changed_by u c; reply = reply_of (said_of c) }
judged_as u (Err r) = answer_of (refused_of u r)

-- the same with what it says and its reason apart
abbrev pub spoken_text : Bool → List ℕ
spoken_text silent = pick silent [] done_text

abbrev pub told_as : TheUnit → Judged → Answer
told_as u j = pick (passes_of j.why) (record { unit = changed_by u j.change; reply = reply_of (spoken_text j.silent) }) (answer_of (refused_of u j.why))

-- a candidate kept or refused
abbrev pub settled_as : TheUnit → TheUnit → Reply → Option Reason → Answer
settled_as u d q None = record { unit = d; reply = q }
settled_as u d q (Some r) = answer_of (refused_of u r)

settles : (u : TheUnit) (p : Plan) (r : Option Reason) → settled_as u p.done (reply_of p.text) r ≡ answer_of (settled_of u p r)
settles u p None = refl
settles u p (Some r) = refl

pub settled_as_lem : (u : TheUnit) (p : Plan) → settled_as u p.done (reply_of p.text) (first_failed p.needs) ≡ answer_of (judge u p)
unfolding judge
settled_as_lem u p = settles u p (first_failed p.needs)

-- a form that the command lacks
pub unshaped : (u : TheUnit) (p : Plan) (b : Bool) (ns : List Need) → p.needs ≡ Shaped b ∷ ns → b ≡ false → answer_of (refused_of u Form) ≡ answer_of (judge u p)
unfolding judge
unshaped u p b ns q e = rw (q, e)
