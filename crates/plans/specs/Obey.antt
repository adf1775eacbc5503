-- A line is judged: the first need that does not hold refuses it, else it is done. Document 01, "Command lines" and "Reasons for "?"". What a reader must believe.
use Rattle.std.specs.Prelude.{Option, Some, None, ℕ, ◌≡◌, ◌⊎◌, Bool, true, false, List, [], ◌∷◌, ◌++◌, eqb, take, Ok, Err}
use Rattle.cases.specs.Pick.{pick}
use Rattle.line.specs.declared.cut.Pos.{Pos}
use Rattle.line.specs.declared.names.Name.{Name}
use Rattle.line.specs.declared.shape.Param.{Param}
use Rattle.line.specs.declared.shape.Fault.TheVariants as fault
use Rattle.line.specs.Param.{is_query}
use Rattle.line.specs.Shape.{shape_of, Shape}
use Rattle.reply.specs.Reply.{refused_text}
use Rattle.state.specs.declared.Reason.{Reason}
use Rattle.state.specs.declared.Unit.{Unit as TheUnit}
use Rattle.state.specs.Changes.{refused_unit}
use Rattle.plans.specs.Needs.{Need, Fits, Shaped, Known, holds_of, reason_of, first_failed}
use Rattle.plans.specs.Plans.{Plan, plan, command_plan}
use Rattle.plans.specs.Queries.{query_plan}

-- the unit and the reply's bytes after a line
pub record Outcome : Type 0 where
  pub next : TheUnit
  pub text : List ℕ

-- a refused line replies `?`, and the reason's number is noted
abbrev pub refused_of : TheUnit → Reason → Outcome
refused_of u r = record { next = refused_unit u r; text = refused_text }

abbrev pub settled_of : TheUnit → Plan → Option Reason → Outcome
settled_of u p None = record { next = p.done; text = p.text }
settled_of u p (Some r) = refused_of u r

unfoldable pub judge : TheUnit → Plan → Outcome
judge u p = settled_of u p (first_failed p.needs)

-- the plan of a line: too long, malformed, unknown, a query, a command
abbrev pub refusing : TheUnit → Need → Plan
refusing u n = plan (n ∷ []) u []

abbrev pub served_plan : TheUnit → List ℕ → Name → Param → Plan
served_plan u s n p = pick (is_query p) (query_plan u n) (command_plan u s n p)

abbrev pub shape_plan : TheUnit → List ℕ → Shape → Plan
shape_plan u s (Err fault.Malformed) = refusing u (Shaped false)
shape_plan u s (Err fault.Unknown) = refusing u (Known false)
shape_plan u s (Ok c) = served_plan u s c.name c.param

abbrev pub line_plan : TheUnit → List ℕ → Bool → Plan
line_plan u s long = pick long (refusing u (Fits false)) (shape_plan u s (shape_of s))

-- a line with no kept byte is not answered
abbrev pub line_outcome : TheUnit → List ℕ → Pos → Outcome
line_outcome u kept p = pick (eqb p.len 0) (record { next = u; text = [] }) (judge u (line_plan u (take p.len kept) p.long))

unfoldable pub obey_of : TheUnit → List ℕ → Pos → Outcome
obey_of u kept p = line_outcome u kept p

-- ---- done or refused
-- all needs hold
abbrev pub AllHold : List Need → Type 0
AllHold [] = Unit {0}
AllHold (n ∷ ns) = (holds_of n ≡ true) × AllHold ns

-- what a plan does where they hold
abbrev pub done_of : Plan → Outcome
done_of p = record { next = p.done; text = p.text }

-- the first need that fails, and all ahead of it hold; its reason refuses the line
pub record FirstFails (u : TheUnit) (ns : List Need) (o : Outcome) : Type 0 where
  pub before : List Need
  pub failing : Need
  pub after : List Need
  pub all : ns ≡ before ++ (failing ∷ after)
  pub hold : AllHold before
  pub fails : holds_of failing ≡ false
  pub outcome : o ≡ refused_of u (reason_of failing)

-- a line is done with all needs holding, or refused by the first that fails
abbrev pub Why : TheUnit → List Need → Outcome → Outcome → Type 0
Why u ns d o = (AllHold ns × (o ≡ d)) ⊎ FirstFails u ns o
