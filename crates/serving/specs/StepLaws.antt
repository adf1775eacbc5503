-- No line is answered with more than ROOM bytes. Assumes nothing.
use Rattle.std.specs.Prelude.{List, [], ℕ, ◌≤◌, length}
use Rattle.std.proofs.Common.{lit≤}
use Rattle.cases.specs.Pick.{pick}
use Rattle.cases.specs.PickLaws.{split}
use Rattle.line.specs.declared.cut.Pos.{Pos}
use Rattle.line.specs.Line.{is_end, moved_of}
use Rattle.reply.specs.Reply.{ROOM}
use Rattle.reply.proofs.ReadLaws.{done_short, refused_short}
use Rattle.state.specs.declared.Unit.{Unit as TheUnit}
use Rattle.plans.specs.Obey.{Outcome, obey_of}
use Rattle.plans.specs.JudgeLaws.{every_line}
use Rattle.plans.specs.Forms.{form_short, query_form, command_by}
use Rattle.serving.specs.Step.{step_text}

pub obey_short : (u : TheUnit) (kept : List ℕ) (p : Pos) → length (obey_of u kept p).text ≤ ROOM
obey_short u kept p =
    every_line (λ (o : Outcome). length o.text ≤ ROOM) u kept p (lit≤ tt) (λ n. refused_short) (λ n. form_short _ (query_form u n)) (λ s n q h. command_by (λ _ t. length t ≤ ROOM) (lit≤ tt) (λ _. done_short) u s n q)

pub step_short : (u : TheUnit) (b : ℕ) → length (step_text u b) ≤ ROOM
unfolding step_text
step_short u b = split (λ t. length (pick t (obey_of u u.kept u.pos).text []) ≤ ROOM) (is_end (moved_of u.pos b).act) (λ _. obey_short u u.kept u.pos) (λ _. lit≤ tt)
