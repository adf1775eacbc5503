-- A refused line: its reply, and what it changes. Assumes nothing.
use Rattle.std.specs.Prelude.{◌≡◌, refl, not, ◌&&◌, eqb}
use Rattle.reply.specs.Reply.{refused_text}
use Rattle.state.specs.declared.Unit.{Unit as TheUnit}
use Rattle.state.specs.Changes.{gated}
use Rattle.plans.specs.Needs.{Need, reason_of}
use Rattle.plans.specs.Obey.{Outcome, refused_of}

-- a line was refused: some reason's refusal is its outcome
pub record Refused (u : TheUnit) (o : Outcome) : Type 0 where
  pub need : Need
  pub is : o ≡ refused_of u (reason_of need)

-- a refusal replies `?`, and changes the reason alone, and the lock where that is 11
pub refusal_keeps : (u : TheUnit) (o : Outcome) → Refused u o → (o.text ≡ refused_text) × (o.next ≡ gated u (not (eqb o.next.reason 11) && u.unlocked) o.next.reason)
refusal_keeps u o r = rw r.is (refl, refl)
