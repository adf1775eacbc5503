-- What the steps of a query come to. Assumes nothing.
use Rattle.std.specs.Prelude.{◌≡◌, Result, Ok, Err}
use borrow.Author.Tests.{ne_eqb}
use Rattle.reply.specs.declared.Reply.{Reply}
use Rattle.reply.specs.Reply.{signed_text, status_text, word4_text, word2_text, reply_of}
use Rattle.weight.specs.Display.{in_decimal, in_four, in_two}
use Rattle.weighing.specs.Reading.{shown_now}
use Rattle.state.specs.declared.Unit.{Unit as TheUnit}
use Rattle.state.specs.Changes.{gated}
use Rattle.state.specs.declared.Reason.{Reason}
use Rattle.plans.specs.Obey.{refused_of}
use Rattle.plans.specs.ObeyLaws.{Answer, answer_of}
use Rattle.asking.specs.declared.Noted.{Noted}
use Rattle.plans.specs.Queries.{address, status_now, msv_text}

-- what a query comes to: the reason that is noted after it is all that it changes; or it is refused
abbrev pub said_by : TheUnit → Result Noted Reason → Answer
said_by u (Ok s) = record { unit = gated u u.unlocked s.reason; reply = s.reply }
said_by u (Err why) = answer_of (refused_of u why)

-- a reply that leaves the reason
abbrev pub left_by : TheUnit → Reply → Result Noted Reason
left_by u q = Ok (record { reason = u.reason; reply = q })

-- MSV? by the format
module _ (u : TheUnit) where
  pub msv_four : u.used.free.cof ≡ 0 → reply_of (word4_text (in_four (shown_now u)).0) ≡ reply_of (msv_text u)
  unfolding msv_text
  msv_four e = rw e

  pub msv_two : u.used.free.cof ≡ 2 → reply_of (word2_text (in_two (shown_now u)).0) ≡ reply_of (msv_text u)
  unfolding msv_text
  msv_two e = rw e

  pub msv_decimal : u.used.free.cof ≡ 3 → reply_of (signed_text (in_decimal (shown_now u)).0) ≡ reply_of (msv_text u)
  unfolding msv_text
  msv_decimal e = rw e

  pub msv_status : (u.used.free.cof ≡ 0 → ⊥) → (u.used.free.cof ≡ 2 → ⊥) → (u.used.free.cof ≡ 3 → ⊥) →
      reply_of (status_text (in_decimal (shown_now u)).0 address (status_now u)) ≡ reply_of (msv_text u)
  unfolding msv_text
  msv_status a b c = rw (ne_eqb u.used.free.cof 0 a, ne_eqb u.used.free.cof 2 b, ne_eqb u.used.free.cof 3 c)
