-- The unit as a machine over bytes, and what a run of it hands back. Document 01, "Reasons for "?"", its last paragraph. What a reader must believe.
use Rattle.std.specs.Prelude.{length}
use Rattle.cases.specs.Run.{Run, Machine}
use Rattle.reply.specs.Reply.{ROOM}
use Rattle.state.specs.declared.Unit.{Unit as TheUnit}
use Rattle.serving.specs.declared.Taken.{Taken}
use Rattle.serving.specs.Step.{step_next, step_text}
use Rattle.serving.specs.StepLaws.{step_short}

-- the unit as a machine over bytes: before each byte there must be room for the longest reply
abbrev pub machine : Machine TheUnit
machine = record { next = step_next; text = step_text; need = ROOM; short = step_short }

-- the next unit, the number taken and the number written
abbrev pub taken_of : Run TheUnit → Taken
taken_of r = record { next = r.next; taken = r.taken; written = length r.out }
