-- What one byte does to a unit, and what it writes. Document 01, "Command lines", first paragraph. What a reader must believe.
use Rattle.std.specs.Prelude.{List, [], ℕ}
use Rattle.cases.specs.Pick.{pick}
use Rattle.line.specs.declared.cut.Moved.{Moved}
use Rattle.line.specs.Line.{none_kept, fresh_pos, is_end, moved_of, stored_of}
use Rattle.state.specs.declared.Unit.{Unit as TheUnit}
use Rattle.state.specs.Changes.{lined}
use Rattle.plans.specs.Obey.{obey_of}

-- within a line only the line moves
abbrev pub moved_unit : TheUnit → Moved → ℕ → TheUnit
moved_unit u m b = lined u (stored_of u.kept m b) m.pos

-- at its end mark the line is obeyed, and a new one begins
abbrev pub ended_unit : TheUnit → TheUnit
ended_unit u = lined (obey_of u u.kept u.pos).next none_kept fresh_pos

unfoldable pub step_next : TheUnit → ℕ → TheUnit
step_next u b = pick (is_end (moved_of u.pos b).act) (ended_unit u) (moved_unit u (moved_of u.pos b) b)

-- only an end mark is answered
unfoldable pub step_text : TheUnit → ℕ → List ℕ
step_text u b = pick (is_end (moved_of u.pos b).act) (obey_of u u.kept u.pos).text []
