-- Document 01, "Reasons for "?"": the number of each reason. What a reader must believe.
use Rattle.std.specs.Prelude.{ℕ, Bool, true, false}
use Rattle.state.specs.declared.Reason.{Reason}
use Rattle.state.specs.declared.Reason.TheVariants.{None, Long, Form, Unknown, Locked, Barred, Value, Differs, Unsteady, Pointless, Range, Stands}

abbrev pub number_of : Reason → ℕ
number_of None = 0
-- line too long
number_of Long = 10
-- shape malformed, or a form that the command lacks
number_of Form = 2
-- unknown name
number_of Unknown = 1
-- needs the password, and locked
number_of Locked = 4
-- sealed setting, and LFT > 0
number_of Barred = 5
-- value or length not allowed
number_of Value = 3
-- SPW's text differs
number_of Differs = 11
-- no steady reading; MSV: no sample
number_of Unsteady = 6
-- LWT with no waiting point
number_of Pointless = 8
-- CDL or TAR outside its range
number_of Range = 7
-- the counter stands at its end
number_of Stands = 9

-- only the one that is no reason lets a command pass
abbrev pub passes_of : Reason → Bool
passes_of None = true
passes_of Long = false
passes_of Form = false
passes_of Unknown = false
passes_of Locked = false
passes_of Barred = false
passes_of Value = false
passes_of Differs = false
passes_of Unsteady = false
passes_of Pointless = false
passes_of Range = false
passes_of Stands = false
