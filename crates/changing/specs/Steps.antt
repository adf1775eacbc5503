-- What the steps of SPW and DPW come to. Assumes nothing.
use Rattle.std.specs.Prelude.{Result, Ok, Err, List, ℕ, take, drop}
use Rattle.line.specs.declared.shape.Param.{Param}
use Rattle.line.specs.declared.shape.Param.TheVariants as param
use Rattle.state.specs.declared.Password.{Password}
use Rattle.state.specs.declared.Reason.{Reason}
use Rattle.state.specs.declared.Reason.TheVariants.{Form}
use Rattle.plans.specs.Plans.{word_of}

-- a text as a password, or a form that the command lacks
abbrev pub word_typed : List ℕ → Param → Result Password Reason
word_typed s param.Nothing = Err Form
word_typed s param.Query = Err Form
word_typed s (param.Number x) = Err Form
word_typed s (param.Text a k) = Ok (word_of (take k (drop a s)))
