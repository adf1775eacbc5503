-- A parameter's kind, and what it holds, for the command that wants this kind. Document 01, "Shapes asked for". What a reader must believe.
use Rattle.std.specs.Prelude.{Bool, true, false, List, [], ℕ, ℤ, pos, take, drop}
use Rattle.line.specs.declared.shape.Number.{Number}
use Rattle.line.specs.declared.shape.Param.{Param}
use Rattle.line.specs.declared.shape.Param.TheVariants as param

abbrev pub number : ℤ → Number
number z = record { 0 = z }

abbrev pub is_nothing : Param → Bool
is_nothing param.Nothing = true
is_nothing param.Query = false
is_nothing (param.Number x) = false
is_nothing (param.Text a k) = false

abbrev pub is_query : Param → Bool
is_query param.Nothing = false
is_query param.Query = true
is_query (param.Number x) = false
is_query (param.Text a k) = false

abbrev pub is_number : Param → Bool
is_number param.Nothing = false
is_number param.Query = false
is_number (param.Number x) = true
is_number (param.Text a k) = false

abbrev pub is_text : Param → Bool
is_text param.Nothing = false
is_text param.Query = false
is_text (param.Number x) = false
is_text (param.Text a k) = true

-- the number; 0 where it is none
abbrev pub number_in : Param → Number
number_in param.Nothing = number (pos 0)
number_in param.Query = number (pos 0)
number_in (param.Number x) = x
number_in (param.Text a k) = number (pos 0)

-- the text's bytes within the line `s`; none where it is no text
abbrev pub text_in : Param → List ℕ → List ℕ
text_in param.Nothing s = []
text_in param.Query s = []
text_in (param.Number x) s = []
text_in (param.Text a k) s = take k (drop a s)
