-- What a line is for the saved settings and the counter: a save, a trade-mode change, or neither. Document 01, "Saving, password, trade mode". What a reader must believe.
use Rattle.std.specs.Prelude.{Bool, List, [], ◌∷◌, ℕ, eqb, length, get_or, Ok, Err}
use Rattle.cases.specs.Pick.{pick}
use Rattle.cases.specs.Tests.{all_of}
use Rattle.line.specs.declared.names.Name.{Name}
use Rattle.line.specs.declared.names.Name.TheVariants as name
use Rattle.line.specs.declared.shape.Param.{Param}
use Rattle.line.specs.Shape.{Shape}
use Rattle.line.specs.declared.shape.Fault.TheVariants as fault
use Rattle.line.specs.Param.{is_query}
use Rattle.reply.specs.Reply.{refused_text}
use Rattle.plans.specs.Plans.{size}

pub data Kind : Type 0 where
  plain saving trading : Kind

-- of a command that was done at the LFT given: TDD1 is a save, and LFT with another value than that a trade-mode change
abbrev pub kind_done : ℕ → Name → Param → Kind
kind_done lft name.Gca p = plain
kind_done lft name.Gde p = plain
kind_done lft name.Cwt p = plain
kind_done lft name.Ldw p = plain
kind_done lft name.Lwt p = plain
kind_done lft name.Nov p = plain
kind_done lft name.Rsn p = plain
kind_done lft name.Enu p = plain
kind_done lft name.Dpt p = plain
kind_done lft name.Zse p = plain
kind_done lft name.Ztr p = plain
kind_done lft name.Lft p = pick (eqb (size p) lft) plain trading
kind_done lft name.Cof p = plain
kind_done lft name.Tas p = plain
kind_done lft name.Tav p = plain
kind_done lft name.Tar p = plain
kind_done lft name.Cdl p = plain
kind_done lft name.Res p = plain
kind_done lft name.Tdd p = pick (eqb (size p) 1) saving plain
kind_done lft name.Spw p = plain
kind_done lft name.Dpw p = plain
kind_done lft name.Msv p = plain
kind_done lft name.Tcr p = plain
kind_done lft name.Esr p = plain

-- of a line by its shape: a query is neither
abbrev pub kind_shape : ℕ → Shape → Kind
kind_shape lft (Err fault.Malformed) = plain
kind_shape lft (Err fault.Unknown) = plain
kind_shape lft (Ok c) = pick (is_query c.param) plain (kind_done lft c.name c.param)

-- a reply is `?` CR LF
abbrev pub refusal_tests : List ℕ → List Bool
refusal_tests t = eqb (length t) 3 ∷ eqb (get_or t 0 0) (get_or refused_text 0 0) ∷ eqb (get_or t 1 0) (get_or refused_text 1 0) ∷ eqb (get_or t 2 0) (get_or refused_text 2 0) ∷ []

unfoldable pub is_refusal : List ℕ → Bool
is_refusal t = all_of (refusal_tests t)

-- of a line with its reply: only a line that was accepted counts, and it was where its reply is not `?`
abbrev pub kind_line : ℕ → Shape → List ℕ → Kind
kind_line lft x t = pick (is_refusal t) plain (kind_shape lft x)
