-- The names of the commands: document 01, the table of "Commands", in its order. What a reader must believe.
use Rattle.std.specs.Prelude.{Bool, ◌&&◌, List, [], ◌∷◌, ℕ, get_or, eqb, Option, Some, None}
use Rattle.cases.specs.Pick.{pick}
use Rattle.line.specs.declared.names.Letters.{Letters}
use Rattle.line.specs.declared.names.Name.{Name}
use Rattle.line.specs.declared.names.Name.TheVariants as name

pub record Entry : Type 0 where
  pub letters : List ℕ
  pub name : Name

abbrev pub entry : ℕ → ℕ → ℕ → Name → Entry
entry a b c n = record { letters = a ∷ b ∷ c ∷ []; name = n }

abbrev pub names : List Entry
names =
    entry 0x47 0x43 0x41 name.Gca
    ∷ entry 0x47 0x44 0x45 name.Gde
    ∷ entry 0x43 0x57 0x54 name.Cwt
    ∷ entry 0x4c 0x44 0x57 name.Ldw
    ∷ entry 0x4c 0x57 0x54 name.Lwt
    ∷ entry 0x4e 0x4f 0x56 name.Nov
    ∷ entry 0x52 0x53 0x4e name.Rsn
    ∷ entry 0x45 0x4e 0x55 name.Enu
    ∷ entry 0x44 0x50 0x54 name.Dpt
    ∷ entry 0x5a 0x53 0x45 name.Zse
    ∷ entry 0x5a 0x54 0x52 name.Ztr
    ∷ entry 0x4c 0x46 0x54 name.Lft
    ∷ entry 0x43 0x4f 0x46 name.Cof
    ∷ entry 0x54 0x41 0x53 name.Tas
    ∷ entry 0x54 0x41 0x56 name.Tav
    ∷ entry 0x54 0x41 0x52 name.Tar
    ∷ entry 0x43 0x44 0x4c name.Cdl
    ∷ entry 0x52 0x45 0x53 name.Res
    ∷ entry 0x54 0x44 0x44 name.Tdd
    ∷ entry 0x53 0x50 0x57 name.Spw
    ∷ entry 0x44 0x50 0x57 name.Dpw
    ∷ entry 0x4d 0x53 0x56 name.Msv
    ∷ entry 0x54 0x43 0x52 name.Tcr
    ∷ entry 0x45 0x53 0x52 name.Esr
    ∷ []

abbrev pub letters : ℕ → ℕ → ℕ → Letters
letters a b c = record { 0 = a ∷ b ∷ c ∷ [] }

-- the three letters are those of a fixed byte string
unfoldable pub same_of : Letters → List ℕ → Bool
same_of n w = eqb (get_or n.0 0 0) (get_or w 0 0) && (eqb (get_or n.0 1 0) (get_or w 1 0) && eqb (get_or n.0 2 0) (get_or w 2 0))

-- what three letters call: the name whose letters they are, or none
abbrev pub look_of : List Entry → Letters → Option Name
look_of [] n = None
look_of (e ∷ t) n = pick (same_of n e.letters) (Some e.name) (look_of t n)

abbrev pub called_of : Letters → Option Name
called_of n = look_of names n
