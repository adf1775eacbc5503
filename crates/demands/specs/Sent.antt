-- A block that is sent to a new unit. What a reader must believe.
use Rattle.std.specs.Prelude.{List, ℕ, replicate}
use Prim.Native.String.{String}
use Rattle.cases.specs.Run.{Run, run_of}
use Rattle.state.specs.declared.Unit.{Unit as TheUnit}
use Rattle.state.specs.Changes.{new_unit}
use Rattle.serving.specs.declared.Taken.{Taken}
use Rattle.serving.specs.Machine.{machine}
use Rattle.demands.specs.Host.{Took, Allowed}
use Rattle.demands.specs.Typed.{ascii}

-- a block that is sent to a new unit with this much room, and what the machine makes of it
abbrev pub room : ℕ → List ℕ
room n = replicate n 0

abbrev pub run : String → ℕ → Run TheUnit
run s n = run_of machine new_unit n (ascii s)

-- the results that came back of it
abbrev pub Back : String → ℕ → Taken → List ℕ → Type 0
Back s n r m = Allowed new_unit (Took (ascii s) (room n) r m)
