-- The public operations by value. Document 01, "Reasons for "?"", its last paragraph, and "How much a contract says here". What a reader must believe.
-- A unit out of range comes back unchanged from each of them, and reads nothing (docs/DECISIONS.md, decision 3).
use Rattle.std.specs.Prelude.{Bool, List, ℕ, ℤ}
use Rattle.cases.specs.Pick.{pick}
use Rattle.cases.specs.Run.{Run, stop, run_of}
use Rattle.state.specs.declared.Unit.{Unit as TheUnit}
use Rattle.state.specs.Changes.{restarted_of}
use Rattle.state.specs.Ranged.{ranged_of}
use Rattle.weighing.specs.declared.Reading.{Reading}
use Rattle.weighing.specs.declared.Reading.TheVariants as reading
use Rattle.weighing.specs.Reading.{reading_of}
use Rattle.weighing.specs.Samples.{sample_of}
use Rattle.serving.specs.Machine.{machine}

abbrev pub sampled : TheUnit → ℤ → Bool → TheUnit
sampled u x still = pick (ranged_of u) (sample_of u x still) u

abbrev pub restarted : TheUnit → TheUnit
restarted u = pick (ranged_of u) (restarted_of u) u

abbrev pub read : TheUnit → Reading
read u = pick (ranged_of u) (reading_of u) reading.Nothing

-- what a block of bytes does, with this much room
abbrev pub block_of : TheUnit → ℕ → List ℕ → Run TheUnit
block_of u free bytes = pick (ranged_of u) (run_of machine u free bytes) (stop u)
