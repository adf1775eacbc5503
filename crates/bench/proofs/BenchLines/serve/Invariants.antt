use Rattle.std.proofs.Common.{true, ◌-◌, ◌≡◌, ◌≤◌, ◌<◌, length}
use Rattle.state.specs.Sound.{sound_of}
use Rattle.bench.proofs.BenchLines.serve.Given as goal

abbrev pub invariant-loop-from-2 : goal.invariant-loop-from-2
invariant-loop-from-2 g l = (sound_of l.unit ≡ true) × ((l.from ≤ l.to) × (l.to ≤ length l.bytes))

abbrev pub decreases-loop-from-2 : goal.decreases-loop-from-2
decreases-loop-from-2 g l = l.to - l.from

abbrev pub invariant-loop-from : goal.invariant-loop-from
invariant-loop-from g l = (sound_of l.unit ≡ true) × ((length l.bytes ≡ length l.initial.bytes) × (length l.initial.bytes < 18446744073709551615))

abbrev pub decreases-loop-from : goal.decreases-loop-from
decreases-loop-from g l = length l.initial.bytes - l.from
