use Rattle.std.proofs.Common.{◌≡◌, ◌^◌, ◌<◌, drop}
use Rattle.line.specs.Shape.{all_of, is_digit, value_from}
use Rattle.line.proofs.shape.read_digits.Given as goal

-- what is left of the slice answers for the whole of it
abbrev pub invariant-loop-b : goal.invariant-loop-b
invariant-loop-b l = (all_of is_digit (drop l.b-index l.s) ≡ all_of is_digit l.s) × (value_from l.v (drop l.b-index l.s) ≡ value_from 0 l.s) × (l.v < 10 ^ l.b-index)
