use Rattle.std.proofs.Common.{◌≡◌, drop}
use Rattle.line.specs.Names.{called_of}
use Rattle.line.proofs.NameLaws.{table, found_in}
use Rattle.line.proofs.names.called_by.Given as goal

-- the entries that are left answer for all of them
abbrev pub invariant-loop-letters : goal.invariant-loop-letters
invariant-loop-letters l = found_in (drop l.letters-index table) l.n ≡ called_of l.n
