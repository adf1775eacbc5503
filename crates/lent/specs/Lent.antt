-- The counts of a block of bytes. All else that the contracts cite is `wire`'s, `serving`'s or `cases`'. What a reader must believe.
use Rattle.std.specs.Prelude.{length}
use Rattle.cases.specs.Run.{Run}
use Rattle.state.specs.declared.Unit.{Unit as TheUnit}
use Rattle.lent.specs.declared.Counts.{Counts}

-- the number taken and the number written
abbrev pub counts_of : Run TheUnit → Counts
counts_of r = record { taken = r.taken; written = length r.out }
