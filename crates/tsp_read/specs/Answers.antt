-- What may come of reading the canonical text of a file: that file, or that memory was refused. For the laws in
-- src/round_trip.rt alone.
use Rattle.tsp_read.specs.Prelude.{Result, Ok, Err, Fields, ReadFault}
use Rattle.std.specs.Prelude.{◌≡◌}
use Rattle.tsp_text.specs.declared.fault.ReadFault.TheVariants as faults

-- it is this file, or memory was refused
abbrev pub IsThisFile : Fields → Result Fields ReadFault → Type 0
IsThisFile file (Ok other) = other ≡ file
IsThisFile file (Err (faults.Line line word found)) = ⊥
IsThisFile file (Err (faults.End found)) = ⊥
IsThisFile file (Err faults.OutOfMemory) = Unit {0}
IsThisFile file (Err faults.Device) = ⊥
IsThisFile file (Err faults.TooLong) = ⊥
