-- The loop of `first_among` in src/reading.rt.
use Rattle.std.proofs.Common.{◌≡◌, drop}
use Rattle.tsp_read.specs.states.Holds.{first_of}
use Rattle.tsp_read.proofs.reading.first_among.Given as goal

-- the first of all fields that is one of the two is the first of the fields left
abbrev pub invariant-loop-field : goal.invariant-loop-field
invariant-loop-field l = first_of l.section l.other (drop l.field-index l.fields) ≡ first_of l.section l.other l.fields
