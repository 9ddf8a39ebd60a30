-- The loop of `first_bad` in src/table.rt, which finds the first field that is invalid on its own.
use Rattle.std.proofs.Common.{◌≡◌, drop}
use Rattle.tsp_file.specs.states.Drafts.{fields_of}
use Rattle.tsp_file.specs.Validity.{fits, first_failing}
use Rattle.tsp_file.proofs.table.first_bad.Given as goal

-- the first invalid field among those left is the first of all
abbrev pub invariant-loop-field : goal.invariant-loop-field
invariant-loop-field l =
    first_failing (fits (fields_of l.draft)) (drop l.field-index l.fields) ≡ first_failing (fits (fields_of l.draft)) l.fields
