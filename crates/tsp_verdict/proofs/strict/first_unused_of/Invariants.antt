-- The loop of `first_unused_of` in src/strict.rt, which finds the first field that isn't used.
use Rattle.std.proofs.Common.{◌≡◌, drop}
use Rattle.std.specs.List.{find}
use Rattle.tsp_file.specs.states.Drafts.{fields_of}
use Rattle.tsp_verdict.specs.Strict.{stands_unused}
use Rattle.tsp_verdict.proofs.strict.first_unused_of.Given as goal

-- the first such field among those left is the first of all
abbrev pub invariant-loop-field : goal.invariant-loop-field
invariant-loop-field l =
    find (stands_unused (fields_of l.instance)) (drop l.field-index l.fields) ≡ find (stands_unused (fields_of l.instance)) l.fields
