-- The loop of `first_missing` in src/rules.rt, which finds the first required field that is missing.
use Rattle.std.proofs.Common.{◌≡◌, drop}
use Rattle.tsp_file.specs.states.Drafts.{fields_of}
use Rattle.tsp_file.specs.Validity.{first_failing}
use Rattle.tsp_file.specs.Rules.{standing_of, is_there}
use Rattle.tsp_file.proofs.rules.first_missing.Given as goal

-- the first missing field among those left is the first of all
abbrev pub invariant-loop-field : goal.invariant-loop-field
invariant-loop-field l =
    first_failing (is_there (standing_of (fields_of l.draft))) (drop l.field-index l.fields) ≡ first_failing (is_there (standing_of (fields_of l.draft))) l.fields
