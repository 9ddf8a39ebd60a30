-- Circle 2 of docs/trust.md.
-- What `--strict` demands, and src/strict.rt tests: that the verdict ignores no line of the instance. It ignores a line
-- with an unknown keyword, and one whose field the TYPE or the weight type of the instance doesn't use. tsp_c and
-- tsp_judge import it, too.
use Rattle.tsp_verdict.specs.Prelude.{Bool, true, false, not, IsTrue, Option, None, Some, is_some, option_map, ℕ, List, [], Fields, Reason, NotJudged, NotUsed, Verdict, Ok, Err, BoundVerdict}
use Rattle.std.specs.Prelude.{◌≡◌, ◌&&◌, ◌∷◌}
use Rattle.std.specs.List.{find}
use Rattle.tsp_format.specs.Words.{fields_in_order}
use Rattle.tsp_format.specs.declared.keyword.Field.{Field}
use Rattle.tsp_format.specs.declared.keyword.Field.TheVariants as fields
use Rattle.tsp_file.specs.Fields.{stands_in}
use Rattle.tsp_file.specs.Rules.{is_explicit, is_function, is_routing}
use Rattle.tsp_report.specs.declared.verdict.KnownBound.{KnownBound}
use Rattle.tsp_report.specs.declared.verdict.Verdict.TheVariants.{Tour, Routes, No}

-- ---- the fields that an instance has but doesn't use

-- Each field by TYPE, weight type and weight format. Every instance uses those that name or draw it. With EXPLICIT,
-- coordinates are for drawing. EDGE_WEIGHT_FORMAT : FUNCTION says that there is no matrix, so it goes with all other
-- weight types. No instance uses those in the last row: SCALE, LOAD_UNIT, TOUR_SECTION and certificates' sections.
abbrev pub leaves_unused : Fields → Field → Bool
leaves_unused instance fields.NameKey = false
leaves_unused instance fields.TypeKey = false
leaves_unused instance fields.CommentKey = false
leaves_unused instance fields.OtherKey = false
leaves_unused instance fields.DimensionKey = false
leaves_unused instance fields.CapacityKey = not (is_routing instance.kind)
leaves_unused instance fields.EdgeWeightTypeKey = false
leaves_unused instance fields.EdgeWeightFormatKey = not (is_explicit instance.weight_kind) && not (is_function instance.weight_format)
leaves_unused instance fields.NodeCoordTypeKey = false
leaves_unused instance fields.DisplayDataTypeKey = false
leaves_unused instance fields.NodeCoordPart = false
leaves_unused instance fields.DisplayDataPart = false
leaves_unused instance fields.DemandPart = not (is_routing instance.kind)
leaves_unused instance fields.DepotPart = not (is_routing instance.kind)
leaves_unused instance fields.FixedEdgesPart = false
leaves_unused instance fields.EdgeWeightPart = not (is_explicit instance.weight_kind)
leaves_unused instance other = true

-- the instance has a field, but doesn't use it
abbrev pub stands_unused : Fields → Field → Bool
stands_unused instance field = stands_in instance field && leaves_unused instance field

-- the first such field, in canonical order
abbrev pub first_unused : Fields → Option Field
first_unused instance = find (stands_unused instance) fields_in_order

-- the instance uses each field that it has
abbrev pub UsesItsFields : Fields → Type 0
UsesItsFields instance = (field : Field) → IsTrue (stands_in instance field) → leaves_unused instance field ≡ false

-- the verdict ignores no line of the instance
abbrev pub IsJudgedWhole : Fields → Type 0
IsJudgedWhole instance = (instance.others ≡ []) × UsesItsFields instance

-- ---- ignored lines as a reason

-- the reason for these lines of unknown keywords and this unused field; unknown keywords come first
abbrev pub reason_by : List (List ℕ × List ℕ) → Option Field → Option Reason
reason_by [] None = None
reason_by [] (Some field) = Some (NotUsed field)
reason_by (line ∷ lines) field = Some NotJudged

-- with `--strict`, the reason against an instance with an ignored line
abbrev pub strict_reason : Bool → Fields → Option Reason
strict_reason false instance = None
strict_reason true instance = reason_by instance.others (first_unused instance)

-- the verdict if there is such a reason: an accepted solution is rejected, and a rejected one keeps its reason
abbrev pub strict_verdict : Option Reason → Verdict → Verdict
strict_verdict None verdict = verdict
strict_verdict (Some strict) (Tour length bound) = No strict
strict_verdict (Some strict) (Routes length routes least bound) = No strict
strict_verdict (Some strict) (No reason) = No reason

-- the same for a bound without a solution
abbrev pub strict_bound : Option Reason → BoundVerdict → BoundVerdict
strict_bound None found = found
strict_bound (Some strict) (Ok bound) = Err strict
strict_bound (Some strict) (Err reason) = Err reason

-- the same for what is found for all solutions, with or without a certificate
abbrev pub strict_found : Option Reason → Option BoundVerdict → Option BoundVerdict
strict_found None found = found
strict_found (Some strict) None = Some (Err strict)
strict_found (Some strict) (Some found) = Some (strict_bound (Some strict) found)

-- the same for a known bound
abbrev pub strict_known_bound : Option Reason → KnownBound → KnownBound
strict_known_bound strict known_bound = record known_bound { found = strict_found strict known_bound.found }
