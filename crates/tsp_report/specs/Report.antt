-- Circle 2 of docs/trust.md.
-- The bytes of the reports of `tsp check`, `tsp bound` and `tsp compare`, line by line, which src/report.rt and
-- src/compared.rt write. Each line ends with byte 10, and words are separated by one blank. tsp_c and tsp_judge import
-- it, too.
use Rattle.std.specs.Fmt.{signed_decimal}
use Rattle.std.specs.List.{concat}
use Rattle.std.specs.Option.{option_map_or}
use Rattle.std.specs.Ordering.{int_eq}
use Rattle.std.specs.Prelude.{ℕ, List, ◌∷◌, ◌++◌, map, codes, decimal, cond, ℤ, pos, ◌-ℤ◌, Option, None, Some, [], IfSome, unsigned_abs, ◌≤◌, ◌^◌, Result, Ok, Err}
use Rattle.tsp_format.specs.Words.{field_word, kind_word}
use Rattle.tsp_format.specs.declared.kinds.Kind.{Kind}
use Rattle.tsp_file.specs.Fields.{Fields, nodes_of}
use Rattle.tsp_text.specs.ParsesTo.{read_fault_text}
use Rattle.tsp_text.specs.declared.fault.ReadFault.{ReadFault}
use Rattle.tsp_report.specs.Verdicts.{BoundVerdict, ReasonRow, row_of_reason}
use Rattle.tsp_report.specs.declared.verdict.KnownBound.{KnownBound}
use Rattle.tsp_report.specs.declared.verdict.Reason.{Reason}
use Rattle.tsp_report.specs.declared.verdict.Reason.TheVariants.{NotJudged, NotUsed}
use Rattle.tsp_report.specs.declared.verdict.Verdict.{Verdict}
use Rattle.tsp_report.specs.declared.verdict.Verdict.TheVariants.{Tour, Routes, No}

-- ---- the instance

-- a line `not judged` for each line of an unknown keyword, in order
abbrev pub not_judged : List (List ℕ × List ℕ) → List ℕ
not_judged others = concat (map (λ other. codes "not judged " ++ other.0 ++ codes "\n") others)

-- the TYPE of the instance
abbrev pub type_line : Option Kind → List ℕ
type_line kind = codes "type " ++ option_map_or kind_word kind [] ++ codes "\n"

-- how many nodes it has
abbrev pub nodes_line : ℕ → List ℕ
nodes_line n = codes "nodes " ++ decimal n ++ codes "\n"

-- the first lines of each report
abbrev pub instance_lines : Fields → List ℕ
instance_lines f = type_line f.kind ++ nodes_line (nodes_of f) ++ not_judged f.others

-- ---- the verdict

-- a number of a reason, if it has it
abbrev pub after_blank : Option ℤ → List ℕ
after_blank None = []
after_blank (Some number) = codes " " ++ signed_decimal number

-- the name of a reason, and its numbers
abbrev pub row_text : ReasonRow → List ℕ
row_text row = row.name ++ after_blank row.numbers.0 ++ after_blank row.numbers.1

-- the same for a reason, by its row in the table
abbrev pub reason_text : Reason → List ℕ
reason_text reason = row_text (row_of_reason reason)

-- the gap of a length to the bound; `optimal` if it is 0
abbrev pub gap_lines : ℤ → List ℕ
gap_lines gap = cond (int_eq gap (pos 0)) (codes "\noptimal\n") (codes "\ngap " ++ signed_decimal gap ++ codes "\n")

-- the bound, if there is one, and the gap
abbrev pub bound_lines : ℤ → Option ℤ → List ℕ
bound_lines length None = []
bound_lines length (Some bound) = codes "bound " ++ signed_decimal bound ++ gap_lines (length -ℤ bound)

-- the word of the first unknown keyword
abbrev pub first_keyword : List (List ℕ × List ℕ) → List ℕ
first_keyword [] = []
first_keyword (other ∷ others) = codes " " ++ other.0

-- the same if that is the reason; the word of the field that isn't used
abbrev pub keyword_after_blank : Fields → Reason → List ℕ
keyword_after_blank instance NotJudged = first_keyword instance.others
keyword_after_blank instance (NotUsed field) = codes " " ++ field_word field
keyword_after_blank instance reason = []

-- the line `no` with its reason
abbrev pub no_line : Fields → Reason → List ℕ
no_line instance reason = codes "no " ++ reason_text reason ++ keyword_after_blank instance reason ++ codes "\n"

-- the length of an accepted solution, the bound, if there is one, and `yes`
abbrev pub accepted_lines : ℤ → Option ℤ → List ℕ
accepted_lines length bound = codes "length " ++ signed_decimal length ++ codes "\n" ++ bound_lines length bound
    ++ codes "yes\n"

-- the lines of a verdict
abbrev pub verdict_lines : Fields → Verdict → List ℕ
verdict_lines instance (Tour length bound) = accepted_lines length bound
verdict_lines instance (Routes length routes least bound) = codes "routes " ++ decimal routes ++ codes "\nleast " ++ decimal least
    ++ codes "\n" ++ accepted_lines length bound
verdict_lines instance (No reason) = no_line instance reason

-- a bound so small that its difference to a length fits 128 bits
abbrev pub IsGapSized : Option ℤ → Type 0
IsGapSized bound = IfSome bound (λ b. unsigned_abs b ≤ 2 ^ 126)

-- the same for the bound of a verdict
abbrev pub IsSized : Verdict → Type 0
IsSized (Tour length bound) = IsGapSized bound
IsSized (Routes length routes least bound) = IsGapSized bound
IsSized (No reason) = Unit {0}

-- the report of a check
abbrev pub report_of : Fields → Verdict → List ℕ
report_of instance verdict = instance_lines instance ++ verdict_lines instance verdict

-- ---- a bound without a solution

-- the bound, or `none` if the instance has no solution; or the first reason against the instance or the certificate
abbrev pub bound_found_lines : Fields → BoundVerdict → List ℕ
bound_found_lines instance (Ok (Some bound)) = codes "bound " ++ signed_decimal bound ++ codes "\nyes\n"
bound_found_lines instance (Ok None) = codes "bound none\nyes\n"
bound_found_lines instance (Err reason) = no_line instance reason

-- the report of a bound without a solution
abbrev pub bound_report_of : Fields → BoundVerdict → List ℕ
bound_report_of instance found = instance_lines instance ++ bound_found_lines instance found

-- ---- the text of `tsp compare`: a head on the instance and the certificate

-- ---- the head

-- the line of the least number of routes, for routes
abbrev pub least_line : Option ℕ → List ℕ
least_line None = []
least_line (Some least) = codes "least " ++ decimal least ++ codes "\n"

-- the line of a bound
abbrev pub line_of_bound : ℤ → List ℕ
line_of_bound bound = codes "bound " ++ signed_decimal bound ++ codes "\n"

-- the bound, if there is one, after the least number of routes; or `none` if the instance has no solution; or the first
-- reason against the instance or the certificate
abbrev pub known_lines : Fields → Option ℕ → Option BoundVerdict → List ℕ
known_lines instance least None = least_line least
known_lines instance least (Some (Ok (Some bound))) = least_line least ++ line_of_bound bound
known_lines instance least (Some (Ok None)) = codes "bound none\n"
known_lines instance least (Some (Err reason)) = no_line instance reason

-- the head: the lines of the instance, then those of what is known about all solutions
abbrev pub head_of : Fields → KnownBound → List ℕ
head_of instance known_bound = instance_lines instance ++ known_lines instance known_bound.least known_bound.found

-- ---- a solution

-- the gap of a length to the bound; `optimal` if it is 0
abbrev pub gap_words : ℤ → List ℕ
gap_words gap = cond (int_eq gap (pos 0)) (codes " optimal") (codes " gap " ++ signed_decimal gap)

-- the same if there is a bound
abbrev pub bound_words : ℤ → Option ℤ → List ℕ
bound_words length None = []
bound_words length (Some bound) = gap_words (length -ℤ bound)

-- the length of an accepted solution, or the reason against it
abbrev pub verdict_words : Verdict → List ℕ
verdict_words (Tour length bound) = signed_decimal length ++ bound_words length bound
verdict_words (Routes length routes least bound) = signed_decimal length ++ codes " routes " ++ decimal routes
    ++ bound_words length bound
verdict_words (No reason) = codes "no " ++ reason_text reason

-- the words of the verdict on a solution, or the fault of its file
abbrev pub found_words : Result Verdict ReadFault → List ℕ
found_words (Ok verdict) = verdict_words verdict
found_words (Err fault) = read_fault_text fault

-- the line of a solution: these words, and its path as it was given
abbrev pub solution_line : Result Verdict ReadFault → List ℕ → List ℕ
solution_line found path = found_words found ++ codes " " ++ path ++ codes "\n"
