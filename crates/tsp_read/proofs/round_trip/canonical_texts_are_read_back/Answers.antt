-- The goals of `canonical_texts_are_read_back` in src/round_trip.rt. The canonical text of a valid file parses to that
-- file, and to no other: from the one answer of every text.
use Rattle.tsp_read.proofs.Prelude.{ℕ, List, sym, subst, ◌∙◌, Result, Ok, Err, none-some, Fields, text_of, ReadFault, ParsesTo}
use Rattle.tsp_text.specs.declared.fault.ReadFault.TheVariants as faults
use Rattle.tsp_read.specs.Reads.{Reads}
use Rattle.tsp_read.specs.Answers.{IsThisFile}
use Rattle.tsp_read.proofs.NumbersReadBack.{NumberLaws}
use Rattle.tsp_read.proofs.KeyFields.{text_spelled}
use Rattle.tsp_read.proofs.round_trip.canonical_texts_are_read_back.Goals as goal

-- plan: the text parses to the file (`text_spelled`), and a text has one answer, so it is read as no other
-- (`only_this`)
pub returns-clause-spelled : goal.returns-clause-spelled
returns-clause-spelled c =
    let numbers = c.written_numbers_are_read_back.ensures in
    let laws : NumberLaws = record { whole_back = numbers.whole; decimal_back = numbers.coordinate } in
    λ f valid. text_spelled laws f valid (c.a_valid_text_is_short.ensures.whole f valid)

pub returns-clause-alone : goal.returns-clause-alone
returns-clause-alone c =
    let parses_to = returns-clause-spelled c in
    λ f other valid also. c.texts_have_one_answer.ensures.one_file (text_of f) other f also (parses_to f valid)

-- a text that parses to a file is read as that file
only_this : (bytes : List ℕ) (file : Fields) (answer : Result Fields ReadFault) → ParsesTo bytes file → Reads bytes answer
    → IsThisFile file answer
only_this bytes file (Ok other) parses_to reads = reads.fields ∙ sym parses_to.fields
only_this bytes file (Err (faults.Line line word found)) parses_to reads =
    absurd (none-some (faults.Line line word found) (sym parses_to.no_fault ∙ reads))
only_this bytes file (Err (faults.End found)) parses_to reads = absurd (none-some (faults.End found) (sym parses_to.no_fault ∙ reads))
only_this bytes file (Err faults.OutOfMemory) parses_to reads = tt
only_this bytes file (Err faults.Device) parses_to reads = reads
only_this bytes file (Err faults.TooLong) parses_to reads = absurd (none-some faults.TooLong (sym parses_to.no_fault ∙ reads))

pub returns-clause-read : goal.returns-clause-read
returns-clause-read c =
    let parses_to = returns-clause-spelled c in
    λ f answer valid reads. only_this (text_of f) f answer (parses_to f valid) reads

pub returns-clause-told_apart : goal.returns-clause-told_apart
returns-clause-told_apart c =
    let parses_to = returns-clause-spelled c in
    λ f other valid also same. c.texts_have_one_answer.ensures.one_file (text_of other) f other (subst (λ (bytes : List ℕ). ParsesTo bytes f) same (parses_to f valid)) (parses_to other also)

pub returns-clause-again : goal.returns-clause-again
returns-clause-again c =
    let parses_to = returns-clause-spelled c in
    λ bytes f h. parses_to f (c.spelled_files_are_valid.ensures.of_text bytes f h)
