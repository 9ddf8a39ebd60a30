-- If a run on readers says `yes`, what this means for the texts that the readers deliver (`accepted_on`). For
-- src/report.rt.
use Rattle.std.proofs.Common.{◌≡◌, ℕ, List, [], ◌⊎◌, subst, sym}
use Rattle.std.specs.Prelude.{Option, None, Some, IfSome, false}
use Rattle.std.specs.Io.KnownBytes.{Appends}
use Rattle.tsp_io.specs.Streams.{ReadTrace, Sink, HasWritten}
use Rattle.tsp_file.specs.Fields.{Fields}
use Rattle.tsp_text.specs.ParsesTo.{ParsesTo}
use Rattle.tsp_read.specs.Reads.{IsFile}
use Rattle.tsp_report.specs.declared.task.CertificateKind.{CertificateKind}
use Rattle.tsp_judge.specs.CheckRun.{IsFileIn, SaysYes}
use Rattle.tsp_judge.specs.Accepted.{IsAccepted, IsAcceptedTour, AreAcceptedRoutes}
use Rattle.example_check.specs.Texts.{IsAcceptedOnTexts}

-- the file of a reader whose bytes are known is that of its text
spelled : (read_trace : ReadTrace) (text : List ℕ) (file : Fields) → read_trace.known ≡ Some text → IsFile read_trace file → ParsesTo text file
spelled read_trace text file known is = subst (λ (k : Option (List ℕ)). IfSome k (λ xs. ParsesTo xs file)) known is.3

-- a writer that held nothing holds the report
printed : (sink : Sink) (written report : List ℕ) → sink.held ≡ Some [] → sink.holds ≡ Some written → HasWritten sink report
    → written ≡ report
printed sink written report held holds has =
    let a : Appends (Some []) sink.holds report = subst (λ (k : Option (List ℕ)). Appends k sink.holds report) held has.2 in
    subst (λ (k : Option (List ℕ)). Appends (Some []) k report) holds a

-- without a certificate the line `yes` is about a tour, or about routes
alone : (certificate : Option (CertificateKind × Fields)) (instance solution : Fields) (report : List ℕ) → IsFileIn None certificate
    → IsAccepted certificate None instance solution report
    → IsAcceptedTour None instance solution report ⊎ AreAcceptedRoutes None instance solution report
alone None instance solution report is accepted = accepted
alone (Some given) instance solution report is accepted = absurd is

-- plan: the readers deliver the bytes of both texts, so the files are those of the texts (`spelled`), and the writer
-- holds the report (`printed`)
pub accepted_on : (first second : ReadTrace) (sink : Sink) (one two written : List ℕ) → first.known ≡ Some one → second.known ≡ Some two
    → sink.held ≡ Some [] → sink.holds ≡ Some written → SaysYes None None false first second sink → IsAcceptedOnTexts one two written
accepted_on first second sink one two written first_is second_is held holds says = record {
  instance = says.instance;
  solution = says.solution;
  first_file = spelled first one says.instance first_is says.read.first_file;
  second_file = spelled second two says.solution second_is says.read.second_file;
  accepted = subst (λ (r : List ℕ). IsAcceptedTour None says.instance says.solution r ⊎ AreAcceptedRoutes None says.instance says.solution r)
      (sym (printed sink written says.report held holds says.written))
      (alone says.certificate says.instance says.solution says.report says.read.third_file says.meaning);
}
