-- The goals of `text_at` in src/form_check.rt, which reads a file whole: what it ensures.
use Rattle.std.specs.Prelude.{ℕ, List, Option, Result, Ok, Err, MatchResult, Vec}
use Rattle.std.specs.Prelude.{◌≡◌}
use Rattle.std.specs.declared.io.Error.{Error}
use Rattle.tsp_io.specs.Streams.{TakesAtMost}
use Rattle.tsp_io.specs.states.Watched.{read_trace_of}
use Rattle.tsp_judge.specs.declared.Watched.{Watched}
use Rattle.tsp_read.specs.Reads.{IsReadOn, most_taken}
use Rattle.tsp_solution.specs.SolutionRun.{IsReadWhole, StopsText}
use Rattle.tsp_solution.specs.declared.fault.SolutionFault.{SolutionFault}
use Rattle.tsp_tool.specs.FormCheck.{GivesWhole, LacksBytes}
use Rattle.tsp_tool.specs.ProgramRun.{IsFresh}
use Rattle.tsp_tool.specs.declared.job.InputPath.{InputPath}
use Rattle.tsp_tool.proofs.form_check.text_at.Goals as goal

-- the text of an opened file, or why it can't be had
of_read : {F Z : Type 0} (remaining : F → Option (List ℕ)) (gives : F → List ℕ → Result ℕ Error → List ℕ → F → Type 0)
    (begins : InputPath → Watched F → Type 0) (place : InputPath) (old new : Watched F) (answer : Result (Vec ℕ Z) SolutionFault)
    → begins place old
    → TakesAtMost most_taken (read_trace_of remaining old new) (λ read_trace.
    MatchResult answer (λ text. IsReadWhole read_trace × (text.items ≡ read_trace.given)) (λ fault. StopsText fault read_trace))
    → IsReadOn gives old new
    → MatchResult answer (λ text. GivesWhole remaining gives begins place text.items) (λ fault. LacksBytes remaining gives begins place fault)
of_read remaining gives begins place old new (Ok text) opened took asked = (old, new, opened, took, asked)
of_read remaining gives begins place old new (Err fault) opened took asked = (old, new, opened, took, asked)

pub returns : goal.returns
returns g c =
    of_read g.F.Read.remaining g.F.Gives.gives (IsFresh (g.O.Open.opens c.args.files.now)) c.args.place c.fresh-reader.result c.read_text.new.reader c.read_text.result c.fresh-reader.ensures
    c.read_text.ensures.answer c.read_text.ensures.asked
