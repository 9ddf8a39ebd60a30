-- A task that is run on its readers, and a comparison, as src/task_run.rt promises them. It only combines what the
-- other files here say about each run; tsp_tool states its contracts by it. In no circle of docs/trust.md.
use Rattle.tsp_judge.specs.Prelude.{ℕ, List, Bool, true, Result, Ok, Err, Option, Sink, is_yes, TakesAtMost, read_trace_of, most_taken, IsReadOn, is_ok}
use Rattle.std.specs.Prelude.{◌≡◌}
use Rattle.tsp_judge.specs.declared.bound_run.Bounded.{Bounded}
use Rattle.tsp_judge.specs.declared.check_run.Judged.{Judged}
use Rattle.tsp_judge.specs.declared.run_status.RunFault.{RunFault}
use Rattle.std.specs.declared.alloc.AllocError.{AllocError}
use Rattle.std.specs.declared.io.Error.{Error}
use Rattle.tsp_io.specs.declared.watched.Watched.{Watched}
use Rattle.tsp_report.specs.declared.task.Comparison.{Comparison}
use Rattle.tsp_report.specs.declared.task.FileTask.{FileTask}
use Rattle.tsp_report.specs.declared.task.FileTask.TheVariants.{Show, Convert, Check, Bound}
use Rattle.tsp_judge.specs.BoundRun.{IsBoundRunOf}
use Rattle.tsp_judge.specs.CompareRun.{IsCompareRun}
use Rattle.tsp_judge.specs.declared.compare_run.Compared.{Compared}
use Rattle.tsp_judge.specs.declared.task_run.Outcome.{Outcome}
use Rattle.tsp_judge.specs.declared.task_run.Outcome.TheVariants as outcomes
use Rattle.tsp_judge.specs.CheckRun.{TakesNamed, IsNamedReadOn, IsRunOf}
use Rattle.tsp_judge.specs.ConvertRun.{IsShowRun, IsConvertRun}

-- whether nothing is rejected: no solution, no instance and no certificate
abbrev pub is_yes_outcome : Outcome → Bool
is_yes_outcome outcomes.Done = true
is_yes_outcome (outcomes.Judged judged) = is_yes judged.verdict
is_yes_outcome (outcomes.Bounded bounded) = is_ok bounded.found

-- the outcome of `show` or `convert`
abbrev pub outcome_of_writing : Result (Unit {0}) RunFault → Result Outcome RunFault
outcome_of_writing (Ok done) = Ok outcomes.Done
outcome_of_writing (Err fault) = Err fault

-- the outcome of a check
abbrev pub outcome_of_check : Result Judged RunFault → Result Outcome RunFault
outcome_of_check (Ok judged) = Ok (outcomes.Judged judged)
outcome_of_check (Err fault) = Err fault

-- the outcome of a bound
abbrev pub outcome_of_bound : Result Bounded RunFault → Result Outcome RunFault
outcome_of_bound (Ok bounded) = Ok (outcomes.Bounded bounded)
outcome_of_bound (Err fault) = Err fault

-- The task is done on these readers. The first task has them as they were, the second one as they are left.
abbrev pub IsDone : {R : Type 0} → (R → Option (List ℕ)) → FileTask (Watched R) → FileTask (Watched R) → Sink
    → Result Outcome RunFault → Type 0
IsDone remaining (Show file) (Show left) sink outcome = TakesAtMost most_taken (read_trace_of remaining file left) (λ read_trace.
    (ended : Result (Unit {0}) RunFault) × (outcome ≡ outcome_of_writing ended) × IsShowRun read_trace sink ended)
IsDone remaining (Convert file to) (Convert left same) sink outcome = TakesAtMost most_taken (read_trace_of remaining file left)
    (λ read_trace.
    (ended : Result (Unit {0}) RunFault) × (outcome ≡ outcome_of_writing ended) × IsConvertRun to read_trace sink ended)
IsDone remaining (Check instance solution certificate claimed strict) (Check instance_left solution_left certificate_left same also)
    sink outcome =
    TakesAtMost most_taken (read_trace_of remaining instance instance_left) (λ first.
    TakesAtMost most_taken (read_trace_of remaining solution solution_left) (λ second.
    TakesNamed remaining certificate certificate_left (λ given.
    (ended : Result Judged RunFault) × (outcome ≡ outcome_of_check ended) × IsRunOf given claimed strict first second sink ended)))
IsDone remaining (Bound instance certificate strict) (Bound instance_left certificate_left same) sink outcome =
    TakesAtMost most_taken (read_trace_of remaining instance instance_left) (λ first.
    TakesAtMost most_taken (read_trace_of remaining certificate.1 certificate_left.1) (λ second.
    (ended : Result Bounded RunFault) × (outcome ≡ outcome_of_bound ended)
    × IsBoundRunOf certificate.0 strict first second sink ended))
IsDone remaining _ _ sink outcome = ⊥

-- Each reader of a task was asked some reads, and has failed if the last read failed.
abbrev pub AreReadOn : {R : Type 0} → (R → List ℕ → Result ℕ Error → List ℕ → R → Type 0) → FileTask (Watched R) → FileTask (Watched R) → Type 0
AreReadOn gives (Show file) (Show left) = IsReadOn gives file left
AreReadOn gives (Convert file to) (Convert left same) = IsReadOn gives file left
AreReadOn gives (Check instance solution certificate claimed strict)
    (Check instance_left solution_left certificate_left same also) =
    IsReadOn gives instance instance_left × IsReadOn gives solution solution_left
    × IsNamedReadOn gives certificate certificate_left
AreReadOn gives (Bound instance certificate strict) (Bound instance_left certificate_left same) = IsReadOn gives instance instance_left
    × IsReadOn gives certificate.1 certificate_left.1
AreReadOn gives _ _ = ⊥

-- the same for the readers of a comparison, without those of the solutions
abbrev pub AreComparedOn : {R : Type 0} → (R → List ℕ → Result ℕ Error → List ℕ → R → Type 0) → Comparison (Watched R)
    → Comparison (Watched R) → Type 0
AreComparedOn gives old new = IsReadOn gives old.instance new.instance × IsNamedReadOn gives old.certificate new.certificate

-- The solutions are compared with these readers: that of the instance, and that of the certificate, if there is one.
-- The reader of each solution comes from opening its index.
abbrev pub IsCompared : {R : Type 0} → (R → Option (List ℕ)) → (R → List ℕ → Result ℕ Error → List ℕ → R → Type 0)
    → (ℕ → Result R AllocError → Type 0) → List (List ℕ) → Comparison (Watched R) → Comparison (Watched R) → Sink → Result Compared RunFault → Type 0
IsCompared remaining gives opens names old new sink answer = TakesAtMost most_taken (read_trace_of remaining old.instance new.instance)
    (λ first. TakesNamed remaining old.certificate new.certificate (λ given.
    IsCompareRun old.strict remaining gives opens names given first sink answer))
