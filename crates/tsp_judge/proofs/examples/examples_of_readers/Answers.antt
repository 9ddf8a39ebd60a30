-- The goals of `examples_of_readers` in src/examples.rt: what it ensures.
use Rattle.tsp_judge.proofs.Prelude.{Err, inl, inr, refl, sym, subst, Option, Some, read_trace_of, CertificateKind}
use Rattle.tsp_io.specs.declared.watched.Watched.{Watched}
use Rattle.tsp_judge.specs.declared.run_status.RunFault.TheVariants as run_faults
use Rattle.tsp_judge.specs.CheckRun.{Given, TakesNamed}
use Rattle.tsp_judge.specs.CompareRun.{IsCompareRun}
use Rattle.tsp_judge.proofs.examples.examples_of_readers.Goals as goal

-- plan: each example is what its premises say of the readers and of the writer, one after the other
pub returns-clause-instance : goal.returns-clause-instance
returns-clause-instance g c = λ instance solution instance_left solution_left sink fault stops unread unwritten. (
  stops.0,
  stops.1,
  (
    unread.0,
    unread.1,
    (
      Err (run_faults.File 1 fault),
      refl,
      ((unwritten, inl (refl, stops.2, unread.2, tt)), ((unwritten, inl (refl, stops.2, unread.2, tt)), λ yes. absurd cc)),
    ),
  ),
)

pub returns-clause-layout : goal.returns-clause-layout
returns-clause-layout g c = λ file left to sink fault done. (done.0, done.1, (Err (run_faults.Relayout fault), refl, done.2))

pub returns-clause-compared : goal.returns-clause-compared
returns-clause-compared g c = λ by old new certificate left names sink fault named kept some stops unwritten. (
  some.0,
  some.1,
  rw named (rw kept (stops.0, stops.1, (unwritten, inr ((by, read_trace_of g.R.Read.remaining certificate left stops.0), refl, refl, some.2, stops.2)))),
)
