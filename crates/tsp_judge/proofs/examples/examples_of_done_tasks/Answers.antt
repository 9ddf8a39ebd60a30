-- The goals of `examples_of_done_tasks` in src/examples.rt: what it ensures.
use Rattle.tsp_io.specs.states.Watched.{read_trace_of}
use Rattle.tsp_judge.proofs.examples.examples_of_done_tasks.Goals as goal

-- plan: each example is computed
pub returns-clause-claimed : goal.returns-clause-claimed
returns-clause-claimed g c = λ instance solution instance_left solution_left claimed strict sink outcome done. (
  read_trace_of g.R.Read.remaining instance instance_left done.0,
  read_trace_of g.R.Read.remaining solution solution_left done.2.0,
  done.2.2.0,
  done.2.2.1,
  done.2.2.2,
)

pub returns-clause-certified : goal.returns-clause-certified
returns-clause-certified g c = λ by instance solution certificate instance_left solution_left certificate_left claimed strict sink outcome done. (
  read_trace_of g.R.Read.remaining instance instance_left done.0,
  read_trace_of g.R.Read.remaining solution solution_left done.2.0,
  read_trace_of g.R.Read.remaining certificate certificate_left done.2.2.0,
  done.2.2.2.0,
  done.2.2.2.1,
  done.2.2.2.2,
)

pub returns-clause-bounded : goal.returns-clause-bounded
returns-clause-bounded g c = λ by instance certificate instance_left certificate_left strict sink outcome done. (
  read_trace_of g.R.Read.remaining instance instance_left done.0,
  read_trace_of g.R.Read.remaining certificate certificate_left done.2.0,
  done.2.2.0,
  done.2.2.1,
  done.2.2.2,
)
