-- The loop of `compare_all` in src/compare_run.rt.
use Rattle.tsp_io.specs.states.Output.{sink_of}
use Rattle.tsp_judge.specs.CompareRun.{IsReadTraceAt, AreReported}
use Rattle.tsp_judge.proofs.Comparing.{HasCompared}
use Rattle.tsp_judge.proofs.compare_run.compare_all.Given as goal

-- the lines of the solutions before this one are written; each was followed once, and `status` is the largest of theirs
abbrev pub invariant-solutions : goal.invariant-solutions
invariant-solutions g l = record {
  compared : HasCompared (IsReadTraceAt g.R.Read.remaining g.R.Gives.gives (g.S.Solutions.opens l.solutions)) (g.S.Solutions.names l.solutions) l.common
      (sink_of g.W.Takes.contents l.initial.out l.out) l.index l.status;
  reported : AreReported (g.S.Follow.tells l.solutions) l.index l.initial.to l.to;
}
