-- The goals of `find` in src/compare_run.rt, which reads and judges one solution: what it ensures.
use Rattle.tsp_judge.proofs.Prelude.{inr, read_trace_of}
use Rattle.tsp_judge.proofs.Comparing.{found_judged}
use Rattle.tsp_judge.proofs.compare_run.find.Goals as goal

-- plan: the verdict by what is known of all is that of a check of the files (`found_judged`)
pub returns-in-Ok-judge_next-clause-found : goal.returns-in-Ok-judge_next-clause-found
returns-in-Ok-judge_next-clause-found g c =
    let read = c.in-Ok.ensures.answer in (
      read.0,
      read.1,
      found_judged c.args.common.now (read_trace_of g.R.Read.remaining c.args.reader.now c.file_of_reader.new.reader read.0) c.in-Ok.solution c.in-Ok-judge_next.verdict
          c.requires.problem c.requires.known_bound read.2 c.in-Ok-judge_next.ensures,
    )

pub returns-in-Err-judge_next-clause-found : goal.returns-in-Err-judge_next-clause-found
returns-in-Err-judge_next-clause-found g c = let read = c.in-Ok.ensures.answer in
    rw c.refused.ensures (read.0, read.1, inr (c.in-Ok.solution, read.2, c.in-Err-judge_next.ensures))
