-- The goals of `judge_known_bound` in src/known_bound.rt, which returns what is known of all solutions: what it
-- ensures.
use Rattle.tsp_verdict.proofs.known_bound.judge_known_bound.Goals as goal

pub returns-in_ok-judge_bound-in-Some : goal.returns-in_ok-judge_bound-in-Some
returns-in_ok-judge_bound-in-Some c =
    rw c.in-Some.is (
      rw c.in-Some.is at c.requires,
      c.known_bound_of.ensures c.in-Some.by c.in-Some.file.now c.in_ok-judge_bound-in-Some.ensures,
    )
