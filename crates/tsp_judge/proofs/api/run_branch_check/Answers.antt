-- The goals of `run_branch_check` in src/api.rt, which checks a tour with a certificate of branches: what it
-- ensures.
use Rattle.std.proofs.Common.{sym, subst}
use Rattle.tsp_judge.specs.CheckRun.{IsCheckBy}
use Rattle.tsp_judge.proofs.api.run_branch_check.Goals as goal

-- plan: both clauses are those of the run, whose verdict becomes true or false
pub returns-clause-answer : goal.returns-clause-answer
returns-clause-answer g c = let one = c.run_by.ensures.answer in let two = one.2 in let three = two.2 in
    (one.0, one.1, (two.0, two.1, (three.0, three.1, subst (IsCheckBy _ _ _ _ _) (sym c.acceptance.ensures) three.2.1)))

pub returns-clause-asked : goal.returns-clause-asked
returns-clause-asked g c = c.run_by.ensures.asked
