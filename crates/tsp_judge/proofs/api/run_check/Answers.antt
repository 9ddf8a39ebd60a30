-- The goals of `run_check` in src/api.rt, which checks a solution without a certificate: what it ensures.
use Rattle.tsp_judge.proofs.Prelude.{Some, sym, subst}
use Rattle.tsp_judge.specs.CheckRun.{IsCheck}
use Rattle.tsp_judge.proofs.NamedReaders.{unnamed}
use Rattle.tsp_judge.proofs.api.run_check.Goals as goal

-- plan: both clauses are those of `check_solution` with no certificate named (`unnamed`), whose verdict becomes true or
-- false
pub returns-clause-answer : goal.returns-clause-answer
returns-clause-answer g c = let one = c.check_solution.ensures.answer in let two = one.2 in
    (one.0, one.1, (two.0, two.1, subst (IsCheck _ _ _) (sym c.acceptance.ensures) (unnamed (λ s. Some s.now) c.check_solution.new.certificate _ two.2).1))

pub returns-clause-asked : goal.returns-clause-asked
returns-clause-asked g c = (c.check_solution.ensures.asked.0, c.check_solution.ensures.asked.1)
