-- The goals of `lines_of_checks` in src/laws.rt: what it ensures.
use Rattle.tsp_judge.proofs.Comparing.{one_answer}
use Rattle.tsp_judge.proofs.laws.lines_of_checks.Goals as goal

-- plan: a verdict that accepts a solution says that no reason applies, so no other verdict rejects it (`one_answer`)
pub returns : goal.returns
returns c = λ common read_trace verdict found.
    (found.0, found.1, λ other v. one_answer common.certificate common.instance found.0 verdict other found.2 v)
