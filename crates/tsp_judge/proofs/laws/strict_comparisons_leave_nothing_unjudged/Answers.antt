-- The goals of `strict_comparisons_leave_nothing_unjudged` in src/laws.rt: what it ensures.
use Rattle.tsp_report.specs.Verdicts.{is_clear}
use Rattle.tsp_judge.proofs.Comparing.{all_judged, none_judged}
use Rattle.tsp_judge.proofs.laws.strict_comparisons_leave_nothing_unjudged.Goals as goal
use Rattle.tsp_judge.specs.CompareRun.{IsReadTraceAt}

-- plan: if all are judged, so is every line of the instance (`all_judged`); if one is left, none is judged
-- (`none_judged`)
pub returns-clause-all_judged : goal.returns-clause-all_judged
returns-clause-all_judged g c = λ given first sink compared run.
    all_judged compared.common.certificate compared.common.instance compared.common.known_bound run.1.0

pub returns-clause-none_judged : goal.returns-clause-none_judged
returns-clause-none_judged g c = λ given first sink compared run some.
    none_judged (is_clear compared.common.known_bound)
    (IsReadTraceAt g.R.Read.remaining g.R.Gives.gives (g.S.Solutions.opens c.args.solutions.now))
    (g.S.Solutions.names c.args.solutions.now) compared.common sink compared.status
    (λ is. some (all_judged compared.common.certificate compared.common.instance compared.common.known_bound run.1.0 is)) run.1.1
