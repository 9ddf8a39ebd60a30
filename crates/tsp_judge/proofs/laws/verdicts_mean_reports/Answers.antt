-- The goals of `verdicts_mean_reports` in src/laws.rt: what it ensures.
use Rattle.tsp_judge.proofs.Yeses.{sized, accepted}
use Rattle.tsp_judge.proofs.laws.verdicts_mean_reports.Goals as goal

-- plan: by the verdict: an accepted one has the record of its kind (`accepted`), and each bound fits the report
-- (`sized`)
pub returns-clause-accepted : goal.returns-clause-accepted
returns-clause-accepted c = accepted

pub returns-clause-sized : goal.returns-clause-sized
returns-clause-sized c = sized
