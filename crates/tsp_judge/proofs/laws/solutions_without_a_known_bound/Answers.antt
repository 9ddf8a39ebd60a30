-- The goals of `solutions_without_a_known_bound` in src/laws.rt: what it ensures.
use Rattle.tsp_judge.proofs.Comparing.{none_accepted, none_without_tours}
use Rattle.tsp_judge.proofs.laws.solutions_without_a_known_bound.Goals as goal

-- plan: the reason applies to each solution (`none_accepted`); an instance without tours has no tour to accept
-- (`none_without_tours`)
pub returns-clause-reason : goal.returns-clause-reason
returns-clause-reason c = none_accepted

pub returns-clause-no_tour : goal.returns-clause-no_tour
returns-clause-no_tour c = none_without_tours
