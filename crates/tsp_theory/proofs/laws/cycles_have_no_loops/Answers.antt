-- The goals of `cycles_have_no_loops` in src/laws.rt: what it ensures.
use Rattle.tsp_theory.proofs.Sums.{length_of_cycle-le}
use Rattle.tsp_theory.proofs.laws.cycles_have_no_loops.Goals as goal

-- plan: each link joins two different nodes, so its lower cost is at most its upper one, and so are the sums
-- (`length_of_cycle-le`)
pub returns : goal.returns
returns c = length_of_cycle-le
