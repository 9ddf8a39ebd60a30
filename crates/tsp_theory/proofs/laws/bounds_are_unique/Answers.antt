-- The goals of `bounds_are_unique` in src/laws.rt: what it ensures.
use Rattle.tsp_theory.proofs.Cycles.{one_bound, one_node_bound}
use Rattle.tsp_theory.proofs.laws.bounds_are_unique.Goals as goal

-- plan: two least numbers are each at most the other (`one_bound`); two minimum 1-trees weigh the same
-- (`one_node_bound`)
pub returns : goal.returns
returns c = record { sum = one_bound; potentials = one_node_bound }
