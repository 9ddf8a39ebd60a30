-- The loop of `weighed` in src/rounds.rt, which sums the weights of the pairs of a tree.
use Rattle.tsp_bound.proofs.Prelude.{◌≡◌, length, map, take, IsSumSized, weight_of}
use Rattle.tsp_bound.specs.states.Boxes.{node_of, on_both}
use Rattle.tsp_bound.proofs.rounds.weighed.Given as goal

-- the pairs so far are listed by their nodes, and `weight` is the sum of their weights
abbrev pub invariant-pairs : goal.invariant-pairs
invariant-pairs g l = record {
  pairs : l.named.items ≡ map (on_both (node_of l.order)) (take l.pair-index l.pairs);
  count : length l.named.items ≡ l.pair-index;
  sum : l.weight ≡ weight_of (g.W.Weights.at l.w) l.named.items;
  size : IsSumSized (length l.named.items) l.weight;
}
