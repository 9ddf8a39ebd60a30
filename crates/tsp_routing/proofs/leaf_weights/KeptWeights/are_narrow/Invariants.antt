-- The loop of `KeptWeights::are_narrow` in src/leaf_weights.rt.
use Rattle.tsp_routing.proofs.Prelude.{◌≡◌, ◌≤◌, ◌+◌, ◌^◌, ℕ, true, length, pos, neg_ℤ, IsNode, IsFromTo, lent_in, set_weight}
use Rattle.tsp_routing.specs.PlanBounds.{most_link}
use Rattle.tsp_routing.proofs.leaf_weights.KeptWeights.are_narrow.Given as goal

-- the weights from the nodes up to `index` are at most `most_link` in size, and if `narrow` holds at most 2^38
abbrev pub invariant-nodes : goal.invariant-nodes
invariant-nodes g l =
    let s = l.self.weights.now in
    let n : ℕ = g.C.Costs.nodes s.costs.now in
    let w = set_weight s.scale s.potentials.now s.multipliers.now (lent_in s.families.now) (g.C.Costs.at s.costs.now) in
    record {
      row : length l.row ≡ n + 1;
      wide : (i j : ℕ) → IsNode n i → i ≤ l.index → IsNode n j → IsFromTo (neg_ℤ (pos most_link)) (pos most_link) (w i j);
      narrow : l.narrow ≡ true → (i j : ℕ) → IsNode n i → i ≤ l.index → IsNode n j
          → IsFromTo (neg_ℤ (pos (2 ^ 38))) (pos (2 ^ 38)) (w i j);
    }
