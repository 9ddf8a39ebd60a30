-- The loop of `canonical_length` in src/costs.rt.
use Rattle.tsp_theory.proofs.Prelude.{◌≡◌, ◌+◌, ◌-◌, ◌+ℤ◌, range_with_len}
use Rattle.tsp_theory.proofs.Sums.{length_to, IsSumOf}
use Rattle.tsp_theory.proofs.costs.canonical_length.Given as goal

-- the length so far, and that from this node through the later ones back to node 1, are the canonical length
abbrev pub invariant-nodes : goal.invariant-nodes
invariant-nodes g l = record {
  size : IsSumOf (l.node - 1) l.length;
  so_far : (l.length +ℤ length_to (g.C.Costs.at l.c) 1 l.node (range_with_len (l.node + 1) (l.count - l.node)))
      ≡ length_to (g.C.Costs.at l.c) 1 1 (range_with_len 2 (l.count - 1));
}
