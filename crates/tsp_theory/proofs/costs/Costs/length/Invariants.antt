-- The loop of `Costs::length` in src/costs.rt.
use Rattle.tsp_theory.proofs.Prelude.{◌≡◌, drop, ◌+ℤ◌, IsNode}
use Rattle.tsp_theory.proofs.Sums.{length_to, IsSumOf}
use Rattle.tsp_theory.proofs.costs.Costs.length.Given as goal

-- the length so far, and that from `from` through the nodes left back to the first, are the length of the cycle
abbrev pub invariant-nodes : goal.invariant-nodes
invariant-nodes g l = record {
  from : IsNode (g.Self.Costs.nodes l.self) l.from;
  size : IsSumOf l.node-index l.length;
  so_far : (l.length +ℤ length_to (g.Self.Costs.at l.self) l.first l.from (drop l.node-index l.others)) ≡ length_to
      (g.Self.Costs.at l.self) l.first l.first l.others;
}
