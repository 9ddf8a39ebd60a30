-- The loop of `Costs::costs_from` in src/costs.rt.
use Rattle.tsp_theory.proofs.Prelude.{◌<◌, ℕ, pos, slice_index_or, IsNode}
use Rattle.tsp_theory.specs.Costs.{IsCostEntry}
use Rattle.tsp_theory.proofs.costs.Costs.costs_from.Given as goal

-- the row has the cost to each node before this one
abbrev pub invariant-nodes : goal.invariant-nodes
invariant-nodes g l = (j : ℕ) → IsNode (g.Self.Costs.nodes l.self) j → j < l.j
    → IsCostEntry (g.Self.Costs.at l.self l.i j) (slice_index_or l.row j (pos 0))
