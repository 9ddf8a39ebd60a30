-- The loop of `weigh_all` in src/weights.rt, which writes the weights from a node to all others.
use Rattle.tsp_bound.proofs.Prelude.{◌≡◌, ◌<◌, ℕ, pos, neg_ℤ, IsNode, most_between, IsFromTo, least_at}
use Rattle.tsp_bound.specs.states.Potentials.{weight_under}
use Rattle.tsp_bound.proofs.weights.weigh_all.Given as goal

-- the row has the weight to each node before this one, at most `most_between` in size
abbrev pub invariant-nodes : goal.invariant-nodes
invariant-nodes g l = (x : ℕ) → IsNode (g.C.Costs.nodes l.w.c.now) x → x < l.node
    → (least_at l.row x ≡ weight_under l.w.p.now (g.C.Costs.at l.w.c.now) l.from x) × IsFromTo (neg_ℤ (pos most_between)) (pos most_between) (least_at l.row x)
