-- The loop of `has_node` in src/good_families.rt, which tests whether a list has a node with the mark, or without.
use Rattle.std.proofs.Common.{◌≡◌, ◌<◌, ℕ, get_or}
use Rattle.tsp_cases.specs.states.GoodFamilies.{is_marked}
use Rattle.tsp_cases.proofs.good_families.has_node.Given as goal

-- no node before this one is as wanted, with the mark or without it
abbrev pub invariant-nodes : goal.invariant-nodes
invariant-nodes l = (k default : ℕ) → k < l.node-index → is_marked l.marks l.mark (get_or l.nodes k default) ≡ l.wanted → ⊥
