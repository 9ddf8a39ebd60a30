-- The loop of `tree_of` in src/bound.rt, which lists the edges of a 1-tree.
use Rattle.tsp_bound.proofs.Prelude.{◌≡◌, take, tree_of}
use Rattle.tsp_bound.proofs.bound.tree_of.Given as goal

-- the edges are the two at node 1, and then the pairs before this one
abbrev pub invariant-added : goal.invariant-added
invariant-added l = l.edges.items ≡ tree_of l.first l.second (take l.pair-index l.added)
