-- The loop of `next_nodes` in src/tour.rt.
use Rattle.tsp_verdict.proofs.Prelude.{◌≡◌, ◌+◌, ◌∷◌, [], ◌++◌, get_or, vec_len}
use Rattle.tsp_verdict.proofs.TourVerdicts.{SetUpTo}
use Rattle.tsp_verdict.proofs.tour.next_nodes.Given as goal

-- the table has the next node of each node before `from`, and nothing else
abbrev pub invariant-nodes : goal.invariant-nodes
invariant-nodes l = record {
  wide : vec_len l.next ≡ l.n + 1;
  from : l.from ≡ get_or (l.first ∷ l.others) l.node-index 0;
  table : SetUpTo (l.first ∷ l.others) (l.others ++ l.first ∷ []) l.next.items l.node-index;
}
