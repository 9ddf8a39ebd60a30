-- The loop of `first_links` in src/rounds.rt, which finds the least link of each node.
use Rattle.tsp_bound.proofs.Prelude.{◌≡◌, ◌<◌, ℕ, length, slice_index_or}
use Rattle.tsp_bound.specs.declared.search.Link.{Link}
use Rattle.tsp_bound.specs.states.Components.{IsKeptLink}
use Rattle.tsp_bound.proofs.rounds.first_links.Given as goal

-- each node before this one has a link that weighs no more than any that leaves its component; `near` is a node
abbrev pub invariant-nodes : goal.invariant-nodes
invariant-nodes g l =
    let n = g.P.Components.count_of l.nodes in
    let w = g.P.Components.weight_of l.nodes in
    let label = g.P.Components.label_of l.nodes in
    record {
      near_in : l.node < n → l.near < n;
      len : length l.known.items ≡ l.node;
      each : (x : ℕ) (d : Link) → x < l.node → IsKeptLink n w label x (slice_index_or l.known.items x d);
    }
