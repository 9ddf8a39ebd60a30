-- The loop of `numbered_sites_of` in src/boxes.rt.
use Rattle.tsp_bound.proofs.Prelude.{◌≡◌, ◌<◌, ℕ, length, slice_index_or}
use Rattle.tsp_bound.specs.declared.boxes.NumberedSite.{NumberedSite}
use Rattle.tsp_bound.specs.states.Boxes.{node_of, IsNumberedSiteOf}
use Rattle.tsp_bound.proofs.boxes.numbered_sites_of.Given as goal

-- each numbered site so far has the node at its place, with the node's point and number
abbrev pub invariant-places : goal.invariant-places
invariant-places g l = record {
  len : length l.sites.items ≡ l.place;
  done : (j : ℕ) (other : NumberedSite) → j < l.place → IsNumberedSiteOf (g.W.Weights.nodes l.placed.w.now) (g.W.BoxedWeights.place_of l.placed.w.now)
      (g.W.BoxedWeights.number_of l.placed.w.now) (node_of l.placed.order.now j) (slice_index_or l.sites.items j other);
}
