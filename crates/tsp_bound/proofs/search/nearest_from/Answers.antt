-- The goals of `nearest_from` in src/search.rt, which finds the nearest place of another component by boxes: its loop.
use Rattle.tsp_bound.proofs.Prelude.{ℕ, ◌≡◌, ◌≢◌, ◌/◌, Option, arith, rules, w64, SFits, IsNode}
use Rattle.tsp_bound.specs.declared.area.Area.{Area}
use Rattle.tsp_bound.specs.states.Boxes.{HoldsNode, IsSearched, no_best}
use Rattle.tsp_bound.proofs.Searches.{searched_alone, searched_both}
use Rattle.tsp_bound.proofs.search.nearest_from.Goals as goal
use Rattle.tsp_bound.proofs.search.nearest_from.Goals.{then-v-eq0, else-v-eq0, then-not-is_left_alone, else-not-is_left_alone}

-- plan: climbing, the other half is searched (`searched_both`) or left alone (`searched_alone`)
pub climb-preserved : goal.climb-preserved
climb-preserved g c =
    let s = c.args.search.now in
    let w = g.W.BoxedWeights.unlowered s.w.now in
    let In : Option Area → ℕ → Type 0 = HoldsNode (g.W.BoxedWeights.place_of s.w.now) (g.W.BoxedWeights.number_of s.w.now) in
    let outside = g.S.Seen.outside_of s.seen.now in
    let v = c.climb.v in
    let other = c.if-v-eq0.other in
    let halves : (other / 2 ≡ v / 2) × (v ≢ other) = elim c.if-v-eq0.branch [
      | then-v-eq0 u ↦ (omega (arith, u.other-is, u.if-v-eq0.true), λ e. omega (arith, u.other-is, e))
      | else-v-eq0 u ↦ (omega (arith, u.other-is, u.if-v-eq0.false), λ e. omega (arith, u.other-is, e, u.if-v-eq0.false))
    ] in
    let fits : SFits w64 c.climb.best.weight = search rules in
    let searched : IsSearched w s.order.now outside s.from.site.node other c.climb.best c.if-not-is_left_alone.best = elim c.if-not-is_left_alone.branch [
      | then-not-is_left_alone u ↦ rw u.best-is u.below-best.ensures
      | else-not-is_left_alone u ↦
          rw u.best-is (searched_alone In (IsNode (g.W.Weights.nodes s.w.now)) w s.order.now outside (g.S.Seen.area_of s.seen.now)
          s.from.site.node other c.climb.best fits (omega (arith, halves.0, c.climb-test.true)) s.held s.nodes u.if-not-is_left_alone.ensures)
    ] in
    record {
      low = omega (arith, c.climb-test.true);
      high = omega (arith, c.climb.invariant.high);
      searched = searched_both w s.order.now outside s.from.site.node (v / 2) v other no_best c.climb.best c.if-not-is_left_alone.best
          (omega (arith, c.climb.invariant.high)) (omega arith) halves.0 halves.1 c.climb.invariant.searched searched;
    }
