-- The goals of `Search::below` in src/search.rt, which calls itself: what it ensures.
use Rattle.tsp_bound.proofs.Prelude.{ℕ, ◌+◌, ◌*◌, Option, arith, rules, w64, SFits, IsNode}
use Rattle.tsp_bound.specs.declared.area.Area.{Area}
use Rattle.tsp_bound.specs.states.Boxes.{HoldsNode, IsSearched}
use Rattle.tsp_bound.proofs.Searches.{searched_alone, searched_both}
use Rattle.tsp_bound.proofs.search.Search.+below.Goals as goal
use Rattle.tsp_bound.proofs.search.Search.+below.Goals.{then-is_left_alone, else-is_left_alone}

pub returns : goal.returns
returns g t c =
    let s = c.args.self.now in
    let w = g.W.BoxedWeights.unlowered s.w.now in
    let In : Option Area → ℕ → Type 0 = HoldsNode (g.W.BoxedWeights.place_of s.w.now) (g.W.BoxedWeights.number_of s.w.now) in
    let outside = g.S.Seen.outside_of s.seen.now in
    let half = c.if-is_left_alone.half in
    let fits : SFits w64 c.args.best.weight = search rules in
    let first : IsSearched w s.order.now outside s.from.site.node (2 * c.args.v) c.args.best half = elim c.if-is_left_alone.branch [
      | then-is_left_alone u ↦ rw u.half-is (searched_alone In (IsNode (g.W.Weights.nodes s.w.now)) w s.order.now outside (g.S.Seen.area_of s.seen.now) s.from.site.node (2 * c.args.v) c.args.best
          fits (omega (arith, c.requires.low)) s.held s.nodes u.if-is_left_alone.ensures)
      | else-is_left_alone u ↦ rw u.half-is u.below-half.ensures
    ] in
    searched_both w s.order.now outside s.from.site.node c.args.v (2 * c.args.v) (2 * c.args.v + 1) c.args.best half c.below.result
    c.if-v-self.false (omega arith) (omega arith) (λ same. omega (arith, same)) first c.below.ensures

-- plan: by the halves: both are searched (`searched_both`), or one is left alone (`searched_alone`)
pub returns-then-is_left_alone-2 : goal.returns-then-is_left_alone-2
returns-then-is_left_alone-2 g t c =
    let s = c.args.self.now in
    let w = g.W.BoxedWeights.unlowered s.w.now in
    let In : Option Area → ℕ → Type 0 = HoldsNode (g.W.BoxedWeights.place_of s.w.now) (g.W.BoxedWeights.number_of s.w.now) in
    let outside = g.S.Seen.outside_of s.seen.now in
    let half = c.if-is_left_alone.half in
    let fits : SFits w64 c.args.best.weight = search rules in
    let half_fits : SFits w64 half.weight = search rules in
    let first : IsSearched w s.order.now outside s.from.site.node (2 * c.args.v) c.args.best half = elim c.if-is_left_alone.branch [
      | then-is_left_alone u ↦ rw u.half-is (searched_alone In (IsNode (g.W.Weights.nodes s.w.now)) w s.order.now outside (g.S.Seen.area_of s.seen.now) s.from.site.node (2 * c.args.v) c.args.best
          fits (omega (arith, c.requires.low)) s.held s.nodes u.if-is_left_alone.ensures)
      | else-is_left_alone u ↦ rw u.half-is u.below-half.ensures
    ] in
    searched_both w s.order.now outside s.from.site.node c.args.v (2 * c.args.v) (2 * c.args.v + 1) c.args.best half half
    c.if-v-self.false (omega arith) (omega arith) (λ same. omega (arith, same)) first
    (searched_alone In (IsNode (g.W.Weights.nodes s.w.now)) w s.order.now outside (g.S.Seen.area_of s.seen.now) s.from.site.node (2 * c.args.v + 1) half
    half_fits (omega arith) s.held s.nodes c.if-is_left_alone-2.ensures)
