-- The goals of `Placed::nearest` in src/search.rt, which finds the nearest node of another component: what its calls
-- require and what it ensures.
use Rattle.tsp_bound.proofs.Prelude.{ℕ, ◌≡◌, ◌≢◌, sym, subst, pos, rules, ap, w64, to_z, of_z, SFits, to_z-of_z}
use Rattle.tsp_bound.specs.declared.boxes.NumberedSite.{NumberedSite}
use Rattle.tsp_bound.specs.states.Boxes.{node_of, IsSearched, no_best, no_weight}
use Rattle.tsp_bound.proofs.Lowest.{searched_best}
use Rattle.tsp_bound.proofs.Searches.{found_some, nearest_is}
use Rattle.tsp_bound.proofs.search.Placed.nearest.Goals as goal

-- plan: the place that the search finds is no farther than any place outside (`searched_best`), so it is the nearest
-- (`nearest_is`)
pub lowered-best-requires-clause-best : goal.lowered-best-requires-clause-best
lowered-best-requires-clause-best g c =
    let s = c.args.self.now in
    let w = g.W.BoxedWeights.unlowered s.w.now in
    let outside = g.S.Seen.outside_of c.args.seen.now in
    let best = c.nearest_from-unlowered.result in
    let numbered : NumberedSite = c.index-sites-from.result in
    let node : numbered.site.node ≡ node_of s.order.now c.args.from =
    subst (λ (one : NumberedSite). one.site.node ≡ node_of s.order.now c.args.from) (sym c.index-sites-from.is) (c.requires.sites c.args.from numbered c.requires.from).here in
    searched_best w s.order.now outside (node_of s.order.now c.args.from) best
    (subst (λ (k : ℕ). IsSearched w s.order.now outside k 1 no_best best) node c.nearest_from-unlowered.ensures)

pub returns : goal.returns
returns g c =
    let s = c.args.self.now in
    let outside = g.S.Seen.outside_of c.args.seen.now in
    let w = g.W.Weights.at s.w.now in
    let best = c.lowered-best.result in
    let fits : SFits w64 c.lowered-best.result.weight = search rules in
    let other : c.lowered-best.result.weight ≢ no_weight = λ e. c.if-best-eq9223372036854775807.false (ap (of_z w64) e) in
    nearest_is w s.order.now outside c.args.from best (to_z w64 (of_z w64 best.weight)) c.lowered-best.ensures
    (found_some w s.order.now outside (node_of s.order.now c.args.from) best c.lowered-best.ensures other) (to_z-of_z w64 best.weight fits)
