-- The goals of `Search::better_of` in src/search.rt, which compares a place with the nearest one so far: what it
-- ensures.
use Rattle.tsp_bound.proofs.Prelude.{◌≡◌, ◌≤ℤ◌, ◌<ℤ◌, ◌+◌, ℕ, ℤ, length, arith, rules, sym, ◌∙◌, subst, inr, w64, to_z, of_z, SFits, ints, to_z-of_z, false≢true, less_of, not_less_of}
use Rattle.tsp_bound.specs.states.Boxes.{node_of}
use Rattle.tsp_bound.proofs.Searches.{less_seen, searched_none, leaf_below}
use Rattle.tsp_bound.proofs.search.Search.better_of.Goals as goal

-- plan: by whether the place is outside and lighter: it is the best (`less_seen`), or isn't (`not_less_seen`)
pub returns-then-not-is_outside : goal.returns-then-not-is_outside
returns-then-not-is_outside g c =
    let s = c.args.self.now in
    let w = g.W.BoxedWeights.unlowered s.w.now in
    searched_none w s.order.now (g.S.Seen.outside_of s.seen.now) s.from.site.node (length s.order.now + c.args.place) c.args.best
    (leaf_below w s.order.now (g.S.Seen.outside_of s.seen.now) s.from.site.node c.args.place c.args.best.weight
    (λ mine. absurd (false≢true (sym c.if-not-is_outside.true ∙ (c.is_outside.ensures ∙ mine)))))

pub returns-else-weight-best : goal.returns-else-weight-best
returns-else-weight-best g c =
    let s = c.args.self.now in
    let w = g.W.BoxedWeights.unlowered s.w.now in
    let own = c.weight_within-weight in
    let fits : SFits w64 c.weight_within-weight.result = search rules in
    let best_fits : SFits w64 c.args.best.weight = search rules in
    let same = to_z-of_z w64 c.args.best.weight best_fits in
    let node = (s.sites_are c.args.place c.index-self-place.result c.requires).here in
    let below : c.args.best.weight ≤ℤ w s.from.site.node (node_of s.order.now c.args.place) =
    subst (λ (z : ℤ). z ≤ℤ w s.from.site.node (node_of s.order.now c.args.place)) same
    (subst (λ (k : ℕ). to_z w64 (of_z w64 c.args.best.weight) ≤ℤ w s.from.site.node k) node
    (own.ensures.no_less (subst (λ (z : ℤ). z ≤ℤ own.result) (sym same) (not_less_of own.result c.args.best.weight fits best_fits c.if-weight-best.false)))) in
    searched_none w s.order.now (g.S.Seen.outside_of s.seen.now) s.from.site.node (length s.order.now + c.args.place) c.args.best
    (leaf_below w s.order.now (g.S.Seen.outside_of s.seen.now) s.from.site.node c.args.place c.args.best.weight (λ mine. below))

pub returns-then-weight-best : goal.returns-then-weight-best
returns-then-weight-best g c =
    let s = c.args.self.now in
    let w = g.W.BoxedWeights.unlowered s.w.now in
    let own = c.weight_within-weight in
    let fits : SFits w64 c.weight_within-weight.result = search rules in
    let best_fits : SFits w64 c.args.best.weight = search rules in
    let back = to_z-of_z w64 c.weight_within-weight.result fits in
    let same = to_z-of_z w64 c.args.best.weight best_fits in
    let node = (s.sites_are c.args.place c.index-self-place.result c.requires).here in
    let value : own.result ≡ w s.from.site.node (node_of s.order.now c.args.place) = subst (λ (k : ℕ). own.result ≡ w s.from.site.node k) node
    (own.ensures.less (subst (λ (z : ℤ). own.result <ℤ z) (sym same) (less_of own.result c.args.best.weight fits best_fits c.if-weight-best.true))) in
    let is : to_z w64 (of_z w64 own.result) ≡ w s.from.site.node (node_of s.order.now c.args.place) = back ∙ value in
    record {
      kept = less_seen (to_z w64 (of_z w64 own.result)) c.args.best.weight best_fits c.if-weight-best.true;
      below = leaf_below w s.order.now (g.S.Seen.outside_of s.seen.now) s.from.site.node c.args.place (to_z w64 (of_z w64 own.result))
          (λ mine. subst (λ (z : ℤ). z ≤ℤ w s.from.site.node (node_of s.order.now c.args.place)) (sym is) (omega (arith, ints)));
      found = inr (record { node_in = c.requires; out = sym c.is_outside.ensures ∙ c.if-not-is_outside.false; weight_is = is });
    }
