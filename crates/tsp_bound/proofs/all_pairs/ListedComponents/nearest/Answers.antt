-- The goals of `nearest` in src/all_pairs.rt, of the trait `Components` for `Listed`: what it ensures. It returns a
-- lightest link from a node to another component.
use Rattle.tsp_bound.proofs.Prelude.{◌≡◌, ◌≢◌, ◌≤ℤ◌, ◌∙◌, ℕ, pos, length, arith, rules, ap, sym, subst, w64, to_z, of_z, SFits, ints, to_z-of_z, get_or_read, least_at}
use Rattle.tsp_bound.specs.declared.search.Link.{Link}
use Rattle.tsp_bound.specs.states.Components.{label_at, weight_over}
use Rattle.tsp_bound.proofs.Searches.{no_more_seen}
use Rattle.tsp_bound.proofs.AllPairs.{kept_link}
use Rattle.tsp_bound.specs.states.Boxes.{no_weight}
use Rattle.tsp_bound.proofs.all_pairs.ListedComponents.nearest.Goals as goal

-- plan: the best listed link weighs at most the number of its place, so no unlisted link is less (`kept_link`)
pub returns-then-label : goal.returns-then-label
returns-then-label g c =
    let s = c.args.self.now in
    let link : Link = c.best_kept-link.result in
    let number = c.index.result.now in
    let number_is : number ≡ least_at s.bounds.items c.args.from = get_or_read s.bounds.items c.args.from number (omega (arith, s.as_many_bounds, c.requires.from)) c.index.ensures (pos 0) in
    let fits : SFits w64 link.weight = search rules in
    let number_fits : SFits w64 number = search rules in
    let most : link.weight ≤ℤ no_weight = omega (arith, ints, fits) in
    let some : link.weight ≢ no_weight = λ e. c.if-link-ne9223372036854775807.true (ap (of_z w64) e) in
    let below : link.weight ≤ℤ number = no_more_seen link.weight number fits number_fits c.if-link-index.true in
    kept_link (length s.placed.order.now) (weight_over (g.W.Weights.at s.placed.w.now) s.placed.order.now) (label_at s.labels.items) c.args.from s.links.items s.bounds.items link c.requires.from
    most some s.listed c.best_kept-link.ensures.own c.best_kept-link.ensures.least (subst (λ z. link.weight ≤ℤ z) number_is below)
