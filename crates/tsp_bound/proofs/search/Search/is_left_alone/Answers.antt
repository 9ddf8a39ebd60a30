-- The goals of `Search::is_left_alone` in src/search.rt, which tests whether a box is too far to search: what its calls
-- require and what it ensures.
use Rattle.tsp_bound.proofs.Prelude.{Option, Some, ◌≡◌, ◌≤ℤ◌, ◌+ℤ◌, ◌*ℤ◌, ℤ, rules, sym, w64, SFits, subst, to_z-of_z, same_scale}
use Rattle.tsp_bound.specs.declared.area.Area.{Area}
use Rattle.tsp_bound.specs.states.Potentials.{IsInverse}
use Rattle.tsp_bound.specs.states.Boxes.{HoldsNode}
use Rattle.tsp_bound.proofs.Searches.{on_true_still, left_is, enough_is, best_below}
use Rattle.tsp_bound.proofs.search.Search.is_left_alone.Goals as goal

pub cost_of-least-requires-clause-inverse : goal.cost_of-least-requires-clause-inverse
cost_of-least-requires-clause-inverse g c =
    let s = c.args.self.now in
    rw (same_scale c.scale.result c.scale.ensures.scale) (subst (λ (z : ℤ). IsInverse z s.inverse) (sym c.scale.ensures.value) s.inverse_is)

-- plan: the nearest place of the box costs enough (`enough_is`), so none in it is lighter (`best_below`)
pub returns-in-Some-checked_sub : goal.returns-in-Some-checked_sub
returns-in-Some-checked_sub g c = on_true_still c.is_beyond.result _ _ (λ far to node h.
    let s = c.args.self.now in
    let place = g.W.BoxedWeights.place_of s.w.now in
    let number = g.W.BoxedWeights.number_of s.w.now in
    let scale : ℤ = g.W.BoxedWeights.scale_of s.w.now in
    let area = c.in-Some.area.now in
    let left = c.in-Some-checked_sub.left in
    let cost = c.cost_of-least.result in
    let other = g.W.BoxedWeights.cost_of s.w.now s.from.site.node to in
    let is : g.S.Seen.area_of s.seen.now c.args.v ≡ Some area = c.in-Some.ensures in
    let held : HoldsNode place number (Some area) to = subst (λ (o : Option Area). HoldsNode place number o to) is h in
    let left_fits : SFits w64 left = subst (λ (z : ℤ). SFits w64 z) (sym c.in-Some-checked_sub.ensures.1) c.in-Some-checked_sub.ensures.0 in
    let cost_fits : SFits w64 cost = search rules in
    let enough : left ≤ℤ (scale *ℤ cost) = subst (λ (z : ℤ). left ≤ℤ (z *ℤ cost)) c.scale.ensures.value
    (enough_is left c.scale.result cost left_fits c.scale.ensures.scale c.cost_of-least.ensures) in
    let further : cost ≤ℤ other = subst (λ (z : ℤ). z ≤ℤ other) (to_z-of_z w64 cost cost_fits) (far to node held.0) in
    best_below c.args.best left scale cost other s.from.number area.least (number to) (g.W.BoxedWeights.unlowered s.w.now s.from.site.node to) s.scaled
    (left_is c.args.best s.from.number area.least left c.ranges.best s.own.size area.size c.in-Some-checked_sub.ensures.1) enough further held.1
    (subst (λ (z : ℤ). ((scale *ℤ other) +ℤ (z +ℤ number to)) ≤ℤ g.W.BoxedWeights.unlowered s.w.now s.from.site.node to)
    (sym s.own.value) (c.is_beyond.ensures.above to node))) c.is_beyond.ensures.beyond
