-- The goals of `Labelled::new` in src/boxes.rt, which begins with each node as a component: the facts of the value
-- that it makes.
use Rattle.std.proofs.Common.{◌≡◌, ◌<◌, ℕ, true, length, arith, sym, subst}
use Rattle.tsp_bound.specs.states.Components.{AreTags}
use Rattle.tsp_bound.proofs.boxes.Labelled.new.Goals as goal

-- plan: each box has the region of its nodes, and their label if it is one, as the calls that make the boxes ensure
pub invariant_of-result : goal.invariant_of-result
invariant_of-result g c =
    let order = c.args.placed.order.now in
    let labels = c.in_ok-labels.labels.items in
    let len : length labels ≡ length order = omega (arith, c.in_ok-labels.ensures.len) in
    record {
      as_many = len;
      low = λ x x_in. subst (λ (k : ℕ). k < length order) (sym (c.in_ok-labels.ensures.own x (omega (arith, x_in)))) x_in;
      as_many_tags = omega (arith, c.tag_boxes.ensures.len, c.deref-2.ensures.value, len);
      tagged = subst (λ ls. AreTags ls c.tag_boxes.new.tags.items) c.deref-2.ensures.value c.tag_boxes.ensures.tags;
      as_many_sites = rw c.in-Some.is at c.in_ok-sites.ensures.len;
      sites_are = rw c.in-Some.is at c.in_ok-sites.ensures.sites;
      boxes = c.in_ok-areas.ensures.len;
      held = c.in_ok-areas.ensures.held (λ _. true);
    }
