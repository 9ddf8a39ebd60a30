-- The goals of `boxes_of` in src/boxes.rt, which makes the tree of boxes over nodes in an order: its loop and what it
-- ensures.
use Rattle.tsp_bound.proofs.Prelude.{◌≡◌, ◌-◌, ◌+◌, ℕ, Option, None, Some, length, arith, sym, subst, ◌∙◌, length-set}
use Rattle.tsp_bound.specs.declared.area.Area.{Area}
use Rattle.tsp_bound.specs.states.Boxes.{HoldsNode, AreHeldFrom, area_at, node_of, IsNumberedSiteOf}
use Rattle.tsp_bound.specs.declared.boxes.NumberedSite.{NumberedSite}
use Rattle.tsp_bound.proofs.Searches.{leaf_more, held_leaves, refit_more}
use Rattle.tsp_bound.proofs.boxes.boxes_of.Goals as goal

-- plan: each leaf has the area of its place (`leaf_more`), then each box from the last on that of both halves
-- (`refit_more`)
pub leaves-preserved : goal.leaves-preserved
leaves-preserved g c =
    let In : Option Area → ℕ → Type 0 = HoldsNode (g.W.BoxedWeights.place_of c.args.placed.now.w.now) (g.W.BoxedWeights.number_of c.args.placed.now.w.now) in
    let n = g.W.Weights.nodes c.args.placed.now.w.now in
    let place = g.W.BoxedWeights.place_of c.args.placed.now.w.now in
    let number = g.W.BoxedWeights.number_of c.args.placed.now.w.now in
    let node : ℕ = node_of c.args.placed.now.order.now c.leaves.place in
    let own : IsNumberedSiteOf n place number node c.index-sites-place.result =
    subst (λ (numbered : NumberedSite). IsNumberedSiteOf n place number node numbered) (sym c.index-sites-place.is) (c.requires.sites c.leaves.place c.index-sites-place.result c.leaves-test.true) in
    let held : In (Some c.area_of.result) (node_of c.args.placed.now.order.now c.leaves.place) =
    subst (λ (node : ℕ). In (Some c.area_of.result) node) own.here (c.area_of.ensures n place number own.known) in
    record {
      len = length-set c.leaves.areas.items (length c.args.placed.now.order.now + c.leaves.place) (Some c.area_of.result) ∙ c.leaves.invariant.len;
      done = leaf_more None In c.args.placed.now.order.now c.leaves.areas.items c.leaves.place (Some c.area_of.result) c.leaves.invariant.len c.leaves-test.true held c.leaves.invariant.done;
    }

pub halves-init : goal.halves-init
halves-init g c =
    let In : Option Area → ℕ → Type 0 = HoldsNode (g.W.BoxedWeights.place_of c.args.placed.now.w.now) (g.W.BoxedWeights.number_of c.args.placed.now.w.now) in
    let all : c.leaves.place ≡ length c.args.placed.now.order.now = omega arith in
    record {
      len = c.leaves.invariant.len;
      high = omega arith;
      held = λ outside. held_leaves None In c.args.placed.now.order.now outside c.leaves.areas.items (λ j h. c.leaves.invariant.done j (omega (arith, h, all)));
    }

pub halves-preserved : goal.halves-preserved
halves-preserved g c =
    let In : Option Area → ℕ → Type 0 = HoldsNode (g.W.BoxedWeights.place_of c.args.placed.now.w.now) (g.W.BoxedWeights.number_of c.args.placed.now.w.now) in
    let v = c.halves.v - 1 in
    let next : c.halves.v ≡ v + 1 = omega arith in
    record {
      len = c.refit.ensures.len;
      high = omega arith;
      held = λ outside. refit_more None In c.args.placed.now.order.now outside c.halves.areas.items c.refit.new.areas.items v c.halves.invariant.len (omega arith) (omega arith)
          (c.refit.ensures.refit (g.W.BoxedWeights.place_of c.args.placed.now.w.now) (g.W.BoxedWeights.number_of c.args.placed.now.w.now))
          (subst (λ (k : ℕ). AreHeldFrom In k c.args.placed.now.order.now outside (area_at c.halves.areas.items)) next (c.halves.invariant.held outside));
    }

pub returns-clause-held : goal.returns-clause-held
returns-clause-held g c = λ outside j h j_in out low. c.halves.invariant.held outside j h j_in out (omega (arith, low, c.halves-test.false))
