-- The goals of `way_home` in src/run_leaf.rt, which finds the least weight of a way home from a node: its loop, what a
-- call requires, and what it ensures.
use Rattle.tsp_routing.proofs.Prelude.{◌≡◌, ◌≢◌, ◌+◌, ℕ, ℤ, List, pos, neg_ℤ, ap, sym, subst, arith, rules, FitsSigned, to_z, inl, inr, ◌≤ℤ◌, ◌<ℤ◌, ◌⊎◌, ◌+ℤ◌, slice_index_or, w128, ints, to_z-of_z, least_at, IsFromTo}
use Rattle.tsp_routing.specs.PlanBounds.{most_link}
use Rattle.tsp_routing.specs.states.RunTables.{IsWayBelowTo, IsWayMetTo}
use Rattle.tsp_routing.proofs.WaysHome.{below_by_one, met_by_one, size_by_one}
use Rattle.tsp_routing.proofs.run_leaf.way_home.Goals as goal

-- plan: one node more is tried
pub nexts-preserved : goal.nexts-preserved
nexts-preserved c =
    let nodes = c.args.run_nodes.now in
    let onward : List ℤ = c.args.onward.now in
    let row : List ℤ = c.row-row.result.now in
    let node : ℕ = c.args.node in
    let next : ℕ = c.nexts.index + 1 in
    let h = c.nexts.invariant in
    let own = c.lesser_way-least.ensures in
    let least : ℤ = to_z w128 c.nexts.least-bits in
    let new : ℤ = c.lesser_way-least.result in
    let fits : FitsSigned w128 new = search rules in
    let keeps : new ≤ℤ least = let less = own.keeps in omega (arith, ints, less) in
    let met : (new ≡ least)
    ⊎ ((node ≢ next) × (new ≡ least_at row next +ℤ slice_index_or onward next (pos 0)) × (new <ℤ least)) = elim own.met [
      | inl same ↦ inl (omega (arith, ints, same))
      | inr on ↦ inr (on.0, on.1, let less = on.2 in omega (arith, ints, less))
    ] in
    rw (to_z-of_z w128 new fits) (record {
      below = below_by_one nodes.depot nodes.rows.now onward row node c.nexts.index least new c.row-row.ensures.value h.below keeps own.own;
      met = met_by_one nodes.depot nodes.rows.now onward row node c.nexts.index least new c.row-row.ensures.value h.met met;
      size = λ links sizes.
          size_by_one links least new (least_at row next) (slice_index_or onward next (pos 0)) (h.size links sizes)
          (let low = (nodes.links.sizes node next c.requires.node (omega arith, omega (arith, c.nexts-test.true))).0 in
          let same = ap (λ (xs : List ℤ). least_at xs next) c.row-row.ensures.value in omega (arith, ints, low, same))
          (sizes.sizes next (omega arith, omega (arith, c.nexts-test.true))).0
          (elim met [ inl same ↦ inl same | inr on ↦ inr on.1 ]);
      most = let most = h.most in omega (arith, ints, keeps, most);
    })

pub lesser_way-least-requires-clause-row : goal.lesser_way-least-requires-clause-row
lesser_way-least-requires-clause-row c =
    let places = c.row-row.ensures.places in
    let less = c.nexts-test.true in omega (arith, places, less)

pub lesser_way-least-requires-clause-onward : goal.lesser_way-least-requires-clause-onward
lesser_way-least-requires-clause-onward c =
    let places = c.requires.sizes.2.places in
    let less = c.nexts-test.true in omega (arith, places, less)

pub lesser_way-least-requires-clause-link : goal.lesser_way-least-requires-clause-link
lesser_way-least-requires-clause-link c =
    let next : ℕ = c.nexts.index + 1 in
    subst (λ (xs : List ℤ). IsFromTo (neg_ℤ (pos most_link)) (pos most_link) (least_at xs next)) (sym c.row-row.ensures.value)
    (c.args.run_nodes.now.links.sizes c.args.node next c.requires.node (omega arith, omega (arith, c.nexts-test.true)))

pub lesser_way-least-requires-clause-size : goal.lesser_way-least-requires-clause-size
lesser_way-least-requires-clause-size c =
    let given = c.requires.sizes in
    (given.0, given.1, given.2.sizes (c.nexts.index + 1) (omega arith, omega (arith, c.nexts-test.true)))

pub returns-clause-below : goal.returns-clause-below
returns-clause-below c =
    let nodes = c.args.run_nodes.now in
    let end : c.nexts.index ≡ nodes.nodes = omega (arith, c.nexts-test.false, c.nexts.auto.index-end) in
    subst (λ (k : ℕ). IsWayBelowTo nodes.depot nodes.rows.now c.args.onward.now c.args.node k (to_z w128 c.nexts.least-bits)) end
    c.nexts.invariant.below

pub returns-clause-met : goal.returns-clause-met
returns-clause-met c =
    let nodes = c.args.run_nodes.now in
    let end : c.nexts.index ≡ nodes.nodes = omega (arith, c.nexts-test.false, c.nexts.auto.index-end) in
    subst (λ (k : ℕ). IsWayMetTo nodes.depot nodes.rows.now c.args.onward.now c.args.node k (to_z w128 c.nexts.least-bits)) end
    c.nexts.invariant.met

pub returns-clause-size : goal.returns-clause-size
returns-clause-size c = c.nexts.invariant.size

pub returns-clause-most : goal.returns-clause-most
returns-clause-most c = c.nexts.invariant.most
