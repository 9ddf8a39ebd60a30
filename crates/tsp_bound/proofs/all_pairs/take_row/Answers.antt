-- The goals of `take_row` in src/all_pairs.rt, which offers the links of one row of a block to the lists: its loop and
-- what it ensures.
use Rattle.tsp_bound.proofs.Prelude.{◌≡◌, ◌+◌, ◌-◌, ◌*◌, ◌<◌, ◌≤◌, ◌∙◌, ℕ, ℤ, List, length, slice_index, refl, arith, rules, ap, sym, subst, w64, to_z, of_z, SFits, to_z-of_z, least_at}
use Rattle.tsp_bound.specs.declared.search.Link.{Link}
use Rattle.tsp_bound.specs.states.Boxes.{node_of}
use Rattle.tsp_bound.specs.states.Components.{weight_over}
use Rattle.tsp_bound.proofs.AllPairs.{listed_more, row_ended, node_in_part}
use Rattle.tsp_bound.proofs.all_pairs.take_row.Goals as goal

-- plan: one pair more, for both of its nodes (`listed_more`); at the end the row is listed (`row_ended`)
pub places-preserved : goal.places-preserved
places-preserved g c =
    let order : List ℕ = c.args.placed.now.order.now in
    let n : ℕ = length order in
    let at = g.W.Weights.at c.args.placed.now.w.now in
    let w = weight_over at order in
    let from : ℕ = c.args.from in
    let place : ℕ = c.places.place in
    let start : ℕ = c.max-start.result in
    let row : List ℤ = c.fill_at.new.row in
    let front : List ℕ = c.split_at.result.0.now in
    let part : List ℕ = c.split_at-2.result.1.now in
    let begun : start ≤ place = c.places.auto.place in
    let from_in : from < n = omega (arith, c.requires.from, c.requires.last) in
    let place_in : place < n = omega (arith, c.places-test.true, c.requires.last) in
    let k : ℕ = place - start in
    let last : ℕ = c.args.columns.last in
    let here : slice_index part k ≡ node_of order place =
    node_in_part order front part start last k c.split_at.ensures.front c.split_at-2.ensures.back (omega (arith, begun, c.places-test.true))
    ∙ ap (node_of order) (omega (arith, begun)) in
    let value : ℤ = to_z w64 (of_z w64 c.weight_in-weight.result) in
    let fits : SFits w64 c.weight_in-weight.result = search rules in
    let weight_is : value ≡ w from place = to_z-of_z w64 c.weight_in-weight.result fits ∙ (c.weight_in-weight.ensures
    ∙ subst (λ (x : ℕ). least_at row x ≡ at (node_of order from) x) here (c.fill_at.ensures.values k
    (omega (arith, c.split_at.ensures.front_len, c.split_at-2.ensures.back_len, begun, c.places-test.true, c.requires.last)))) in
    let there : Link = record { weight = value; from = from; to = place } in
    let back : Link = record { weight = value; from = place; to = from } in
    listed_more n w c.args.columns.first last from place there back c.places.links c.places.bounds c.take.new.links c.take.new.bounds
    c.take-in-places.new.links c.take-in-places.new.bounds
    (omega (arith, c.places.auto.links, c.requires.long, c.requires.as_many)) (omega (arith, c.places.auto.bounds, c.requires.as_many))
    (omega (arith, c.take.auto.links, c.places.auto.links, c.requires.long, c.requires.as_many)) (omega (arith, c.take.auto.bounds, c.places.auto.bounds, c.requires.as_many))
    from_in place_in refl refl weight_is refl refl (weight_is ∙ c.requires.even (node_of order from) (node_of order place))
    c.take.ensures c.take-in-places.ensures c.places.invariant

pub returns : goal.returns
returns g c =
    row_ended (length c.args.placed.now.order.now) (weight_over (g.W.Weights.at c.args.placed.now.w.now) c.args.placed.now.order.now)
    c.args.columns.first c.args.columns.last c.args.from c.places.place
    c.places.links c.places.bounds (omega (arith, c.places-test.false)) c.places.invariant
