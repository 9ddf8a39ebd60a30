-- The goals of `bring` in src/prim.rt, which updates the nodes outside by the node that came inside, and finds the
-- nearest: its loop.
use Rattle.tsp_bound.proofs.Prelude.{◌≡◌, ◌<◌, ℕ, ℤ, List, length, slice_index, subst, ◌∙◌, arith, rules, FitsSigned, to_z, of_z, w64, ◌≤ℤ◌, ◌<ℤ◌, ints, to_z-of_z, least_at, IsNearer, most_64}
use Rattle.tsp_bound.proofs.GrowingTrees.{passed_more, nearer_small, found_lower, found_higher}
use Rattle.tsp_bound.proofs.prim.bring.Goals as goal
use Rattle.tsp_bound.proofs.prim.bring.Goals.{then-own-best, else-own-best}

-- plan: by the branches of the code: the place's node has a nearer one or not (`passed_more`), and is the least so far
-- or not
pub places-preserved : goal.places-preserved
places-preserved c =
    let place : ℕ = c.places.place in
    let next : ℕ = c.args.next in
    let near : List ℕ = c.places.near in
    let least : List ℤ = c.places.least in
    let best : ℤ = to_z w64 c.places.best-bits in
    let own : ℤ = c.take_nearer-own.new.least in
    let own_near : ℕ = c.take_nearer-own.new.near in
    let weight : ℤ = least_at c.args.row.now (slice_index c.args.outside.now place) in
    let in_list : place < length c.args.outside.now = omega (arith, c.places-test.true) in
    let in_near : place < length near = omega (arith, c.places.auto.near, c.requires.near, in_list) in
    let inside : place < length least = omega (arith, c.places.auto.least, c.requires.least, in_list) in
    let weight_in : FitsSigned w64 c.weight_in-weight.result = search rules in
    let own_in : FitsSigned w64 c.take_nearer-own.result = search rules in
    let is : to_z w64 (of_z w64 c.take_nearer-own.result) ≡ own = to_z-of_z w64 c.take_nearer-own.result own_in ∙ c.take_nearer-own.ensures.value in
    let nearer : IsNearer weight next (slice_index near place) (least_at least place) own_near own =
    subst (λ (z : ℤ). IsNearer z next (slice_index near place) (least_at least place) own_near own) (to_z-of_z w64 c.weight_in-weight.result weight_in ∙ c.weight_in-weight.ensures)
    c.take_nearer-own.ensures.nearer in
    let small : own <ℤ most_64 = nearer_small weight next (slice_index near place) (least_at least place) own_near own (c.requires.small place in_list) nearer in
    record {
      passed = passed_more next (least_at c.args.row.now) c.args.outside.now place c.args.near.now c.args.least.now near least own_near own c.places.invariant.passed in_near inside nearer;
      found = elim c.if-own-best.branch [
        | then-own-best v ↦
            let less : to_z w64 (of_z w64 c.take_nearer-own.result) <ℤ best = grind (arith, ints, v.if-own-best.true) in
            rw (v.nearest-is, v.best-is) (rw is (found_lower place least best own c.places.nearest c.places.invariant.found inside (subst (λ (z : ℤ). z <ℤ best) is less)))
        | else-own-best v ↦
            let more : best ≤ℤ to_z w64 (of_z w64 c.take_nearer-own.result) = grind (arith, ints, v.if-own-best.false) in
            rw (v.nearest-is, v.best-is) (found_higher place least best own c.places.nearest c.places.invariant.found inside small (subst (λ (z : ℤ). best ≤ℤ z) is more))
      ];
    }
