-- The goals of `LeafWeights::of` in src/leaf_weights.rt, which makes the weights of a leaf: what its value keeps.
use Rattle.tsp_routing.proofs.Prelude.{◌≡◌, ◌∙◌, ℕ, ℤ, List, length, subst, sym, arith, rules, FitsSigned, pos, neg_ℤ, Vec, w64, ints, to_z-of_z, length-map, recursion_from_All, All-from_recursion, IsFromTo, lists_of, lent_in, IsSetTable, sets_tell_combs}
use Rattle.tsp_cases.specs.states.Sets.{AreMoved}
use Rattle.tsp_routing.specs.PlanVerdicts.{most_of_multipliers}
use Rattle.tsp_routing.proofs.RouteProducts.{each_small, signed_crossings}
use Rattle.tsp_routing.proofs.leaf_weights.LeafWeights.of.Goals as goal

-- plan: each fact is one of the leaf or of its context; single sets are crossed no more often than multipliers sum to
pub invariant_of-result : goal.invariant_of-result
invariant_of-result g c =
    let leaf = c.args.leaf.now in
    let s = leaf.context.now in
    let lists : List (List (List ℕ)) = lent_in s.families.now in
    let ms : List ℤ = leaf.multipliers.now in
    let nodes = s.same in
    let lent_many = length-map s.families.now.lent.now (λ (f : Vec (Vec ℕ)). lists_of f.items) in
    let many : length s.crossed.now ≡ length lists = omega (arith, s.many, lent_many) in
    let long : length ms ≡ length lists = leaf.numbers.each_family ∙ many in
    let sized : FitsSigned w64 s.scale = search rules in
    let each = All-from_recursion (IsFromTo (neg_ℤ (pos most_of_multipliers)) (pos most_of_multipliers)) ms
    (each_small most_of_multipliers ms leaf.numbers.sum) in
    record {
      scaled = rw (to_z-of_z w64 s.scale sized) s.scaled;
      small = λ k d lt. let own = each k d lt in (omega (arith, ints, own.0), omega (arith, ints, own.1));
      same = s.own ∙ sym nodes;
      as_many = leaf.numbers.each_family ∙ s.many;
      table = subst (λ (k : ℕ). IsSetTable k lists s.by_node.now) (sym nodes) s.table;
      places = omega (arith, leaf.places, nodes);
      are_moved = subst (λ (k : ℕ). AreMoved k leaf.potentials.now ms lists leaf.moved.now) (sym nodes) leaf.are_moved;
      long = leaf.numbers.each_node ∙ sym nodes;
      potentials_are = leaf.numbers.potentials_are;
      crossed = λ i j i_in j_in.
          let size = signed_crossings s.crossed.now lists ms i j (recursion_from_All (λ sets. length sets ≡ 1) lists s.single) in
          let same = sets_tell_combs s.crossed.now ms lists i j many long in
          let most = leaf.numbers.sum in
          (omega (arith, ints, size.0, same, most), omega (arith, ints, size.1, same, most));
    }
