-- The goals of `weighed` in src/rounds.rt, which sums the weights of the pairs of a tree: that no sum overflows, that
-- indices are in range, its loop and what its calls require.
use Rattle.tsp_bound.proofs.Prelude.{◌≡◌, ◌≤◌, ◌+◌, ◌++◌, ◌∷◌, [], ℕ, List, length, get_or, length-append, arith, rules, ap, sym, ◌∙◌, to_z, FitsSigned, ℤ, ◌+ℤ◌, w64, w128, most_nodes, weight_of, sum_more, sum_fits, sum_computed, weight_added}
use Rattle.tsp_bound.specs.states.Boxes.{node_of, on_both}
use Rattle.tsp_bound.proofs.RoundJoins.{map_more}
use Rattle.tsp_bound.proofs.rounds.weighed.Goals as goal

-- plan: one pair more (`weight_added`), whose weight fits 128 bits (`sum_fits`)
pub pairs-preserved : goal.pairs-preserved
pairs-preserved g c =
    let w = g.W.Weights.at c.args.w.now in
    let f : ℕ × ℕ → ℕ × ℕ = on_both (node_of c.args.order.now) in
    let pair : ℕ × ℕ = get_or c.args.pairs.now c.pairs.pair-index (0, 0) in
    let named : List (ℕ × ℕ) = c.pairs.named.items in
    let pushed : c.push.new.list.items ≡ named ++ f pair ∷ [] = c.in_ok-push.ensures.items in
    let longer : length c.push.new.list.items ≡ length named + 1 = ap length pushed ∙ length-append named (f pair ∷ []) in
    let few : length named ≤ most_nodes = omega (arith, c.pairs.invariant.count, c.pairs-test.true, c.requires.few) in
    let here : ℤ = c.weight.result in
    let fits : FitsSigned w64 c.weight.result = search rules in
    let own : here ≡ w (f pair).0 (f pair).1 = c.weight.ensures in
    let sum : ℤ = to_z w128 c.pairs.weight-bits in
    let computed = sum_computed sum here c.from-weight.result (length named) few c.pairs.invariant.size fits c.from-weight.ensures in
    record {
      pairs = pushed ∙ ap (λ (ps : List (ℕ × ℕ)). ps ++ f pair ∷ []) c.pairs.invariant.pairs ∙ sym (map_more f c.args.pairs.now c.pairs.pair-index (0, 0) c.pairs-test.true);
      count = longer ∙ ap (λ (k : ℕ). k + 1) c.pairs.invariant.count;
      sum = computed ∙ ap (λ z. z +ℤ here) c.pairs.invariant.sum ∙ ap (λ z. weight_of w named +ℤ z) own ∙ sym (weight_added w named (f pair)) ∙ ap (weight_of w) (sym pushed);
      size = rw (computed, longer) (sum_more sum here (length named) c.pairs.invariant.size fits);
    }

pub bounds-order-pair : goal.bounds-order-pair
bounds-order-pair g c = (c.requires.places c.pairs.pair-index (0, 0) c.pairs-test.true).0

pub bounds-order-pair-in-pairs : goal.bounds-order-pair-in-pairs
bounds-order-pair-in-pairs g c = (c.requires.places c.pairs.pair-index (0, 0) c.pairs-test.true).1

pub weight-requires-clause-from : goal.weight-requires-clause-from
weight-requires-clause-from g c =
    let pair : ℕ × ℕ = get_or c.args.pairs.now c.pairs.pair-index (0, 0) in
    c.requires.nodes pair.0 (c.requires.places c.pairs.pair-index (0, 0) c.pairs-test.true).0

pub weight-requires-clause-to : goal.weight-requires-clause-to
weight-requires-clause-to g c =
    let pair : ℕ × ℕ = get_or c.args.pairs.now c.pairs.pair-index (0, 0) in
    c.requires.nodes pair.1 (c.requires.places c.pairs.pair-index (0, 0) c.pairs-test.true).1

pub overflow_add-weight : goal.overflow_add-weight
overflow_add-weight g c =
    let few : length c.pairs.named.items ≤ most_nodes = omega (arith, c.pairs.invariant.count, c.pairs-test.true, c.requires.few) in
    let here : ℤ = c.weight.result in
    let fits : FitsSigned w64 c.weight.result = search rules in
    sum_fits (to_z w128 c.pairs.weight-bits) here c.from-weight.result (length c.pairs.named.items) few c.pairs.invariant.size fits c.from-weight.ensures
