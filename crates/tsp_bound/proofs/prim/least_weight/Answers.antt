-- The goals of `least_weight` in src/prim.rt, which returns the weight of a minimum 1-tree: that no sum overflows and
-- what it ensures.
use Rattle.tsp_bound.proofs.Prelude.{◌≡◌, ◌∙◌, ℕ, ℤ, List, ap₂, refl, sym, rules, FitsSigned, ◌+ℤ◌, w64, weight_of, tree_of, least_from_forest, tree_fits, tree_size, tree_computed, weight_of_tree}
use Rattle.tsp_bound.proofs.prim.least_weight.Goals as goal

pub overflow_add-result : goal.overflow_add-result
overflow_add-result g c =
    let first : FitsSigned w64 c.two_root_edges.result.0.weight = search rules in
    let second : FitsSigned w64 c.two_root_edges.result.1.weight = search rules in
    tree_fits c.two_root_edges.result.0.weight c.two_root_edges.result.1.weight c.in_ok-grown.grown.weight c.from.result c.from-2.result first second c.from.ensures c.from-2.ensures c.in_ok-grown.ensures.size

-- plan: the joined pairs with both spokes are a minimum 1-tree (`least_from_forest`), whose weight fits 128 bits
pub returns : goal.returns
returns g c =
    let n = g.W.Weights.nodes c.args.w.now in
    let w = g.W.Weights.at c.args.w.now in
    let two = c.two_root_edges.result in
    let grown : ℤ = c.in_ok-grown.grown.weight in
    let first : FitsSigned w64 c.two_root_edges.result.0.weight = search rules in
    let second : FitsSigned w64 c.two_root_edges.result.1.weight = search rules in
    let computed = tree_computed two.0.weight two.1.weight grown c.from.result c.from-2.result first second c.from.ensures c.from-2.ensures c.in_ok-grown.ensures.size in
    let added : List (ℕ × ℕ) = c.in_ok-grown.grown.pairs.items in
    let sums : (two.0.weight +ℤ two.1.weight) +ℤ grown ≡ (w 1 two.0.node +ℤ w 1 two.1.node) +ℤ weight_of w added =
    ap₂ (λ a b. a +ℤ b) (ap₂ (λ a b. a +ℤ b) c.two_root_edges.ensures.first c.two_root_edges.ensures.second) c.in_ok-grown.ensures.weight in
    record {
      least = record {
        tree = tree_of two.0.node two.1.node added;
        least = least_from_forest n w two.0.node two.1.node added added (tree_of two.0.node two.1.node added) c.requires.some c.requires.even c.two_root_edges.ensures.nearest
            c.in_ok-grown.ensures.whole refl refl;
        weight_is = computed ∙ sums ∙ sym (weight_of_tree w c.requires.even two.0.node two.1.node added);
      };
      size = rw computed (tree_size two.0.weight two.1.weight grown first second c.in_ok-grown.ensures.size);
    }
