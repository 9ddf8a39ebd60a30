-- The goals of `least_edges` in src/bound.rt, which finds the edges of a minimum 1-tree: what its calls require, that
-- no sum overflows and what it ensures.
use Rattle.tsp_bound.proofs.Prelude.{◌≡◌, ◌∙◌, [], ap, ap₂, sym, arith, rules, FitsSigned, ◌+ℤ◌, w64, ints, weight_of, tree_of, least_from_forest, weight_even, tree_fits, tree_size, tree_computed, weight_of_tree}
use Rattle.tsp_bound.specs.states.Potentials.{weight_under, triples_in, weight_less}
use Rattle.tsp_theory.proofs.Neighbours.{adjusted_even}
use Rattle.tsp_bound.proofs.bound.least_edges.Goals as goal

pub grow_in_rounds-requires-clause-even : goal.grow_in_rounds-requires-clause-even
grow_in_rounds-requires-clause-even g c =
    adjusted_even (triples_in c.args.m.now) [] (weight_under c.args.p.now (g.C.Costs.at c.args.c.now))
    (weight_even c.args.p.now.scale c.args.p.now.numbers.now (g.C.Costs.at c.args.c.now) (g.met.C.Symmetric.even c.args.c.now))

pub overflow_add-root_edges : goal.overflow_add-root_edges
overflow_add-root_edges g c =
    let first : FitsSigned w64 c.two_root_edges.result.0.weight = search rules in
    let second : FitsSigned w64 c.two_root_edges.result.1.weight = search rules in
    omega (arith, ints, first, second, c.from.ensures, c.from-2.ensures)

pub overflow_add-result : goal.overflow_add-result
overflow_add-result g c =
    let first : FitsSigned w64 c.two_root_edges.result.0.weight = search rules in
    let second : FitsSigned w64 c.two_root_edges.result.1.weight = search rules in
    tree_fits c.two_root_edges.result.0.weight c.two_root_edges.result.1.weight c.in_ok-grown.grown.weight c.from.result c.from-2.result first second c.from.ensures c.from-2.ensures c.in_ok-grown.ensures.size

-- plan: the joined pairs with both spokes are a minimum 1-tree under the lessened weights (`least_from_forest`)
pub returns : goal.returns
returns g c =
    let n = g.C.Costs.nodes c.args.c.now in
    let w = weight_less c.args.p.now (triples_in c.args.m.now) (g.C.Costs.at c.args.c.now) in
    let even = adjusted_even (triples_in c.args.m.now) [] (weight_under c.args.p.now (g.C.Costs.at c.args.c.now))
    (weight_even c.args.p.now.scale c.args.p.now.numbers.now (g.C.Costs.at c.args.c.now) (g.met.C.Symmetric.even c.args.c.now)) in
    let two = c.two_root_edges in
    let grown = c.in_ok-grown.grown in
    let first : FitsSigned w64 c.two_root_edges.result.0.weight = search rules in
    let second : FitsSigned w64 c.two_root_edges.result.1.weight = search rules in
    let computed = tree_computed two.result.0.weight two.result.1.weight grown.weight c.from.result c.from-2.result first second c.from.ensures c.from-2.ensures c.in_ok-grown.ensures.size in
    let edges : c.in_ok-edges.edges.items ≡ tree_of two.result.0.node two.result.1.node grown.pairs.items =
    c.in_ok-edges.ensures ∙ ap (tree_of two.result.0.node two.result.1.node) c.deref.ensures.value in
    let sums : (two.result.0.weight +ℤ two.result.1.weight) +ℤ grown.weight ≡ (w 1 two.result.0.node +ℤ w 1 two.result.1.node) +ℤ weight_of w grown.pairs.items =
    ap₂ (λ a b. a +ℤ b) (ap₂ (λ a b. a +ℤ b) two.ensures.first two.ensures.second) c.in_ok-grown.ensures.weight in
    record {
      least = least_from_forest n w two.result.0.node two.result.1.node grown.pairs.items c.deref.result.now c.in_ok-edges.edges.items c.requires.some even
          two.ensures.nearest c.in_ok-grown.ensures.whole c.deref.ensures.value c.in_ok-edges.ensures;
      weight = computed ∙ sums ∙ sym (weight_of_tree w even two.result.0.node two.result.1.node grown.pairs.items) ∙ ap (weight_of w) (sym edges);
      size = rw computed (tree_size two.result.0.weight two.result.1.weight grown.weight first second c.in_ok-grown.ensures.size);
    }
