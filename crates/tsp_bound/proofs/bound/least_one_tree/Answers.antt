-- The goals of `least_one_tree` in src/bound.rt, which bounds every cycle by a minimum 1-tree: what its calls require
-- and what it ensures.
use Rattle.tsp_bound.proofs.Prelude.{◌≡◌, ℕ, List, [], subst, ◌∙◌, arith, rules, FitsSigned, to_z, of_z, ℤ, w128, to_z-of_z, total, triples_total, IsAdjustedBoundOf, IsAdjustedBound, weight_of, IsLeastOneTree, sum_of_bound, bound_of_weight, tree_same}
use Rattle.tsp_bound.specs.states.Potentials.{weight_less}
use Rattle.tsp_bound.proofs.bound.least_one_tree.Goals as goal

pub least_bound-bound-requires-clause-size : goal.least_bound-bound-requires-clause-size
least_bound-bound-requires-clause-size g c =
    let sum = sum_of_bound c.in_ok-found.found.weight c.total-potentials.result c.total_of-multipliers.result (total c.args.p.now.numbers.now) (triples_total c.args.m.now.triples.now)
    c.in_ok-found.ensures.size c.total-potentials.ensures.size c.total_of-multipliers.ensures.size c.total-potentials.ensures.value c.total_of-multipliers.ensures.value in
    rw sum.0 sum.1

-- plan: the tree found is least under the lessened weights; `bound_of_weight` rounds its sum, which fits 128 bits
pub returns : goal.returns
returns g c =
    let n = g.C.Costs.nodes c.args.c.now in
    let cost = g.C.Costs.at c.args.c.now in
    let p = c.args.p.now in
    let triples : List (ℕ × ℕ × ℤ) = c.args.m.now.triples.now in
    let w = weight_less p triples cost in
    let edges : List (ℕ × ℕ) = c.in_ok-found.found.edges.items in
    let found : IsLeastOneTree n w edges = subst (λ (ts : List (ℕ × ℕ × ℤ)). IsLeastOneTree n (weight_less p ts cost) edges) c.in_ok-by_node.ensures.triples c.in_ok-found.ensures.least in
    let weight : ℤ = c.in_ok-found.found.weight in
    let same : to_z w128 (of_z w128 c.in_ok-found.found.weight) ≡ weight = tree_same weight c.in_ok-found.ensures.size in
    let weight_is : weight ≡ weight_of w edges = subst (λ (ts : List (ℕ × ℕ × ℤ)). weight ≡ weight_of (weight_less p ts cost) edges) c.in_ok-by_node.ensures.triples c.in_ok-found.ensures.weight in
    let least = c.least_bound-bound.result in
    let fits : FitsSigned w128 c.least_bound-bound.result = search rules in
    let bound : ℤ = to_z w128 (of_z w128 least) in
    let rounded : IsAdjustedBoundOf p.scale p.numbers.now triples weight bound =
    bound_of_weight p.scale weight c.total-potentials.result c.total_of-multipliers.result (total p.numbers.now) (triples_total triples) least p.are.scale_is
    fits
    c.in_ok-found.ensures.size c.total-potentials.ensures.size c.total_of-multipliers.ensures.size c.total-potentials.ensures.value
    c.total_of-multipliers.ensures.value c.least_bound-bound.ensures.value in
    let own : IsAdjustedBound n cost p.scale p.numbers.now triples [] bound = record {
      tree = edges;
      least = found;
      bound_is = subst (λ (z : ℤ). IsAdjustedBoundOf p.scale p.numbers.now triples z bound) weight_is rounded;
    } in
    record {
      tree = found.tree;
      weight = same ∙ weight_is;
      least = rw (same ∙ weight_is) found.least;
      rounded = rw same rounded;
      bound = own;
      size = rw (to_z-of_z w128 least fits) c.least_bound-bound.ensures.size;
      cycles = λ nodes cycle used. c.adjusted_bounds_bound_cycles.ensures.cycles n cost p.scale p.numbers.now triples [] bound nodes c.requires.some
          (g.met.C.Symmetric.even c.args.c.now) p.are.scale_is c.requires.count own cycle used (λ k d lt. absurd (omega arith));
    }
