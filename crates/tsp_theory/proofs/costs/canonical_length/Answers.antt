-- The goals of `canonical_length` in src/costs.rt, which returns the length of the tour 1, 2, .., n: its loop and what
-- it ensures.
use Rattle.tsp_theory.proofs.Prelude.{◌≡◌, ◌≤◌, ◌+◌, ◌-◌, ◌<◌, ℕ, sym, ap, ◌∙◌, arith, to_z, ℤ, ◌+ℤ◌, w64, range_with_len, nodes_to}
use Rattle.tsp_theory.specs.Tour.{length_of}
use Rattle.tsp_theory.proofs.Sums.{sum_fits, lengths_sum_more, length_more, length_last, run_parts, canonical}
use Rattle.tsp_theory.proofs.costs.canonical_length.Goals as goal

-- plan: one node more is one cost more (`length_more`); the last one goes back to node 1 (`length_last`)
pub nodes-preserved : goal.nodes-preserved
nodes-preserved g c =
    let node : ℕ = c.nodes.node in
    let count : ℕ = c.count-count.result in
    let so_far : ℤ = to_z w64 c.nodes.length-bits in
    let cost = c.cost-length.ensures in
    let few : node - 1 ≤ 1000000 = omega (arith, c.count-count.ensures.most) in
    let steps : node + 1 - 1 ≡ node - 1 + 1 = omega arith in
    let sum = sum_fits so_far c.cost-length.result (node - 1) few c.nodes.invariant.size cost.low cost.high in
    let some : 0 < count - node = omega arith in
    let less : count - (node + 1) ≡ count - node - 1 = omega arith in
    record {
      size = rw (sum, steps) (lengths_sum_more so_far c.cost-length.result (node - 1) c.nodes.invariant.size cost.low cost.high);
      so_far = rw (sum, cost.value, less)
          (length_more (g.C.Costs.at c.args.c.now) so_far _ 1 node (node + 1) _ _ (run_parts (node + 1) (count - node) some)
          c.nodes.invariant.so_far);
    }

pub returns : goal.returns
returns g c =
    let node : ℕ = c.nodes.node in
    let count : ℕ = c.count-count.result in
    let so_far : ℤ = to_z w64 c.nodes.length-bits in
    let last : node ≡ count = omega (arith, c.count-count.ensures.some) in
    let few : node - 1 ≤ 1000000 = omega (arith, c.count-count.ensures.most) in
    let none : count - node ≡ 0 = omega arith in
    let sum = sum_fits so_far c.cost.result (node - 1) few c.nodes.invariant.size c.cost.ensures.low c.cost.ensures.high in
    let whole = length_last (g.C.Costs.at c.args.c.now) so_far _ 1 node _ (ap (range_with_len (node + 1)) none)
    c.nodes.invariant.so_far in
    let value : so_far +ℤ c.cost.result ≡ so_far +ℤ g.C.Costs.at c.args.c.now node 1 =
    ap (λ (z : ℤ). so_far +ℤ z) (c.cost.ensures.value ∙ ap (λ k. g.C.Costs.at c.args.c.now k 1) (sym last)) in
    sum ∙ value ∙ whole ∙ sym (canonical (g.C.Costs.at c.args.c.now) count c.count-count.ensures.some)
    ∙ ap (λ n. length_of (g.C.Costs.at c.args.c.now) (nodes_to n)) c.count-count.ensures.value
