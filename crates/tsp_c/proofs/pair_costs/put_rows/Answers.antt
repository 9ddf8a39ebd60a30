-- The goals of `put_rows` in src/pair_costs.rt, which puts rows of costs into a buffer: its loop.
use Rattle.tsp_c.proofs.Prelude.{ℕ, ◌+◌, ◌/◌, ◌%◌, ap, ◌∙◌, rules, FitsSigned, w64, to_z-of_z, cost}
use Rattle.tsp_c.specs.NumberCalls.{row_cost}
use Rattle.tsp_c.proofs.pair_costs.put_rows.Goals as goal

-- plan: the cost at row k / n and column k % n fits 64 bits, so `put` writes it as it is, behind those before
pub places-preserved : goal.places-preserved
places-preserved c =
    let fits : FitsSigned w64 c.cost.result = search rules in
    let k = c.places.k in
    c.put.ensures (row_cost c.args.first_row c.args.instance.now) c.args.out.now
    (to_z-of_z w64 c.cost.result fits ∙ c.cost.ensures.value
    ∙ ap (λ (n : ℕ). cost c.args.instance.now (c.args.first_row + k / n) (k % n + 1)) c.count-count.ensures.value)
    c.places.invariant
