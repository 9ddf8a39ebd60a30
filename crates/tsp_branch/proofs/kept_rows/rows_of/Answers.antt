-- The goals of `rows_of` in src/kept_rows.rt, which makes a row of scaled costs for each node: what it ensures.
use Rattle.tsp_branch.proofs.Prelude.{◌≡◌, ℕ, subst, arith, ◌*ℤ◌}
use Rattle.tsp_branch.specs.states.KeptRows.{AreRows}
use Rattle.tsp_branch.proofs.kept_rows.rows_of.Goals as goal

-- plan: after the loop there is a row for each node
pub returns : goal.returns
returns g c =
    let s = c.args.context.now in
    let n : ℕ = g.C.Costs.nodes s.costs.now in
    let cost = g.C.Costs.at s.costs.now in
    let whole : c.rows.index ≡ n = omega (arith, c.rows-test.false, c.rows.auto.index-end, c.count-count.ensures.value) in
    subst (λ (k : ℕ). AreRows n cost (λ i x. s.cases.now.scale *ℤ cost i x) k c.rows.rows.items) whole
    (record { many = c.rows.invariant.many; each = c.rows.invariant.each })
