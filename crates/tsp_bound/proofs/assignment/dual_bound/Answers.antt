-- The goals of `dual_bound` in src/assignment.rt, which bounds every cycle by duals: that no sum overflows, its loop,
-- what its calls require and what it ensures.
use Rattle.tsp_bound.proofs.Prelude.{◌≡◌, ℕ, ◌*◌, ◌^◌, rules, arith, sym, ◌∙◌, inl, inr, subst, FitsSigned, to_z, of_z, ℤ, pos, neg_ℤ, ◌+ℤ◌, ◌≤ℤ◌, w128, ints, to_z-of_z, fits_signed_from_abs, most_nodes, most_potential, IsFromTo, total, AreGood, IsDualBound, size_of, bound_of_sums}
use Rattle.tsp_bound.specs.states.Duals.{dual_of, scaled}
use Rattle.tsp_bound.proofs.LoweredWeights.{rows_passed}
use Rattle.tsp_bound.proofs.assignment.dual_bound.Goals as goal

-- the size of a sum of numbers
abbrev IsTotalSized : ℤ → Type 0
IsTotalSized z = IsFromTo (neg_ℤ (pos (most_nodes * most_potential))) (pos (most_nodes * most_potential)) z

sum_same : (first second : ℤ) → IsTotalSized first → IsTotalSized second → (to_z w128 (of_z w128 first) +ℤ to_z w128 (of_z w128 second)) ≡ first +ℤ second
sum_same first second p q = omega (arith, ints, p.0, p.1, q.0, q.1)

sum_size : (first second : ℤ) → IsTotalSized first → IsTotalSized second → IsFromTo (neg_ℤ (pos (2 ^ 100))) (pos (2 ^ 100)) (first +ℤ second)
sum_size first second p q = (omega (arith, ints, p.0, q.0), omega (arith, ints, p.1, q.1))

sum_fits : (first second : ℤ) → IsTotalSized first → IsTotalSized second → FitsSigned w128 (first +ℤ second)
sum_fits first second p q = fits_signed_from_abs w128 (first +ℤ second) (let size = size_of (2 ^ 100) (first +ℤ second) (sum_size first second p q) in omega (arith, size))

-- plan: row by row no link breaks the duals (`rows_passed`), so their sums give the bound (`bound_of_sums`)
pub overflow_add-rows : goal.overflow_add-rows
overflow_add-rows g c =
    rw (sum_same c.total-rows.result c.total-columns.result c.total-rows.ensures.size c.total-columns.ensures.size)
    (sum_fits c.total-rows.result c.total-columns.result c.total-rows.ensures.size c.total-columns.ensures.size)

pub least_bound-requires-clause-size : goal.least_bound-requires-clause-size
least_bound-requires-clause-size g c =
    let first = c.total-rows.result in
    let second = c.total-columns.result in
    rw (
      sum_same first second c.total-rows.ensures.size c.total-columns.ensures.size,
      to_z-of_z w128 (first +ℤ second) (sum_fits first second c.total-rows.ensures.size c.total-columns.ensures.size),
    )
    (sum_size first second c.total-rows.ensures.size c.total-columns.ensures.size)

pub rows-preserved : goal.rows-preserved
rows-preserved g c =
    let d = c.args.d.now in
    let cost = g.C.Costs.at c.args.c.now in
    rows_passed (g.C.Costs.nodes c.args.c.now) (λ (a b : ℕ). dual_of d a b ≤ℤ scaled d cost a b) c.rows.i c.rows.invariant c.in_default.ensures

pub returns-in-Some : goal.returns-in-Some
returns-in-Some g c =
    let d = c.args.d.now in
    let cost = g.C.Costs.at c.args.c.now in
    record {
      value = record {
        row = (c.rows.auto.i, omega (arith, c.rows-test.true, c.count-i-end.ensures.value));
        column = c.in-Some.ensures.0;
        other = c.in-Some.ensures.1;
        broken = c.in-Some.ensures.2;
        first = λ a b row column other before. elim before [
          | inl above ↦ c.rows.invariant a b row column other above
          | inr same ↦ subst (λ (k : ℕ). dual_of d k b ≤ℤ scaled d cost k b) (sym same.0)
              (c.in-Some.ensures.3 b column.0 same.1 (λ here. other (same.0 ∙ here)))
        ];
      };
      size = tt;
      cycles = tt;
    }

pub returns : goal.returns
returns g c =
    let d = c.args.d.now in
    let n = g.C.Costs.nodes c.args.c.now in
    let cost = g.C.Costs.at c.args.c.now in
    let least = c.least_bound.result in
    let fits : FitsSigned w128 least = search rules in
    let good : AreGood n cost d.scale d.rows.now d.columns.now = λ i j row column other. c.rows.invariant i j row column other (omega (arith, row.1, row.0)) in
    let bound : IsDualBound d.scale d.rows.now d.columns.now (to_z w128 (of_z w128 least)) =
    bound_of_sums d.scale c.total-rows.result c.total-columns.result (total d.rows.now) (total d.columns.now) least d.are.scale_is fits
    c.total-rows.ensures.size c.total-columns.ensures.size c.total-rows.ensures.value c.total-columns.ensures.value c.least_bound.ensures.value in
    record {
      value = (good, bound);
      size = rw (to_z-of_z w128 least fits) c.least_bound.ensures.size;
      cycles = λ more nodes cycle. c.duals_bound_cycles.ensures n cost d.scale d.rows.now d.columns.now (to_z w128 (of_z w128 least)) nodes more d.are.scale_is
          c.requires (sym d.are.as_many ∙ c.requires) good bound cycle;
    }
