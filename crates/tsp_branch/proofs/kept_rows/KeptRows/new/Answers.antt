-- The goals of `KeptRows::new` in src/kept_rows.rt, which makes the rows under the given decisions, with all multipliers 0:
-- what its calls require and what it ensures.
use Rattle.tsp_branch.proofs.Prelude.{◌≡◌, ◌+◌, ℕ, length, subst, arith, All}
use Rattle.tsp_cases.specs.states.Sets.{lent_in}
use Rattle.tsp_cases.specs.states.OpenCases.{IsDecision, marks_in}
use Rattle.tsp_branch.specs.states.KeptRows.{HoldsRows}
use Rattle.tsp_branch.proofs.RowsKept.{held_at_start}
use Rattle.tsp_branch.proofs.kept_rows.KeptRows.new.Goals as goal

-- plan: all multipliers are 0, so a row has its scaled costs alone (`held_at_start`), to which the given decisions are
-- marked
pub mark_given-requires : goal.mark_given-requires
mark_given-requires g c =
    let s = c.args.context.now in
    let n = g.C.Costs.nodes s.costs.now in
    let cost = g.C.Costs.at s.costs.now in (
      n,
      c.len-family_count.result,
      s.cases.now.scale,
      lent_in s.families.now,
      cost,
      held_at_start n c.len-family_count.result (c.count.result + 1) s.cases.now.scale (lent_in s.families.now) cost s.cases.now.directed _
          (c.in_ok-multipliers.ensures.items_if_clones_equal (λ y h. h)) (c.in_ok-differences.ensures.items_if_clones_equal (λ y h. h))
          (c.in_ok-ends.ensures.items_if_clones_equal (λ y h. h)) (omega (arith, c.count.ensures.value)) c.rows_if_any.ensures,
      subst (λ (k : ℕ). All (IsDecision k) s.cases.now.given.now) s.own s.cases.now.given_are,
    )

pub returns : goal.returns
returns g c =
    let s = c.args.context.now in
    let n = g.C.Costs.nodes s.costs.now in
    let cost = g.C.Costs.at s.costs.now in
    let families = lent_in s.families.now in
    let family_count : ℕ = c.len-family_count.result in
    let long : family_count ≡ length s.families.now.crossed.items = omega (arith, c.len-family_count.ensures) in
    let given = subst (λ (k : ℕ). All (IsDecision k) s.cases.now.given.now) s.own s.cases.now.given_are in
    subst (λ (k : ℕ). HoldsRows n k s.cases.now.scale families cost (marks_in s.cases.now.directed s.cases.now.given.now) c.mark_given.new.self) long
    (c.mark_given.ensures n family_count s.cases.now.scale families cost
    (held_at_start n family_count (c.count.result + 1) s.cases.now.scale families cost s.cases.now.directed _
    (c.in_ok-multipliers.ensures.items_if_clones_equal (λ y h. h)) (c.in_ok-differences.ensures.items_if_clones_equal (λ y h. h))
    (c.in_ok-ends.ensures.items_if_clones_equal (λ y h. h)) (omega (arith, c.count.ensures.value)) c.rows_if_any.ensures) given)
