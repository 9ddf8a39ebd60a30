-- The goals of `start_by` in src/least_q_route.rt, which finds the least weight of a walk by the last row's entries:
-- its loop and what it ensures.
use Rattle.tsp_routing.proofs.Prelude.{◌≢◌, ◌+◌, ℕ, subst, ap, arith, inl, inr, ◌+ℤ◌, ints, cases_eq, least_at}
use Rattle.tsp_routing.specs.states.Demands.{entry_at}
use Rattle.tsp_routing.proofs.least_q_route.start_by.Goals as goal

-- plan: by whether a customer is the one just tried, whose start `own` bounds, or an earlier one, which the start
-- before bounded
pub nodes-preserved : goal.nodes-preserved
nodes-preserved g c =
    let value = g.S.Sum.value in
    let own = c.start_with-least.ensures in
    let before = c.nodes.invariant in
    let depot : ℕ = c.args.q_routes.now.depot in
    record {
      below = λ next default customer few. elim (cases_eq next (c.nodes.index + 1)) [
        | inl same ↦
            let here = own.own default (subst (λ (k : ℕ). k ≢ depot) same customer.1) in
            let sum = ap (λ (k : ℕ). least_at c.args.row.now k +ℤ (entry_at value c.args.known.now default k).least) same in
            omega (arith, ints, here, sum)
        | inr other ↦
            let there = before.below next default customer (omega (arith, few, other)) in
            let less = own.keeps in
            omega (arith, ints, there, less)
      ];
      met = λ w default rows.
          own.met w default (rows (c.nodes.index + 1) (omega arith, omega (arith, c.nodes-test.true))) (before.met w default rows);
      size = λ size fits rows. own.size size fits rows (before.size size fits rows);
    }

pub returns-clause-below : goal.returns-clause-below
returns-clause-below g c = λ w default rows next customer.
    let below = c.nodes.invariant.below next default customer (omega (arith, customer.0.1, c.nodes-test.false)) in
    let row = rows next customer.0 in
    omega (arith, ints, below, row)
