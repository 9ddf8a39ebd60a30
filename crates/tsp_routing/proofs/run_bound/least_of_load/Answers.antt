-- The goals of `least_of_load` in src/run_bound.rt, which goes through the lists of a load: its loop and what it ensures.
use Rattle.tsp_routing.proofs.Prelude.{◌≡◌, ◌+◌, ℕ, ℤ, refl, sym, subst, arith, inl, inr, ◌⊎◌, ◌≤ℤ◌, ints}
use Rattle.tsp_routing.specs.states.RunTables.{link_in}
use Rattle.tsp_routing.specs.states.KeptLists.{IsBelowLoad, IsMetAtLoad}
use Rattle.tsp_routing.proofs.LeastRuns.{load_one_more}
use Rattle.tsp_routing.proofs.run_bound.least_of_load.Goals as goal

-- plan: one customer more
pub nodes-init : goal.nodes-init
nodes-init c = record {
  keeps = omega (arith, ints);
  below = λ last customer. absurd (omega (arith, customer.0.0, customer.0.1));
  met = inl refl;
}

pub nodes-preserved : goal.nodes-preserved
nodes-preserved c =
    let nodes = c.args.leaf.now.nodes.now in
    let h = c.nodes.invariant in
    let own = c.least_of_last-found.ensures in
    record {
      keeps = let before = h.keeps in let less = own.keeps in omega (arith, ints, before, less);
      below = load_one_more nodes.depot (link_in nodes.rows.now) c.args.table.now c.args.load c.nodes.index c.nodes.found.least
          c.least_of_last-found.result.least own.keeps own.below h.below;
      met = elim own.met [
        | inl same ↦ subst (λ (z : ℤ). (z ≡ c.args.begun.least)
            ⊎ IsMetAtLoad nodes.nodes nodes.depot (link_in nodes.rows.now) c.args.table.now c.args.load z) (sym same) h.met
        | inr by ↦ inr (c.nodes.index + 1, ((omega arith, omega (arith, c.nodes-test.true)), by.0), by.1)
      ];
    }

pub returns-clause-below : goal.returns-clause-below
returns-clause-below c = λ last customer.
    c.nodes.invariant.below last ((customer.0.0, omega (arith, customer.0.1, c.nodes-test.false)), customer.1)
