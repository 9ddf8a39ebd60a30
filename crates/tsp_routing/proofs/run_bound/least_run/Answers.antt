-- The goals of `least_run` in src/run_bound.rt, which goes through the table of kept states: its loop and what it
-- ensures.
use Rattle.tsp_routing.proofs.Prelude.{◌≡◌, ◌<◌, ◌+◌, ℕ, ℤ, length, refl, sym, subst, arith, rules, FitsSigned, inl, inr, ◌⊎◌, ◌≤ℤ◌, w128, ints, to_z-of_z}
use Rattle.tsp_routing.specs.states.RunTables.{link_in}
use Rattle.tsp_routing.specs.states.KeptLists.{rules_of, IsBelowTable, IsMetBelow}
use Rattle.tsp_routing.proofs.LeastRuns.{least_is, loads_one_more}
use Rattle.tsp_routing.proofs.run_bound.least_run.Goals as goal

-- plan: one load more
pub loads-preserved : goal.loads-preserved
loads-preserved c =
    let nodes = c.args.leaf.now.nodes.now in
    let h = c.loads.invariant in
    let own = c.least_of_load-found.ensures in
    record {
      within = let before = h.within in let less = own.keeps in omega (arith, ints, before, less);
      below = loads_one_more nodes.nodes nodes.depot (link_in nodes.rows.now) c.args.table.now c.loads.load c.loads.found.least
          c.least_of_load-found.result.least own.keeps own.below h.below;
      met = elim own.met [
        | inl same ↦ subst (λ (z : ℤ). (z ≡ c.args.leaf.now.limit)
            ⊎ IsMetBelow nodes.nodes nodes.depot (link_in nodes.rows.now) c.args.table.now (length c.args.table.now) z) (sym same) h.met
        | inr by ↦ inr (c.loads.load, c.loads-test.true, by)
      ];
    }

pub returns : goal.returns
returns c = λ near rows leaf_of states.
    let nodes = c.args.leaf.now.nodes.now in
    let h = c.loads.invariant in
    let end : c.loads.load ≡ length c.args.table.now = omega (arith, c.loads-test.false, c.loads.auto.load-end) in
    let fits : FitsSigned w128 c.loads.found.least = search rules in
    rw (to_z-of_z w128 c.loads.found.least fits)
    (least_is (rules_of c.args.leaf.now near rows) c.args.leaf.now.limit c.args.table.now c.loads.found.least leaf_of.signs
    (omega (arith, c.requires.long)) states h.within
    (subst (λ (k : ℕ). IsBelowTable nodes.nodes nodes.depot (link_in nodes.rows.now) c.args.table.now k c.loads.found.least) end h.below) h.met)
