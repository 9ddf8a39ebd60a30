-- The goals of `ways_with` in src/run_leaf.rt, which makes the row of the next load: its loop, what its
-- calls require, and what it ensures.
use Rattle.tsp_routing.proofs.Prelude.{◌≡◌, ◌+◌, ◌*◌, ◌∙◌, ℕ, ℤ, List, [], ◌∷◌, ◌++◌, pos, neg_ℤ, length, ap, subst, sym, arith, rules, FitsSigned, length-append, w128, to_z-of_z, ◌≤ℤ◌}
use Rattle.tsp_routing.specs.PlanBounds.{most_link}
use Rattle.tsp_routing.specs.KeptStates.{IsCompletion}
use Rattle.tsp_routing.specs.states.RunTables.{rules_by, AreOnwards, AreOnwardsSized}
use Rattle.tsp_routing.proofs.WaysHome.{node_pushed, way_completes}
use Rattle.tsp_routing.proofs.run_leaf.ways_with.Goals as goal

-- plan: the number of one node more is a completion, by those of the rows before
pub nodes-preserved : goal.nodes-preserved
nodes-preserved c =
    let nodes = c.args.run_nodes.now in
    let table = c.args.table.now in
    let before : List ℤ = c.nodes.next.items in
    let own : ℤ = c.way_home-way.result in
    let after : List ℤ = c.push-in-nodes.new.list.items in
    let fits : FitsSigned w128 own = search rules in
    let pushed : after ≡ before ++ own ∷ [] =
    c.in_ok-push-2.ensures.items ∙ ap (λ (z : ℤ). before ++ z ∷ []) (to_z-of_z w128 own fits) in
    let long = length-append before (own ∷ []) in
    let h = c.nodes.invariant in
    record {
      long = ap (λ (xs : List ℤ). length xs) pushed ∙ omega (arith, long, h.long);
      ways = λ near rows homes node there load full.
          node_pushed (λ (node : ℕ) (number : ℤ). IsCompletion (rules_by nodes.nodes nodes.depot nodes.loads.now nodes.room nodes.rows.now near rows)
          load node number) before after own (pos 0) c.nodes.index pushed h.long (λ node there. h.ways near rows homes node there load full)
          (way_completes nodes.nodes nodes.depot nodes.loads.now nodes.room nodes.rows.now near rows table c.deref.result.now
          (c.nodes.index + 1) own nodes.some nodes.links
          (subst (AreOnwards nodes.nodes nodes.depot nodes.loads.now (length table) table) (sym c.deref.ensures.value) c.in_ok-onward.ensures.values)
          homes c.way_home-way.ensures.below c.way_home-way.ensures.met c.way_home-way.ensures.most
          (omega arith, omega (arith, c.nodes-test.true)) load full) node there;
      sizes = node_pushed (λ (node : ℕ) (number : ℤ). (neg_ℤ (pos ((length table + 1) * most_link)) ≤ℤ number) × (number ≤ℤ pos most_link))
          before after own (pos 0) c.nodes.index pushed h.long h.sizes (
            c.way_home-way.ensures.size (length table)
                (subst (AreOnwardsSized nodes.nodes (length table)) (sym c.deref.ensures.value) c.in_ok-onward.ensures.sizes),
            c.way_home-way.ensures.most,
          );
    }

pub returns-clause-exact : goal.returns-clause-exact
returns-clause-exact c = λ near rows homes load node full customer.
    c.nodes.invariant.ways near rows homes node (customer.0.0, omega (arith, customer.0.1, c.nodes-test.false)) load full

pub nodes-init : goal.nodes-init
nodes-init c =
    let pushed = ap (λ (xs : List ℤ). length xs) c.in_ok-push.ensures.items in
    let none = ap (λ (xs : List ℤ). length xs) c.in_ok-next.ensures.items in
    record {
      long = omega (arith, length-append {A = ℤ}, pushed, none);
      ways = λ near rows homes node there. absurd (omega (arith, there.0, there.1));
      sizes = λ node there. absurd (omega (arith, there.0, there.1));
    }

pub onwards-requires-clause-sizes : goal.onwards-requires-clause-sizes
onwards-requires-clause-sizes c = c.requires.sizes

pub way_home-way-requires-clause-node : goal.way_home-way-requires-clause-node
way_home-way-requires-clause-node c = (omega arith, omega (arith, c.nodes-test.true))

pub returns-clause-sizes : goal.returns-clause-sizes
returns-clause-sizes c =
    let long = c.nodes.invariant.long in
    let most = c.nodes.auto.index-end in
    let end = c.nodes-test.false in
    record {
      places = omega (arith, long, most, end);
      sizes = λ node there. c.nodes.invariant.sizes node (there.0, omega (arith, there.1, c.nodes-test.false));
    }
