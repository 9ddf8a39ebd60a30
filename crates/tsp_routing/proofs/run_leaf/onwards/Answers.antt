-- The goals of `onwards` in src/run_leaf.rt, which finds for each node what the cheapest way home from it weighs: its
-- loop, what a call requires, and what it ensures.
use Rattle.tsp_routing.proofs.Prelude.{◌≡◌, ◌∙◌, ℕ, ℤ, List, [], ◌∷◌, ◌++◌, pos, length, ap, arith, rules, FitsSigned, length-append, w128, to_z-of_z}
use Rattle.tsp_routing.specs.states.RunTables.{IsOnward, IsOnwardSized}
use Rattle.tsp_routing.proofs.WaysHome.{node_pushed}
use Rattle.tsp_routing.proofs.run_leaf.onwards.Goals as goal

-- plan: a number for each of the nodes so far, and one more
pub nodes-preserved : goal.nodes-preserved
nodes-preserved c =
    let before : List ℤ = c.nodes.onward.items in
    let own : ℤ = c.onward_from.result in
    let after : List ℤ = c.push-in-nodes.new.list.items in
    let fits : FitsSigned w128 own = search rules in
    let pushed : after ≡ before ++ own ∷ [] =
    c.in_ok-push-2.ensures.items ∙ ap (λ (z : ℤ). before ++ z ∷ []) (to_z-of_z w128 own fits) in
    let long = length-append before (own ∷ []) in
    let h = c.nodes.invariant in
    let nodes = c.args.run_nodes.now in
    let table = c.args.table.now in
    record {
      long = ap (λ (xs : List ℤ). length xs) pushed ∙ omega (arith, long, h.long);
      values = node_pushed (λ (next : ℕ) (number : ℤ). IsOnward nodes.nodes nodes.depot nodes.loads.now (length table) table next number)
          before after own (pos 0) c.nodes.index pushed h.long h.values c.onward_from.ensures.value;
      sizes = node_pushed (λ (next : ℕ) (number : ℤ). IsOnwardSized (length table) number)
          before after own (pos 0) c.nodes.index pushed h.long h.sizes c.onward_from.ensures.size;
    }

pub onward_from-requires-clause-next : goal.onward_from-requires-clause-next
onward_from-requires-clause-next c = (omega arith, omega (arith, c.nodes-test.true))

pub onward_from-requires-clause-sizes : goal.onward_from-requires-clause-sizes
onward_from-requires-clause-sizes c = c.requires.sizes

pub returns-clause-values : goal.returns-clause-values
returns-clause-values c = λ next there. c.nodes.invariant.values next (there.0, omega (arith, there.1, c.nodes-test.false))

pub returns-clause-sizes : goal.returns-clause-sizes
returns-clause-sizes c =
    let long = c.nodes.invariant.long in
    let most = c.nodes.auto.index-end in
    let end = c.nodes-test.false in
    record {
      places = omega (arith, long, most, end);
      sizes = λ next there. c.nodes.invariant.sizes next (there.0, omega (arith, there.1, c.nodes-test.false));
    }
