-- The goals of `first_entries` in src/kept_states.rt, which makes the list of the start of one customer: what it ensures.
use Rattle.std.proofs.Common.{◌≡◌, ◌+◌, ◌++◌, ℕ, List, [], ◌∷◌, ap, sym, ◌∙◌, subst, arith}
use Rattle.tsp_routing.specs.declared.kept_states.KeptState.{KeptState}
use Rattle.tsp_routing.specs.states.KeptLists.{rules_of, IsKeptListTo}
use Rattle.tsp_routing.proofs.KeptLists.{begins_one, begins_none}
use Rattle.tsp_routing.proofs.kept_states.first_entries.Goals as goal

-- plan: by whether the load is that of the customer, and whether its start is kept
pub returns-then-load-clause-exact : goal.returns-then-load-clause-exact
returns-then-load-clause-exact c = λ near rows leaf_of.
    let rules = rules_of c.args.leaf.now near rows in
    subst (IsKeptListTo rules c.args.leaf.now.limit c.args.load c.args.last 0) (sym c.new-entries.ensures.items)
    (begins_none rules c.args.leaf.now.limit c.args.load c.args.last (λ same. absurd (c.if-load.true (c.load.ensures ∙ same))))

pub returns-in_default-clause-exact : goal.returns-in_default-clause-exact
returns-in_default-clause-exact c = λ near rows leaf_of.
    let rules = rules_of c.args.leaf.now near rows in
    subst (IsKeptListTo rules c.args.leaf.now.limit c.args.load c.args.last 0) (sym c.new-entries.ensures.items)
    (begins_none rules c.args.leaf.now.limit c.args.load c.args.last
    (λ same. c.in_default.ensures.exact near rows leaf_of (omega (arith, same, c.requires.load))))

pub returns-clause-exact : goal.returns-clause-exact
returns-clause-exact c = λ near rows leaf_of.
    let rules = rules_of c.args.leaf.now near rows in
    let own : KeptState = c.in-Some.entry in
    let items : c.push.new.list.items ≡ own ∷ [] =
    c.in_ok-push.ensures.items ∙ ap (λ (xs : List KeptState). xs ++ own ∷ []) c.new-entries.ensures.items in
    let load = c.load.ensures in
    let same = c.if-load.false in
    subst (IsKeptListTo rules c.args.leaf.now.limit c.args.load c.args.last 0) (sym items)
    (begins_one rules c.args.leaf.now.limit c.args.load c.args.last own c.requires.last c.requires.load (omega (arith, load, same))
    (c.in-Some.ensures.exact near rows leaf_of (omega (arith, load, same, c.requires.load))))
