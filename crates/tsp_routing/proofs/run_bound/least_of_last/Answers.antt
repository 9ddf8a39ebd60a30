-- The goals of `least_of_last` in src/run_bound.rt, which goes through the list of a load and a customer: what its call
-- requires and what it ensures.
use Rattle.std.proofs.Common.{◌≡◌, ◌+◌, ℕ, List, subst, sym, arith, inl, inr}
use Rattle.tsp_routing.specs.declared.kept_states.KeptState.{KeptState}
use Rattle.tsp_routing.specs.states.RunTables.{link_in}
use Rattle.tsp_routing.specs.states.KeptLists.{AreSizedEntries, IsBelowEntries, IsMetBy}
use Rattle.tsp_routing.proofs.run_bound.least_of_last.Goals as goal

-- plan: by the list at its place in the table
pub least_of_list-requires-clause-sizes : goal.least_of_list-requires-clause-sizes
least_of_list-requires-clause-sizes c =
    let few = c.args.leaf.now.nodes.now.fits in (
      c.args.load,
      omega (arith, few, c.requires.load, c.requires.long),
      subst (AreSizedEntries c.args.load) (sym c.list_at.ensures)
          ((c.requires.sizes c.args.load c.requires.load).sizes c.args.last (omega (arith, c.requires.last.1))),
    )

pub returns-clause-below : goal.returns-clause-below
returns-clause-below c = λ other.
    let nodes = c.args.leaf.now.nodes.now in
    subst (IsBelowEntries c.least_of_list.result.least (link_in nodes.rows.now c.args.last nodes.depot)) c.list_at.ensures
    c.least_of_list.ensures.below

pub returns-clause-met : goal.returns-clause-met
returns-clause-met c =
    let nodes = c.args.leaf.now.nodes.now in
    elim c.least_of_list.ensures.met [
      | inl same ↦ inl same
      | inr by ↦ inr (
        c.if-last-leaf.false,
        subst (IsMetBy c.least_of_list.result.least (link_in nodes.rows.now c.args.last nodes.depot)) c.list_at.ensures by,
      )
    ]
