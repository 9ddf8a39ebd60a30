-- The goals of `are_customers` in src/judged_memory.rt, which marks nodes and looks for the depot: what it ensures.
use Rattle.tsp_routing.proofs.Prelude.{refl}
use Rattle.tsp_routing.proofs.JudgedLists.{marked_customers}
use Rattle.tsp_routing.proofs.judged_memory.are_customers.Goals as goal

-- plan: each node gets a new mark, so none comes twice; none is the depot if that has no mark
pub returns-clause-are : goal.returns-clause-are
returns-clause-are c =
    marked_customers c.args.demands.now.nodes c.args.demands.now.depot c.args.mark c.args.nodes.now c.args.marks.now c.mark_nodes.new.marks
    c.requires.inside (c.if-not-mark_nodes.ensures.new.0 refl).once c.requires.fresh (c.if-not-mark_nodes.ensures.marked refl)
