-- The loop of `mark_nodes` in src/sets.rt, which marks the nodes of a set.
use Rattle.std.proofs.Common.{◌≡◌, ◌||◌, ℕ, length, take}
use Rattle.tsp_cases.specs.Crossings.{has}
use Rattle.tsp_cases.specs.states.GoodFamilies.{is_marked, AreNew, AddsNoOther}
use Rattle.tsp_cases.proofs.sets.mark_nodes.Given as goal

-- the nodes before this one have been marked: they are different, and none of them had the mark
abbrev pub invariant-nodes : goal.invariant-nodes
invariant-nodes l = record {
  long : length l.marks ≡ length l.fn.marks;
  own : (x : ℕ) → is_marked l.marks l.mark x ≡ (is_marked l.fn.marks l.mark x || has (take l.node-index l.nodes) x);
  new : AreNew (is_marked l.fn.marks l.mark) (take l.node-index l.nodes);
  others : AddsNoOther l.mark l.fn.marks l.marks;
}
