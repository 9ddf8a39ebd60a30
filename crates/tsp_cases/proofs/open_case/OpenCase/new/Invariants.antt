-- The loop of `OpenCase::new` in src/open_case.rt, which opens the case of the given decisions.
use Rattle.std.proofs.Common.{◌≡◌, ◌≤◌, drop, length}
use Rattle.tsp_cases.specs.states.OpenCases.{AreByNode}
use Rattle.tsp_cases.proofs.open_case.OpenCase.new.Given as goal

-- the lists by node have the given decisions from `left` on
abbrev pub invariant-given : goal.invariant-given
invariant-given l = record {
  most : l.left ≤ length l.given;
  by_node : AreByNode l.nodes l.by_node (drop l.left l.given);
  directed : l.by_node.directed ≡ l.directed;
}

-- `left` gets smaller by one
abbrev pub decreases-given : goal.decreases-given
decreases-given l = l.left
