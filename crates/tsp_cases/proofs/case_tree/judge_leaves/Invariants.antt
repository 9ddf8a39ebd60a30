-- The loop of `judge_leaves` in src/case_tree.rt, which finds the least bound of all leaves, or the first bad leaf.
use Rattle.tsp_cases.proofs.Prelude.{◌≡◌, ◌≤◌, ◌+◌, length, drop, IfSome, steps_of, IsBoundSized}
use Rattle.tsp_cases.specs.states.OpenCases.{IsOpenCase, decisions_in, AreSmall}
use Rattle.tsp_cases.proofs.Passes.{IsPassing}
use Rattle.tsp_cases.proofs.case_tree.judge_leaves.Given as goal

-- the bound so far with those of the leaves in the steps left, from the open case on, is the bound of all steps
abbrev pub invariant-steps : goal.invariant-steps
invariant-steps g l = record {
  at : IsPassing (g.J.LeafJudge.found l.judge) (g.J.LeafJudge.good l.judge) (g.J.LeafJudge.fits l.judge) (g.J.LeafJudge.nodes l.judge)
      (g.J.LeafJudge.family_count l.judge) l.tree.given.now (steps_of l.tree.steps.now) l.numbers.items l.case.stack.items l.lowest l.leaf
      (steps_of (drop l.step-index l.tree.steps.now));
  memory : g.J.LeafJudge.holds l.judge l.memory (decisions_in l.case);
  long : length l.numbers.items ≡ g.J.LeafJudge.nodes l.judge + g.J.LeafJudge.family_count l.judge;
  small : AreSmall l.numbers.items;
  case : IsOpenCase (g.J.LeafJudge.places l.judge) l.case;
  given : l.case.given.now ≡ l.tree.given.now;
  direction : l.case.by_node.directed ≡ g.J.LeafJudge.directed l.judge;
  few : length l.case.stack.items ≤ l.step-index;
  leaves : l.leaf ≤ l.step-index;
  sized : IfSome l.lowest IsBoundSized;
}
