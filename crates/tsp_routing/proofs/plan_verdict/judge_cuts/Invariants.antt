-- The loop of `judge_cuts` in src/plan_verdict.rt.
use Rattle.tsp_routing.proofs.Prelude.{◌≡◌, ◌<◌, ◌+◌, ℕ, length, All, families_in}
use Rattle.tsp_cases.specs.states.GoodFamilies.{AreUnmarked}
use Rattle.tsp_routing.specs.states.Judged.{IsFewCrossed}
use Rattle.tsp_routing.proofs.PlanJudging.{HaveCuts}
use Rattle.tsp_routing.proofs.plan_verdict.judge_cuts.Given as goal

-- each family before this one is a set of customers, with how often plans cross it; no node has the mark of a later
-- family
abbrev pub invariant-families : goal.invariant-families
invariant-families l = record {
  places : length l.marks.items ≡ l.demands.nodes + 1;
  fresh : (mark : ℕ) → l.number < mark → AreUnmarked l.marks.items mark;
  many : length l.crossed.items ≡ l.number;
  have : HaveCuts l.demands (families_in l.lent) l.crossed.items;
  few : All IsFewCrossed l.crossed.items;
}
