-- The loop of `judge_families` in src/good_families.rt, which finds the crossings of each family, or the first bad one.
use Rattle.std.proofs.Common.{◌≡◌, ◌<◌, ◌+◌, ℕ, length}
use Rattle.tsp_cases.specs.Crossings.{families_in}
use Rattle.tsp_cases.specs.states.GoodFamilies.{AreSmallCrossings, AreUnmarked}
use Rattle.tsp_cases.proofs.GoodFamilies.{HaveNumbers}
use Rattle.tsp_cases.proofs.good_families.judge_families.Given as goal

-- each family before this one is good and has its numbers; no node has the mark of a later one
abbrev pub invariant-families : goal.invariant-families
invariant-families g l =
    let n : ℕ = g.C.Costs.nodes l.tree.costs.now in
    record {
      handles_long : length l.handles.items ≡ n + 1;
      teeth_long : length l.teeth.items ≡ n + 1;
      handles_fresh : (mark : ℕ) → l.number < mark → AreUnmarked l.handles.items mark;
      teeth_fresh : (mark : ℕ) → l.number < mark → AreUnmarked l.teeth.items mark;
      many : length l.crossed.items ≡ l.number;
      have : HaveNumbers n (families_in l.tree.families.now) l.crossed.items;
      small : AreSmallCrossings l.crossed.items;
    }
