-- The loop of `have_each_once` in src/good_families.rt, which tests whether no set has a node twice.
use Rattle.std.proofs.Common.{◌≡◌, ◌<◌, ◌+◌, ℕ, List, length, get_or}
use Rattle.tsp_cases.specs.Crossings.{lists_of}
use Rattle.tsp_cases.specs.Families.{HasEachOnce}
use Rattle.tsp_cases.specs.states.GoodFamilies.{AreUnmarked}
use Rattle.tsp_cases.proofs.good_families.have_each_once.Given as goal

-- no set before this one has a node twice, and no node has the mark of a later one
abbrev pub invariant-sets : goal.invariant-sets
invariant-sets l = record {
  long : length l.marks.items ≡ l.family.nodes + 1;
  fresh : (mark : ℕ) → l.index < mark → AreUnmarked l.marks.items mark;
  once : (k : ℕ) (d : List ℕ) → k < l.index → HasEachOnce (get_or (lists_of l.family.sets.now) k d);
}
