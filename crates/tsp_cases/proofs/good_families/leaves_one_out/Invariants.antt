-- The loop of `leaves_one_out` in src/good_families.rt, which tests whether some node has no mark.
use Rattle.std.proofs.Common.{◌≡◌, ◌≤◌, ◌<◌, ℕ, true}
use Rattle.tsp_cases.specs.states.GoodFamilies.{is_marked}
use Rattle.tsp_cases.proofs.good_families.leaves_one_out.Given as goal

-- each node before this one has the mark
abbrev pub invariant-places : goal.invariant-places
invariant-places l = (node : ℕ) → 1 ≤ node → node < l.place → is_marked l.marks l.mark node ≡ true
