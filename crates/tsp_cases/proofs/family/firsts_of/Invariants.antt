-- The loop of `firsts_of` in src/family.rt, which finds the first node of each part.
use Rattle.tsp_cases.proofs.Prelude.{◌≡◌, ℕ, ◌<◌, ◌≤◌, length, get_or, All, Any}
use Rattle.tsp_cases.specs.Crossings.{IsNodePlace, AreDifferent}
use Rattle.tsp_cases.proofs.family.firsts_of.Given as goal

-- each node before this one has the membership of one of `firsts`, whose memberships differ
abbrev pub invariant-nodes : goal.invariant-nodes
invariant-nodes l = record {
  places : All (IsNodePlace l.memberships) l.firsts.items;
  differ : AreDifferent l.memberships l.firsts.items;
  each : (x : ℕ) → 1 ≤ x → x < l.node → Any (λ first. get_or l.memberships x 0 ≡ get_or l.memberships first 0) l.firsts.items;
  few : length l.firsts.items ≤ 14;
}
