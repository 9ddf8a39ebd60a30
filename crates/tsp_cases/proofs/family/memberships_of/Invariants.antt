-- The loop of `memberships_of` in src/family.rt, which computes the membership of each node.
use Rattle.std.proofs.Common.{◌≡◌, ℕ, ◌+◌, ◌<◌, length, get_or}
use Rattle.tsp_cases.specs.Crossings.{sets_of, lists_of}
use Rattle.tsp_cases.proofs.Divisions.{IsSoFar}
use Rattle.tsp_cases.proofs.family.memberships_of.Given as goal

-- each node's number has the bit of each set before this one that has the node, and no other bit
abbrev pub invariant-sets : goal.invariant-sets
invariant-sets l = record {
  long : length l.memberships.items ≡ l.family.nodes + 1;
  so_far : (x : ℕ) → x < length l.memberships.items → IsSoFar (sets_of (lists_of l.family.sets.now)) l.set x (get_or l.memberships.items x 0);
}
