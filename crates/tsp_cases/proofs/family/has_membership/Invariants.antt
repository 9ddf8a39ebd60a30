-- The loop of `has_membership` in src/family.rt, which tests whether a listed node has a membership.
use Rattle.std.proofs.Common.{◌≢◌, ℕ, ◌<◌, get_or}
use Rattle.tsp_cases.proofs.family.has_membership.Given as goal

-- no node before this one has the membership
abbrev pub invariant-nodes : goal.invariant-nodes
invariant-nodes l = (k : ℕ) → k < l.node-index → l.membership ≢ get_or l.memberships (get_or l.nodes k 0) 0
