-- The loop of `add_bit` in src/family.rt, which adds the bit of a set at its nodes.
use Rattle.std.proofs.Common.{◌≡◌, ℕ, ◌<◌, length, get_or, take}
use Rattle.tsp_cases.proofs.Divisions.{with_bit}
use Rattle.tsp_cases.proofs.family.add_bit.Given as goal

-- each of the nodes before this one has the bit, and nothing else has changed
abbrev pub invariant-nodes : goal.invariant-nodes
invariant-nodes l =
    (x : ℕ) → x < length l.fn.memberships → get_or l.memberships x 0 ≡ with_bit l.bit (take l.node-index l.nodes) x (get_or l.fn.memberships x 0)
