-- The loop of `exact_root` in src/root.rt, which finds a rounded root by halving a range.
use Rattle.std.proofs.Common.{◌-◌, ◌<◌, ◌≤◌}
use Rattle.tsp_number.specs.states.Rounding.{Covers}
use Rattle.tsp_number.proofs.root.exact_root.Given as goal

-- the least number that covers the square lies from `low` to `high`
abbrev pub invariant-loop-low : goal.invariant-loop-low
invariant-loop-low l =
    (l.low ≤ l.high)
    × (l.high ≤ l.most)
    × Covers l.rounding l.square l.high
    × (0 < l.low → ¬ Covers l.rounding l.square (l.low - 1))

-- each round makes the range from `low` to `high` smaller
abbrev pub decreases-loop-low : goal.decreases-loop-low
decreases-loop-low l = l.high - l.low
