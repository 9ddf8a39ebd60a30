-- The loop of `heaviest` in src/all_pairs.rt, which finds the heaviest of the twelve links of a place.
use Rattle.std.proofs.Common.{◌≤◌, ◌<◌, ◌+◌}
use Rattle.tsp_bound.specs.states.Components.{links_kept}
use Rattle.tsp_bound.proofs.all_pairs.heaviest.Given as goal

-- `found` is one of the twelve places
abbrev pub invariant-links : goal.invariant-links
invariant-links l = record {
  low : l.first ≤ l.found;
  high : l.found < l.first + links_kept;
}
