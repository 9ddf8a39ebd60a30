-- The loop of `least_in` in src/kept_states.rt.
use Rattle.tsp_routing.proofs.KeptLists.{AreLeastTo}
use Rattle.tsp_routing.proofs.kept_states.least_in.Given as goal

-- the list has the least of the first `index` entries
abbrev pub invariant-entries : goal.invariant-entries
invariant-entries l = AreLeastTo l.entries l.least.items l.index
