-- The loop of `floor_of` in src/kept_states.rt.
use Rattle.std.proofs.Common.{take}
use Rattle.tsp_routing.specs.states.KeptLists.{IsFloor}
use Rattle.tsp_routing.proofs.kept_states.floor_of.Given as goal

-- none of the first `index` entries weighs less
abbrev pub invariant-entries : goal.invariant-entries
invariant-entries l = IsFloor (take l.index l.entries) l.floor
