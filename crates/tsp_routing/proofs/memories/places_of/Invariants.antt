-- The loop of `places_of` in src/memories.rt.
use Rattle.std.proofs.Common.{map}
use Rattle.tsp_routing.specs.declared.memories.MemoryKey.{MemoryKey}
use Rattle.tsp_routing.specs.states.MemoryTables.{ArePlacesTo}
use Rattle.tsp_routing.proofs.memories.places_of.Given as goal

-- the keys before this one have their places
abbrev pub invariant-keys : goal.invariant-keys
invariant-keys l = ArePlacesTo (map (λ (key : MemoryKey). key.key) l.keys) l.index l.last l.places.items
