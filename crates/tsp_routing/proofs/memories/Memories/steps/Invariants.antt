-- The loop of `steps` in src/memories.rt.
use Rattle.std.proofs.Common.{◌≡◌, ◌++◌, drop, map}
use Rattle.tsp_routing.specs.states.MemoryTables.{key_places_in, step_key_of}
use Rattle.tsp_routing.proofs.memories.Memories.steps.Given as goal

-- with those of the keys left, the list has the steps of all keys
abbrev pub invariant-keys : goal.invariant-keys
invariant-keys l =
    l.steps.items ++ map (step_key_of l.self.nodes l.charges l.places l.last) (drop l.index l.keys)
    ≡ map (step_key_of l.self.nodes l.charges l.places l.last) l.keys
