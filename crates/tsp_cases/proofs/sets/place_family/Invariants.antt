-- The loop of `place_family` in src/sets.rt, which puts a family's sets into the lists of their nodes.
use Rattle.tsp_cases.proofs.Prelude.{◌≡◌, ◌<◌, ℕ, ◌++◌, drop, length, get_or, Vec}
use Rattle.tsp_cases.specs.Crossings.{lists_of}
use Rattle.tsp_cases.specs.declared.sets.SetPlace.{SetPlace}
use Rattle.tsp_cases.specs.states.Sets.{places_in}
use Rattle.tsp_cases.proofs.sets.place_family.Given as goal

-- putting the places of the sets left behind each list now gives the same as putting all behind the list at the call
abbrev pub invariant-sets : goal.invariant-sets
invariant-sets l = record {
  count : length l.lists.items ≡ length l.fn.lists.items;
  said : (x : ℕ) (a b : Vec SetPlace) → x < length l.fn.lists.items
      → (get_or l.lists.items x a).items ++ places_in l.family l.number (lists_of (drop l.number l.sets)) x ≡ (get_or l.fn.lists.items x b).items ++ places_in l.family 0 (lists_of l.sets) x;
}
