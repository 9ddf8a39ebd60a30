-- The loop of `sets_by_node` in src/sets.rt, which lists at each node the sets that have it.
use Rattle.tsp_cases.proofs.Prelude.{◌≡◌, ◌≤◌, ◌+◌, ℕ, ◌++◌, drop, length, get_or, Vec}
use Rattle.tsp_cases.specs.Crossings.{families_in}
use Rattle.tsp_cases.specs.declared.sets.SetPlace.{SetPlace}
use Rattle.tsp_cases.specs.states.Sets.{places_with, lent_in}
use Rattle.tsp_cases.proofs.sets.sets_by_node.Given as goal

-- each node's list, with the places of the families left, has the places of all families
abbrev pub invariant-families : goal.invariant-families
invariant-families l = record {
  count : length l.lists.items ≡ l.families.nodes + 1;
  said : (x : ℕ) (a : Vec SetPlace) → x ≤ l.families.nodes
      → (get_or l.lists.items x a).items ++ places_with l.number (families_in (drop l.number l.families.lent.now)) x ≡ places_with 0 (lent_in l.families) x;
}
