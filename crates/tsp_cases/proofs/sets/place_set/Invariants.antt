-- The loop of `place_set` in src/sets.rt, which puts a set into the lists of its nodes.
use Rattle.tsp_cases.proofs.Prelude.{◌≡◌, ◌<◌, ℕ, ◌++◌, drop, length, get_or, Vec}
use Rattle.tsp_cases.specs.declared.sets.SetPlace.{SetPlace}
use Rattle.tsp_cases.specs.states.Sets.{times}
use Rattle.tsp_cases.proofs.sets.place_set.Given as goal

-- putting the place into the lists of the nodes left gives the same as putting it into those of all at the call
abbrev pub invariant-nodes : goal.invariant-nodes
invariant-nodes l = record {
  count : length l.lists.items ≡ length l.fn.lists.items;
  said : (x : ℕ) (a b : Vec SetPlace) → x < length l.fn.lists.items → (get_or l.lists.items x a).items ++ times l.place (drop l.node-index l.nodes) x ≡
      (get_or l.fn.lists.items x b).items ++ times l.place l.nodes x;
}
