-- The loop of `has_place` in src/boxed.rt, which tests whether a list has the place of a set.
use Rattle.std.proofs.Common.{◌≡◌, drop}
use Rattle.tsp_branch.specs.states.LeafRows.{has_place}
use Rattle.tsp_branch.proofs.boxed.has_place.Given as goal

-- the place is among the places left exactly if it is in the whole list
abbrev pub invariant-places : goal.invariant-places
invariant-places l = has_place (drop l.other-index l.places) l.place ≡ has_place l.places l.place
