-- The loop of `nodes_of_sets` in src/validity.rt.
use Rattle.tsp_file.proofs.Prelude.{◌≡◌, ◌≤◌, length, take, sum_by}
use Rattle.tsp_file.proofs.validity.nodes_of_sets.Given as goal

-- `total` is how many nodes the sets before this one have, and at most `most`
abbrev pub invariant-sets : goal.invariant-sets
invariant-sets l = (l.total ≡ sum_by (λ set. length set.items) (take l.set-index l.sets)) × (l.total ≤ l.most)
