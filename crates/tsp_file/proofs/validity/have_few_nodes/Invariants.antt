-- The loop of `have_few_nodes` in src/validity.rt.
use Rattle.tsp_file.proofs.Prelude.{◌≡◌, ◌≤◌, length, take, sum_by, most_tour_nodes}
use Rattle.tsp_file.proofs.validity.have_few_nodes.Given as goal

-- `total` is how many nodes the tours before this one have, and within the limit
abbrev pub invariant-tours : goal.invariant-tours
invariant-tours l = (l.total ≡ sum_by (λ tour. length tour.items) (take l.tour-index l.tours)) × (l.total ≤ most_tour_nodes)
