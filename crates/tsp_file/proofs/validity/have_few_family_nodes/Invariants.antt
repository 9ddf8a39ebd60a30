-- The loop of `have_few_family_nodes` in src/validity.rt.
use Rattle.tsp_file.proofs.Prelude.{◌≡◌, ◌≤◌, length, take, sum_by, most_family_nodes}
use Rattle.tsp_file.proofs.validity.have_few_family_nodes.Given as goal

-- `total` is how many nodes the families before this one have, and within the limit
abbrev pub invariant-families : goal.invariant-families
invariant-families l =
    (l.total ≡ sum_by (λ family. sum_by (λ set. length set.items) family.items) (take l.family-index l.families)) × (l.total ≤ most_family_nodes)
