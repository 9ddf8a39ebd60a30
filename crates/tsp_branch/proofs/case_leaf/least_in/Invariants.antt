-- The loop of `least_in` in src/case_leaf.rt, which finds the least number of a row.
use Rattle.tsp_branch.proofs.Prelude.{◌≡◌, ◌≤◌, ◌<◌, ℕ, ◌⊎◌, ◌≤ℤ◌, least_at}
use Rattle.tsp_branch.specs.states.LeafRows.{no_link}
use Rattle.tsp_branch.proofs.case_leaf.least_in.Given as goal

-- no number from place 1 to the one before this is below `least`, which is one of them or means no link
abbrev pub invariant-places : goal.invariant-places
invariant-places l = record {
  below : (x : ℕ) → 1 ≤ x → x < l.place → l.least ≤ℤ least_at l.row x;
  reached : (l.least ≡ no_link) ⊎ ((x : ℕ) × (1 ≤ x) × (x < l.place) × (l.least ≡ least_at l.row x));
}
