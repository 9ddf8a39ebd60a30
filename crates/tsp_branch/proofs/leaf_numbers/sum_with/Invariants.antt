-- The loop of `sum_with` in src/leaf_numbers.rt, which sums the crossings of families times their multipliers.
use Rattle.tsp_branch.proofs.Prelude.{◌≡◌, ◌*◌, ◌^◌, drop, pos, ◌+ℤ◌, IsFromTo}
use Rattle.tsp_cases.specs.Families.{sum_with}
use Rattle.tsp_branch.proofs.leaf_numbers.sum_with.Given as goal

-- the sum so far plus the products left is the whole sum, with at most 2^94 for each product so far
abbrev pub invariant-families : goal.invariant-families
invariant-families l = record {
  size : IsFromTo (pos 0) (pos (l.index * 2 ^ 94)) l.sum;
  so_far : (l.sum +ℤ sum_with l.is_most (drop l.index l.multipliers.families.now.crossed.items) (drop l.index l.multipliers.numbers.now))
      ≡ sum_with l.is_most l.multipliers.families.now.crossed.items l.multipliers.numbers.now;
}
