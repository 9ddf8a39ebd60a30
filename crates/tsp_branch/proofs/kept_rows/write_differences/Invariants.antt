-- The loop of `write_differences` in src/kept_rows.rt, which writes how much each multiplier has grown.
use Rattle.tsp_branch.proofs.Prelude.{◌≡◌, ◌<◌, ℕ, length, pos, neg_ℤ, ◌+ℤ◌, IsFromTo, least_at}
use Rattle.tsp_cases.specs.ListedCases.{most_crossed}
use Rattle.tsp_branch.proofs.kept_rows.write_differences.Given as goal

-- each difference before this one is how much its number has grown, and as small as one of multipliers
abbrev pub invariant-numbers : goal.invariant-numbers
invariant-numbers l = record {
  long : length l.differences ≡ length l.new.numbers.now;
  done : (k : ℕ) → k < l.index → (least_at l.new.numbers.now k ≡ least_at l.old.numbers.now k +ℤ least_at l.differences k)
      × IsFromTo (neg_ℤ (pos most_crossed)) (pos most_crossed) (least_at l.differences k);
}
