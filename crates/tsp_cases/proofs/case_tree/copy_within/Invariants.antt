-- The loop of `copy_within` in src/case_tree.rt, which copies the numbers of a leaf if they are within limits.
use Rattle.tsp_cases.proofs.Prelude.{◌≡◌, ◌<◌, ℕ, ℤ, take, length, get_or, IsFromTo}
use Rattle.tsp_cases.proofs.case_tree.copy_within.Given as goal

-- the numbers before this one are from `least` to `most`, and they are copied
abbrev pub invariant-numbers : goal.invariant-numbers
invariant-numbers l = record {
  long : length l.copy ≡ length l.numbers;
  inside : (k : ℕ) (default : ℤ) → k < l.index → IsFromTo l.least l.most (get_or l.numbers k default);
  copied : take l.index l.copy ≡ take l.index l.numbers;
}
