-- The loop of `largest` in src/family.rt, which finds the largest of some numbers.
use Rattle.std.proofs.Common.{◌≡◌, ◌<◌, ◌≤◌, ◌⊎◌, ℕ, get_or}
use Rattle.tsp_cases.proofs.family.largest.Given as goal

-- no number so far is larger than `largest`, which is 0 or one of the numbers
abbrev pub invariant-numbers : goal.invariant-numbers
invariant-numbers l = record {
  above : (k : ℕ) → k < l.number-index → get_or l.numbers k 0 ≤ l.largest;
  found : (l.largest ≡ 0) ⊎ ((k : ℕ) × (l.largest ≡ get_or l.numbers k 0));
}
