-- The loop of `crossings_between` in src/family.rt, which counts the crossings of each two parts.
use Rattle.tsp_cases.proofs.Prelude.{◌≡◌, ◌≤◌, ◌+◌, ◌*◌, length, get_or, bit_xor, count_ones, All}
use Rattle.tsp_cases.proofs.LeastCycles.{HoldsByRows}
use Rattle.tsp_cases.proofs.family.crossings_between.Given as goal

-- the rows before this one are written: in how many bits two memberships differ, at most 64
abbrev pub invariant-rows : goal.invariant-rows
invariant-rows l = record {
  long : length l.costs.items ≡ l.a * length l.firsts;
  small : All (λ cost. cost ≤ 64) l.costs.items;
  values : HoldsByRows (length l.firsts) (λ a b z. z ≡ count_ones (bit_xor (get_or l.memberships (get_or l.firsts a 0) 0) (get_or l.memberships (get_or l.firsts b 0) 0))) l.costs.items;
}

-- the rows before this one are written, and this row up to the column before this one
abbrev pub invariant-columns : goal.invariant-columns
invariant-columns l = record {
  long : length l.costs.items ≡ l.a * length l.firsts + l.b;
  small : All (λ cost. cost ≤ 64) l.costs.items;
  values : HoldsByRows (length l.firsts) (λ a b z. z ≡ count_ones (bit_xor (get_or l.memberships (get_or l.firsts a 0) 0) (get_or l.memberships (get_or l.firsts b 0) 0))) l.costs.items;
}
