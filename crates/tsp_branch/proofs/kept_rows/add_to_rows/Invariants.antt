-- The loop of `add_to_rows` in src/kept_rows.rt, which adds multipliers to the kept rows.
use Rattle.tsp_cases.specs.states.Sets.{lent_in}
use Rattle.tsp_branch.proofs.RowsKept.{IsAddedTo}
use Rattle.tsp_branch.proofs.kept_rows.add_to_rows.Given as goal

-- the rows before this one have their sums, and the others are as they were
abbrev pub invariant-rows : goal.invariant-rows
invariant-rows l = IsAddedTo l.index l.multiplied.numbers.now (lent_in l.multiplied.families.now) l.by_node l.fn.rows l.rows
