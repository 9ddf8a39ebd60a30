-- The goals of `KeptRows::add_between` in src/kept_rows.rt, which adds a number to the weight between two nodes, in both
-- rows: what its calls require and what it ensures.
use Rattle.tsp_branch.proofs.Prelude.{◌≤◌, ◌-◌, List, length, ap, sym, subst, ◌∙◌, arith, rules, FitsSigned, ℤ, w64, Vec, eqb-true, to_z-of_z}
use Rattle.tsp_branch.specs.states.KeptRows.{IsAddedAt}
use Rattle.tsp_branch.proofs.RowsKept.{rows_marked}
use Rattle.tsp_cases.proofs.SetSums.{some_left}
use Rattle.tsp_branch.proofs.kept_rows.KeptRows.add_between.Goals as goal

-- plan: by whether rows are kept: the number is added in the rows of both nodes of the pair (`rows_marked`), or nothing
-- changes
pub returns-then-is_empty : goal.returns-then-is_empty
returns-then-is_empty c = λ n weighted scale families cost marks held pair.
    let none = eqb-true _ 0 (sym c.is_empty.ensures ∙ c.if-is_empty.true) in
    record {
      multipliers = held.multipliers;
      differences = held.differences;
      small = held.small;
      ends = held.ends;
      rows = λ some. absurd (omega (arith, some, none));
    }

pub add_in_row-requires-2-clause-place : goal.add_in_row-requires-2-clause-place
add_in_row-requires-2-clause-place c = λ row.
    let r = c.requires in
    let any = some_left _ (sym c.is_empty.ensures ∙ c.if-is_empty.false) in
    let some : 1 ≤ length c.args.self.now.rows.items = omega (arith, any) in
    let rows = r.6.rows some in
    let own = (rows.each (c.args.pair.1 - 1) row (omega (arith, r.7.1))).long in
    let same = ap (λ (v : Vec ℤ). length v.items) (c.add_in_row.ensures.others (c.args.pair.1 - 1) row row (omega (arith, rows.many, r.7.1))
    (λ e. r.7.2 (omega (arith, e, r.7.0, r.7.1)))) in
    omega (arith, own, same, r.7.0)

pub returns : goal.returns
returns c = λ n weighted scale families cost marks held pair.
    let fits : FitsSigned w64 c.args.number = search rules in
    let is = to_z-of_z w64 c.args.number fits in
    let old : List (Vec ℤ) = c.args.self.now.rows.items in
    let mid : List (Vec ℤ) = c.add_in_row.new.rows.items in
    let new : List (Vec ℤ) = c.add_in_row-2.new.rows.items in
    record {
      multipliers = held.multipliers;
      differences = held.differences;
      small = held.small;
      ends = held.ends;
      rows = rows_marked n scale families cost marks c.args.self.now.multipliers.items c.args.pair c.args.number old mid new pair
          (subst (λ (z : ℤ). IsAddedAt (c.args.pair.0 - 1) c.args.pair.1 z old mid) is c.add_in_row.ensures)
          (subst (λ (z : ℤ). IsAddedAt (c.args.pair.1 - 1) c.args.pair.0 z mid new) is c.add_in_row-2.ensures) held.rows;
    }
