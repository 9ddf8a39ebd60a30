-- The goals of `add_to_rows` in src/kept_rows.rt, which adds multipliers to the kept rows: what its calls require.
use Rattle.tsp_branch.proofs.Prelude.{◌∙◌, ◌<◌, arith, length, Vec, ℤ}
use Rattle.tsp_branch.proofs.kept_rows.add_to_rows.Goals as goal

-- plan: a row that isn't reached yet has its length of the call, by the invariant's `long`, and so a place for each
-- node
pub add_to_row-requires-clause-row : goal.add_to_row-requires-clause-row
add_to_row-requires-clause-row c =
    let slot : Vec ℤ = c.index-rows-index.result in
    let inside : c.rows.index < length c.args.rows.now = omega (arith, c.rows-test.true, c.rows.auto.rows) in
    c.rows.invariant.long c.rows.index slot slot inside ∙ c.requires.rows c.rows.index slot inside
