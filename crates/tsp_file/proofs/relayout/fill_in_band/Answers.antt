-- The goals of `fill_in_band` in src/relayout.rt, which fills the cells of a row of a band across the diagonal: its loop.
use Rattle.tsp_file.proofs.Prelude.{◌∙◌, ◌<◌, length, ap, arith, rules, pos, FitsSigned, w64, slice_index_or as get_or, to_z-of_z, length-set, get_or_default, IsNode, FullMatrix, cells_counted}
use Rattle.tsp_file.proofs.Spread.{column_more}
use Rattle.tsp_file.proofs.relayout.fill_in_band.Goals as goal

-- plan: one cell more of the row has its cost, that of the mirrored cell (`column_more`)
pub columns-preserved : goal.columns-preserved
columns-preserved c =
    let items = c.columns.weights.items in
    let n = c.args.nodes in
    let part = c.across_in_band-first.ensures in
    let node : IsNode n c.columns.column =
    (omega (arith, part.some, c.columns.auto.column), omega (arith, part.most, c.columns-test.true)) in
    let counted = cells_counted FullMatrix n in
    let from : c.place.result < length items = omega (arith, c.place.ensures.within, c.columns.invariant.size, counted) in
    let inside : c.place-in-columns.result < length items =
    omega (arith, c.place-in-columns.ensures.within, c.columns.invariant.size, counted) in
    let fits : FitsSigned w64 c.index-turned.result.now = search rules in
    let read = c.index-turned.ensures ∙ get_or_default items c.place.result c.index-turned.result.now (pos 0) from
    ∙ ap (λ p. get_or items p (pos 0)) c.place.ensures.table in
    rw (to_z-of_z w64 c.index-turned.result.now fits) (record {
      size = length-set items c.place-in-columns.result c.index-turned.result.now ∙ c.columns.invariant.size;
      costs = λ cost even side.
          column_more c.args.above cost n c.args.row c.across_in_band-first.result.0 c.columns.column c.place-in-columns.result
          c.index-turned.result.now
          c.args.weights.now.items items even side c.requires.row node
          (part.turned c.columns.column (omega (arith, c.columns.auto.column)) c.columns-test.true)
          read c.place-in-columns.ensures.table inside (c.columns.invariant.costs cost even side);
    })
