-- The goals of `File::rows_or_none` in src/file.rt: what it ensures.
use Rattle.tsp_file.proofs.Prelude.{◌≡◌, Some, sym, ap, ◌∙◌, option_map, subset_rows_of}
use Rattle.tsp_file.specs.Fields.{Fields}
use Rattle.tsp_file.proofs.FileFields.{rows_hold}
use Rattle.tsp_file.proofs.file.File.rows_or_none.Goals as goal

-- plan: a valid SUBSET_ROW_SECTION has rows of nodes, each within its limits (`rows_hold`)
pub returns-in-Some-clause-are : goal.returns-in-Some-clause-are
returns-in-Some-clause-are c =
    let f : Fields = c.args.self.now in
    let stand : f.subset_rows ≡ Some (subset_rows_of c.as_slice.result.now) =
    sym (ap (λ (g : Fields). g.subset_rows) c.fields.ensures.value) ∙ ap (option_map (λ rows. subset_rows_of rows.items)) c.in-Some.is
    ∙ ap (λ rows. Some (subset_rows_of rows)) (sym c.as_slice.ensures.value) in
    rows_hold f (subset_rows_of c.as_slice.result.now) (c.fields.ensures.held.range.subset_rows _ stand)
