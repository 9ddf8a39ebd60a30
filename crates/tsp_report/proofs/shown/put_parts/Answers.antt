-- The goals of `put_parts` in src/shown.rt: what it ensures.
use Rattle.tsp_report.proofs.Prelude.{◌++◌, subst, Option, ℕ, List, Carried, way_of, carried_then}
use Rattle.tsp_format.specs.Steps.{SubsetRow}
use Rattle.tsp_report.specs.Show.{families_line, memory_line, rows_line}
use Rattle.tsp_report.proofs.shown.put_parts.Goals as goal

-- plan: the families, the lists of a memory and the subset rows (`carried_then`)
pub returns : goal.returns
returns g c =
    let f = c.args.file.now in
    let start = way_of g.W.Takes.contents c.args.out.now c.args.piece.now.items in
    let after_families = way_of g.W.Takes.contents c.put_families.new.out c.put_families.new.piece.items in
    let after_memory = way_of g.W.Takes.contents c.put_memory.new.out c.put_memory.new.piece.items in
    let last = way_of g.W.Takes.contents c.put_rows.new.out c.put_rows.new.piece.items in
    let families = subst (λ (families : Option (List (List (List ℕ)))). Carried start after_families (families_line families)) c.families.ensures c.put_families.ensures in
    let memory = subst (λ (lists : Option (List (List ℕ))). Carried after_families after_memory (memory_line lists)) c.memories.ensures c.put_memory.ensures in
    let rows = subst (λ (rows : Option (List SubsetRow)). Carried after_memory last (rows_line rows)) c.subset_rows.ensures c.put_rows.ensures in
    carried_then start after_families last (families_line f.families) (memory_line f.memories ++ rows_line f.subset_rows) families
    (carried_then after_families after_memory last (memory_line f.memories) (rows_line f.subset_rows) memory rows)
