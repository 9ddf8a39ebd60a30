-- The goals of `RowList::end_row` in src/memory_lists.rt, which ends a row: what it ensures.
use Rattle.tsp_read.proofs.Prelude.{◌≡◌, ◌∙◌, ap, ◌-◌, length, ◌∷◌, ◌++◌, [], refl, arith, slice_set, map_push, row_with, subset_rows_of}
use Rattle.std.proofs.Math.Seq.{set-append_seam}
use Rattle.tsp_format.specs.declared.steps.RowSets.{RowSets}
use Rattle.tsp_format.specs.states.TreeSteps.{subset_row_of}
use Rattle.tsp_read.proofs.memory_lists.RowList.end_row.Goals as goal

-- plan: both gathered lists are the last row's
pub returns-clause-done : goal.returns-clause-done
returns-clause-done c =
    let s = c.args.self.now in
    let row : RowSets = record { set = c.replace-set.result; further = c.replace-further.result } in
    let last : c.len-last.result - 1 ≡ length s.rows.items = omega (arith, c.len-last.ensures, c.in_ok-push.ensures.len) in
    let rows : subset_rows_of (slice_set c.push.new.list.items (c.len-last.result - 1) row) ≡ subset_rows_of s.rows.items ++ row_with s.set.items s.nodes.items ∷ [] =
    ap (λ items. subset_rows_of (slice_set items (c.len-last.result - 1) row)) c.in_ok-push.ensures.items
    ∙ ap (λ i. subset_rows_of (slice_set (s.rows.items ++ c.empty_row.result ∷ []) i row)) last
    ∙ ap subset_rows_of (set-append_seam s.rows.items c.empty_row.result [] row)
    ∙ map_push subset_row_of s.rows.items row
    ∙ ap (λ list. subset_rows_of s.rows.items ++ row_with list.items c.replace-further.result.items ∷ []) c.replace-set.ensures.value
    ∙ ap (λ list. subset_rows_of s.rows.items ++ row_with s.set.items list.items ∷ []) c.replace-further.ensures.value in
    let set : c.replace-set.new.dest.items ≡ [] = ap (λ list. list.items) c.replace-set.ensures.after ∙ c.new.ensures.items in
    let nodes : c.replace-further.new.dest.items ≡ [] = ap (λ list. list.items) c.replace-further.ensures.after ∙ c.new-2.ensures.items in
    rw (rows, set, nodes) refl
