-- The goals of `File::memories_or_none` in src/file.rt: what it ensures.
use Rattle.tsp_file.proofs.Prelude.{◌≡◌, Some, sym, ap, ◌∙◌, map, option_map}
use Rattle.tsp_file.specs.Fields.{Fields}
use Rattle.tsp_file.proofs.FileFields.{memories_hold}
use Rattle.tsp_file.proofs.file.File.memories_or_none.Goals as goal

-- plan: a valid MEMORY_SECTION has lists of nodes, within their limit (`memories_hold`)
pub returns-in-Some-clause-are : goal.returns-in-Some-clause-are
returns-in-Some-clause-are c =
    let f : Fields = c.args.self.now in
    let stand : f.memories ≡ Some (map (λ list. list.items) c.as_slice.result.now) =
    sym (ap (λ (g : Fields). g.memories) c.fields.ensures.value) ∙ ap (option_map (λ lists. map (λ list. list.items) lists.items)) c.in-Some.is
    ∙ ap (λ lists. Some (map (λ list. list.items) lists)) (sym c.as_slice.ensures.value) in
    memories_hold f (map (λ list. list.items) c.as_slice.result.now) (c.fields.ensures.held.range.memories _ stand)
