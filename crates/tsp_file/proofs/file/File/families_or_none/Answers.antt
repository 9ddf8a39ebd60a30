-- The goals of `File::families_or_none` in src/typed.rt: what it ensures.
use Rattle.tsp_file.proofs.Prelude.{◌≡◌, Some, sym, ap, ◌∙◌, option_map}
use Rattle.tsp_file.specs.Fields.{Fields}
use Rattle.tsp_file.specs.states.Drafts.{families_of}
use Rattle.tsp_file.proofs.FileFields.{families_hold}
use Rattle.tsp_file.proofs.file.File.families_or_none.Goals as goal

-- plan: a valid COMB_SECTION has sets of nodes, each within its limits (`families_hold`)
pub returns-in-Some-clause-are : goal.returns-in-Some-clause-are
returns-in-Some-clause-are c =
    let f : Fields = c.args.self.now in
    let stand : f.families ≡ Some (families_of c.as_slice.result.now) =
    sym (ap (λ (g : Fields). g.families) c.fields.ensures.value) ∙ ap (option_map (λ families. families_of families.items)) c.in-Some.is
    ∙ ap (λ families. Some (families_of families)) (sym c.as_slice.ensures.value) in
    families_hold f (families_of c.as_slice.result.now) (c.fields.ensures.held.range.families _ stand)
