-- The goals of `File::multipliers` in src/typed.rt: what it ensures.
use Rattle.tsp_file.proofs.Prelude.{◌≡◌, Some, sym, ap, ◌∙◌, option_map}
use Rattle.tsp_file.specs.Fields.{Fields}
use Rattle.tsp_file.proofs.FileFields.{multipliers_hold}
use Rattle.tsp_file.proofs.file.File.multipliers.Goals as goal

-- plan: a valid section of multipliers has pairs of nodes with a number each, within its limits (`multipliers_hold`)
pub returns-in-Some-clause-are : goal.returns-in-Some-clause-are
returns-in-Some-clause-are c =
    let f : Fields = c.args.self.now in
    let stand : f.fixed_potentials ≡ Some c.as_slice.result.now =
    sym (ap (λ (g : Fields). g.fixed_potentials) c.fields.ensures.value) ∙ ap (option_map (λ triples. triples.items)) c.in-Some.is
    ∙ ap (λ x. Some x) (sym c.as_slice.ensures.value) in
    multipliers_hold f c.as_slice.result.now (c.fields.ensures.held.range.fixed_potentials _ stand)
