-- The goals of `File::with_weights` in src/file.rt, which replaces the weights: the facts of the file that it makes.
use Rattle.std.proofs.Common.{◌≡◌, None, sym, subst}
use Rattle.tsp_file.specs.Fields.{Fields}
use Rattle.tsp_file.specs.Rules.{fault_of}
use Rattle.tsp_file.specs.Relayout.{with_weights}
use Rattle.tsp_file.proofs.FileFields.{stays_valid}
use Rattle.tsp_file.proofs.file.File.with_weights.Goals as goal

-- plan: other weights, as many as the layout has cells, leave the file valid (`stays_valid`)
pub invariant_of-result : goal.invariant_of-result
invariant_of-result c =
    let f : Fields = c.args.self in
    let valid : fault_of f ≡ None = subst (λ (g : Fields). fault_of g ≡ None) c.self.view_is c.self.invariant in
    subst (λ (g : Fields). fault_of (with_weights g c.args.layout c.args.weights.items) ≡ None) (sym c.self.view_is)
    (stays_valid f c.args.layout c.args.weights.items valid c.requires.stand c.requires.count c.requires.sizes)
