-- The goals of `File::as_matrix` in src/typed.rt, which returns listed weights with their layout: what its calls
-- require and what it ensures.
use Rattle.tsp_file.proofs.Prelude.{◌≡◌, Some, sym, ap, ◌∙◌, is_some, Layout, Listed}
use Rattle.tsp_file.specs.Fields.{Fields}
use Rattle.tsp_file.specs.Valid.{AreWeights}
use Rattle.tsp_file.proofs.Relaid.{lists, not_by_function, not_missing}
use Rattle.tsp_file.proofs.file.File.as_matrix.Goals as goal

-- plan: a valid file with weights has a format (`not_missing`), which is a layout and not FUNCTION (`not_by_function`)
pub unwrap-nodes-requires : goal.unwrap-nodes-requires
unwrap-nodes-requires c =
    let f : Fields = c.args.self.now in
    let held : AreWeights f _ = c.fields-fields.ensures.held.range.weights _ (sym c.in_ok-weights.ensures) in
    ap is_some (ap (λ (g : Fields). g.dimension) c.fields-fields.ensures.value ∙ held.dimension)

pub of-requires : goal.of-requires
of-requires c =
    let f : Fields = c.args.self.now in
    let layout : Layout = c.in-Some-Listed.layout in
    let format : f.weight_format ≡ Some (Listed layout) = sym c.weight_format.ensures ∙ c.in-Some-Listed.is
    ∙ ap (λ x. Some x) c.in-Some-Listed.field-0-is in
    let dimension : f.dimension ≡ Some c.unwrap-nodes.result =
    sym (ap (λ (g : Fields). g.dimension) c.fields-fields.ensures.value) ∙ c.unwrap-nodes.ensures in (
      f,
      lists f layout c.unwrap-nodes.result c.in_ok-weights.weights.now c.fields-fields.ensures.held.range format dimension
          (sym c.in_ok-weights.ensures),
    )

pub returns-in-Some-ByFunction : goal.returns-in-Some-ByFunction
returns-in-Some-ByFunction c = λ listed.
    let f : Fields = c.args.self.now in
    let held : AreWeights f _ = c.fields-fields.ensures.held.range.weights _ (sym c.in_ok-weights.ensures) in
    not_by_function f.weight_format held.layout held.format
    (sym c.weight_format.ensures ∙ c.in-Some-ByFunction.is ∙ ap (λ x. Some x) c.in-Some-ByFunction.field-0-is)

pub returns-in-None : goal.returns-in-None
returns-in-None c = λ listed.
    let f : Fields = c.args.self.now in
    let held : AreWeights f _ = c.fields-fields.ensures.held.range.weights _ (sym c.in_ok-weights.ensures) in
    not_missing f.weight_format (Listed held.layout) held.format (sym c.weight_format.ensures ∙ c.in-None.is)
