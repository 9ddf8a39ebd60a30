-- The goals of `File::with_half` in src/file.rt, which changes a full matrix into half of one: what its calls require,
-- what it ensures and the facts of the file that it makes.
use Rattle.tsp_file.proofs.Prelude.{◌≡◌, ℕ, List, Some, None, sym, ap, subst, ◌∙◌, is_some, ℤ, option_map, Layout, FullMatrix, Listed}
use Rattle.tsp_file.specs.Fields.{Fields, nodes_of}
use Rattle.tsp_file.specs.states.Drafts.{fields_of}
use Rattle.tsp_file.specs.Rules.{fault_of}
use Rattle.tsp_file.specs.Cost.{cost, ListsWeights}
use Rattle.tsp_file.specs.Relayout.{HoldsPairs, CanGo, with_weights, costs_in}
use Rattle.tsp_file.proofs.ValidFields.{in_range}
use Rattle.tsp_file.proofs.FileFields.{some_is, laid_of}
use Rattle.tsp_file.proofs.Relaid.{lists, of_weights}
use Rattle.tsp_file.proofs.file.File.with_half.Goals as goal

as_held : (f g : Fields) (to : Layout) → f ≡ g → CanGo g to → CanGo f to
as_held f g to same can = subst (λ (h : Fields). CanGo h to) (sym same) can

held : (f g : Fields) (n : ℕ) (weights : List ℤ) → f ≡ g → fault_of f ≡ None → g.weight_format ≡ Some (Listed FullMatrix)
    → f.dimension ≡ Some n
    → f.weights ≡ Some weights → ListsWeights f FullMatrix n weights
held f g n weights same valid full dimension stand =
    lists f FullMatrix n weights (in_range f valid)
    (subst (λ (h : Fields). h.weight_format ≡ Some (Listed FullMatrix)) (sym same) full) dimension stand

-- plan: the half has the costs of the full matrix (`laid_of`), so the file is still valid
pub unwrap-nodes-requires : goal.unwrap-nodes-requires
unwrap-nodes-requires c =
    let f : Fields = fields_of c.self.inside.draft in
    let can = as_held f c.args.self c.args.to c.self.view_is c.requires.can_go in
    let old = some_is f.weights can.listed.1 in
    ap is_some ((in_range f c.self.invariant).weights old.0 old.1).dimension

pub keep_half-requires-clause-few : goal.keep_half-requires-clause-few
keep_half-requires-clause-few c =
    let f : Fields = fields_of c.self.inside.draft in
    let stand = ap (option_map (λ w. w.items)) (sym (c.take.ensures.value) ∙ c.unwrap-weights.ensures) in
    (held f c.args.self c.unwrap-nodes.result c.unwrap-weights.result.items c.self.view_is c.self.invariant c.requires.full
    c.unwrap-nodes.ensures stand).most

pub keep_half-requires-clause-filled : goal.keep_half-requires-clause-filled
keep_half-requires-clause-filled c =
    let f : Fields = fields_of c.self.inside.draft in
    let stand = ap (option_map (λ w. w.items)) (sym (c.take.ensures.value) ∙ c.unwrap-weights.ensures) in
    (held f c.args.self c.unwrap-nodes.result c.unwrap-weights.result.items c.self.view_is c.self.invariant c.requires.full
    c.unwrap-nodes.ensures stand).filled

pub keep_half-requires-clause-pairs : goal.keep_half-requires-clause-pairs
keep_half-requires-clause-pairs c =
    let f : Fields = fields_of c.self.inside.draft in
    let can = as_held f c.args.self c.args.to c.self.view_is c.requires.can_go in
    let stand = ap (option_map (λ w. w.items)) (sym (c.take.ensures.value) ∙ c.unwrap-weights.ensures) in
    of_weights (λ n costs. HoldsPairs c.args.to costs) f FullMatrix c.unwrap-nodes.result c.unwrap-weights.result.items
    can.listed.0
    (held f c.args.self c.unwrap-nodes.result c.unwrap-weights.result.items c.self.view_is c.self.invariant c.requires.full
    c.unwrap-nodes.ensures stand) can.pairs

pub invariant_of-result : goal.invariant_of-result
invariant_of-result c =
    let f : Fields = fields_of c.self.inside.draft in
    let can = as_held f c.args.self c.args.to c.self.view_is c.requires.can_go in
    let stand = ap (option_map (λ w. w.items)) (sym (c.take.ensures.value) ∙ c.unwrap-weights.ensures) in
    (laid_of f FullMatrix c.args.to c.unwrap-nodes.result c.unwrap-weights.result.items c.keep_half.new.weights.items
    c.self.invariant can
    (held f c.args.self c.unwrap-nodes.result c.unwrap-weights.result.items c.self.view_is c.self.invariant c.requires.full
    c.unwrap-nodes.ensures stand) c.keep_half.ensures).0

pub returns : goal.returns
returns c =
    let f : Fields = fields_of c.self.inside.draft in
    let can = as_held f c.args.self c.args.to c.self.view_is c.requires.can_go in
    let stand = ap (option_map (λ w. w.items)) (sym (c.take.ensures.value) ∙ c.unwrap-weights.ensures) in
    let value = (laid_of f FullMatrix c.args.to c.unwrap-nodes.result c.unwrap-weights.result.items c.keep_half.new.weights.items
    c.self.invariant can
    (held f c.args.self c.unwrap-nodes.result c.unwrap-weights.result.items c.self.view_is c.self.invariant c.requires.full
    c.unwrap-nodes.ensures stand) c.keep_half.ensures).1 in
    ap (with_weights f c.args.to) value ∙ ap (λ (g : Fields). with_weights g c.args.to (costs_in c.args.to (nodes_of g) (cost g)))
    c.self.view_is
