-- The goals of `File::with_whole` in src/file.rt, which changes half of a matrix into the full one: what its calls
-- require, what it ensures and the facts of the file that it makes.
use Rattle.tsp_file.proofs.Prelude.{◌≡◌, rules, false, Result, Ok, Err, Some, sym, ap, subst, ◌∙◌, OnOk, is_some, option_map, FullMatrix, Listed}
use Rattle.std.specs.Result.{is_err}
use Rattle.tsp_file.specs.Fields.{Fields, nodes_of}
use Rattle.tsp_file.specs.states.Drafts.{fields_of}
use Rattle.tsp_file.specs.Cost.{cost}
use Rattle.tsp_file.specs.Relayout.{CanGo, with_weights, costs_in}
use Rattle.tsp_file.proofs.ValidFields.{in_range}
use Rattle.tsp_file.proofs.Relaid.{lists}
use Rattle.tsp_file.proofs.FileFields.{some_is, laid_of}
use Rattle.tsp_file.proofs.file.File.with_whole.Goals as goal

can_go : (f g : Fields) → f ≡ g → CanGo g FullMatrix → CanGo f FullMatrix
can_go f g same can = subst (λ (h : Fields). CanGo h FullMatrix) (sym same) can

made : {A E : Type 0} (r : Result A E) (P : Type 0) → is_err r ≡ false → OnOk r P → P
made (Ok x) P ok h = h
made (Err e) P ok h = absurd cc

-- plan: the full matrix has the costs of the half (`laid_of`), so the file is still valid
pub unwrap-nodes-requires : goal.unwrap-nodes-requires
unwrap-nodes-requires c =
    let f : Fields = fields_of c.self.inside.draft in
    let can = can_go f c.args.self c.self.view_is c.requires.can_go in
    let old = some_is f.weights can.listed.1 in
    ap is_some ((in_range f c.self.invariant).weights old.0 old.1).dimension

pub make_whole-requires-clause-few : goal.make_whole-requires-clause-few
make_whole-requires-clause-few c =
    let f : Fields = fields_of c.self.inside.draft in
    let stand = ap (option_map (λ w. w.items)) (sym (c.take.ensures.value) ∙ c.unwrap-weights.ensures) in
    let format : f.weight_format ≡ Some (Listed c.args.from) = search rules in
    let held = lists f c.args.from c.unwrap-nodes.result c.unwrap-weights.result.items (in_range f c.self.invariant) format
    c.unwrap-nodes.ensures stand in
    held.most

pub make_whole-requires-clause-filled : goal.make_whole-requires-clause-filled
make_whole-requires-clause-filled c =
    let f : Fields = fields_of c.self.inside.draft in
    let stand = ap (option_map (λ w. w.items)) (sym (c.take.ensures.value) ∙ c.unwrap-weights.ensures) in
    let format : f.weight_format ≡ Some (Listed c.args.from) = search rules in
    let held = lists f c.args.from c.unwrap-nodes.result c.unwrap-weights.result.items (in_range f c.self.invariant) format
    c.unwrap-nodes.ensures stand in
    held.filled

pub invariant_of-result-2 : goal.invariant_of-result-2
invariant_of-result-2 c =
    let f : Fields = fields_of c.self.inside.draft in
    let stand = ap (option_map (λ w. w.items)) (sym (c.take.ensures.value) ∙ c.unwrap-weights.ensures) in
    let format : f.weight_format ≡ Some (Listed c.args.from) = search rules in
    let held = lists f c.args.from c.unwrap-nodes.result c.unwrap-weights.result.items (in_range f c.self.invariant) format
    c.unwrap-nodes.ensures stand in
    let value = made c.make_whole.result _ (sym c.is_err.ensures.value ∙ c.if-is_err.false) c.make_whole.ensures.ok in
    (laid_of f c.args.from FullMatrix c.unwrap-nodes.result c.unwrap-weights.result.items c.make_whole.new.weights.items
    c.self.invariant
    (can_go f c.args.self c.self.view_is c.requires.can_go) held value).0

pub returns : goal.returns
returns c =
    let f : Fields = fields_of c.self.inside.draft in
    let stand = ap (option_map (λ w. w.items)) (sym (c.take.ensures.value) ∙ c.unwrap-weights.ensures) in
    let format : f.weight_format ≡ Some (Listed c.args.from) = search rules in
    let held = lists f c.args.from c.unwrap-nodes.result c.unwrap-weights.result.items (in_range f c.self.invariant) format
    c.unwrap-nodes.ensures stand in
    let value = made c.make_whole.result _ (sym c.is_err.ensures.value ∙ c.if-is_err.false) c.make_whole.ensures.ok in
    let laid = (laid_of f c.args.from FullMatrix c.unwrap-nodes.result c.unwrap-weights.result.items
    c.make_whole.new.weights.items c.self.invariant
    (can_go f c.args.self c.self.view_is c.requires.can_go) held value).1 in
    ap (with_weights f FullMatrix) laid
    ∙ ap (λ (g : Fields). with_weights g FullMatrix (costs_in FullMatrix (nodes_of g) (cost g))) c.self.view_is
