-- The goals of `Instance::listed_view` in src/instance.rt, which returns the matrix or triangle of an instance with
-- listed weights: what its calls require and what it ensures.
use Rattle.tsp_cost.proofs.Prelude.{Some, ap, sym, subst, ◌∙◌, Fields, listed_cost, same_layout}
use Rattle.std.specs.Option.{option_map}
use Rattle.tsp_format.specs.declared.layout.Layout.TheVariants.{FullMatrix}
use Rattle.tsp_format.specs.declared.kinds.WeightFormat.TheVariants.{Listed}
use Rattle.tsp_cost.specs.states.Views.{HasFound}
use Rattle.tsp_cost.proofs.OneProblem.{of_weights}
use Rattle.tsp_cost.proofs.instance.Instance.listed_view.Goals as goal

-- plan: by the layout, full or half: the costs are those of the listed weights (`of_weights`)
pub of-requires-clause-most : goal.of-requires-clause-most
of-requires-clause-most c =
    let found = subst (λ (g : Fields). HasFound g c.self.inside.nodes c.self.inside.source) c.self.view_is c.self.invariant in
    let stand = ap (λ (g : Fields). g.weights) (sym c.self.view_is) ∙ sym c.weights.ensures
    ∙ ap (option_map (λ w. w.now)) c.unwrap-weights.ensures in
    (of_weights c.args.self.now c.self.inside.nodes c.self.inside.source c.args.layout c.unwrap-weights.result.now found
    c.requires stand).lists.most

pub of-requires-clause-full : goal.of-requires-clause-full
of-requires-clause-full c =
    let found = subst (λ (g : Fields). HasFound g c.self.inside.nodes c.self.inside.source) c.self.view_is c.self.invariant in
    let stand = ap (λ (g : Fields). g.weights) (sym c.self.view_is) ∙ sym c.weights.ensures
    ∙ ap (option_map (λ w. w.now)) c.unwrap-weights.ensures in
    let are = of_weights c.args.self.now c.self.inside.nodes c.self.inside.source c.args.layout c.unwrap-weights.result.now found
    c.requires stand in
    rw (← c.in-FullMatrix.is) are.lists.filled

pub of-requires-clause-sizes : goal.of-requires-clause-sizes
of-requires-clause-sizes c =
    let found = subst (λ (g : Fields). HasFound g c.self.inside.nodes c.self.inside.source) c.self.view_is c.self.invariant in
    let stand = ap (λ (g : Fields). g.weights) (sym c.self.view_is) ∙ sym c.weights.ensures
    ∙ ap (option_map (λ w. w.now)) c.unwrap-weights.ensures in
    (of_weights c.args.self.now c.self.inside.nodes c.self.inside.source c.args.layout c.unwrap-weights.result.now found
    c.requires stand).lists.sizes

pub of-requires-in_default : goal.of-requires-in_default
of-requires-in_default c =
    let found = subst (λ (g : Fields). HasFound g c.self.inside.nodes c.self.inside.source) c.self.view_is c.self.invariant in
    let stand = ap (λ (g : Fields). g.weights) (sym c.self.view_is) ∙ sym c.weights.ensures
    ∙ ap (option_map (λ w. w.now)) c.unwrap-weights.ensures in
    let are = of_weights c.args.self.now c.self.inside.nodes c.self.inside.source c.args.layout c.unwrap-weights.result.now found
    c.requires stand in
    record {
      half = c.in_default.not-FullMatrix;
      some = are.lists.some;
      most = are.lists.most;
      filled = are.lists.filled;
      sizes =
          are.lists.sizes;
    }

pub returns-in-FullMatrix : goal.returns-in-FullMatrix
returns-in-FullMatrix c =
    let found = subst (λ (g : Fields). HasFound g c.self.inside.nodes c.self.inside.source) c.self.view_is c.self.invariant in
    let stand = ap (λ (g : Fields). g.weights) (sym c.self.view_is) ∙ sym c.weights.ensures
    ∙ ap (option_map (λ w. w.now)) c.unwrap-weights.ensures in
    let are = of_weights c.args.self.now c.self.inside.nodes c.self.inside.source c.args.layout c.unwrap-weights.result.now found
    c.requires stand in (
      are.kind,
      are.lists.format ∙ ap (λ layout. Some (Listed layout)) c.in-FullMatrix.is,
      record {
        count = are.lists.dimension ∙ ap (λ n. Some n) (sym c.of.ensures.nodes);
        every = λ i j. c.of.ensures.costs i j
            ∙ ap (λ layout. listed_cost layout c.self.inside.nodes c.unwrap-weights.result.now i j) (sym c.in-FullMatrix.is)
            ∙ are.every i j;
      },
    )

pub returns-in_default : goal.returns-in_default
returns-in_default c =
    let found = subst (λ (g : Fields). HasFound g c.self.inside.nodes c.self.inside.source) c.self.view_is c.self.invariant in
    let stand = ap (λ (g : Fields). g.weights) (sym c.self.view_is) ∙ sym c.weights.ensures
    ∙ ap (option_map (λ w. w.now)) c.unwrap-weights.ensures in
    let are = of_weights c.args.self.now c.self.inside.nodes c.self.inside.source c.args.layout c.unwrap-weights.result.now found
    c.requires stand in (
      are.kind,
      λ full. c.in_default.not-FullMatrix
          (same_layout c.args.self.now.weight_format c.args.layout FullMatrix are.lists.format full),
      record {
        count = are.lists.dimension ∙ ap (λ n. Some n) (sym c.of-in_default.ensures.nodes);
        every = λ i j. c.of-in_default.ensures.costs i j ∙ are.every i j;
      },
    )
