-- The goals of `File::way` in src/relayout.rt, which says how the weights get into another layout: what it ensures.
use Rattle.tsp_file.proofs.Prelude.{◌≡◌, Some, sym, ap, ◌∙◌, false≢true, Listed, IsFirstAsymmetric}
use Rattle.tsp_file.specs.Relayout.{IsFirstOnDiagonal, costs_in}
use Rattle.tsp_file.proofs.Relaid.{same_layout, of_file, has_weights, pairs_held, can_go, own_layout}
use Rattle.tsp_file.proofs.file.File.way.Goals as goal

-- plan: by the first reason against it: no weights, a pair or a diagonal that would be lost; else it can go (`can_go`)
pub returns-then-are_in : goal.returns-then-are_in
returns-then-are_in c =
    let w = c.in-Some.listed in
    let held = c.in-Some.ensures in
    own_layout c.args.self.now w.layout w.nodes w.weights.now c.args.to held.0 held.1 (c.are_in.ensures.0 c.if-are_in.true)

pub returns-in-Some-lost_pair : goal.returns-in-Some-lost_pair
returns-in-Some-lost_pair c =
    let f = c.args.self.now in
    let w = c.in-Some.listed in
    let held = c.in-Some.ensures in
    let lost = c.in-Some-lost_pair in (
      has_weights f w.layout w.nodes w.weights.now held.0 held.1,
      lost.ensures.0,
      of_file (λ n cost. IsFirstAsymmetric n cost (lost.i, lost.j)) f w.layout w.nodes w.weights.now held.0 held.1 lost.ensures.1,
    )

pub returns-in-Some-lost_diagonal : goal.returns-in-Some-lost_diagonal
returns-in-Some-lost_diagonal c =
    let f = c.args.self.now in
    let w = c.in-Some.listed in
    let held = c.in-Some.ensures in
    let lost = c.in-Some-lost_diagonal in (
      has_weights f w.layout w.nodes w.weights.now held.0 held.1,
      pairs_held f w.layout w.nodes w.weights.now c.args.to held.0 held.1 c.in_default-lost_pair.ensures,
      lost.ensures.0,
      of_file (λ n cost. IsFirstOnDiagonal n cost lost.i) f w.layout w.nodes w.weights.now held.0 held.1 lost.ensures.1,
    )

pub returns-then-are_in-2 : goal.returns-then-are_in-2
returns-then-are_in-2 c =
    let f = c.args.self.now in
    let w = c.in-Some.listed in
    let held = c.in-Some.ensures in (
      can_go f w.layout w.nodes w.weights.now c.args.to held.0 held.1 c.in_default-lost_pair.ensures
          c.in_default-lost_diagonal.ensures,
      held.1.format ∙ ap (λ layout. Some (Listed layout)) (c.are_in-2.ensures.0 c.if-are_in-2.true),
    )

pub returns-in-Ok : goal.returns-in-Ok
returns-in-Ok c =
    let f = c.args.self.now in
    let w = c.in-Some.listed in
    let held = c.in-Some.ensures in (
      can_go f w.layout w.nodes w.weights.now c.args.to held.0 held.1 c.in_default-lost_pair.ensures
          c.in_default-lost_diagonal.ensures,
      (
        of_file (λ n cost. c.in-Ok.weights.items ≡ costs_in c.args.to n cost) f w.layout w.nodes w.weights.now held.0 held.1
            c.in-Ok.ensures.value,
        c.in-Ok.ensures.sizes,
      ),
    )

pub returns-in-Err : goal.returns-in-Err
returns-in-Err c =
    let f = c.args.self.now in
    let w = c.in-Some.listed in
    let held = c.in-Some.ensures in (
      can_go f w.layout w.nodes w.weights.now c.args.to held.0 held.1 c.in_default-lost_pair.ensures
          c.in_default-lost_diagonal.ensures,
      λ same. false≢true (sym c.if-are_in.false
          ∙ c.are_in.ensures.1 (same_layout f.weight_format w.layout c.args.to held.1.format same)),
    )
