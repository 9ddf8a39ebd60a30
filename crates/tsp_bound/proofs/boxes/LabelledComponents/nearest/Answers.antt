-- The goals of `nearest` in src/boxes.rt, of the trait `Components` for `Labelled`: what it ensures. It returns a
-- lightest link from a node to another component.
use Rattle.tsp_bound.proofs.Prelude.{◌≡◌, ℕ, ℤ, List, length, IfSome, arith, subst, get_or_read}
use Rattle.tsp_bound.specs.states.Boxes.{node_of}
use Rattle.tsp_bound.specs.states.Components.{label_at, is_in_other_component, IsNearest}
use Rattle.tsp_bound.proofs.RoundJoins.{kept_of_nearest}
use Rattle.tsp_bound.proofs.boxes.LabelledComponents.nearest.Goals as goal

-- plan: the link to the nearest place outside weighs no more than any out of the component (`kept_of_nearest`)
pub returns : goal.returns
returns g c =
    let s = c.args.self.now in
    let n : ℕ = length s.placed.order.now in
    let w : ℕ → ℕ → ℤ = λ i j. g.W.Weights.at s.placed.w.now (node_of s.placed.order.now i) (node_of s.placed.order.now j) in
    let from : ℕ = c.args.from in
    let own_is : c.index.result.now ≡ label_at s.labels.items from = get_or_read s.labels.items from c.index.result.now (omega (arith, s.as_many, c.requires.from)) c.index.ensures 0 in
    kept_of_nearest n w (label_at s.labels.items) from c.nearest.result
    (subst (λ (own : ℕ). IfSome c.nearest.result (IsNearest n w (is_in_other_component (label_at s.labels.items) own) from)) own_is
    (subst (λ (ls : List ℕ). IfSome c.nearest.result (IsNearest n w (is_in_other_component (label_at ls) c.index.result.now) from)) c.deref.ensures.value c.nearest.ensures))
