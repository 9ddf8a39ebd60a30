-- The goals of `joined_over` in src/rounds.rt, which finds a least tree over nodes in an order: what it ensures.
use Rattle.std.proofs.Common.{◌≡◌, ◌∙◌, ℕ, List, length, map, arith, ap, subst}
use Rattle.tsp_bound.specs.states.Boxes.{node_of, on_both}
use Rattle.tsp_bound.specs.states.Components.{IsSpanning, IsWeighedForest}
use Rattle.tsp_bound.proofs.RoundJoins.{forest_of}
use Rattle.tsp_bound.proofs.rounds.joined_over.Goals as goal

-- plan: the pairs over the places are the forest over their nodes (`forest_of`)
pub returns : goal.returns
returns g c =
    let order : List ℕ = c.args.order.now in
    let places : List ℕ = c.in-Some.places.items in
    let num = rw c.in-Some.is at c.in_ok-places.ensures.numbering in
    let w = g.W.Weights.at c.args.w.now in
    let pairs = c.in-Some-2.pairs.items in
    let spanning : IsSpanning (length order) (λ i j. w (node_of order i) (node_of order j)) pairs = rw c.in-Some-2.is at c.in_ok-pairs.ensures in
    let last : ℕ = c.count.result in
    let grown = c.in_ok-grown.grown in
    subst (λ (k : ℕ). IsWeighedForest k w grown.pairs.items grown.weight) c.count.ensures.value
    (forest_of order places last w pairs grown.pairs.items grown.weight (omega (arith, c.requires.count, c.count.ensures.value)) num spanning c.count.ensures.most
    (c.in_ok-grown.ensures.pairs ∙ ap (map (on_both (node_of order))) c.deref-2.ensures.value) c.in_ok-grown.ensures.weight c.in_ok-grown.ensures.size)
