-- The goals of `count_lowered` in src/weights.rt, of the trait `BoxedWeights` for `Weights`: what it ensures. It counts
-- the nodes to which a node's weight may be lowered.
use Rattle.tsp_bound.proofs.Prelude.{◌≢◌, ◌<◌, ℕ, List, ℤ, length, map, arith, sym, subst, ints}
use Rattle.tsp_bound.specs.states.ByNode.{node_in}
use Rattle.tsp_bound.proofs.LoweredWeights.{none_lowered, none_listed, lowered_size}
use Rattle.tsp_bound.proofs.weights.PotentialWeightsBoxedWeights.count_lowered.Goals as goal

pub returns-clause-no_more : goal.returns-clause-no_more
returns-clause-no_more g c = λ to node.
    let size = lowered_size c.args.self.now.m.now.nodes c.at.result.now to c.at.ensures.are in
    let sum = c.at.ensures.sums to in
    omega (arith, ints, size.0, sum)

-- plan: a node without pairs lowers nothing (`none_listed`), and no other node is lowered (`none_lowered`)
pub returns-clause-others : goal.returns-clause-others
returns-clause-others g c = λ to node none.
    let named : List (ℕ × ℤ) → Type 0 = λ ls. (k : ℕ) → k < length (map (λ lowering. lowering.0) ls) → node_in (map (λ lowering. lowering.0) ls) k ≢ to in
    let nothing = none_lowered c.at.result.now to (none_listed c.at.result.now to (subst named (sym c.at.ensures.said) none)) in
    let sum = c.at.ensures.sums to in
    omega (arith, ints, nothing, sum)
