-- The goals of `lowered` in src/weights.rt, of the trait `BoxedWeights` for `Weights`: that no sum overflows and what
-- it ensures. It returns one of the nodes to which a node's weight may be lowered, and the weight.
use Rattle.tsp_bound.proofs.Prelude.{◌<◌, ℕ, List, ℤ, length, get_or, arith, ap, sym, ◌∙◌, w64, pos, get_or-map, ints, to_z-of_z, get_or_default, length-map, lower_fits, lower_is}
use Rattle.tsp_bound.specs.states.ByNode.{all_said_of}
use Rattle.tsp_bound.specs.states.Potentials.{triples_in}
use Rattle.tsp_bound.proofs.LoweredWeights.{one_lowered}
use Rattle.tsp_bound.proofs.weights.PotentialWeightsBoxedWeights.lowered.Goals as goal

pub overflow_sub-result : goal.overflow_sub-result
overflow_sub-result g c =
    let inside : c.args.index < length c.at.result.now =
    omega (arith, c.requires.index, length-map (all_said_of c.args.from (triples_in c.args.self.now.m.now)) (λ lowering. lowering.0), ap length c.at.ensures.said) in
    lower_fits c.weight.result (get_or c.at.result.now c.args.index (0, pos 0)).1 c.weight.ensures.size (c.at.ensures.are.each c.args.index (0, pos 0) inside).1

pub returns-clause-node : goal.returns-clause-node
returns-clause-node g c =
    let inside : c.args.index < length c.at.result.now =
    omega (arith, c.requires.index, length-map (all_said_of c.args.from (triples_in c.args.self.now.m.now)) (λ lowering. lowering.0), ap length c.at.ensures.said) in
    let own = c.at.ensures.are.each c.args.index (0, pos 0) inside in
    (own.0.0, omega (arith, own.0.1, c.args.self.now.over))

pub returns-clause-listed : goal.returns-clause-listed
returns-clause-listed g c =
    get_or-map (λ lowering. lowering.0) (all_said_of c.args.from (triples_in c.args.self.now.m.now)) c.args.index (0, pos 0)
    ∙ ap (λ (ls : List (ℕ × ℤ)). (get_or ls c.args.index (0, pos 0)).0) (sym c.at.ensures.said)

-- plan: the number is all that the weight is lowered by (`one_lowered`), and the difference fits 64 bits
pub returns-clause-weight : goal.returns-clause-weight
returns-clause-weight g c =
    let ls : List (ℕ × ℤ) = c.at.result.now in
    let inside : c.args.index < length ls =
    omega (arith, c.requires.index, length-map (all_said_of c.args.from (triples_in c.args.self.now.m.now)) (λ lowering. lowering.0), ap length c.at.ensures.said) in
    let entry : ℕ × ℤ = get_or ls c.args.index (0, pos 0) in
    let own = c.at.ensures.are.each c.args.index (0, pos 0) inside in
    let fits = lower_fits c.weight.result entry.1 c.weight.ensures.size own.1 in
    let difference = lower_is c.weight.result entry.1 c.weight.ensures.size own.1 in
    let one = one_lowered ls entry.0 c.args.index entry.1 c.at.ensures.are.once inside (get_or_default ls c.args.index entry (0, pos 0) inside) in
    let sum = c.at.ensures.sums entry.0 in
    let value = c.weight.ensures.value in
    to_z-of_z w64 _ fits ∙ difference ∙ omega (arith, ints, value, sum, one)
