-- The goals of `lowered_by` in src/multipliers_by_node.rt, which finds the multiplier of a pair in the list of a node:
-- what it ensures.
use Rattle.tsp_bound.proofs.Prelude.{◌≡◌, ◌≢◌, ◌∙◌, ℕ, ap, sym, arith, w64, to_z, of_z, ℤ, pos, slice_index_or, ints, get_or_default, recursion_from_All}
use Rattle.tsp_bound.proofs.LoweredWeights.{one_lowered, none_lowered}
use Rattle.tsp_bound.proofs.multipliers_by_node.lowered_by.Goals as goal

-- plan: by whether the lowering is the node's (`one_lowered`) or another's (`none_lowered`)
pub returns-then-lowering-node-clause-value : goal.returns-then-lowering-node-clause-value
returns-then-lowering-node-clause-value c =
    let index : ℕ = c.lowerings.lowering-index in
    let entry : ℕ × ℤ = slice_index_or c.args.lowerings.now index (0, pos 0) in
    let same : entry.0 ≡ c.args.node = c.if-lowering-node.true in
    let size = c.requires.each index (0, pos 0) c.lowerings-test.true in
    let own : to_z w64 (of_z w64 entry.1) ≡ entry.1 = omega (arith, ints, size.0, size.1) in
    own ∙ sym (one_lowered c.args.lowerings.now c.args.node index entry.1 c.requires.once c.lowerings-test.true
    (get_or_default c.args.lowerings.now index (c.args.node, entry.1) (0, pos 0) c.lowerings-test.true ∙ ap (λ (y : ℕ). (y, entry.1)) same))

pub returns-clause-value : goal.returns-clause-value
returns-clause-value c = sym (none_lowered c.args.lowerings.now c.args.node
    (recursion_from_All (λ l. l.0 ≢ c.args.node) c.args.lowerings.now (λ k d lt. c.lowerings.invariant k d (omega (arith, lt, c.lowerings-test.false)))))
