-- The goals of `take_lowerings` in src/weights.rt, which takes multipliers off a row of weights: its loop and what it ensures.
use Rattle.tsp_bound.proofs.Prelude.{◌≡◌, ◌≤◌, ℕ, ℤ, List, length, refl, ap, subst, inl, arith, to_z, of_z, w64, pos, neg_ℤ, ◌-ℤ◌, slice_index_or, ◌==◌, if◌then◌else◌, ints, drop_all, least_at, IsMoved, moved_on, node_moved}
use Rattle.tsp_bound.specs.states.ByNode.{lowered_by}
use Rattle.tsp_bound.proofs.LoweredWeights.{lowered_left}
use Rattle.tsp_bound.proofs.weights.take_lowerings.Goals as goal

-- plan: one pair more lowers the entry of its other node (`node_moved`), and no other
pub lowerings-preserved : goal.lowerings-preserved
lowerings-preserved c = λ x last rest.
    let index : ℕ = c.lowerings.lowering-index in
    let entry : ℕ × ℤ = slice_index_or c.args.lowerings.now index (0, pos 0) in
    let size = (c.requires index (0, pos 0) c.lowerings-test.true).1 in
    let here = c.add_at.ensures.here in
    let number : ℤ = to_z w64 (of_z w64 (pos 0 -ℤ to_z w64 (of_z w64 entry.1))) in
    let is : number ≡ neg_ℤ entry.1 = omega (arith, ints, size.0, size.1) in
    let moved : IsMoved (if entry.0 == x then neg_ℤ entry.1 else pos 0) (least_at c.lowerings.row x) (least_at c.add_at.new.row x) =
    subst (λ (z : ℤ). IsMoved (if entry.0 == x then z else pos 0) (least_at c.lowerings.row x) (least_at c.add_at.new.row x)) is
    (node_moved number entry.0 x c.lowerings.row c.add_at.new.row here c.add_at.ensures.others) in
    c.lowerings.invariant x last (rw (lowered_left c.args.lowerings.now index x (0, pos 0) c.lowerings-test.true) (moved_on _ _ _ _ _ moved rest))

pub returns : goal.returns
returns c = λ x.
    let all : List (ℕ × ℤ) = c.args.lowerings.now in
    let past : length all ≤ c.lowerings.lowering-index = omega (arith, c.lowerings-test.false) in
    c.lowerings.invariant x (least_at c.lowerings.row x) (inl (refl, ap (λ ls. neg_ℤ (lowered_by ls x)) (drop_all c.lowerings.lowering-index all past)))
