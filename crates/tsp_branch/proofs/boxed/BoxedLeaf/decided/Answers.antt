-- The goals of `BoxedLeaf::decided` in src/boxed.rt, which returns the weight between two nodes: that no sum
-- overflows and what it ensures.
use Rattle.tsp_branch.proofs.Prelude.{arith, ints}
use Rattle.tsp_branch.proofs.boxed.BoxedLeaf.decided.Goals as goal

-- plan: the base, what the sets add and what the decisions add fit 64 bits, so their sum is the weight in the leaf
pub overflow_add-result : goal.overflow_add-result
overflow_add-result g c =
    let a = c.combed-combed.ensures.size in
    let b = c.change.ensures.size in
    omega (arith, ints, a.0, a.1, b.0, b.1)

pub returns : goal.returns
returns g c =
    let a = c.combed-combed.ensures.size in
    let b = c.change.ensures.size in
    omega (arith, ints, a.0, a.1, b.0, b.1, c.combed-combed.ensures.value, c.change.ensures.value)
