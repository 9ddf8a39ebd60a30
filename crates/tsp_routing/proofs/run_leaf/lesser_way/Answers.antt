-- The goals of `lesser_way` in src/run_leaf.rt, which compares a weight with the way over one more node: what it
-- ensures.
use Rattle.tsp_routing.proofs.Prelude.{◌≡◌, ◌+◌, ◌*◌, ◌^◌, ℕ, ℤ, pos, get_or, sym, inl, inr, arith, rules, to_z, of_z, ◌+ℤ◌, ◌≤ℤ◌, w128, ints, least_at}
use Rattle.tsp_routing.proofs.run_leaf.lesser_way.Goals as goal

pub returns-then-way-least-clause-met : goal.returns-then-way-least-clause-met
returns-then-way-least-clause-met c =
    let onward : ℤ = get_or c.args.onward.now c.args.next (pos 0) in
    let size = c.requires.size in
    let few = size.1 in
    let low = size.2.0 in
    let high : onward ≤ℤ pos (2 ^ 100) = elim size.2.1 [
      | inl most ↦ omega (arith, ints, most)
      | inr none ↦ omega (arith, ints, none)
    ] in
    let least_link = c.requires.link.0 in
    let most_link = c.requires.link.1 in
    let from = c.from.ensures in
    let link = c.weight_in.ensures in
    let computed : to_z w128 (of_z w128 (to_z w128 (of_z w128 c.from.result) +ℤ to_z w128 (of_z w128 onward)))
    ≡ least_at c.args.row.now c.args.next +ℤ onward =
    omega (arith, ints, few, low, high, least_link, most_link, from, link) in
    inr ((λ same. c.if-next-node.false (sym same)), computed, search (rules, ints))
