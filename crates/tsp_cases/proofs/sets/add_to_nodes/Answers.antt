-- The goals of `add_to_nodes` in src/sets.rt, which adds a number at each node of a list: its loop and what it ensures.
use Rattle.tsp_cases.proofs.Prelude.{◌≡◌, ◌≤◌, ℕ, ℤ, List, length, get_or, refl, ap, sym, ◌∙◌, subst, inl, arith, rules, FitsSigned, to_z, of_z, w64, pos, to_z-of_z, drop_all, least_at, IsMoved, moved_on, node_moved}
use Rattle.tsp_cases.specs.states.Sets.{added}
use Rattle.tsp_cases.proofs.SetSums.{added_left, added_none}
use Rattle.tsp_cases.proofs.sets.add_to_nodes.Goals as goal

-- plan: the number is added at one node more (`node_moved`), unless it is 0 and changes nothing (`added_none`)
pub returns-then-number-eq0 : goal.returns-then-number-eq0
returns-then-number-eq0 c = λ x.
    let fits : FitsSigned w64 c.args.number = search rules in
    let none : c.args.number ≡ pos 0 = sym (to_z-of_z w64 c.args.number fits) ∙ ap (to_z w64) c.if-number-eq0.true in
    inl (refl, ap (λ (z : ℤ). added z c.args.nodes.now x) none ∙ added_none c.args.nodes.now x)

pub nodes-preserved : goal.nodes-preserved
nodes-preserved c = λ x last rest.
    c.nodes.invariant x last (rw (added_left (to_z w64 (of_z w64 c.args.number)) c.args.nodes.now c.nodes.node-index x 0 c.nodes-test.true)
    (moved_on _ _ _ _ _ (node_moved (to_z w64 (of_z w64 c.args.number)) (get_or c.args.nodes.now c.nodes.node-index 0) x
    c.nodes.row c.add_at.new.row c.add_at.ensures.here c.add_at.ensures.others) rest))

pub returns : goal.returns
returns c = λ x.
    let nodes : List ℕ = c.args.nodes.now in
    let past : length nodes ≤ c.nodes.node-index = omega (arith, c.nodes-test.false) in
    let fits : FitsSigned w64 c.args.number = search rules in
    let number : to_z w64 (of_z w64 c.args.number) ≡ c.args.number = to_z-of_z w64 c.args.number fits in
    subst (λ (z : ℤ). IsMoved (added z nodes x) (least_at c.args.row.now x) (least_at c.nodes.row x)) number
    (c.nodes.invariant x (least_at c.nodes.row x) (inl (refl, ap (λ ns. added (to_z w64 (of_z w64 c.args.number)) ns x) (drop_all c.nodes.node-index nodes past))))
