-- The goals of `change_between` in src/case_leaf.rt, which sums what decisions add to a weight: its loop and what it
-- ensures.
use Rattle.tsp_branch.proofs.Prelude.{◌≡◌, ◌≤◌, ◌+◌, ◌∙◌, ℤ, List, false, length, drop, ap, arith, rules, to_z, of_z, FitsSigned, w64, int_wrap, pos, ◌+ℤ◌, ints, to_z-of_z, int_wrap-add_left, drop_all, Decision, changes, changes_left}
use Rattle.tsp_branch.proofs.case_leaf.change_between.Goals as goal

-- plan: one decision more of the node changes the pair or doesn't (`changes_left`)
pub decisions-preserved : goal.decisions-preserved
decisions-preserved c =
    let ds : List Decision = c.args.decisions.now in
    let index = c.decisions.decision-index in
    let from = c.args.from in
    let to = c.args.to in
    let rest : ℤ = changes (drop (index + 1) ds) from to in
    let sum : ℤ = to_z w64 c.decisions.sum-bits in
    let change : ℤ = c.change_of.result in
    let fits : FitsSigned w64 c.sum_left-sum.result = search rules in
    let change_fits : FitsSigned w64 c.change_of.result = search rules in
    let left = changes_left ds index from to (record { pair = (0, 0); taken = false }) c.decisions-test.true in
    let own = c.change_of.ensures in
    let new_is : to_z w64 (of_z w64 c.sum_left-sum.result) ≡ int_wrap w64 (sum +ℤ change) =
    to_z-of_z w64 c.sum_left-sum.result fits ∙ c.sum_left-sum.ensures ∙ ap (λ z. int_wrap w64 (sum +ℤ z)) (to_z-of_z w64 c.change_of.result change_fits) in
    ap (λ s. int_wrap w64 (s +ℤ rest)) new_is ∙ int_wrap-add_left w64 (sum +ℤ change) rest
    ∙ ap (int_wrap w64) (let e : (sum +ℤ change) +ℤ rest ≡ sum +ℤ changes (drop index ds) from to = omega (arith, ints, left, own) in e) ∙ c.decisions.invariant

pub returns : goal.returns
returns c =
    let past : length c.args.decisions.now ≤ c.decisions.decision-index = omega (arith, c.decisions-test.false) in
    let none : changes (drop c.decisions.decision-index c.args.decisions.now) c.args.from c.args.to ≡ pos 0 =
    ap (λ (ds : List Decision). changes ds c.args.from c.args.to) (drop_all c.decisions.decision-index c.args.decisions.now past) in
    ap (int_wrap w64) (let e : to_z w64 c.decisions.sum-bits ≡ to_z w64 c.decisions.sum-bits
    +ℤ changes (drop c.decisions.decision-index c.args.decisions.now) c.args.from c.args.to = omega (arith, ints, none) in e)
    ∙ c.decisions.invariant
