-- The goals of `change_row` in src/case_leaf.rt, which changes a row of weights by decisions: its loop and what it
-- ensures.
use Rattle.tsp_branch.proofs.Prelude.{◌≤◌, List, false, length, refl, ap, inl, arith, drop_all, least_at, Decision, changes, changes_left, moved_on}
use Rattle.tsp_branch.proofs.case_leaf.change_row.Goals as goal

-- plan: one decision more changes its own entry (`changes_left`), and no other (`moved_on`)
pub decisions-preserved : goal.decisions-preserved
decisions-preserved c = λ x last rest.
    let ds : List Decision = c.args.decisions.now in
    c.decisions.invariant x last (rw (changes_left ds c.decisions.decision-index c.args.from x (record { pair = (0, 0); taken = false }) c.decisions-test.true)
    (moved_on _ _ _ _ _ (c.change.ensures x) rest))

pub returns : goal.returns
returns c = λ x.
    let ds : List Decision = c.args.decisions.now in
    let past : length ds ≤ c.decisions.decision-index = omega (arith, c.decisions-test.false) in
    c.decisions.invariant x (least_at c.decisions.row x) (inl (refl, ap (λ zs. changes zs c.args.from x) (drop_all c.decisions.decision-index ds past)))
