-- The goals of `OpenCase::new` in src/open_case.rt, which opens the case of the given decisions: its loop and what its
-- calls require.
use Rattle.std.proofs.Common.{◌≡◌, ◌∙◌, ◌+◌, ◌-◌, ◌<◌, ℕ, List, ◌∷◌, false, drop, get_or, length, ap, sym, subst, arith, drop-cons, add-one}
use Rattle.tsp_cases.specs.declared.decision.Decision.{Decision}
use Rattle.tsp_cases.specs.states.OpenCases.{AreByNode}
use Rattle.tsp_cases.proofs.open_case.OpenCase.new.Goals as goal

pub add-requires : goal.add-requires
add-requires c =
    let st = c.given in
    let left : ℕ = st.left - 1 in
    let lt : left < length c.args.given.now = omega (arith, c.given-test.true, st.invariant.most) in
    let pair = c.requires left (record { pair = (0, 0); taken = false }) lt in
    let long = st.invariant.by_node.places in
    (omega (arith, pair.0.1, long), omega (arith, pair.1.1, long), pair.2)

-- plan: the given decisions are added from the last to the first, so one more is at the beginning of those added
-- (`drop-cons`)
pub given-preserved : goal.given-preserved
given-preserved c =
    let st = c.given in
    let given : List Decision = c.args.given.now in
    let left : ℕ = st.left - 1 in
    let one : st.left ≡ left + 1 = omega (arith, c.given-test.true) in
    let lt : left < length given = omega (arith, c.given-test.true, st.invariant.most) in
    let default : Decision = record { pair = (0, 0); taken = false } in
    let parts : drop left given ≡ get_or given left default ∷ drop st.left given =
    drop-cons given left default lt ∙ ap (λ (k : ℕ). get_or given left default ∷ drop k given) (sym (one ∙ add-one left)) in
    record {
      most = omega (arith, st.invariant.most);
      by_node = subst (λ (ds : List Decision). AreByNode c.args.nodes c.add.new.self ds) (sym parts)
          (c.in_ok-add.ensures.more c.args.nodes (drop st.left given) st.invariant.by_node);
      directed = c.in_ok-add.ensures.directed ∙ st.invariant.directed;
    }
