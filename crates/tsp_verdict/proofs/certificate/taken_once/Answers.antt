-- The goals of `taken_once` in src/certificate.rt, which turns pairs into decisions, each pair once: its loop and
-- what it ensures.
use Rattle.tsp_verdict.proofs.Prelude.{◌≡◌, ◌∙◌, true, false, sym, subst, arith, contains, Updates, slice_index_or, not-false, not-true}
use Rattle.tsp_verdict.specs.states.PairSets.{key_of, pair_cmp}
use Rattle.tsp_verdict.proofs.GivenPairs.{has_more_keys, taken_known, taken_new, taken_all}
use Rattle.tsp_verdict.proofs.certificate.taken_once.Goals as goal
use Rattle.tsp_verdict.proofs.certificate.taken_once.Goals.{then-is_new+in_ok-push, else-is_new}

-- plan: by the next pair: the set has it (`taken_known`), or it is a decision more (`taken_new`)
pub pairs-preserved : goal.pairs-preserved
pairs-preserved c =
    let st = c.pairs in
    let pairs = c.args.pairs.now in
    let has = has_more_keys c.args.directed st.seen c.insert.new.set pairs st.pair-index (0, 0) c.pairs-test.true
    (subst (λ p. Updates pair_cmp st.seen c.insert.new.set p true) c.key_of.ensures c.in_ok-is_new.ensures.updates)
    st.invariant.has in
    elim c.if-is_new.branch [
      | then-is_new+in_ok-push w ↦
          let lacks : contains pair_cmp st.seen (key_of c.args.directed (slice_index_or pairs st.pair-index (0, 0))) ≡ false =
          subst (λ p. contains pair_cmp st.seen p ≡ false) c.key_of.ensures
          (not-true _ (sym c.in_ok-is_new.ensures.added ∙ w.if-is_new.true)) in
          rw w.taken-is (record {
            has = has;
            so_far = taken_new c.args.directed pairs st.taken.items w.push.new.list.items st.pair-index st.seen c.pairs-test.true
                st.invariant.has lacks w.in_ok-push.ensures.items st.invariant.so_far;
          })
      | else-is_new w ↦
          let there : contains pair_cmp st.seen (key_of c.args.directed (slice_index_or pairs st.pair-index (0, 0))) ≡ true =
          subst (λ p. contains pair_cmp st.seen p ≡ true) c.key_of.ensures
          (not-false _ (sym c.in_ok-is_new.ensures.added ∙ w.if-is_new.false)) in
          rw w.taken-is (record {
            has = has;
            so_far = taken_known c.args.directed pairs st.taken.items st.pair-index st.seen c.pairs-test.true st.invariant.has
                there st.invariant.so_far;
          })
    ]

pub returns : goal.returns
returns c =
    taken_all c.args.directed c.args.pairs.now c.pairs.taken.items c.pairs.pair-index (omega (arith, c.pairs-test.false))
    c.pairs.invariant.so_far
