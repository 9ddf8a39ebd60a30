-- The goals of `have_each_once` in src/good_families.rt, which tests whether no set has a node twice: its loop and
-- what it ensures.
use Rattle.tsp_cases.proofs.Prelude.{◌≡◌, ◌∙◌, ◌+◌, ℕ, List, [], length, get_or, false, refl, ap, sym, subst, arith, both_ways, iff_false, Vec}
use Rattle.tsp_cases.specs.Families.{HasEachOnce}
use Rattle.tsp_cases.specs.states.GoodFamilies.{AreUnmarked}
use Rattle.tsp_cases.proofs.Passes.{written}
use Rattle.tsp_cases.proofs.GoodFamilies.{set_here, lists_long, new_once, once_more}
use Rattle.tsp_cases.proofs.good_families.have_each_once.Goals as goal

-- plan: the nodes of one set more are marked, none of them twice (`once_more`), or a node is in the set twice
pub returns-then-not-mark_nodes : goal.returns-then-not-mark_nodes
returns-then-not-mark_nodes c = (
  λ impossible. absurd (both_ways false refl impossible),
  λ once.
      let sets : List (Vec ℕ) = c.args.family.now.sets.now in
      let index : ℕ = c.sets.index in
      let nodes : List ℕ = c.deref.result.now in
      let read : nodes ≡ (get_or sets index c.index-family-index.result).items = c.deref.ensures.value in
      let here : HasEachOnce nodes = subst HasEachOnce (set_here sets index c.index-family-index.result nodes [] c.sets-test.true read)
      (once index [] (let long = lists_long sets in omega (arith, long, c.sets-test.true))) in
      absurd (iff_false c.mark_nodes.ensures.new c.if-not-mark_nodes.true (new_once c.deref_mut.result.now (index + 1) nodes
      (subst (λ (xs : List ℕ). AreUnmarked xs (index + 1)) (sym c.deref_mut.ensures.value) (c.sets.invariant.fresh (index + 1) (omega arith))) here)),
)

pub sets-preserved : goal.sets-preserved
sets-preserved c =
    let sets : List (Vec ℕ) = c.args.family.now.sets.now in
    let index : ℕ = c.sets.index in
    let h = c.sets.invariant in
    let nodes : List ℕ = c.deref.result.now in
    let read : nodes ≡ (get_or sets index c.index-family-index.result).items = c.deref.ensures.value in
    let marks = written c.sets.marks.len c.mark_nodes.new.marks _ (c.mark_nodes.ensures.length ∙ c.deref_mut.ensures.len) in
    record {
      long = ap length marks ∙ c.mark_nodes.ensures.length ∙ ap length c.deref_mut.ensures.value ∙ h.long;
      fresh = λ mark more. subst (λ (xs : List ℕ). AreUnmarked xs mark) (sym marks) (c.mark_nodes.ensures.others mark (λ e. omega (arith, e, more))
          (subst (λ (xs : List ℕ). AreUnmarked xs mark) (sym c.deref_mut.ensures.value) (h.fresh mark (omega (arith, more)))));
      once = once_more sets index c.index-family-index.result nodes c.sets-test.true read h.once ((c.mark_nodes.ensures.new.0 c.if-not-mark_nodes.false).once);
    }

pub returns : goal.returns
returns c = (λ is. λ k d lt. c.sets.invariant.once k d (let long = lists_long c.args.family.now.sets.now in omega (arith, long, lt, c.sets-test.false)), λ once. refl)
