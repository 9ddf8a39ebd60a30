-- The goals of `judge_leaves` in src/case_tree.rt, which finds the least bound of all leaves, or the first bad leaf:
-- its loop, what its calls require and what it ensures.
use Rattle.tsp_cases.proofs.Prelude.{rules, ℕ, ℤ, true, List, [], Option, None, Some, inl, ◌++◌, ◌+◌, ◌^◌, ◌<◌, length, drop, replicate, ◌≡◌, sym, ap, ap₂, subst, ◌∙◌, arith, pos, All, ∥∥₁_elim, props, ints, length_push, length-replicate, get_or-replicate, TreeStep, steps_of}
use Rattle.tsp_format.specs.declared.steps.TreeStep.TheVariants as code
use Rattle.tsp_format.specs.Steps as listed
use Rattle.tsp_cases.specs.Cases.{LeafNumbers}
use Rattle.tsp_cases.specs.ListedCases.{no_numbers_of}
use Rattle.tsp_cases.specs.declared.decision.Decision.{Decision}
use Rattle.tsp_cases.specs.states.OpenCases.{IsDecision, IsNextStack, stack_of, IsOpenCase, decisions_in, AreSmall}
use Rattle.tsp_cases.specs.JudgedLeaves.{IsJudgedLeaf}
use Rattle.tsp_cases.proofs.Passes.{IsAtStep, IsPassing, at_start, at_branch, whole_trees, at_next, all_passed, bad_here, after_found, small_found, low_sized, own_step, written}
use Rattle.tsp_cases.proofs.OpenCases.{one_above}
use Rattle.tsp_cases.proofs.case_tree.judge_leaves.Goals as goal
use Rattle.tsp_cases.proofs.case_tree.judge_leaves.Goals.{in-Branch+in_ok-take-in-Branch, in-Leaf+in_ok-judged-in-Leaf+in-Found+in_ok-next-in-Leaf}

pub judge_next_leaf-requires-clause-few_changes : goal.judge_next_leaf-requires-clause-few_changes
judge_next_leaf-requires-clause-few_changes g c =
    let tree = c.args.tree.now in
    let st = c.steps in
    let own : length c.in-Leaf.changes.items < 2 ^ 32 = ∥∥₁_elim tree.steps_are (hlevel props) (λ each. own_step
    tree.places tree.steps.now st.step-index c.step-item.result
    (code.Leaf c.in-Leaf.changes) each c.steps-test.true c.step-item.is c.in-Leaf.is) in
    subst (λ (cs : List (ℕ × ℤ)). length cs < 2 ^ 32) (sym c.deref.ensures.value) own

none_small : (n family_count : ℕ) → AreSmall (no_numbers_of n family_count)
none_small n family_count k default lt =
    rw (get_or-replicate (n + family_count) k (pos 0) default (omega (arith, lt, length-replicate (n + family_count) (pos 0))))
    (omega (arith, ints), omega (arith, ints))

-- plan: at first the given case is open, all numbers are 0, and the steps are a whole tree (`at_start`, `whole_trees`)
pub steps-init : goal.steps-init
steps-init g c =
    let tree = c.args.tree.now in
    let judge = c.args.judge.now in
    let n : ℕ = g.J.LeafJudge.nodes judge in
    let family_count : ℕ = g.J.LeafJudge.family_count judge in
    let found : List Decision × LeafNumbers → Option ℤ → Type 0 = g.J.LeafJudge.found judge in
    let told : List listed.Step = steps_of tree.steps.now in
    let case = c.in_ok-case.case in
    let filled : c.in_ok-numbers.numbers.items ≡ replicate c.args.count (pos 0) = search rules in
    let none : c.in_ok-numbers.numbers.items ≡ no_numbers_of n family_count = filled ∙ ap (λ (k : ℕ). replicate k (pos 0)) c.requires.count in
    let whole = sym (whole_trees n (no_numbers_of n family_count) 1 told) ∙ tree.whole in
    record {
      at = inl (subst (λ (ds : List Decision). IsAtStep found (g.J.LeafJudge.good judge) (g.J.LeafJudge.fits judge) n family_count tree.given.now told
          c.in_ok-numbers.numbers.items (Some (stack_of ds)) None 0 told) (sym c.in_ok-case.ensures.stack)
          (subst (λ (zs : List ℤ). IsAtStep found (g.J.LeafJudge.good judge) (g.J.LeafJudge.fits judge) n family_count tree.given.now told zs (Some []) None 0 told)
          (sym none)
          (at_start found (g.J.LeafJudge.good judge) (g.J.LeafJudge.fits judge) n family_count tree.given.now told whole c.requires.fits)));
      memory = subst (λ (ds : List Decision). g.J.LeafJudge.holds judge c.args.memory.now ds)
          (sym (ap₂ (λ (a b : List Decision). stack_of a ++ b) c.in_ok-case.ensures.stack c.in_ok-case.ensures.given)) c.requires.memory;
      long = ap length none ∙ length-replicate (n + family_count) (pos 0);
      small = subst AreSmall (sym none) (none_small n family_count);
      case = subst (λ (k : ℕ). IsOpenCase k case) c.requires.places c.in_ok-case.ensures.case;
      given = c.in_ok-case.ensures.given;
      direction = c.in_ok-case.ensures.directed ∙ c.requires.direction;
      few = omega (arith, ap length c.in_ok-case.ensures.stack);
      leaves = omega arith;
      sized = tt;
    }

pub take-requires : goal.take-requires
take-requires g c =
    let tree = c.args.tree.now in
    let st = c.steps in
    let decision : Decision = record { pair = (c.in-Branch.first, c.in-Branch.second); taken = true } in
    let own : IsDecision tree.places decision = ∥∥₁_elim tree.steps_are (hlevel props) (λ each. own_step
    tree.places tree.steps.now st.step-index c.step-item.result
    (code.Branch c.in-Branch.first c.in-Branch.second) each c.steps-test.true c.step-item.is c.in-Branch.is) in
    record { case = (g.J.LeafJudge.places c.args.judge.now, st.invariant.case, subst (λ (k : ℕ). IsDecision k decision) c.requires.places own) }

pub enter-requires-clause-decision : goal.enter-requires-clause-decision
enter-requires-clause-decision g c =
    let tree = c.args.tree.now in
    let decision : Decision = record { pair = (c.in-Branch.first, c.in-Branch.second); taken = true } in
    let own : IsDecision tree.places decision = ∥∥₁_elim tree.steps_are (hlevel props) (λ each. own_step
    tree.places tree.steps.now c.steps.step-index c.step-item.result
    (code.Branch c.in-Branch.first c.in-Branch.second) each c.steps-test.true c.step-item.is c.in-Branch.is) in
    subst (λ (k : ℕ). IsDecision k decision) c.requires.places own

pub returns-in_default-clause-judged : goal.returns-in_default-clause-judged
returns-in_default-clause-judged g c =
    let tree = c.args.tree.now in
    let judge = c.args.judge.now in
    let n : ℕ = g.J.LeafJudge.nodes judge in
    let family_count : ℕ = g.J.LeafJudge.family_count judge in
    let found : List Decision × LeafNumbers → Option ℤ → Type 0 = g.J.LeafJudge.found judge in
    let good : LeafNumbers → Type 0 = g.J.LeafJudge.good judge in
    let given : List Decision = tree.given.now in
    let all : List TreeStep = tree.steps.now in
    let st = c.steps in
    let at = at_next found good (g.J.LeafJudge.fits judge) n family_count given all st.numbers.items st.case.stack.items st.lowest st.leaf
    st.step-index c.step-item.result
    (code.Leaf c.in-Leaf.changes) c.steps-test.true c.step-item.is c.in-Leaf.is st.invariant.at in
    let judged = subst (λ (cs : List (ℕ × ℤ)). IsJudgedLeaf found good n family_count
    (stack_of st.case.stack.items ++ given) st.numbers.items cs c.judge_next_leaf.new.numbers c.in_ok-judged-in-Leaf.judged) c.deref.ensures.value
    (subst (λ (ds : List Decision). IsJudgedLeaf found good n family_count
    (stack_of st.case.stack.items ++ ds) st.numbers.items c.deref.result.now c.judge_next_leaf.new.numbers c.in_ok-judged-in-Leaf.judged) st.invariant.given
    (subst (λ (zs : List ℤ). IsJudgedLeaf found good n family_count
    (decisions_in st.case) zs c.deref.result.now c.judge_next_leaf.new.numbers c.in_ok-judged-in-Leaf.judged) c.deref_mut.ensures.value
    c.in_ok-judged-in-Leaf.ensures.judged)) in
    bad_here found good (g.J.LeafJudge.fits judge) n family_count given (steps_of all) st.numbers.items st.case.stack.items st.lowest st.leaf
    c.in-Leaf.changes.items _ _ c.in_ok-judged-in-Leaf.judged at judged c.in_default.is

-- plan: by the next step (`at_next`): a branch puts its taken pair on the stack (`at_branch`). A leaf lowers the bound,
-- and the next case opens (`after_found`)
pub steps-preserved : goal.steps-preserved
steps-preserved g c =
    let tree = c.args.tree.now in
    let judge = c.args.judge.now in
    let n : ℕ = g.J.LeafJudge.nodes judge in
    let family_count : ℕ = g.J.LeafJudge.family_count judge in
    let places : ℕ = g.J.LeafJudge.places judge in
    let found : List Decision × LeafNumbers → Option ℤ → Type 0 = g.J.LeafJudge.found judge in
    let good : LeafNumbers → Type 0 = g.J.LeafJudge.good judge in
    let fits : List Decision → Type 0 = g.J.LeafJudge.fits judge in
    let given : List Decision = tree.given.now in
    let all : List TreeStep = tree.steps.now in
    let told : List listed.Step = steps_of all in
    let st = c.steps in
    elim c.match-step.branch [
      | in-Branch+in_ok-take-in-Branch w ↦
          let at = at_next found good fits n family_count given all st.numbers.items st.case.stack.items st.lowest st.leaf
          st.step-index c.step-item.result
          (code.Branch w.in-Branch.first w.in-Branch.second) c.steps-test.true c.step-item.is w.in-Branch.is st.invariant.at in
          let items = w.in_ok-take-in-Branch.ensures.stack in
          let decision : Decision = record { pair = (w.in-Branch.first, w.in-Branch.second); taken = true } in
          let here : IsDecision tree.places decision = ∥∥₁_elim tree.steps_are (hlevel props) (λ each. own_step
          tree.places all st.step-index c.step-item.result
          (code.Branch w.in-Branch.first w.in-Branch.second) each c.steps-test.true c.step-item.is w.in-Branch.is) in
          let own = subst (λ (k : ℕ). IsDecision k decision) c.requires.places here in
          let longer = length_push st.case.stack.items decision in
          rw (w.memory-is, w.numbers-is, w.case-is, w.lowest-is, w.leaf-is) (record {
            at = inl (subst (λ (ds : List Decision). IsAtStep found good fits n family_count given told st.numbers.items
                (Some (stack_of ds)) st.lowest st.leaf (steps_of (drop (st.step-index + 1) all))) (sym items)
                (at_branch found good fits n family_count given told st.numbers.items st.case.stack.items st.lowest st.leaf
                w.in-Branch.first w.in-Branch.second _ at));
            memory = subst (λ (ds : List Decision). g.J.LeafJudge.holds judge w.enter.new.memory ds)
                (sym (one_above w.take.new.self st.case decision items (sym w.in_ok-take-in-Branch.ensures.given)))
                (w.enter.ensures (decisions_in st.case) st.invariant.memory);
            long = st.invariant.long;
            small = st.invariant.small;
            case = w.in_ok-take-in-Branch.ensures.case places st.invariant.case own;
            given = w.in_ok-take-in-Branch.ensures.given ∙ st.invariant.given;
            direction = w.in_ok-take-in-Branch.ensures.directed ∙ st.invariant.direction;
            few = omega (arith, ap length items, longer, st.invariant.few);
            leaves = omega (arith, st.invariant.leaves);
            sized = st.invariant.sized;
          })
      | in-Leaf+in_ok-judged-in-Leaf+in-Found+in_ok-next-in-Leaf w ↦
          let at = at_next found good fits n family_count given all st.numbers.items st.case.stack.items st.lowest st.leaf
          st.step-index c.step-item.result
          (code.Leaf w.in-Leaf.changes) c.steps-test.true c.step-item.is w.in-Leaf.is st.invariant.at in
          let judged = subst (λ (cs : List (ℕ × ℤ)). IsJudgedLeaf found good n family_count
          (stack_of st.case.stack.items ++ given) st.numbers.items cs w.judge_next_leaf.new.numbers w.in_ok-judged-in-Leaf.judged) w.deref.ensures.value
          (subst (λ (ds : List Decision). IsJudgedLeaf found good n family_count
          (stack_of st.case.stack.items ++ ds) st.numbers.items w.deref.result.now w.judge_next_leaf.new.numbers w.in_ok-judged-in-Leaf.judged) st.invariant.given
          (subst (λ (zs : List ℤ). IsJudgedLeaf found good n family_count
          (decisions_in st.case) zs w.deref.result.now w.judge_next_leaf.new.numbers w.in_ok-judged-in-Leaf.judged) w.deref_mut.ensures.value
          w.in_ok-judged-in-Leaf.ensures.judged)) in
          let now = written st.numbers.len w.judge_next_leaf.new.numbers _ (w.in_ok-judged-in-Leaf.ensures.numbers ∙ w.deref_mut.ensures.len) in
          let next = w.next.new.self.stack.items in
          let is_open = w.in_ok-next-in-Leaf.field-0 in
          rw (w.memory-is, w.numbers-is, w.case-is, w.lowest-is, w.leaf-is) (record {
            at = subst (λ (zs : List ℤ). IsPassing found good fits n family_count given told zs next w.lesser_bound-lowest.result (st.leaf + 1)
                (steps_of (drop (st.step-index + 1) all))) (sym now)
                (after_found found good fits n family_count given told st.numbers.items st.case.stack.items st.lowest
                st.leaf w.in-Leaf.changes.items _ w.judge_next_leaf.new.numbers is_open next
                w.in_ok-judged-in-Leaf.judged w.in-Found.own w.lesser_bound-lowest.result at judged w.in-Found.is w.lesser_bound-lowest.ensures
                w.in_ok-next-in-Leaf.ensures.next);
            memory = subst (λ (ds : List Decision). g.J.LeafJudge.holds judge w.leave.new.memory (stack_of next ++ ds)) (sym w.in_ok-next-in-Leaf.ensures.given)
                (w.leave.ensures st.case.given.now is_open next
                (subst (λ (ds : List Decision). g.J.LeafJudge.holds judge w.judge_next_leaf.new.memory (stack_of ds ++ st.case.given.now))
                (sym w.deref-in-Leaf.ensures.value) w.in_ok-judged-in-Leaf.ensures.memory)
                (subst (λ (ds : List Decision). All (IsDecision places) (stack_of ds ++ st.case.given.now)) (sym w.deref-in-Leaf.ensures.value) st.invariant.case.pairs)
                (subst (λ (ds : List Decision). IsNextStack ds is_open next) (sym w.deref-in-Leaf.ensures.value) w.in_ok-next-in-Leaf.ensures.next));
            long = ap length now ∙ w.in_ok-judged-in-Leaf.ensures.numbers ∙ ap length w.deref_mut.ensures.value ∙ st.invariant.long;
            small = subst AreSmall (sym now) (small_found found good fits n family_count given told st.numbers.items st.case.stack.items
                w.in-Leaf.changes.items w.judge_next_leaf.new.numbers w.in_ok-judged-in-Leaf.judged w.in-Found.own judged w.in-Found.is);
            case = w.in_ok-next-in-Leaf.ensures.case places st.invariant.case;
            given = w.in_ok-next-in-Leaf.ensures.given ∙ st.invariant.given;
            direction = w.in_ok-next-in-Leaf.ensures.directed ∙ st.invariant.direction;
            few = omega (arith, w.in_ok-next-in-Leaf.ensures.few, st.invariant.few);
            leaves = omega (arith, st.invariant.leaves);
            sized = low_sized st.lowest w.in-Found.own w.lesser_bound-lowest.result w.in_ok-judged-in-Leaf.judged st.invariant.sized
                w.in_ok-judged-in-Leaf.ensures.size w.in-Found.is w.lesser_bound-lowest.ensures;
          })
    ]

pub returns-clause-judged : goal.returns-clause-judged
returns-clause-judged g c =
    let tree = c.args.tree.now in
    let judge = c.args.judge.now in
    let st = c.steps in
    all_passed (g.J.LeafJudge.found judge) (g.J.LeafJudge.good judge) (g.J.LeafJudge.fits judge) (g.J.LeafJudge.nodes judge)
    (g.J.LeafJudge.family_count judge) tree.given.now tree.steps.now st.numbers.items st.case.stack.items st.lowest st.leaf st.step-index
    (omega (arith, c.steps-test.false)) st.invariant.at
