-- The goals of `first_twice` in src/case_tree.rt, which finds the first branch on a pair that is decided already: its
-- loop, what its calls require and what it ensures.
use Rattle.tsp_cases.proofs.Prelude.{◌∙◌, ◌+◌, ℕ, Bool, true, false, List, drop, arith, sym, subst, All, ∥∥₁_elim, props, TreeStep, steps_of}
use Rattle.tsp_format.specs.declared.steps.TreeStep.TheVariants as code
use Rattle.tsp_format.specs.Steps as listed
use Rattle.tsp_cases.specs.declared.decision.Decision.{Decision}
use Rattle.tsp_cases.specs.states.OpenCases.{IsDecision, IsNextStack, stack_of, IsOpenCase}
use Rattle.tsp_cases.proofs.TreeBranches.{IsOnceSoFar, once_at_start, once_next, once_pushed, twice_found, once_at_leaf, once_at_last, once_at_end, decided_here}
use Rattle.tsp_cases.proofs.Passes.{own_step}
use Rattle.tsp_cases.proofs.case_tree.first_twice.Goals as goal
use Rattle.tsp_cases.proofs.case_tree.first_twice.Goals.{in-Branch+else-decides+in_ok-take-in-Branch, in-Leaf+in_ok-next-in-Leaf+else-not-branch}

pub new-requires : goal.new-requires
new-requires g c = subst (λ (k : ℕ). All (IsDecision k) c.args.tree.now.given.now) (sym c.count-nodes.ensures.value) c.args.tree.now.given_are

pub steps-init : goal.steps-init
steps-init g c =
    let tree = c.args.tree.now in
    let told : List listed.Step = steps_of tree.steps.now in
    record {
      so_far = subst (λ (ds : List Decision). IsOnceSoFar tree.directed tree.given.now told (stack_of ds) 0 told) (sym c.in_ok-case.ensures.stack)
          (once_at_start tree.directed tree.given.now told tree.given_once);
      case = subst (λ (k : ℕ). IsOpenCase k c.in_ok-case.case) c.count-nodes.ensures.value c.in_ok-case.ensures.case;
      given = c.in_ok-case.ensures.given;
      direction = c.in_ok-case.ensures.directed;
      few = omega arith;
    }

pub decides-requires : goal.decides-requires
decides-requires g c =
    let tree = c.args.tree.now in
    let n : ℕ = g.C.Costs.nodes tree.costs.now in
    let own : IsDecision n (record { pair = (c.in-Branch.first, c.in-Branch.second); taken = true }) = ∥∥₁_elim c.requires (hlevel props) (λ each. own_step
    n tree.steps.now c.steps.step-index c.step-item.result (code.Branch c.in-Branch.first c.in-Branch.second) each c.steps-test.true c.step-item.is c.in-Branch.is) in
    (n, c.steps.invariant.case, own.0.1)

pub take-requires : goal.take-requires
take-requires g c =
    let tree = c.args.tree.now in
    let n : ℕ = g.C.Costs.nodes tree.costs.now in
    let own : IsDecision n (record { pair = (c.in-Branch.first, c.in-Branch.second); taken = true }) = ∥∥₁_elim c.requires (hlevel props) (λ each. own_step
    n tree.steps.now c.steps.step-index c.step-item.result (code.Branch c.in-Branch.first c.in-Branch.second) each c.steps-test.true c.step-item.is c.in-Branch.is) in
    record { case = (n, c.steps.invariant.case, own) }

pub returns-then-decides : goal.returns-then-decides
returns-then-decides g c =
    let tree = c.args.tree.now in
    let all : List TreeStep = tree.steps.now in
    let st = c.steps in
    let at = once_next tree.directed tree.given.now all (stack_of st.case.stack.items) st.count st.step-index c.step-item.result (code.Branch c.in-Branch.first c.in-Branch.second)
    c.steps-test.true c.step-item.is c.in-Branch.is st.invariant.so_far in
    let is = decided_here tree.directed tree.given.now st.case (c.in-Branch.first, c.in-Branch.second) true st.invariant.given st.invariant.direction (sym c.if-decides.true ∙ c.decides.ensures) in
    twice_found tree.directed tree.given.now (steps_of all) st.case.stack.items st.count c.in-Branch.first c.in-Branch.second (steps_of (drop (st.step-index + 1) all)) at is

pub returns-then-not-branch : goal.returns-then-not-branch
returns-then-not-branch g c =
    let tree = c.args.tree.now in
    let all : List TreeStep = tree.steps.now in
    let st = c.steps in
    let at = once_next tree.directed tree.given.now all (stack_of st.case.stack.items) st.count st.step-index c.step-item.result (code.Leaf c.in-Leaf.field-0)
    c.steps-test.true c.step-item.is c.in-Leaf.is st.invariant.so_far in
    let none = subst (λ (b : Bool). IsNextStack st.case.stack.items b c.next.new.self.stack.items) c.if-not-branch.true c.in_ok-next-in-Leaf.ensures.next in
    once_at_last tree.directed tree.given.now (steps_of all) (stack_of st.case.stack.items) st.count c.in-Leaf.field-0.items (steps_of (drop (st.step-index + 1) all)) at none.0

-- plan: by the next step: a branch on a new pair adds a decision (`once_pushed`); after a leaf the next case opens
-- (`once_at_leaf`)
pub steps-preserved : goal.steps-preserved
steps-preserved g c =
    let tree = c.args.tree.now in
    let n : ℕ = g.C.Costs.nodes tree.costs.now in
    let given : List Decision = tree.given.now in
    let all : List TreeStep = tree.steps.now in
    let told : List listed.Step = steps_of all in
    let st = c.steps in
    let items : List Decision = st.case.stack.items in
    let rest : List listed.Step = steps_of (drop (st.step-index + 1) all) in
    elim c.match-step.branch [
      | in-Branch+else-decides+in_ok-take-in-Branch w ↦
          let at = once_next tree.directed given all (stack_of items) st.count st.step-index c.step-item.result (code.Branch w.in-Branch.first w.in-Branch.second)
          c.steps-test.true c.step-item.is w.in-Branch.is st.invariant.so_far in
          let own : IsDecision n (record { pair = (w.in-Branch.first, w.in-Branch.second); taken = true }) = ∥∥₁_elim c.requires (hlevel props) (λ each. own_step
          n all st.step-index c.step-item.result (code.Branch w.in-Branch.first w.in-Branch.second) each c.steps-test.true c.step-item.is w.in-Branch.is) in
          let is = decided_here tree.directed given st.case (w.in-Branch.first, w.in-Branch.second) false st.invariant.given st.invariant.direction (sym w.if-decides.false ∙ w.decides.ensures) in
          rw (w.case-is, w.count-is) (record {
            so_far = once_pushed tree.directed given told items w.take.new.self.stack.items st.count w.in-Branch.first w.in-Branch.second rest at is
                w.in_ok-take-in-Branch.ensures.stack;
            case = w.in_ok-take-in-Branch.ensures.case n st.invariant.case own;
            given = w.in_ok-take-in-Branch.ensures.given ∙ st.invariant.given;
            direction = w.in_ok-take-in-Branch.ensures.directed ∙ st.invariant.direction;
            few = omega (arith, st.invariant.few);
          })
      | in-Leaf+in_ok-next-in-Leaf+else-not-branch w ↦
          let at = once_next tree.directed given all (stack_of items) st.count st.step-index c.step-item.result (code.Leaf w.in-Leaf.field-0)
          c.steps-test.true c.step-item.is w.in-Leaf.is st.invariant.so_far in
          let next = subst (λ (b : Bool). IsNextStack items b w.next.new.self.stack.items) w.if-not-branch.false w.in_ok-next-in-Leaf.ensures.next in
          rw (w.case-is, w.count-is) (record {
            so_far = once_at_leaf tree.directed given told (stack_of items) st.count w.in-Leaf.field-0.items rest (stack_of w.next.new.self.stack.items) at next;
            case = w.in_ok-next-in-Leaf.ensures.case n st.invariant.case;
            given = w.in_ok-next-in-Leaf.ensures.given ∙ st.invariant.given;
            direction = w.in_ok-next-in-Leaf.ensures.directed ∙ st.invariant.direction;
            few = omega (arith, st.invariant.few);
          })
    ]

pub returns : goal.returns
returns g c =
    let tree = c.args.tree.now in
    once_at_end tree.directed tree.given.now tree.steps.now (stack_of c.steps.case.stack.items) c.steps.count c.steps.step-index c.steps.invariant.so_far
    (omega (arith, c.steps-test.false))
