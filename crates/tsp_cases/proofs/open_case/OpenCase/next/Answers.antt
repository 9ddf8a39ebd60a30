-- The goals of `OpenCase::next` in src/open_case.rt, which goes from a leaf to the next open case: its loop, what its
-- calls require and what it ensures.
use Rattle.tsp_cases.proofs.Prelude.{◌∙◌, ◌∷◌, [], List, false, length, refl, ap, subst, arith, length-append, append-nil}
use Rattle.tsp_cases.specs.declared.decision.Decision.{Decision}
use Rattle.tsp_cases.specs.declared.open_case.OpenCase.{OpenCase}
use Rattle.tsp_cases.specs.Cases.{next_stack}
use Rattle.tsp_cases.specs.states.OpenCases.{IsDecision, stack_of, AreByNode, decisions_in}
use Rattle.tsp_cases.proofs.OpenCases.{next_avoided, one_above, case_less, case_more, case_same, first_pair}
use Rattle.tsp_cases.proofs.open_case.OpenCase.next.Goals as goal

-- plan: the avoided pairs above are dropped (`case_less`), and the topmost taken pair becomes avoided (`next_avoided`)
pub drop_last-requires : goal.drop_last-requires
drop_last-requires c =
    let old = c.leave.self in
    let last : Decision = c.in-Some.last in
    let popped : OpenCase = record { given = old.given; stack = c.pop.new.self; by_node = old.by_node } in
    let above = one_above old popped last c.in-Some.ensures.items refl in
    let is = c.leave.invariant.case c.requires.0 c.requires.1 in
    let pair : IsDecision c.requires.0 last = first_pair c.requires.0 old popped last is above in
    (omega (arith, is.by_node.places, pair.0.1), omega (arith, is.by_node.places, pair.1.1), pair.2)

pub add-requires : goal.add-requires
add-requires c =
    let old = c.leave.self in
    let last : Decision = c.in-Some.last in
    let popped : OpenCase = record { given = old.given; stack = c.pop.new.self; by_node = old.by_node } in
    let above = one_above old popped last c.in-Some.ensures.items refl in
    let is = c.leave.invariant.case c.requires.0 c.requires.1 in
    let pair : IsDecision c.requires.0 last = first_pair c.requires.0 old popped last is above in
    let long = c.drop_last.ensures.places in
    (omega (arith, is.by_node.places, pair.0.1, long), omega (arith, is.by_node.places, pair.1.1, long), pair.2)

pub returns-then-last-clause-case : goal.returns-then-last-clause-case
returns-then-last-clause-case c = λ n was.
    let old = c.leave.self in
    let last : Decision = c.in-Some.last in
    let popped : OpenCase = record { given = old.given; stack = c.pop.new.self; by_node = c.drop_last.new.self } in
    let above = one_above old popped last c.in-Some.ensures.items refl in
    let is = c.leave.invariant.case n was in
    let by_node : AreByNode n c.drop_last.new.self (decisions_in popped) =
    c.drop_last.ensures.less n (decisions_in popped) (subst (λ (ds : List Decision). AreByNode n old.by_node ds) above is.by_node) in
    let left = case_less n old popped last is above by_node in
    case_more n popped _ (record { pair = last.pair; taken = false }) left (first_pair n old popped last is above) c.in_ok-push.ensures.items refl
    (c.in_ok-add.ensures.more n (decisions_in popped) by_node)

pub leave-preserved : goal.leave-preserved
leave-preserved c =
    let old = c.leave.self in
    let last : Decision = c.in-Some.last in
    let popped : OpenCase = record { given = old.given; stack = c.pop.new.self; by_node = c.drop_last.new.self } in
    let items = c.in-Some.ensures.items in
    let above = one_above old popped last items refl in
    record {
      case = λ n was.
          let is = c.leave.invariant.case n was in
          case_less n old popped last is above (c.drop_last.ensures.less n (decisions_in popped) (subst (λ (ds : List Decision). AreByNode n old.by_node ds) above is.by_node));
      same = c.leave.invariant.same ∙ ap (λ (xs : List Decision). next_stack (stack_of xs)) items ∙ next_avoided last c.pop.new.self.items c.if-last.false;
      few = omega (arith, ap length items, length-append c.pop.new.self.items (last ∷ []), c.leave.invariant.few);
      given = c.leave.invariant.given;
      directed = c.drop_last.ensures.directed ∙ c.leave.invariant.directed;
    }

pub returns-clause-case : goal.returns-clause-case
returns-clause-case c = λ n was.
    let is = c.leave.invariant.case n was in
    case_same n c.leave.self _ is (c.in_default.ensures.items ∙ append-nil c.pop.new.self.items) refl is.by_node
