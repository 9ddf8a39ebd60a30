-- The goals of `KeptRows::leave` in src/kept_rows.rt, which moves the marks of decisions to the next case: its loop, what
-- its calls require and what it ensures.
use Rattle.tsp_branch.proofs.Prelude.{◌≡◌, ◌∙◌, ◌+◌, ◌-◌, ◌++◌, ◌∷◌, ℕ, Bool, List, None, true, false, take, get_or, length, refl, ap, sym, subst, arith, All, take_all, All-from_recursion, recursion_from_All}
use Rattle.tsp_cases.specs.declared.decision.Decision.{Decision}
use Rattle.tsp_cases.specs.Cases.{next_stack}
use Rattle.tsp_cases.specs.states.OpenCases.{IsDecision, marks_in, stack_of}
use Rattle.tsp_branch.specs.states.KeptRows.{HoldsRows}
use Rattle.tsp_branch.proofs.RowsKept.{same_marks, directed_same, stack_to, turned_next, none_next}
use Rattle.tsp_branch.proofs.kept_rows.KeptRows.leave.Goals as goal

pub returns-then-directed : goal.returns-then-directed
returns-then-directed c = λ n weighted scale families cost given is_open next held pairs is.
    same_marks n weighted scale families cost _ _ _ (λ i x. directed_same c.args.directed _ _ i x c.if-directed.true) held

pub leave-init : goal.leave-init
leave-init c =
    let stack : List Decision = c.args.stack.now in
    let whole = sym (take_all (length stack) stack (omega arith)) in
    record {
      most = omega arith;
      same = ap (λ (ds : List Decision). next_stack (stack_of ds)) whole;
      pairs = λ n given all. subst (λ (ds : List Decision). All (IsDecision n) (stack_of ds ++ given)) whole all;
      kept = λ n weighted scale families cost given held all.
          subst (λ (ds : List Decision). HoldsRows n weighted scale families cost (marks_in false (stack_of ds ++ given)) c.args.self.now) whole held;
    }

pub unmark-requires : goal.unmark-requires
unmark-requires c =
    let st = c.leave in
    let r = c.requires in
    let stack : List Decision = c.args.stack.now in
    let left : ℕ = st.left - 1 in
    let last : Decision = get_or stack left (record { pair = (0, 0); taken = false }) in
    let rest : List Decision = stack_of (take left stack) in
    let one : st.left ≡ left + 1 = omega (arith, c.leave-test.true) in
    let parts : stack_of (take st.left stack) ≡ last ∷ rest =
    ap (λ (k : ℕ). stack_of (take k stack)) one ∙ stack_to stack left (record { pair = (0, 0); taken = false }) (omega (arith, c.leave-test.true, st.invariant.most)) in
    let held = subst (λ (d : Bool). HoldsRows r.0 r.1 r.2 r.3 r.4 (marks_in d (stack_of stack ++ r.5)) c.args.self.now) c.if-directed.false r.6 in
    let here = subst (λ (ds : List Decision). HoldsRows r.0 r.1 r.2 r.3 r.4 (marks_in false (ds ++ r.5)) st.self) parts
    (st.invariant.kept r.0 r.1 r.2 r.3 r.4 r.5 held r.7) in
    let pairs = recursion_from_All (IsDecision r.0) (last ∷ rest ++ r.5)
    (subst (λ (ds : List Decision). All (IsDecision r.0) (ds ++ r.5)) parts (st.invariant.pairs r.0 r.5 r.7)) in
    (r.0, r.1, r.2, r.3, r.4, rest ++ r.5, here, pairs.0)

pub mark-requires : goal.mark-requires
mark-requires c =
    let st = c.leave in
    let r = c.requires in
    let stack : List Decision = c.args.stack.now in
    let left : ℕ = st.left - 1 in
    let last : Decision = get_or stack left (record { pair = (0, 0); taken = false }) in
    let rest : List Decision = stack_of (take left stack) in
    let one : st.left ≡ left + 1 = omega (arith, c.leave-test.true) in
    let parts : stack_of (take st.left stack) ≡ last ∷ rest =
    ap (λ (k : ℕ). stack_of (take k stack)) one ∙ stack_to stack left (record { pair = (0, 0); taken = false }) (omega (arith, c.leave-test.true, st.invariant.most)) in
    let held = subst (λ (d : Bool). HoldsRows r.0 r.1 r.2 r.3 r.4 (marks_in d (stack_of stack ++ r.5)) c.args.self.now) c.if-directed.false r.6 in
    let here = subst (λ (ds : List Decision). HoldsRows r.0 r.1 r.2 r.3 r.4 (marks_in false (ds ++ r.5)) st.self) parts
    (st.invariant.kept r.0 r.1 r.2 r.3 r.4 r.5 held r.7) in
    let pairs = recursion_from_All (IsDecision r.0) (last ∷ rest ++ r.5)
    (subst (λ (ds : List Decision). All (IsDecision r.0) (ds ++ r.5)) parts (st.invariant.pairs r.0 r.5 r.7)) in (
      r.0,
      r.1,
      r.2,
      r.3,
      r.4,
      rest ++ r.5,
      subst (λ (d : Bool). HoldsRows r.0 r.1 r.2 r.3 r.4 (marks_in d (rest ++ r.5)) c.unmark.new.self) (sym c.if-directed.false)
          (c.unmark.ensures r.0 r.1 r.2 r.3 r.4 (rest ++ r.5) here pairs.0),
      pairs.0,
    )

-- plan: the marks of the topmost decisions are taken off one by one (`stack_to`), up to the last taken pair, which is
-- marked as avoided (`turned_next`)
pub returns-then-last : goal.returns-then-last
returns-then-last c = λ n weighted scale families cost given is_open next held all is.
    let st = c.leave in
    let stack : List Decision = c.args.stack.now in
    let left : ℕ = st.left - 1 in
    let last : Decision = get_or stack left (record { pair = (0, 0); taken = false }) in
    let rest : List Decision = stack_of (take left stack) in
    let one : st.left ≡ left + 1 = omega (arith, c.leave-test.true) in
    let parts : stack_of (take st.left stack) ≡ last ∷ rest =
    ap (λ (k : ℕ). stack_of (take k stack)) one ∙ stack_to stack left (record { pair = (0, 0); taken = false }) (omega (arith, c.leave-test.true, st.invariant.most)) in
    let both = subst (λ (d : Bool). HoldsRows n weighted scale families cost (marks_in d (stack_of stack ++ given)) c.args.self.now) c.if-directed.false held in
    let here = subst (λ (ds : List Decision). HoldsRows n weighted scale families cost (marks_in false (ds ++ given)) st.self) parts
    (st.invariant.kept n weighted scale families cost given both all) in
    let pairs = recursion_from_All (IsDecision n) (last ∷ rest ++ given)
    (subst (λ (ds : List Decision). All (IsDecision n) (ds ++ given)) parts (st.invariant.pairs n given all)) in
    let left_off = subst (λ (d : Bool). HoldsRows n weighted scale families cost (marks_in d (rest ++ given)) c.unmark.new.self) (sym c.if-directed.false)
    (c.unmark.ensures n weighted scale families cost (rest ++ given) here pairs.0) in
    let same : next_stack (stack_of stack) ≡ next_stack (last ∷ rest) = st.invariant.same ∙ ap next_stack parts in
    subst (λ (ds : List Decision). HoldsRows n weighted scale families cost (marks_in c.args.directed (ds ++ given)) c.mark.new.self)
    (sym (turned_next stack next rest last is_open c.if-last.true same is))
    (c.mark.ensures n weighted scale families cost (rest ++ given) left_off pairs.0)

pub leave-preserved : goal.leave-preserved
leave-preserved c =
    let st = c.leave in
    let stack : List Decision = c.args.stack.now in
    let left : ℕ = st.left - 1 in
    let last : Decision = get_or stack left (record { pair = (0, 0); taken = false }) in
    let rest : List Decision = stack_of (take left stack) in
    let one : st.left ≡ left + 1 = omega (arith, c.leave-test.true) in
    let parts : stack_of (take st.left stack) ≡ last ∷ rest =
    ap (λ (k : ℕ). stack_of (take k stack)) one ∙ stack_to stack left (record { pair = (0, 0); taken = false }) (omega (arith, c.leave-test.true, st.invariant.most)) in
    let all = λ (n : ℕ) (given : List Decision) (own : All (IsDecision n) (stack_of stack ++ given)). recursion_from_All (IsDecision n) (last ∷ rest ++ given)
    (subst (λ (ds : List Decision). All (IsDecision n) (ds ++ given)) parts (st.invariant.pairs n given own)) in
    record {
      most = omega (arith, st.invariant.most);
      same = st.invariant.same ∙ ap next_stack parts ∙ rw c.if-last.false refl;
      pairs = λ n given own. All-from_recursion (IsDecision n) (rest ++ given) (all n given own).1;
      kept = λ n weighted scale families cost given held own.
          let here = subst (λ (ds : List Decision). HoldsRows n weighted scale families cost (marks_in false (ds ++ given)) st.self) parts
          (st.invariant.kept n weighted scale families cost given held own) in
          c.unmark.ensures n weighted scale families cost (rest ++ given) here (all n given own).0;
    }

pub returns : goal.returns
returns c = λ n weighted scale families cost given is_open next held all is.
    let st = c.leave in
    let stack : List Decision = c.args.stack.now in
    let none : st.left ≡ 0 = omega (arith, c.leave-test.false) in
    let past : next_stack (stack_of stack) ≡ None = st.invariant.same ∙ ap (λ (k : ℕ). next_stack (stack_of (take k stack))) none in
    let both = subst (λ (d : Bool). HoldsRows n weighted scale families cost (marks_in d (stack_of stack ++ given)) c.args.self.now) c.if-directed.false held in
    subst (λ (d : Bool). HoldsRows n weighted scale families cost (marks_in d (stack_of next ++ given)) st.self) (sym c.if-directed.false)
    (subst (λ (ds : List Decision). HoldsRows n weighted scale families cost (marks_in false (stack_of ds ++ given)) st.self)
    (ap (λ (k : ℕ). take k stack) none ∙ sym (none_next stack next is_open past is))
    (st.invariant.kept n weighted scale families cost given both all))
