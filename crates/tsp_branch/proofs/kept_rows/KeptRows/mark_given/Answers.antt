-- The goals of `KeptRows::mark_given` in src/kept_rows.rt, which marks the given decisions in the kept rows: its loop, what
-- its calls require and what it ensures.
use Rattle.tsp_branch.proofs.Prelude.{◌≡◌, ◌∙◌, ◌+◌, ◌-◌, ◌<◌, ℕ, List, ◌∷◌, false, drop, get_or, length, ap, sym, subst, arith, drop-cons, add-one, drop_all}
use Rattle.tsp_cases.specs.declared.decision.Decision.{Decision}
use Rattle.tsp_cases.specs.states.OpenCases.{marks_in}
use Rattle.tsp_branch.specs.states.KeptRows.{HoldsRows}
use Rattle.tsp_branch.proofs.kept_rows.KeptRows.mark_given.Goals as goal

-- plan: from the last given decision on, each one more is marked, as the call of `mark` ensures
pub given-init : goal.given-init
given-init c =
    let given : List Decision = c.args.cases.now.given.now in
    record {
      most = omega arith;
      kept = λ n weighted scale families cost held each.
          subst (λ (ds : List Decision). HoldsRows n weighted scale families cost (marks_in c.args.cases.now.directed ds) c.args.self.now)
          (sym (drop_all (length given) given (omega arith))) held;
    }

pub mark-requires : goal.mark-requires
mark-requires c =
    let st = c.given in
    let given : List Decision = c.args.cases.now.given.now in
    let r = c.requires in
    let left : ℕ = st.left - 1 in
    let lt : left < length given = omega (arith, c.given-test.true, st.invariant.most) in
    (r.0, r.1, r.2, r.3, r.4, drop st.left given, st.invariant.kept r.0 r.1 r.2 r.3 r.4 r.5 r.6, r.6 left (record { pair = (0, 0); taken = false }) lt)

pub given-preserved : goal.given-preserved
given-preserved c =
    let st = c.given in
    let given : List Decision = c.args.cases.now.given.now in
    let directed = c.args.cases.now.directed in
    let left : ℕ = st.left - 1 in
    let one : st.left ≡ left + 1 = omega (arith, c.given-test.true) in
    let lt : left < length given = omega (arith, c.given-test.true, st.invariant.most) in
    let default : Decision = record { pair = (0, 0); taken = false } in
    let parts : drop left given ≡ get_or given left default ∷ drop st.left given =
    drop-cons given left default lt ∙ ap (λ (k : ℕ). get_or given left default ∷ drop k given) (sym (one ∙ add-one left)) in
    record {
      most = omega (arith, st.invariant.most);
      kept = λ n weighted scale families cost held each.
          subst (λ (ds : List Decision). HoldsRows n weighted scale families cost (marks_in directed ds) c.mark.new.self) (sym parts)
          (c.mark.ensures n weighted scale families cost (drop st.left given) (st.invariant.kept n weighted scale families cost held each)
          (each left default lt));
    }

pub returns : goal.returns
returns c = λ n weighted scale families cost held each.
    let none : c.given.left ≡ 0 = omega (arith, c.given-test.false) in
    subst (λ (k : ℕ). HoldsRows n weighted scale families cost (marks_in c.args.cases.now.directed (drop k c.args.cases.now.given.now)) c.given.self) none
    (c.given.invariant.kept n weighted scale families cost held each)
