-- The goals of `judge_cases` in src/case_tree.rt, which finds the first bad branch of a certificate: the facts of the
-- values that it makes, what its calls require and what it ensures.
use Rattle.tsp_cases.proofs.Prelude.{ℕ, refl, sym, subst, arith, None, All, ∥∥₁_elim, props, steps_of, IsScale, same_scale}
use Rattle.tsp_cases.specs.ListedCases.{IsListedStep, branch_pairs, BeginsWithin, AreBranchesWithin, AreBranchesJudged}
use Rattle.tsp_cases.specs.states.OpenCases.{IsDecision}
use Rattle.tsp_cases.proofs.TreeBranches.{steps_on_nodes}
use Rattle.tsp_cases.proofs.case_tree.judge_cases.Goals as goal

-- plan: if no branch begins out of the limits, all pairs are of nodes (`steps_on_nodes`). Whether one is decided
-- twice the call ensures
pub first_twice-requires : goal.first_twice-requires
first_twice-requires g c =
    let steps = steps_of c.args.tree.now.steps.now in
    let n : ℕ = g.C.Costs.nodes c.args.tree.now.costs.now in
    let within = subst (λ (m : ℕ). All (BeginsWithin 1 m) (branch_pairs steps)) c.count-nodes.ensures.value c.in_default.ensures.1 in
    ∥∥₁_elim c.args.tree.now.steps_are (hlevel props) (λ each. ∣ steps_on_nodes n steps each within ∣₁)

pub invariant_of-result : goal.invariant_of-result
invariant_of-result g c =
    let tree = c.args.tree.now in
    let steps = steps_of tree.steps.now in
    let count_is = sym c.count-nodes.ensures.value in
    record {
      few_nodes = omega (arith, c.count-nodes.ensures.most);
      scaled = subst IsScale (sym (same_scale tree.scale tree.scaled)) tree.scaled;
      few_given = tree.few_given;
      few_steps = tree.few_steps;
      given_are = subst (λ (n : ℕ). All (IsDecision n) tree.given.now) count_is tree.given_are;
      steps_are = ∥∥₁_elim tree.steps_are (hlevel props) (λ each. ∣ steps_on_nodes c.count-nodes.result steps
          (subst (λ (n : ℕ). All (IsListedStep n) steps) count_is each) c.in_default.ensures.1 ∣₁);
      whole = tree.whole;
      once = (subst (AreBranchesJudged tree.directed tree.given.now steps) c.in_default-2.is c.in_ok-branch.ensures).1;
    }

pub returns : goal.returns
returns g c =
    let tree = c.args.tree.now in
    let steps = steps_of tree.steps.now in (
      record {
        nodes = c.count-nodes.ensures.value;
        direction = refl;
        scale_is = same_scale tree.scale tree.scaled;
        given_are = refl;
        steps_are = refl;
      },
      subst (λ (m : ℕ). AreBranchesWithin 1 m steps None) c.count-nodes.ensures.value c.in_default.ensures,
      subst (AreBranchesJudged tree.directed tree.given.now steps) c.in_default-2.is c.in_ok-branch.ensures,
    )
