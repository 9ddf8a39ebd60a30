-- The goals of `run_leaf_verdict` in src/run_verdict.rt, which judges the leaves twice: what its calls require, and what it
-- ensures.
use Rattle.tsp_routing.proofs.Prelude.{◌≡◌, ◌∙◌, ◌+◌, ◌*◌, ◌<◌, ◌≤◌, ℕ, ℤ, List, [], length, Option, ap, sym, subst, arith, All, are_whole, IsStepOf, Decision, LeafNumbers, lent_in}
use Rattle.std.proofs.Math.Logic.{∥∥₁_elim}
use Rattle.std.proofs.Props.{props}
use Rattle.std.proofs.lemmas.Result.{IfOk-weaker}
use Rattle.tsp_format.specs.Steps as listed
use Rattle.tsp_format.specs.states.TreeSteps.{steps_of}
use Rattle.tsp_cases.specs.JudgedLeaves.{AreJudgedBy}
use Rattle.tsp_cases.specs.ListedCases.{AreGoodLeavesBy, IsFirstBadLeafBy}
use Rattle.tsp_routing.specs.PlanVerdicts.{most_entries}
use Rattle.tsp_routing.specs.RunTrees.{placed_steps, AreRunNumbers, AreGoodRunLeaves}
use Rattle.tsp_routing.specs.states.RunJudged.{AreRunsJudged, tree_in}
use Rattle.tsp_routing.proofs.RunJudging.{whole_placed, steps_placed, placed_long}
use Rattle.tsp_routing.proofs.VerdictOfLeaves.{all_good, verdict_of_judged_runs}
use Rattle.tsp_routing.proofs.run_verdict.run_leaf_verdict.Goals as goal

-- plan: the steps with places are one whole tree too; the first judge finds whether numbers are good, and the second one
-- whether states are few
pub judge_all_numbers-requires-clause-steps : goal.judge_all_numbers-requires-clause-steps
judge_all_numbers-requires-clause-steps g c =
    let s = c.args.context.now in
    let tree = c.args.tree.now in
    let n : ℕ = s.demands.nodes in
    let families : ℕ = length s.crossed.now in
    let steps = steps_of tree.steps.now in
    let placed : steps_of c.deref.result.now ≡ placed_steps n families steps = ap steps_of c.deref.ensures.value ∙ c.in_ok-steps.ensures in
    subst (λ (xs : List listed.Step). ∥ All (IsStepOf (n + families)) xs ∥₁) (sym placed)
    (∥∥₁_elim c.requires.steps (hlevel props) (λ each. ∣ steps_placed n families (n + families) steps each ∣₁))

pub judge_all_numbers-requires-clause-whole : goal.judge_all_numbers-requires-clause-whole
judge_all_numbers-requires-clause-whole g c =
    let s = c.args.context.now in
    let tree = c.args.tree.now in
    let n : ℕ = s.demands.nodes in
    let families : ℕ = length s.crossed.now in
    let steps = steps_of tree.steps.now in
    let placed : steps_of c.deref.result.now ≡ placed_steps n families steps = ap steps_of c.deref.ensures.value ∙ c.in_ok-steps.ensures in
    ap (are_whole 1) placed ∙ (whole_placed n families 1 steps ∙ tree.whole)

pub returns-then-entries-gt-MOST_ENTRIES-clause-verdict : goal.returns-then-entries-gt-MOST_ENTRIES-clause-verdict
returns-then-entries-gt-MOST_ENTRIES-clause-verdict g c =
    let s = c.args.context.now in
    let tree = c.args.tree.now in
    let n : ℕ = s.demands.nodes in
    let families : ℕ = length s.crossed.now in
    let steps = steps_of tree.steps.now in
    let placed : steps_of c.deref.result.now ≡ placed_steps n families steps = ap steps_of c.deref.ensures.value ∙ c.in_ok-steps.ensures in
    let rows : ℕ = length tree.rows.now in
    let cost = g.C.Costs.at s.costs.now in
    let good : AreGoodRunLeaves n families rows steps = subst (AreGoodLeavesBy (AreRunNumbers n families rows) n (families + rows)) placed
    (all_good (λ (leaf : List Decision × LeafNumbers) (own : Option ℤ). Unit {0}) (AreRunNumbers n families rows) n (families + rows) [] (steps_of c.deref.result.now) c.in_ok-numbers.numbers
    c.in_ok-numbers.ensures c.in_default.not-BadLeaf) in
    let entries = c.entries.ensures ∙ ap (λ (room : ℕ). n * (room + 1)) (s.loads.room_is cost) in
    (good, subst (λ (k : ℕ). most_entries < k) entries c.if-entries-gt-MOST_ENTRIES.true)

pub judge_all_runs-requires-clause-steps : goal.judge_all_runs-requires-clause-steps
judge_all_runs-requires-clause-steps g c =
    let s = c.args.context.now in
    let tree = c.args.tree.now in
    let n : ℕ = s.demands.nodes in
    let families : ℕ = length s.crossed.now in
    let steps = steps_of tree.steps.now in
    let placed : steps_of c.deref-2.result.now ≡ placed_steps n families steps = ap steps_of c.deref-2.ensures.value ∙ c.in_ok-steps.ensures in
    subst (λ (xs : List listed.Step). ∥ All (IsStepOf (n + families)) xs ∥₁) (sym placed)
    (∥∥₁_elim c.requires.steps (hlevel props) (λ each. ∣ steps_placed n families (n + families) steps each ∣₁))

pub judge_all_runs-requires-clause-whole : goal.judge_all_runs-requires-clause-whole
judge_all_runs-requires-clause-whole g c =
    let s = c.args.context.now in
    let tree = c.args.tree.now in
    let n : ℕ = s.demands.nodes in
    let families : ℕ = length s.crossed.now in
    let steps = steps_of tree.steps.now in
    let placed : steps_of c.deref-2.result.now ≡ placed_steps n families steps = ap steps_of c.deref-2.ensures.value ∙ c.in_ok-steps.ensures in
    ap (are_whole 1) placed ∙ (whole_placed n families 1 steps ∙ tree.whole)

pub returns-clause-verdict : goal.returns-clause-verdict
returns-clause-verdict g c =
    let s = c.args.context.now in
    let tree = c.args.tree.now in
    let n : ℕ = s.demands.nodes in
    let families : ℕ = length s.crossed.now in
    let steps = steps_of tree.steps.now in
    let placed : steps_of c.deref.result.now ≡ placed_steps n families steps = ap steps_of c.deref.ensures.value ∙ c.in_ok-steps.ensures in
    let placed_again : steps_of c.deref-2.result.now ≡ placed_steps n families steps = ap steps_of c.deref-2.ensures.value ∙ c.in_ok-steps.ensures in
    let rows : ℕ = length tree.rows.now in
    let cost = g.C.Costs.at s.costs.now in
    let good : AreGoodRunLeaves n families rows steps = subst (AreGoodLeavesBy (AreRunNumbers n families rows) n (families + rows)) placed
    (all_good (λ (leaf : List Decision × LeafNumbers) (own : Option ℤ). Unit {0}) (AreRunNumbers n families rows) n (families + rows) [] (steps_of c.deref.result.now) c.in_ok-numbers.numbers
    c.in_ok-numbers.ensures c.in_default.not-BadLeaf) in
    let entries = c.entries.ensures ∙ ap (λ (room : ℕ). n * (room + 1)) (s.loads.room_is cost) in
    let few = subst (λ (k : ℕ). k ≤ most_entries) entries c.if-entries-gt-MOST_ENTRIES.false in
    let all = tree_in s.demands cost s.scale s.unit s.units.now.light s.crossed.now (lent_in s.families.now) tree.near.now tree.rows.now in
    IfOk-weaker c.judge_all_runs.result _ _ (λ found judged.
    verdict_of_judged_runs all steps found good few (subst (λ (xs : List listed.Step). AreRunsJudged all xs found) placed_again judged))
    c.judge_all_runs.ensures.judged

pub judge_all_numbers-requires-clause-few : goal.judge_all_numbers-requires-clause-few
judge_all_numbers-requires-clause-few g c =
    let s = c.args.context.now in
    let tree = c.args.tree.now in
    let placed : steps_of c.deref.result.now ≡ placed_steps s.demands.nodes (length s.crossed.now) (steps_of tree.steps.now) =
    ap steps_of c.deref.ensures.value ∙ c.in_ok-steps.ensures in
    let long = placed_long s.demands.nodes (length s.crossed.now) c.deref.result.now tree.steps.now placed in
    let most = tree.few_steps in omega (arith, long, most)

pub judge_all_runs-requires-clause-few : goal.judge_all_runs-requires-clause-few
judge_all_runs-requires-clause-few g c =
    let s = c.args.context.now in
    let tree = c.args.tree.now in
    let placed : steps_of c.deref-2.result.now ≡ placed_steps s.demands.nodes (length s.crossed.now) (steps_of tree.steps.now) =
    ap steps_of c.deref-2.ensures.value ∙ c.in_ok-steps.ensures in
    let long = placed_long s.demands.nodes (length s.crossed.now) c.deref-2.result.now tree.steps.now placed in
    let most = tree.few_steps in omega (arith, long, most)

pub judge_all_runs-requires-clause-memory : goal.judge_all_runs-requires-clause-memory
judge_all_runs-requires-clause-memory g c = c.requires.memory

pub judge_all_runs-requires-clause-near : goal.judge_all_runs-requires-clause-near
judge_all_runs-requires-clause-near g c = c.requires.near

pub returns-in-BadLeaf-clause-verdict : goal.returns-in-BadLeaf-clause-verdict
returns-in-BadLeaf-clause-verdict g c =
    let s = c.args.context.now in
    let tree = c.args.tree.now in
    let n : ℕ = s.demands.nodes in
    let families : ℕ = length s.crossed.now in
    let steps = steps_of tree.steps.now in
    let placed : steps_of c.deref.result.now ≡ placed_steps n families steps = ap steps_of c.deref.ensures.value ∙ c.in_ok-steps.ensures in
    let rows : ℕ = length tree.rows.now in
    subst (λ (xs : List listed.Step). IsFirstBadLeafBy (AreRunNumbers n families rows) n (families + rows) xs c.in-BadLeaf.leaf) placed
    (subst (AreJudgedBy (λ (leaf : List Decision × LeafNumbers) (own : Option ℤ). Unit {0}) (AreRunNumbers n families rows) n (families + rows) []
    (steps_of c.deref.result.now)) c.in-BadLeaf.is c.in_ok-numbers.ensures)

pub returns-clause-size : goal.returns-clause-size
returns-clause-size g c = c.judge_all_runs.ensures.size
