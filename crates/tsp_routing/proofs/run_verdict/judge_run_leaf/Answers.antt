-- The goals of `judge_run_leaf` in src/run_verdict.rt, which bounds the leaf with these numbers, if they are good: the facts of
-- the leaf that it makes, what its calls require, and what it ensures.
use Rattle.tsp_routing.proofs.Prelude.{◌≡◌, ◌∙◌, ◌+◌, ◌*ℤ◌, ℕ, ℤ, List, map, length, take, drop, refl, ap, sym, subst, pos, rules, FitsSigned, to_z-of_z, w128, length-map, false≢true, entry, families_with, lent_in, as_leaf_numbers, decisions_in}
use Rattle.std.proofs.Math.Logic.{∥∥₁_elim}
use Rattle.std.proofs.Props.{props}
use Rattle.tsp_format.specs.Steps.{SubsetRow}
use Rattle.tsp_format.specs.states.TreeSteps.{subset_row_of}
use Rattle.tsp_cases.specs.states.Sets.{AreMoved}
use Rattle.tsp_routing.specs.RunBounds.{leaf_rules, IsRunBound}
use Rattle.tsp_routing.specs.RunTrees.{near_of, charged_rows}
use Rattle.tsp_routing.specs.states.Demands.{loads_problem}
use Rattle.tsp_routing.specs.states.KeptLists.{IsFoundIfFew}
use Rattle.tsp_routing.specs.states.RunJudged.{tree_in}
use Rattle.tsp_routing.specs.states.RunTables.{item_lists}
use Rattle.tsp_routing.proofs.RunJudging.{run_numbers_read, leaf_read, plan_read, sizes_read, signs_read, count_read, sets_of_charged, charges_of_charged, signs_of_charged, many_found, few_found}
use Rattle.tsp_routing.proofs.run_verdict.judge_run_leaf.Goals as goal

-- plan: the numbers that were judged are those of the leaf (`leaf_read`), so what is found with them is found of its case
pub returns-then-not-judge_run_numbers-clause-judged : goal.returns-then-not-judge_run_numbers-clause-judged
returns-then-not-judge_run_numbers-clause-judged g c = λ few.
    let judge = c.args.judge.now in
    let s = judge.context.now in
    let n : ℕ = s.demands.nodes in
    let families : ℕ = length s.crossed.now in
    let rows : ℕ = length judge.tree.now.rows.now in
    let room = c.args.room.now in
    let numbers : List ℤ = c.args.numbers.now in
    let good = run_numbers_read (length room.potentials.items) n families rows numbers (sym c.requires.room.potentials) few.good in
    false≢true ((c.if-not-judge_run_numbers.ensures.good rows (sym c.requires.room.multipliers)).1 good)

pub moved_of-requires : goal.moved_of-requires
moved_of-requires g c =
    let judge = c.args.judge.now in
    let s = judge.context.now in
    let n : ℕ = s.demands.nodes in
    let families : ℕ = length s.crossed.now in
    let rows : ℕ = length judge.tree.now.rows.now in
    let room = c.args.room.now in
    let numbers : List ℤ = c.args.numbers.now in
    let potentials : List ℤ = c.deref-2.result.now in
    let multipliers : List ℤ = c.split_at.result.0.now in
    let charges : List ℤ = c.split_at.result.1.now in
    let read = leaf_read n (length room.potentials.items) families rows numbers c.deref.result.now potentials multipliers charges
    c.requires.room.potentials ((c.if-not-judge_run_numbers.ensures.good rows (sym c.requires.room.multipliers)).0 refl)
    (c.deref-2.ensures.value ∙ c.if-not-judge_run_numbers.ensures.potentials refl)
    (c.deref.ensures.value ∙ c.if-not-judge_run_numbers.ensures.multipliers refl) c.split_at.ensures.front c.split_at.ensures.back in
    record { numbers = plan_read n families rows numbers potentials multipliers charges read }

pub invariant_of-leaf : goal.invariant_of-leaf
invariant_of-leaf g c =
    let judge = c.args.judge.now in
    let s = judge.context.now in
    let n : ℕ = s.demands.nodes in
    let families : ℕ = length s.crossed.now in
    let rows : ℕ = length judge.tree.now.rows.now in
    let room = c.args.room.now in
    let numbers : List ℤ = c.args.numbers.now in
    let potentials : List ℤ = c.deref-3.result.now in
    let multipliers : List ℤ = c.split_at.result.0.now in
    let charges : List ℤ = c.split_at.result.1.now in
    let read = leaf_read n (length room.potentials.items) families rows numbers c.deref.result.now potentials multipliers charges
    c.requires.room.potentials ((c.if-not-judge_run_numbers.ensures.good rows (sym c.requires.room.multipliers)).0 refl)
    (c.deref-3.ensures.value ∙ c.if-not-judge_run_numbers.ensures.potentials refl)
    (c.deref.ensures.value ∙ c.if-not-judge_run_numbers.ensures.multipliers refl) c.split_at.ensures.front c.split_at.ensures.back in
    let same : c.deref-2.result.now ≡ potentials = c.deref-2.ensures.value ∙ sym c.deref-3.ensures.value in
    record {
      numbers = plan_read n families rows numbers potentials multipliers charges read;
      places = ap length c.deref-4.ensures.value ∙ c.in_ok-moved.ensures.long;
      are_moved = subst (λ (zs : List ℤ). AreMoved n potentials multipliers (lent_in s.families.now) zs) (sym c.deref-4.ensures.value)
          (subst (λ (ps : List ℤ). AreMoved n ps multipliers (lent_in s.families.now) c.in_ok-moved.moved.items) same
          c.in_ok-moved.ensures.moved);
    }

pub leaf_run_bound-requires-clause-sizes : goal.leaf_run_bound-requires-clause-sizes
leaf_run_bound-requires-clause-sizes g c =
    let judge = c.args.judge.now in
    let s = judge.context.now in
    let n : ℕ = s.demands.nodes in
    let families : ℕ = length s.crossed.now in
    let rows : ℕ = length judge.tree.now.rows.now in
    let room = c.args.room.now in
    let numbers : List ℤ = c.args.numbers.now in
    let potentials : List ℤ = c.deref-3.result.now in
    let multipliers : List ℤ = c.split_at.result.0.now in
    let charges : List ℤ = c.split_at.result.1.now in
    let read = leaf_read n (length room.potentials.items) families rows numbers c.deref.result.now potentials multipliers charges
    c.requires.room.potentials ((c.if-not-judge_run_numbers.ensures.good rows (sym c.requires.room.multipliers)).0 refl)
    (c.deref-3.ensures.value ∙ c.if-not-judge_run_numbers.ensures.potentials refl)
    (c.deref.ensures.value ∙ c.if-not-judge_run_numbers.ensures.multipliers refl) c.split_at.ensures.front c.split_at.ensures.back in
    sizes_read n families rows numbers potentials multipliers charges read

pub leaf_run_bound-requires-clause-rules : goal.leaf_run_bound-requires-clause-rules
leaf_run_bound-requires-clause-rules g c =
    let judge = c.args.judge.now in
    let s = judge.context.now in
    let n : ℕ = s.demands.nodes in
    let families : ℕ = length s.crossed.now in
    let rows : ℕ = length judge.tree.now.rows.now in
    let room = c.args.room.now in
    let numbers : List ℤ = c.args.numbers.now in
    let potentials : List ℤ = c.deref-3.result.now in
    let multipliers : List ℤ = c.split_at.result.0.now in
    let charges : List ℤ = c.split_at.result.1.now in
    let read = leaf_read n (length room.potentials.items) families rows numbers c.deref.result.now potentials multipliers charges
    c.requires.room.potentials ((c.if-not-judge_run_numbers.ensures.good rows (sym c.requires.room.multipliers)).0 refl)
    (c.deref-3.ensures.value ∙ c.if-not-judge_run_numbers.ensures.potentials refl)
    (c.deref.ensures.value ∙ c.if-not-judge_run_numbers.ensures.multipliers refl) c.split_at.ensures.front c.split_at.ensures.back in
    let cost = g.C.Costs.at s.costs.now in
    let lists : List (List ℕ) = item_lists judge.tree.now.near.now in
    let sets : List SubsetRow = map subset_row_of judge.tree.now.rows.now in
    let tree = tree_in s.demands cost s.scale s.unit s.units.now.light s.crossed.now (lent_in s.families.now) judge.tree.now.near.now judge.tree.now.rows.now in
    let many : length sets ≡ length charges = length-map judge.tree.now.rows.now subset_row_of
    ∙ sym (count_read n families rows numbers potentials multipliers charges read) in
    let signs = signs_read n families rows numbers potentials multipliers charges read in
    ∥∥₁_elim judge.tables (hlevel props) (λ tables. ∣ (
      near_of lists,
      charged_rows sets charges,
      tables (as_leaf_numbers potentials multipliers) (charged_rows sets charges) (sets_of_charged sets charges many),
      charges_of_charged sets charges many,
      signs_of_charged sets charges signs,
    ) ∣₁)

pub returns-in_default-clause-judged : goal.returns-in_default-clause-judged
returns-in_default-clause-judged g c = λ few.
    let judge = c.args.judge.now in
    let s = judge.context.now in
    let n : ℕ = s.demands.nodes in
    let families : ℕ = length s.crossed.now in
    let rows : ℕ = length judge.tree.now.rows.now in
    let room = c.args.room.now in
    let numbers : List ℤ = c.args.numbers.now in
    let potentials : List ℤ = c.deref-3.result.now in
    let multipliers : List ℤ = c.split_at.result.0.now in
    let charges : List ℤ = c.split_at.result.1.now in
    let read = leaf_read n (length room.potentials.items) families rows numbers c.deref.result.now potentials multipliers charges
    c.requires.room.potentials ((c.if-not-judge_run_numbers.ensures.good rows (sym c.requires.room.multipliers)).0 refl)
    (c.deref-3.ensures.value ∙ c.if-not-judge_run_numbers.ensures.potentials refl)
    (c.deref.ensures.value ∙ c.if-not-judge_run_numbers.ensures.multipliers refl) c.split_at.ensures.front c.split_at.ensures.back in
    let cost = g.C.Costs.at s.costs.now in
    let lists : List (List ℕ) = item_lists judge.tree.now.near.now in
    let sets : List SubsetRow = map subset_row_of judge.tree.now.rows.now in
    let tree = tree_in s.demands cost s.scale s.unit s.units.now.light s.crossed.now (lent_in s.families.now) judge.tree.now.near.now judge.tree.now.rows.now in
    let many : length sets ≡ length charges = length-map judge.tree.now.rows.now subset_row_of
    ∙ sym (count_read n families rows numbers potentials multipliers charges read) in
    let signs = signs_read n families rows numbers potentials multipliers charges read in
    ∥∥₁_elim judge.tables (hlevel props) (λ tables.
    many_found tree (decisions_in c.args.case.now) numbers potentials multipliers charges read
    (subst (IsFoundIfFew (leaf_rules (loads_problem s.demands cost) s.scale s.unit s.units.now.light
    (families_with s.crossed.now (lent_in s.families.now)) (as_leaf_numbers potentials multipliers) (near_of lists) (charged_rows sets charges))
    (pos 2 *ℤ entry potentials s.demands.depot) (IsRunBound (loads_problem s.demands cost) s.scale s.unit s.units.now.light
    (families_with s.crossed.now (lent_in s.families.now)) (decisions_in c.args.case.now) (as_leaf_numbers potentials multipliers)
    (near_of lists) (charged_rows sets charges))) c.in_default.is
    (c.in_ok-bound.ensures.bound (near_of lists) (charged_rows sets charges)
    (tables (as_leaf_numbers potentials multipliers) (charged_rows sets charges) (sets_of_charged sets charges many))
    (sets_of_charged sets charges many) (charges_of_charged sets charges many) (signs_of_charged sets charges signs))) few)

pub returns-clause-judged : goal.returns-clause-judged
returns-clause-judged g c =
    let judge = c.args.judge.now in
    let s = judge.context.now in
    let n : ℕ = s.demands.nodes in
    let families : ℕ = length s.crossed.now in
    let rows : ℕ = length judge.tree.now.rows.now in
    let room = c.args.room.now in
    let numbers : List ℤ = c.args.numbers.now in
    let potentials : List ℤ = c.deref-3.result.now in
    let multipliers : List ℤ = c.split_at.result.0.now in
    let charges : List ℤ = c.split_at.result.1.now in
    let read = leaf_read n (length room.potentials.items) families rows numbers c.deref.result.now potentials multipliers charges
    c.requires.room.potentials ((c.if-not-judge_run_numbers.ensures.good rows (sym c.requires.room.multipliers)).0 refl)
    (c.deref-3.ensures.value ∙ c.if-not-judge_run_numbers.ensures.potentials refl)
    (c.deref.ensures.value ∙ c.if-not-judge_run_numbers.ensures.multipliers refl) c.split_at.ensures.front c.split_at.ensures.back in
    let cost = g.C.Costs.at s.costs.now in
    let lists : List (List ℕ) = item_lists judge.tree.now.near.now in
    let sets : List SubsetRow = map subset_row_of judge.tree.now.rows.now in
    let tree = tree_in s.demands cost s.scale s.unit s.units.now.light s.crossed.now (lent_in s.families.now) judge.tree.now.near.now judge.tree.now.rows.now in
    let many : length sets ≡ length charges = length-map judge.tree.now.rows.now subset_row_of
    ∙ sym (count_read n families rows numbers potentials multipliers charges read) in
    let signs = signs_read n families rows numbers potentials multipliers charges read in
    ∥∥₁_elim judge.tables (hlevel props) (λ tables.
    let found = subst (IsFoundIfFew (leaf_rules (loads_problem s.demands cost) s.scale s.unit s.units.now.light
    (families_with s.crossed.now (lent_in s.families.now)) (as_leaf_numbers potentials multipliers) (near_of lists) (charged_rows sets charges))
    (pos 2 *ℤ entry potentials s.demands.depot) (IsRunBound (loads_problem s.demands cost) s.scale s.unit s.units.now.light
    (families_with s.crossed.now (lent_in s.families.now)) (decisions_in c.args.case.now) (as_leaf_numbers potentials multipliers)
    (near_of lists) (charged_rows sets charges))) c.in-Some.is
    (c.in_ok-bound.ensures.bound (near_of lists) (charged_rows sets charges)
    (tables (as_leaf_numbers potentials multipliers) (charged_rows sets charges) (sets_of_charged sets charges many))
    (sets_of_charged sets charges many) (charges_of_charged sets charges many) (signs_of_charged sets charges signs)) in
    let fits : FitsSigned w128 c.in-Some.bound = search rules in
    rw (to_z-of_z w128 c.in-Some.bound fits)
    (few_found tree (decisions_in c.args.case.now) numbers potentials multipliers charges read c.in-Some.bound found.0 found.1))
