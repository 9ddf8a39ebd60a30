-- The goals of `judge_plan_leaf` in src/plan_verdict.rt, which bounds the leaf with these numbers, if they are good:
-- the facts of the leaf that it makes, what its calls require, and what it ensures.
use Rattle.tsp_routing.proofs.Prelude.{◌≡◌, ◌+◌, ◌∙◌, ℕ, ℤ, List, length, take, drop, true, refl, ap, ap₂, sym, subst, subst₂, as_leaf_numbers, Option, None, false≢true, Decision, LeafNumbers, families_with, lent_in, decisions_in, written}
use Rattle.tsp_cases.specs.states.Sets.{AreMoved}
use Rattle.tsp_routing.specs.PlanVerdicts.{ArePlanNumbers}
use Rattle.tsp_routing.specs.states.Demands.{loads_problem}
use Rattle.tsp_routing.specs.states.Judged.{IsFoundOfFew}
use Rattle.tsp_routing.proofs.PlanJudging.{found_of_plan_leaf, plan_numbers_read, plan_numbers_kept}
use Rattle.tsp_routing.proofs.plan_verdict.judge_plan_leaf.Goals as goal

-- plan: the numbers that were judged are those of the leaf, so what is found with them is found of its case
-- (`found_of_plan_leaf`)
pub returns-then-not-few-clause-judged : goal.returns-then-not-few-clause-judged
returns-then-not-few-clause-judged g c =
    let s = c.args.context.now in
    let n : ℕ = s.demands.nodes in
    let families : ℕ = length s.crossed.now in
    let read : List ℤ = c.args.numbers.now in
    let at : length c.deref_mut.result.now ≡ n = ap length c.deref_mut.ensures.value ∙ c.requires.room.potentials in
    let many : length c.deref_mut-2.result.now ≡ families = ap length c.deref_mut-2.ensures.value ∙ c.requires.room.multipliers in
    let good = plan_numbers_read n _ families _ read at many (c.if-not-judge_plan_numbers.ensures.good.0 refl) in
    let found : List Decision × LeafNumbers → Option ℤ → Type 0 = IsFoundOfFew c.args.few (loads_problem s.demands (g.C.Costs.at s.costs.now))
    s.scale s.unit s.units.now.light (families_with s.crossed.now (lent_in s.families.now)) in
    let many_loads : c.args.few ≡ true → ⊥ = λ few. false≢true (sym c.if-not-few.true ∙ few) in
    found_of_plan_leaf found n families (decisions_in c.args.case.now) read (take n read) (drop n read) None good refl refl
    (λ few. absurd (many_loads few))

pub invariant_of-leaf : goal.invariant_of-leaf
invariant_of-leaf g c =
    let s = c.args.context.now in
    let n : ℕ = s.demands.nodes in
    let families : ℕ = length s.crossed.now in
    let room = c.args.room.now in
    let read : List ℤ = c.args.numbers.now in
    let lists : List (List (List ℕ)) = lent_in s.families.now in
    let at : length c.deref_mut.result.now ≡ n = ap length c.deref_mut.ensures.value ∙ c.requires.room.potentials in
    let many : length c.deref_mut-2.result.now ≡ families = ap length c.deref_mut-2.ensures.value ∙ c.requires.room.multipliers in
    let good = plan_numbers_read n _ families _ read at many (c.if-not-judge_plan_numbers.ensures.good.0 refl) in
    let of_nodes = c.deref-3.ensures.value ∙ written room.potentials.len c.judge_plan_numbers.new.potentials _ (c.judge_plan_numbers.ensures.potentials_len ∙ c.deref_mut.ensures.len)
    ∙ c.if-not-judge_plan_numbers.ensures.potentials refl in
    let of_families = c.deref-4.ensures.value ∙ written room.multipliers.len c.judge_plan_numbers.new.multipliers _ (c.judge_plan_numbers.ensures.multipliers_len ∙ c.deref_mut-2.ensures.len)
    ∙ c.if-not-judge_plan_numbers.ensures.multipliers refl in
    let ps_same : c.deref.result.now ≡ c.deref-3.result.now = c.deref.ensures.value ∙ sym c.deref-3.ensures.value in
    let ms_same : c.deref-2.result.now ≡ c.deref-4.result.now = c.deref-2.ensures.value ∙ sym c.deref-4.ensures.value in
    record {
      numbers = plan_numbers_kept n families read c.deref-3.result.now c.deref-4.result.now
          (of_nodes ∙ ap (λ (k : ℕ). take k read) at) (of_families ∙ ap (λ (k : ℕ). drop k read) at) good;
      places = ap length c.deref-5.ensures.value ∙ c.in_ok-moved.ensures.long;
      are_moved = subst (λ (zs : List ℤ). AreMoved n c.deref-3.result.now c.deref-4.result.now lists zs) (sym c.deref-5.ensures.value)
          (subst (λ (ms : List ℤ). AreMoved n c.deref-3.result.now ms lists c.in_ok-moved.moved.items) ms_same
          (subst (λ (ps : List ℤ). AreMoved n ps c.deref-2.result.now lists c.in_ok-moved.moved.items) ps_same c.in_ok-moved.ensures.moved));
    }

pub returns-clause-judged : goal.returns-clause-judged
returns-clause-judged g c =
    let s = c.args.context.now in
    let n : ℕ = s.demands.nodes in
    let families : ℕ = length s.crossed.now in
    let room = c.args.room.now in
    let read : List ℤ = c.args.numbers.now in
    let at : length c.deref_mut.result.now ≡ n = ap length c.deref_mut.ensures.value ∙ c.requires.room.potentials in
    let many : length c.deref_mut-2.result.now ≡ families = ap length c.deref_mut-2.ensures.value ∙ c.requires.room.multipliers in
    let good = plan_numbers_read n _ families _ read at many (c.if-not-judge_plan_numbers.ensures.good.0 refl) in
    let of_nodes = c.deref-3.ensures.value ∙ written room.potentials.len c.judge_plan_numbers.new.potentials _ (c.judge_plan_numbers.ensures.potentials_len ∙ c.deref_mut.ensures.len)
    ∙ c.if-not-judge_plan_numbers.ensures.potentials refl in
    let of_families = c.deref-4.ensures.value ∙ written room.multipliers.len c.judge_plan_numbers.new.multipliers _ (c.judge_plan_numbers.ensures.multipliers_len ∙ c.deref_mut-2.ensures.len)
    ∙ c.if-not-judge_plan_numbers.ensures.multipliers refl in
    let found : List Decision × LeafNumbers → Option ℤ → Type 0 = IsFoundOfFew c.args.few (loads_problem s.demands (g.C.Costs.at s.costs.now))
    s.scale s.unit s.units.now.light (families_with s.crossed.now (lent_in s.families.now)) in
    found_of_plan_leaf found n families (decisions_in c.args.case.now) read c.deref-3.result.now c.deref-4.result.now c.in_ok-bound.bound good
    (of_nodes ∙ ap (λ (k : ℕ). take k read) at) (of_families ∙ ap (λ (k : ℕ). drop k read) at) (λ few. c.in_ok-bound.ensures.found)

pub judge_plan_numbers-requires : goal.judge_plan_numbers-requires
judge_plan_numbers-requires g c =
    let s = c.args.context.now in
    let at : length c.deref_mut.result.now ≡ s.demands.nodes = ap length c.deref_mut.ensures.value ∙ c.requires.room.potentials in
    let many : length c.deref_mut-2.result.now ≡ length s.crossed.now = ap length c.deref_mut-2.ensures.value ∙ c.requires.room.multipliers in
    record { long = c.requires.numbers ∙ sym (ap₂ (λ (a b : ℕ). a + b) at many) }

pub returns-then-not-judge_plan_numbers-clause-judged : goal.returns-then-not-judge_plan_numbers-clause-judged
returns-then-not-judge_plan_numbers-clause-judged g c = λ good.
    let s = c.args.context.now in
    let read : List ℤ = c.args.numbers.now in
    let at : length c.deref_mut.result.now ≡ s.demands.nodes = ap length c.deref_mut.ensures.value ∙ c.requires.room.potentials in
    let many : length c.deref_mut-2.result.now ≡ length s.crossed.now = ap length c.deref_mut-2.ensures.value ∙ c.requires.room.multipliers in
    false≢true (c.if-not-judge_plan_numbers.ensures.good.1
    (subst₂ (λ (n families : ℕ). ArePlanNumbers n families (as_leaf_numbers (take n read) (drop n read))) (sym at) (sym many) good))

pub returns-then-not-judge_plan_numbers-clause-room : goal.returns-then-not-judge_plan_numbers-clause-room
returns-then-not-judge_plan_numbers-clause-room g c =
    let room = c.args.room.now in
    record {
      potentials = ap length (written room.potentials.len c.judge_plan_numbers.new.potentials _ (c.judge_plan_numbers.ensures.potentials_len ∙ c.deref_mut.ensures.len))
          ∙ (c.judge_plan_numbers.ensures.potentials_len ∙ (ap length c.deref_mut.ensures.value ∙ c.requires.room.potentials));
      multipliers = ap length (written room.multipliers.len c.judge_plan_numbers.new.multipliers _ (c.judge_plan_numbers.ensures.multipliers_len ∙ c.deref_mut-2.ensures.len))
          ∙ (c.judge_plan_numbers.ensures.multipliers_len ∙ (ap length c.deref_mut-2.ensures.value ∙ c.requires.room.multipliers));
      row = c.requires.room.row;
    }

pub returns-then-not-few-clause-room : goal.returns-then-not-few-clause-room
returns-then-not-few-clause-room g c =
    let room = c.args.room.now in
    record {
      potentials = ap length (written room.potentials.len c.judge_plan_numbers.new.potentials _ (c.judge_plan_numbers.ensures.potentials_len ∙ c.deref_mut.ensures.len))
          ∙ (c.judge_plan_numbers.ensures.potentials_len ∙ (ap length c.deref_mut.ensures.value ∙ c.requires.room.potentials));
      multipliers = ap length (written room.multipliers.len c.judge_plan_numbers.new.multipliers _ (c.judge_plan_numbers.ensures.multipliers_len ∙ c.deref_mut-2.ensures.len))
          ∙ (c.judge_plan_numbers.ensures.multipliers_len ∙ (ap length c.deref_mut-2.ensures.value ∙ c.requires.room.multipliers));
      row = c.requires.room.row;
    }

pub moved_of-requires : goal.moved_of-requires
moved_of-requires g c =
    let s = c.args.context.now in
    let n : ℕ = s.demands.nodes in
    let families : ℕ = length s.crossed.now in
    let room = c.args.room.now in
    let read : List ℤ = c.args.numbers.now in
    let at : length c.deref_mut.result.now ≡ n = ap length c.deref_mut.ensures.value ∙ c.requires.room.potentials in
    let many : length c.deref_mut-2.result.now ≡ families = ap length c.deref_mut-2.ensures.value ∙ c.requires.room.multipliers in
    let good = plan_numbers_read n _ families _ read at many (c.if-not-judge_plan_numbers.ensures.good.0 refl) in
    let of_nodes = c.deref.ensures.value ∙ written room.potentials.len c.judge_plan_numbers.new.potentials _ (c.judge_plan_numbers.ensures.potentials_len ∙ c.deref_mut.ensures.len)
    ∙ c.if-not-judge_plan_numbers.ensures.potentials refl in
    let of_families = c.deref-2.ensures.value ∙ written room.multipliers.len c.judge_plan_numbers.new.multipliers _ (c.judge_plan_numbers.ensures.multipliers_len ∙ c.deref_mut-2.ensures.len)
    ∙ c.if-not-judge_plan_numbers.ensures.multipliers refl in
    record {
      numbers = plan_numbers_kept n families read c.deref.result.now c.deref-2.result.now
          (of_nodes ∙ ap (λ (k : ℕ). take k read) at) (of_families ∙ ap (λ (k : ℕ). drop k read) at) good;
    }

pub plan_leaf_bound-requires-clause-case : goal.plan_leaf_bound-requires-clause-case
plan_leaf_bound-requires-clause-case g c = c.requires.case

pub plan_leaf_bound-requires-clause-direction : goal.plan_leaf_bound-requires-clause-direction
plan_leaf_bound-requires-clause-direction g c = c.requires.direction

pub plan_leaf_bound-requires-clause-row : goal.plan_leaf_bound-requires-clause-row
plan_leaf_bound-requires-clause-row g c = ap length c.deref_mut-3.ensures.value ∙ c.requires.room.row

pub plan_leaf_bound-requires-clause-few : goal.plan_leaf_bound-requires-clause-few
plan_leaf_bound-requires-clause-few g c = c.requires.few c.if-not-few.false

pub returns-clause-room : goal.returns-clause-room
returns-clause-room g c =
    let room = c.args.room.now in
    record {
      potentials = ap length (written room.potentials.len c.judge_plan_numbers.new.potentials _ (c.judge_plan_numbers.ensures.potentials_len ∙ c.deref_mut.ensures.len))
          ∙ (c.judge_plan_numbers.ensures.potentials_len ∙ (ap length c.deref_mut.ensures.value ∙ c.requires.room.potentials));
      multipliers = ap length (written room.multipliers.len c.judge_plan_numbers.new.multipliers _ (c.judge_plan_numbers.ensures.multipliers_len ∙ c.deref_mut-2.ensures.len))
          ∙ (c.judge_plan_numbers.ensures.multipliers_len ∙ (ap length c.deref_mut-2.ensures.value ∙ c.requires.room.multipliers));
      row = ap length (written room.row.len c.plan_leaf_bound.new.row _ (c.in_ok-bound.ensures.row ∙ c.deref_mut-3.ensures.len))
          ∙ (c.in_ok-bound.ensures.row ∙ (ap length c.deref_mut-3.ensures.value ∙ c.requires.room.row));
    }

pub returns-clause-size : goal.returns-clause-size
returns-clause-size g c = c.in_ok-bound.ensures.size
