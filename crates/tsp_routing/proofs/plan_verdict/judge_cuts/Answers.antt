-- The goals of `judge_cuts` in src/plan_verdict.rt, which makes the families, or finds the first bad one: its loop, the
-- facts of its families, and what it ensures.
use Rattle.tsp_routing.proofs.Prelude.{◌≡◌, ◌∙◌, ◌≤◌, ℕ, List, [], ◌∷◌, ◌++◌, length, get_or, refl, ap, sym, subst, arith, length-append, Some, Option, replicate, Vec, All, length-map, length-replicate, All-push, lists_of, families_in, Crossings, IsFamily, families_with, written}
use Rattle.tsp_cases.specs.states.GoodFamilies.{IsSmall, AreUnmarked}
use Rattle.tsp_cases.proofs.GoodFamilies.{sets_here}
use Rattle.tsp_routing.specs.PlanVerdicts.{IsGoodSet}
use Rattle.tsp_routing.specs.states.Judged.{IsFewCrossed, AreCutNumbers}
use Rattle.tsp_routing.proofs.PlanJudging.{HaveCuts, cuts_more, good_so_far, all_cuts, first_bad, lone_numbers, lone_hold, all_lone, all_once, few_sets}
use Rattle.tsp_routing.proofs.plan_verdict.judge_cuts.Goals as goal

-- plan: the loop has how often plans cross each family before this one. A bad family that it finds is the first; at its
-- end there is none
pub families-preserved : goal.families-preserved
families-preserved c =
    let h = c.families.invariant in
    let number : ℕ = c.families.number in
    let read : List (Vec ℕ) = c.deref.result.now in
    let lists : List (List (List ℕ)) = families_in c.args.lent.now in
    let crossed : List Crossings = c.families.crossed.items in
    let same = sets_here c.args.lent.now number c.index-lent-number.result read c.families-test.true c.index-lent-number.is
    c.deref.ensures.value in
    let marks = written c.families.marks.len c.cut_crossings-found.new.marks _ (c.cut_crossings-found.ensures.length ∙ c.deref_mut.ensures.len) in
    let found : AreCutNumbers c.args.demands.now (lists_of read) (Some c.in-Some.own) =
    subst (λ (o : Option Crossings). AreCutNumbers c.args.demands.now (lists_of read) o) c.in-Some.is c.cut_crossings-found.ensures.found in
    let here : AreCutNumbers c.args.demands.now (get_or lists (length crossed) []) (Some c.in-Some.own) =
    subst (λ (k : ℕ). AreCutNumbers c.args.demands.now (get_or lists k []) (Some c.in-Some.own)) (sym h.many)
    (subst (λ (ss : List (List ℕ)). AreCutNumbers c.args.demands.now ss (Some c.in-Some.own)) same found) in
    let pushed : c.push.new.list.items ≡ crossed ++ c.in-Some.own ∷ [] = c.in_ok-push.ensures.items in
    record {
      places = ap length marks ∙ c.cut_crossings-found.ensures.length ∙ ap length c.deref_mut.ensures.value ∙ h.places;
      fresh = λ mark more. subst (λ (xs : List ℕ). AreUnmarked xs mark) (sym marks) (c.cut_crossings-found.ensures.others mark
          (λ e. omega (arith, e, more))
          (subst (λ (xs : List ℕ). AreUnmarked xs mark) (sym c.deref_mut.ensures.value) (h.fresh mark (omega (arith, more)))));
      many = ap length pushed ∙ (let long = length-append crossed (c.in-Some.own ∷ []) in omega (arith, long, h.many));
      have = subst (HaveCuts c.args.demands.now lists) (sym pushed) (cuts_more c.args.demands.now lists crossed c.in-Some.own h.have here);
      few = subst (All IsFewCrossed) (sym pushed) (All-push IsFewCrossed crossed c.in-Some.own h.few found.1);
    }

pub returns-in_default : goal.returns-in_default
returns-in_default c =
    let h = c.families.invariant in
    let number : ℕ = c.families.number in
    let read : List (Vec ℕ) = c.deref.result.now in
    let lists : List (List (List ℕ)) = families_in c.args.lent.now in
    let n : ℕ = c.args.demands.now.nodes in
    let depot : ℕ = c.args.demands.now.depot in
    let same = sets_here c.args.lent.now number c.index-lent-number.result read c.families-test.true c.index-lent-number.is
    c.deref.ensures.value in
    let none : IsGoodSet n depot (lists_of read) → ⊥ =
    subst (λ (o : Option Crossings). AreCutNumbers c.args.demands.now (lists_of read) o) c.in_default.is c.cut_crossings-found.ensures.found in
    let long = length-map c.args.lent.now (λ (f : Vec (Vec ℕ)). lists_of f.items) in
    first_bad n depot number lists (omega (arith, c.families-test.true, long))
    (good_so_far c.args.demands.now number lists c.families.crossed.items h.many h.have)
    (λ good. none (subst (IsGoodSet n depot) (sym same) good))

pub invariant_of-families : goal.invariant_of-families
invariant_of-families c =
    let so_far = c.families.invariant.many in
    let demands = c.args.demands.now in
    let lent : List (Vec (Vec ℕ)) = c.args.lent.now in
    let lists : List (List (List ℕ)) = families_in lent in
    let count : length c.families.crossed.items ≡ length lent =
    omega (arith, so_far, c.families-test.false, c.families.auto.number-end) in
    let long = length-map lent (λ (f : Vec (Vec ℕ)). lists_of f.items) in
    let good = good_so_far demands (length lists) lists c.families.crossed.items (omega (arith, count, long)) c.families.invariant.have in
    let known : c.in_ok-known.known.items ≡ replicate (length lent) lone_numbers = c.in_ok-known.ensures.items_if_clones_equal (λ other same. same) in
    let known_long = ap length known ∙ length-replicate (length lent) lone_numbers in
    record {
      few_nodes = omega (arith, c.requires.demands.few);
      as_many = known_long;
      many = known_long ∙ sym long;
      few = omega (arith, c.requires.few);
      few_sets = few_sets demands.nodes demands.depot lent good;
      inside = c.requires.inside;
      are = ∣ subst (λ (cs : List Crossings). All (IsFamily demands.nodes) (families_with cs lists)) (sym known)
          (all_lone demands.nodes demands.depot lists (length lent) (sym long) c.requires.demands.depot_in good) ∣₁;
      once = all_once demands.nodes demands.depot lists good;
      small = subst (All IsSmall) (sym known) (lone_hold IsSmall (omega arith, omega arith) (length lent));
      some = subst (All (λ own. 1 ≤ own.most)) (sym known) (lone_hold (λ own. 1 ≤ own.most) (omega arith) (length lent));
    }

pub returns : goal.returns
returns c =
    let so_far = c.families.invariant.many in
    let many : length c.families.crossed.items ≡ length c.args.lent.now =
    omega (arith, so_far, c.families-test.false, c.families.auto.number-end) in
    let long = length-map c.args.lent.now (λ (f : Vec (Vec ℕ)). lists_of f.items) in (
      refl,
      refl,
      c.families.invariant.few,
      all_cuts c.args.demands.now (families_in c.args.lent.now) c.families.crossed.items (omega (arith, many, long)) c.families.invariant.have,
    )
