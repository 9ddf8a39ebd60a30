-- The goals of `judge_families` in src/good_families.rt, which finds the crossings of each family, or the first bad
-- one: its loop, the facts of the values that it makes and what it ensures.
use Rattle.tsp_cases.proofs.Prelude.{◌≡◌, ◌∙◌, ◌^◌, ◌<◌, ◌++◌, [], ◌∷◌, ℕ, List, length, get_or, refl, ap, sym, subst, arith, length-append, Some, Option, Vec, All, length-map, All-push}
use Rattle.tsp_cases.specs.Crossings.{AreSetsOf, AreFamiliesOf, lists_of, families_in}
use Rattle.tsp_cases.specs.declared.family.Crossings.{Crossings}
use Rattle.tsp_cases.specs.Families.{IsFamily, families_with, IsGoodFamily, AreFamilies}
use Rattle.tsp_cases.specs.states.GoodFamilies.{AreUnmarked, AreFamilyNumbers, IsSmall, AreSmallCrossings}
use Rattle.tsp_cases.proofs.GoodFamilies.{all_some, sets_here, holds_here, all_good, first_found, HaveNumbers, numbers_more, good_so_far}
use Rattle.tsp_cases.proofs.Passes.{written}
use Rattle.tsp_cases.proofs.good_families.judge_families.Goals as goal

pub invariant_of-own : goal.invariant_of-own
invariant_of-own g c =
    let tree = c.args.tree.now in
    let families : List (Vec (Vec ℕ)) = tree.families.now in
    let here = holds_here families c.families.number c.index-tree-number.result c.deref.result.now c.families-test.true c.index-tree-number.is
    (c.deref.ensures.value ∙ ap (λ (f : Vec (Vec ℕ)). f.items) (sym c.index-tree-number.is)) in
    record {
      some = omega (arith, tree.some, c.count-nodes.ensures.value);
      few_nodes = omega (arith, c.count-nodes.ensures.most);
      few_sets = here (λ sets. length sets < 2 ^ 32) tree.few_sets;
      inside = subst (λ (m : ℕ). AreSetsOf m c.deref.result.now) (sym c.count-nodes.ensures.value) (here (AreSetsOf (g.C.Costs.nodes tree.costs.now)) tree.sets_are);
    }

pub returns-in_default : goal.returns-in_default
returns-in_default g c =
    let h = c.families.invariant in
    let n : ℕ = g.C.Costs.nodes c.args.tree.now.costs.now in
    let read : List (Vec ℕ) = c.deref.result.now in
    let lists : List (List (List ℕ)) = families_in c.args.tree.now.families.now in
    let same = sets_here c.args.tree.now.families.now c.families.number c.index-tree-number.result read c.families-test.true c.index-tree-number.is
    (c.deref.ensures.value ∙ ap (λ (f : Vec (Vec ℕ)). f.items) (sym c.index-tree-number.is)) in
    let none : IsGoodFamily n (lists_of read) → ⊥ = subst (λ (o : Option Crossings). AreFamilyNumbers n (lists_of read) o) c.in_default.is
    (subst (λ (m : ℕ). AreFamilyNumbers m (lists_of read) c.in_ok-found.found) c.count-nodes.ensures.value c.in_ok-found.ensures.found) in
    let long = length-map c.args.tree.now.families.now (λ (f : Vec (Vec ℕ)). lists_of f.items) in
    first_found n c.families.number lists (omega (arith, c.families-test.true, long)) (good_so_far n c.families.number lists c.families.crossed.items h.many h.have)
    (λ good. none (subst (IsGoodFamily n) (sym same) good))

-- plan: a good family is put behind those before it (`numbers_more`, `All-push`). The marks that its test has left
-- aren't those of later families (`written`)
pub families-preserved : goal.families-preserved
families-preserved g c =
    let h = c.families.invariant in
    let n : ℕ = g.C.Costs.nodes c.args.tree.now.costs.now in
    let number : ℕ = c.families.number in
    let read : List (Vec ℕ) = c.deref.result.now in
    let lists : List (List (List ℕ)) = families_in c.args.tree.now.families.now in
    let crossed : List Crossings = c.families.crossed.items in
    let same = sets_here c.args.tree.now.families.now number c.index-tree-number.result read c.families-test.true c.index-tree-number.is
    (c.deref.ensures.value ∙ ap (λ (f : Vec (Vec ℕ)). f.items) (sym c.index-tree-number.is)) in
    let handles = written c.families.handles.len c.crossings_of.new.handles _ (c.in_ok-found.ensures.handle_length ∙ c.deref_mut.ensures.len) in
    let teeth = written c.families.teeth.len c.crossings_of.new.used _ (c.in_ok-found.ensures.tooth_length ∙ c.deref_mut-in-families.ensures.len) in
    let found : AreFamilyNumbers n (lists_of read) (Some c.in-Some.numbers) = subst (λ (o : Option Crossings). AreFamilyNumbers n (lists_of read) o) c.in-Some.is
    (subst (λ (m : ℕ). AreFamilyNumbers m (lists_of read) c.in_ok-found.found) c.count-nodes.ensures.value c.in_ok-found.ensures.found) in
    let here : AreFamilyNumbers n (get_or lists (length crossed) []) (Some c.in-Some.numbers) =
    subst (λ (k : ℕ). AreFamilyNumbers n (get_or lists k []) (Some c.in-Some.numbers)) (sym h.many) (subst (λ (ss : List (List ℕ)). AreFamilyNumbers n ss (Some c.in-Some.numbers)) same found) in
    let pushed : c.push.new.list.items ≡ crossed ++ c.in-Some.numbers ∷ [] = c.in_ok-push.ensures.items in
    record {
      handles_long = ap length handles ∙ c.in_ok-found.ensures.handle_length ∙ ap length c.deref_mut.ensures.value ∙ h.handles_long;
      teeth_long = ap length teeth ∙ c.in_ok-found.ensures.tooth_length ∙ ap length c.deref_mut-in-families.ensures.value ∙ h.teeth_long;
      handles_fresh = λ mark more. subst (λ (xs : List ℕ). AreUnmarked xs mark) (sym handles) (c.in_ok-found.ensures.handle_others mark (λ e. omega (arith, e, more))
          (subst (λ (xs : List ℕ). AreUnmarked xs mark) (sym c.deref_mut.ensures.value) (h.handles_fresh mark (omega (arith, more)))));
      teeth_fresh = λ mark more. subst (λ (xs : List ℕ). AreUnmarked xs mark) (sym teeth) (c.in_ok-found.ensures.tooth_others mark (λ e. omega (arith, e, more))
          (subst (λ (xs : List ℕ). AreUnmarked xs mark) (sym c.deref_mut-in-families.ensures.value) (h.teeth_fresh mark (omega (arith, more)))));
      many = ap length pushed ∙ (let long = length-append crossed (c.in-Some.numbers ∷ []) in omega (arith, long, h.many));
      have = subst (HaveNumbers n lists) (sym pushed) (numbers_more n lists crossed c.in-Some.numbers h.have here);
      small = subst AreSmallCrossings (sym pushed) (All-push IsSmall crossed c.in-Some.numbers h.small (rw c.in-Some.is at c.in_ok-found.ensures.small));
    }

-- after the loop each family is good and has its crossings
as_lists : (families : List (Vec (Vec ℕ))) (crossed : List Crossings) → length crossed ≡ length families → length crossed ≡ length (families_in families)
as_lists families crossed many = many ∙ sym (length-map families (λ (f : Vec (Vec ℕ)). lists_of f.items))

all_judged : (n : ℕ) (families : List (Vec (Vec ℕ))) (crossed : List Crossings) → length crossed ≡ length families → HaveNumbers n (families_in families) crossed
    → AreFamilies n (families_in families) crossed
all_judged n families crossed many have = all_good n (families_in families) crossed (as_lists families crossed many) have

pub invariant_of-result : goal.invariant_of-result
invariant_of-result g c =
    let n : ℕ = g.C.Costs.nodes c.args.tree.now.costs.now in
    let families : List (Vec (Vec ℕ)) = c.args.tree.now.families.now in
    let crossed : List Crossings = c.families.crossed.items in
    let so_far = c.families.invariant.many in
    let many : length crossed ≡ length families = omega (arith, so_far, c.families-test.false, c.families.auto.number-end) in
    let judged = all_judged n families crossed many c.families.invariant.have in
    let tree = c.args.tree.now in
    let count_is = sym c.count-nodes.ensures.value in
    record {
      few_nodes = omega (arith, c.count-nodes.ensures.most);
      as_many = many;
      many = as_lists families crossed many;
      few = tree.few_families;
      few_sets = tree.few_sets;
      inside = subst (λ (m : ℕ). AreFamiliesOf m families) count_is tree.sets_are;
      are = ∣ subst (λ (m : ℕ). All (IsFamily m) (families_with crossed (families_in families))) count_is judged.are ∣₁;
      once = judged.once;
      small = c.families.invariant.small;
      some = all_some n crossed (families_in families) (as_lists families crossed many) judged.are;
    }

pub returns : goal.returns
returns g c =
    let so_far = c.families.invariant.many in
    let many : length c.families.crossed.items ≡ length c.args.tree.now.families.now = omega (arith, so_far, c.families-test.false, c.families.auto.number-end) in
    (c.count-nodes.ensures.value, refl, all_judged (g.C.Costs.nodes c.args.tree.now.costs.now) c.args.tree.now.families.now c.families.crossed.items many c.families.invariant.have)
