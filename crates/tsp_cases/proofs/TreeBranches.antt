-- For src/case_tree.rt: one pass over the branches of a tree finds the first that is out of range, or the first on a
-- pair that is decided already. tsp_routing imports it, too.
use Rattle.tsp_cases.proofs.Prelude.{◌≡◌, ◌∙◌, ℕ, suc, ◌+◌, ◌<◌, ◌≤◌, Bool, true, false, List, [], ◌∷◌, ◌++◌, drop, length, get_or, ℤ, inl, inr, refl, ap, ap₂, sym, subst, add-one, ◌-◌, arith, ◌*◌, ◌^◌, FitsSigned, to_z, of_z, drop-cons, set, both_ways, cases_Bool, cases_eq, ints, drop_all, length-append, get_or_append_left, append_assoc, append-nil, get_or-set_same, get_or-set_other, All-from_recursion, recursion_from_All, list_any_at, AllPairs-cons, w64, w128, All, AllByRecursion, None, Some, pos, neg_ℤ, ◌+ℤ◌, IsFromTo, TreeStep, step_of, steps_of}
use Rattle.std.proofs.Math.Seq.{get_or-append_seam}
use Rattle.tsp_format.specs.Steps as listed
use Rattle.tsp_cases.proofs.CaseLaws.{stacks_hold_cases}
use Rattle.tsp_cases.proofs.OpenCases.{stack_more}
use Rattle.tsp_cases.proofs.Passes.{left_at, IsFirstTwiceFrom, first_twice_by_place, first_twice_in_pass}
use Rattle.tsp_cases.specs.Cases.{is_same, DecideOnce, decide, leaves_of, cases_of, later_cases, open_cases, next_stack}
use Rattle.tsp_cases.specs.ListedCases.{all_grown, steps_from, no_numbers_of, is_decided, IsFirstTwice, AreBranchesJudged, branch_pairs, BeginsWithin, IsFirstBadBranch, AreBranchesWithin, IsStepOf, IsListedStep, grown}
use Rattle.tsp_cases.specs.declared.decision.Decision.{Decision}
use Rattle.tsp_cases.specs.declared.open_case.OpenCase.{OpenCase}
use Rattle.tsp_cases.specs.states.OpenCases.{stack_of, decisions_in}

-- ---- the cases of the leaves, whatever their numbers

abbrev pub listed_cases : List (List Decision) → List listed.Step → List (List Decision)
listed_cases [] steps = []
listed_cases (case ∷ cases) [] = []
listed_cases (case ∷ cases) (listed.Branch a b ∷ steps) = listed_cases (decide (a, b) true case ∷ decide (a, b) false case ∷ cases) steps
listed_cases (case ∷ cases) (listed.Leaf changes ∷ steps) = case ∷ listed_cases cases steps

told_cases : (n : ℕ) (numbers : List ℤ) (cases : List (List Decision)) (steps : List listed.Step) → cases_of (leaves_of cases (steps_from n numbers steps)) ≡ listed_cases cases steps
told_cases n numbers [] steps = refl
told_cases n numbers (case ∷ cases) [] = refl
told_cases n numbers (case ∷ cases) (listed.Branch a b ∷ steps) = told_cases n numbers (decide (a, b) true case ∷ decide (a, b) false case ∷ cases) steps
told_cases n numbers (case ∷ cases) (listed.Leaf changes ∷ steps) = ap (λ (cs : List (List Decision)). case ∷ cs) (told_cases n (all_grown changes numbers) cases steps)

pub no_branch_twice : (directed : Bool) (given : List Decision) (steps : List listed.Step) → ((first : ℕ) → IsFirstTwiceFrom directed 0 (given ∷ []) steps first → ⊥)
    → AllByRecursion (DecideOnce directed) (listed_cases (given ∷ []) steps)
    → AreBranchesJudged directed given steps None
no_branch_twice directed given steps none once = (
  λ first h. none first (first_twice_in_pass directed given steps first h),
  λ n families. subst (All (DecideOnce directed)) (sym (told_cases n (no_numbers_of n families) (given ∷ []) steps)) (All-from_recursion (DecideOnce directed) (listed_cases (given ∷ []) steps) once),
)

-- ---- one pass

pub record IsOnceSoFar (directed : Bool) (given : List Decision) (all : List listed.Step) (stack : List Decision) (branch : ℕ) (steps : List listed.Step) : Type 0 where
  pub each : AllByRecursion (DecideOnce directed) (open_cases given (Some stack))
  pub once : AllByRecursion (DecideOnce directed) (listed_cases (open_cases given (Some stack)) steps) → AllByRecursion (DecideOnce directed) (listed_cases (given ∷ []) all)
  pub twice : (first : ℕ) → IsFirstTwiceFrom directed branch (open_cases given (Some stack)) steps first → IsFirstTwiceFrom directed 0 (given ∷ []) all first
  pub left : (first : ℕ) → IsFirstTwiceFrom directed 0 (given ∷ []) all first → IsFirstTwiceFrom directed branch (open_cases given (Some stack)) steps first

pub once_at_start : (directed : Bool) (given : List Decision) (all : List listed.Step) → DecideOnce directed given → IsOnceSoFar directed given all [] 0 all
once_at_start directed given all h = record { each = (h, tt); once = λ rest. rest; twice = λ first rest. rest; left = λ first rest. rest }

-- one decision more, on another pair, leaves each pair decided once
once_more : (directed : Bool) (case : List Decision) (pair : ℕ × ℕ) (taken : Bool) → is_decided directed case pair ≡ false → DecideOnce directed case → DecideOnce directed (decide pair taken case)
once_more directed case pair taken none h = AllPairs-cons (λ (a b : Decision). is_same directed a.pair b.pair ≡ false) (record { pair = pair; taken = taken }) case
    (λ k d lt. elim (cases_Bool (is_same directed pair (get_or case k d).pair)) [
      | inl same ↦ absurd (both_ways (is_decided directed case pair) none (list_any_at (λ (e : Decision). is_same directed pair e.pair) case k d lt same))
      | inr other ↦ other
    ]) h

pub once_next : (directed : Bool) (given : List Decision) (all : List TreeStep) (stack : List Decision) (branch index : ℕ) (step other : TreeStep) → index < length all → step ≡ get_or all index step
    → step ≡ other
    → IsOnceSoFar directed given (steps_of all) stack branch (steps_of (drop index all)) → IsOnceSoFar directed given (steps_of all) stack branch (step_of other ∷ steps_of (drop (index + 1) all))
once_next directed given all stack branch index step other lt is same h =
    subst (λ (steps : List TreeStep). IsOnceSoFar directed given (steps_of all) stack branch (steps_of steps))
    (left_at all index step lt is ∙ ap (λ (s : TreeStep). s ∷ drop (index + 1) all) same) h

pub once_at_branch : (directed : Bool) (given : List Decision) (all : List listed.Step) (stack : List Decision) (branch a b : ℕ) (steps : List listed.Step)
    → IsOnceSoFar directed given all stack branch (listed.Branch a b ∷ steps) → is_decided directed (stack ++ given) (a, b) ≡ false
    → IsOnceSoFar directed given all (decide (a, b) true stack) (suc branch) steps
once_at_branch directed given all stack branch a b steps h none = record {
  each = (once_more directed (stack ++ given) (a, b) true none h.each.0, (once_more directed (stack ++ given) (a, b) false none h.each.0, h.each.1));
  once = h.once;
  twice = λ first rest. h.twice first (inr (none, rest));
  left = λ first all_of. elim (h.left first all_of) [
    | inl here ↦ absurd (both_ways (is_decided directed (stack ++ given) (a, b)) none here.1)
    | inr rest ↦ rest.1
  ];
}

pub twice_here : (directed : Bool) (given : List Decision) (all : List listed.Step) (stack : List Decision) (branch a b : ℕ) (steps : List listed.Step)
    → IsOnceSoFar directed given all stack branch (listed.Branch a b ∷ steps) → is_decided directed (stack ++ given) (a, b) ≡ true → IsFirstTwiceFrom directed 0 (given ∷ []) all (suc branch)
twice_here directed given all stack branch a b steps h is = h.twice (suc branch) (inl (refl, is))

pub once_pushed : (directed : Bool) (given : List Decision) (all : List listed.Step) (items pushed : List Decision) (branch a b : ℕ) (steps : List listed.Step)
    → IsOnceSoFar directed given all (stack_of items) branch (listed.Branch a b ∷ steps) → is_decided directed (stack_of items ++ given) (a, b) ≡ false
    → pushed ≡ items ++ decide (a, b) true [] → IsOnceSoFar directed given all (stack_of pushed) (branch + 1) steps
once_pushed directed given all items pushed branch a b steps h none more =
    subst (λ (st : List Decision). IsOnceSoFar directed given all st (branch + 1) steps) (sym (stack_more items (record { pair = (a, b); taken = true })) ∙ ap stack_of (sym more))
    (subst (λ (k : ℕ). IsOnceSoFar directed given all (decide (a, b) true (stack_of items)) k steps) (sym (add-one branch))
    (once_at_branch directed given all (stack_of items) branch a b steps h none))

pub twice_found : (directed : Bool) (given : List Decision) (all : List listed.Step) (items : List Decision) (branch a b : ℕ) (steps : List listed.Step)
    → IsOnceSoFar directed given all (stack_of items) branch (listed.Branch a b ∷ steps) → is_decided directed (stack_of items ++ given) (a, b) ≡ true
    → IsFirstTwice directed given all (branch + 1)
twice_found directed given all items branch a b steps h is =
    first_twice_by_place directed given all (branch + 1) (subst (IsFirstTwiceFrom directed 0 (given ∷ []) all) (sym (add-one branch))
    (twice_here directed given all (stack_of items) branch a b steps h is))

-- after a leaf, with a next open case or with none; and if no step is left
pub once_at_leaf : (directed : Bool) (given : List Decision) (all : List listed.Step) (stack : List Decision) (branch : ℕ) (changes : List (ℕ × ℤ)) (steps : List listed.Step) (next : List Decision)
    → IsOnceSoFar directed given all stack branch (listed.Leaf changes ∷ steps) → next_stack stack ≡ Some next → IsOnceSoFar directed given all next branch steps
once_at_leaf directed given all stack branch changes steps next h turned =
    let later : later_cases given stack ≡ open_cases given (Some next) = sym (stacks_hold_cases given stack) ∙ ap (open_cases given) turned in
    record {
      each = subst (AllByRecursion (DecideOnce directed)) later h.each.1;
      once = λ rest. h.once (h.each.0, subst (λ (cs : List (List Decision)). AllByRecursion (DecideOnce directed) (listed_cases cs steps)) (sym later) rest);
      twice = λ first rest. h.twice first (subst (λ (cs : List (List Decision)). IsFirstTwiceFrom directed branch cs steps first) (sym later) rest);
      left = λ first all_of. subst (λ (cs : List (List Decision)). IsFirstTwiceFrom directed branch cs steps first) later (h.left first all_of);
    }

pub once_at_last : (directed : Bool) (given : List Decision) (all : List listed.Step) (stack : List Decision) (branch : ℕ) (changes : List (ℕ × ℤ)) (steps : List listed.Step)
    → IsOnceSoFar directed given all stack branch (listed.Leaf changes ∷ steps) → next_stack stack ≡ None → AreBranchesJudged directed given all None
once_at_last directed given all stack branch changes steps h turned =
    let none : later_cases given stack ≡ [] = sym (stacks_hold_cases given stack) ∙ ap (open_cases given) turned in
    no_branch_twice directed given all (λ first all_of. subst (λ (cs : List (List Decision)). IsFirstTwiceFrom directed branch cs steps first) none (h.left first all_of))
    (h.once (h.each.0, subst (λ (cs : List (List Decision)). AllByRecursion (DecideOnce directed) (listed_cases cs steps)) (sym none) tt))

pub once_at_end : (directed : Bool) (given : List Decision) (all : List TreeStep) (stack : List Decision) (branch index : ℕ)
    → IsOnceSoFar directed given (steps_of all) stack branch (steps_of (drop index all))
    → length all ≤ index → AreBranchesJudged directed given (steps_of all) None
once_at_end directed given all stack branch index h past =
    let none : IsOnceSoFar directed given (steps_of all) stack branch [] =
    subst (λ (steps : List TreeStep). IsOnceSoFar directed given (steps_of all) stack branch (steps_of steps)) (drop_all index all past) h in
    no_branch_twice directed given (steps_of all) none.left (none.once tt)

-- ---- the open case of the code

-- whether it decides a pair
pub decided_here : (directed : Bool) (given : List Decision) (case : OpenCase) (pair : ℕ × ℕ) (result : Bool) → case.given.now ≡ given → case.by_node.directed ≡ directed
    → result ≡ is_decided case.by_node.directed (decisions_in case) pair → is_decided directed (stack_of case.stack.items ++ given) pair ≡ result
decided_here directed given case pair result given_is direction is =
    ap₂ (λ (d : Bool) (ds : List Decision). is_decided d (stack_of case.stack.items ++ ds) pair) (sym direction) (sym given_is) ∙ sym is

-- ---- one pass over the steps of a tree of cases that finds the first bad branch

-- all branches so far begin with a number within the limits
pub record AreWithinSoFar (least most : ℕ) (all : List listed.Step) (count : ℕ) (left : List listed.Step) : Type 0 where
  pub done : List (ℕ × ℕ)
  pub split : branch_pairs all ≡ done ++ branch_pairs left
  pub within : AllByRecursion (BeginsWithin least most) done
  pub counted : count ≡ length done

pub within_at_start : (least most : ℕ) (all : List listed.Step) → AreWithinSoFar least most all 0 all
within_at_start least most all = record { done = []; split = refl; within = tt; counted = refl }

pub within_next : (least most : ℕ) (all : List TreeStep) (count index : ℕ) (step other : TreeStep) → index < length all
    → step ≡ get_or all index step → step ≡ other → AreWithinSoFar least most (steps_of all) count (steps_of (drop index all))
    → AreWithinSoFar least most (steps_of all) count (step_of other ∷ steps_of (drop (index + 1) all))
within_next least most all count index step other lt is same h =
    subst (λ (steps : List TreeStep). AreWithinSoFar least most (steps_of all) count (steps_of steps))
    (left_at all index step lt is ∙ ap (λ (s : TreeStep). s ∷ drop (index + 1) all) same) h

at_end : (P : ℕ × ℕ → Type 0) (xs : List (ℕ × ℕ)) (x : ℕ × ℕ) → AllByRecursion P xs → P x → AllByRecursion P (xs ++ x ∷ [])
at_end P [] x h here = (here, tt)
at_end P (y ∷ xs) x h here = (h.0, at_end P xs x h.1 here)

module _ (least most : ℕ) (all : List listed.Step) (count a b : ℕ) (rest : List listed.Step)
    (h : AreWithinSoFar least most all count (listed.Branch a b ∷ rest)) where
  pub within_at_branch : BeginsWithin least most (a, b) → AreWithinSoFar least most all (count + 1) rest
  within_at_branch here = record {
    done = h.done ++ (a, b) ∷ [];
    split = h.split ∙ sym (append_assoc h.done ((a, b) ∷ []) (branch_pairs rest));
    within = at_end (BeginsWithin least most) h.done (a, b) h.within here;
    counted = omega (arith, h.counted, length-append h.done ((a, b) ∷ []));
  }

  pub bad_at_branch : (BeginsWithin least most (a, b) → ⊥) → IsFirstBadBranch least most all (count + 1)
  bad_at_branch bad =
      let long = length-append h.done ((a, b) ∷ branch_pairs rest) in
      let whole = ap length h.split in
      let place : count + 1 - 1 ≡ length h.done = omega (arith, h.counted) in
      record {
        applies = (
          (omega arith, omega (arith, long, whole, h.counted)),
          λ within. bad (subst (BeginsWithin least most)
              (ap (λ (ps : List (ℕ × ℕ)). get_or ps (count + 1 - 1) (0, 0)) h.split
              ∙ ap (λ (k : ℕ). get_or (h.done ++ (a, b) ∷ branch_pairs rest) k (0, 0)) place
              ∙ get_or-append_seam h.done (a, b) (branch_pairs rest) (0, 0)) within),
        );
        none_before = λ earlier lt from.
            let inside : earlier - 1 < length h.done = omega (arith, from, lt, h.counted) in
            subst (BeginsWithin least most)
            (sym (ap (λ (ps : List (ℕ × ℕ)). get_or ps (earlier - 1) (0, 0)) h.split
            ∙ get_or_append_left h.done ((a, b) ∷ branch_pairs rest) (0, 0) (earlier - 1) inside))
            (All-from_recursion (BeginsWithin least most) h.done h.within (earlier - 1) (0, 0) inside);
      }

pub within_at_leaf : (least most : ℕ) (all : List listed.Step) (count : ℕ) (changes : List (ℕ × ℤ)) (rest : List listed.Step)
    → AreWithinSoFar least most all count (listed.Leaf changes ∷ rest) → AreWithinSoFar least most all count rest
within_at_leaf least most all count changes rest h = record { done = h.done; split = h.split; within = h.within; counted = h.counted }

pub none_bad : (least most : ℕ) (steps : List listed.Step) → All (BeginsWithin least most) (branch_pairs steps)
    → AreBranchesWithin least most steps None
none_bad least most steps within = (
  λ first h. h.applies.1 (within (first - 1) (0, 0) (omega (arith, h.applies.0.0, h.applies.0.1))),
  within,
)

pub within_at_end : (least most : ℕ) (all : List TreeStep) (count index : ℕ) → length all ≤ index
    → AreWithinSoFar least most (steps_of all) count (steps_of (drop index all)) → AreBranchesWithin least most (steps_of all) None
within_at_end least most all count index past h =
    none_bad least most (steps_of all) (All-from_recursion (BeginsWithin least most) (branch_pairs (steps_of all))
    (subst (AllByRecursion (BeginsWithin least most)) (sym (h.split ∙ nothing_left)) h.within))
  where
    nothing_left : h.done ++ branch_pairs (steps_of (drop index all)) ≡ h.done
    nothing_left = ap (λ (left : List TreeStep). h.done ++ branch_pairs (steps_of left)) (drop_all index all past) ∙ append-nil h.done

-- ---- steps of which each branch begins at a node

on_nodes : (n : ℕ) (steps : List listed.Step) → AllByRecursion (IsListedStep n) steps
    → AllByRecursion (BeginsWithin 1 n) (branch_pairs steps) → AllByRecursion (IsStepOf n) steps
on_nodes n [] each within = tt
on_nodes n (listed.Branch a b ∷ steps) each within =
    let here = each.0 within.0 in ((within.0, here.0, here.1), on_nodes n steps each.1 within.1)
on_nodes n (listed.Leaf changes ∷ steps) each within = (each.0, on_nodes n steps each.1 within)

pub steps_on_nodes : (n : ℕ) (steps : List listed.Step) → All (IsListedStep n) steps → All (BeginsWithin 1 n) (branch_pairs steps)
    → All (IsStepOf n) steps
steps_on_nodes n steps each within = All-from_recursion (IsStepOf n) steps
    (on_nodes n steps (recursion_from_All (IsListedStep n) steps each)
    (recursion_from_All (BeginsWithin 1 n) (branch_pairs steps) within))

-- ---- the numbers of a leaf, from those of the leaf before by one difference after the other

pub grown_left : (changes : List (ℕ × ℤ)) (numbers : List ℤ) (index : ℕ) (default : ℕ × ℤ) → index < length changes
    → all_grown (drop index changes) numbers ≡ all_grown (drop (index + 1) changes) (grown (get_or changes index default) numbers)
grown_left changes numbers index default lt = ap (λ cs. all_grown cs numbers) (drop-cons changes index default lt) ∙ rw (add-one index) refl

-- how large the numbers are after this many differences
abbrev pub most_after : ℕ → ℕ
most_after index = 2 ^ 64 + index * 2 ^ 63

abbrev pub AreSized : ℕ → List ℤ → Type 0
AreSized index numbers = (k : ℕ) → IsFromTo (neg_ℤ (pos (most_after index))) (pos (most_after index)) (get_or numbers k (pos 0))

pub sum_held : (index : ℕ) (number change from : ℤ) → index < 2 ^ 32 → IsFromTo (neg_ℤ (pos (most_after index))) (pos (most_after index)) number → FitsSigned w64 change → from ≡ change
    → to_z w128 (of_z w128 (to_z w128 (of_z w128 number) +ℤ to_z w128 (of_z w128 from))) ≡ number +ℤ change
sum_held index number change from few h fits is = omega (arith, ints, few, h.0, h.1, fits, is)

pub more_sized : (index place : ℕ) (numbers : List ℤ) (sum number change : ℤ) → AreSized index numbers → place < length numbers → number ≡ get_or numbers place (pos 0)
    → FitsSigned w64 change → sum ≡ number +ℤ change
    → AreSized (index + 1) (set numbers place sum)
more_sized index place numbers sum number change sized lt is fits sum_is k = elim (cases_eq k place) [
  | inl same ↦
      let here : get_or (set numbers place sum) k (pos 0) ≡ sum = ap (λ i. get_or (set numbers place sum) i (pos 0)) same ∙ get_or-set_same numbers place sum (pos 0) lt in
      let own = sized place in
      (omega (arith, ints, here, own.0, is, fits, sum_is), omega (arith, ints, here, own.1, is, fits, sum_is))
  | inr other ↦
      let there : get_or (set numbers place sum) k (pos 0) ≡ get_or numbers k (pos 0) = get_or-set_other numbers place k sum (pos 0) other in
      let own = sized k in
      (omega (arith, ints, there, own.0), omega (arith, ints, there, own.1))
]
