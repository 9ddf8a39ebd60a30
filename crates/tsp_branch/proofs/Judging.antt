-- For src/tour_verdict.rt: what judging the leaves finds is the verdict on the certificate, and bounds every cycle.
-- tsp_verdict imports it, too.
use Rattle.tsp_branch.proofs.Prelude.{◌≡◌, ◌∙◌, ℕ, ◌^◌, ◌≤◌, Bool, true, false, List, [], ◌∷◌, length, take, drop, ℤ, refl, sym, subst, arith, Option, None, Some, pos, neg_ℤ, All, ints, take-append-drop, most_potential, steps_of, are_whole, IsFromTo, IsScale, Family, IsFamily, Decision, decided_number, LeafNumbers, leaves_of, AreLeafNumbers, IsFoundAt, AreCostsFor, BoundsIfAny, CaseTreesBoundCycles, AreSmall, small_multipliers}
use Rattle.std.proofs.Math.Logic.{∥∥₁_elim}
use Rattle.std.proofs.Props.{props}
use Rattle.std.proofs.lemmas.List.Elements.{All-append, All-weaker}
use Rattle.tsp_format.specs.declared.steps.TreeStep.{TreeStep}
use Rattle.tsp_format.specs.Steps as listed
use Rattle.tsp_format.specs.Words.{IsSymmetric}
use Rattle.tsp_cases.specs.declared.family.Crossings.{Crossings}
use Rattle.tsp_cases.specs.declared.judged.TreeVerdict.{TreeVerdict}
use Rattle.tsp_cases.specs.declared.judged.JudgedLeaf.TheVariants as leaves
use Rattle.tsp_cases.specs.Families.{AreFamilies, families_with}
use Rattle.tsp_cases.specs.ListedCases.{AreGoodNumbers, as_leaf_numbers, most_crossed, split_at, no_numbers_of, listed_steps, AreBranchesWithin, AreBranchesJudged}
use Rattle.tsp_cases.specs.JudgedTrees.{AreCasesOf}
use Rattle.tsp_cases.specs.declared.judged.CheckedTree.{CheckedTree}
use Rattle.tsp_cases.specs.JudgedLeaves.{AreJudgedBy, IsFoundOfCase}
use Rattle.tsp_cases.proofs.Passes.{whole_trees, by_leaves, on_bound}
use Rattle.tsp_branch.specs.BranchVerdicts.{AreJudgedLeaves, BoundsCycles, IsBranchVerdict}

pub good_are_small : (n : ℕ) (crossed : List Crossings) (numbers : List ℤ) → All (λ own. 1 ≤ own.most) crossed
    → AreGoodNumbers n crossed (split_at n numbers) → AreSmall numbers
good_are_small n crossed numbers some good =
    subst AreSmall (take-append-drop n numbers)
    (All-append (IsFromTo (neg_ℤ (pos (2 ^ 64))) (pos (2 ^ 64))) (take n numbers) (drop n numbers)
    (All-weaker (IsFromTo (neg_ℤ (pos most_potential)) (pos most_potential)) (IsFromTo (neg_ℤ (pos (2 ^ 64))) (pos (2 ^ 64)))
    (λ z is. (omega (arith, ints, is.0), omega (arith, ints, is.1))) (take n numbers) good.potentials_are)
    (All-weaker (IsFromTo (pos 0) (pos most_crossed)) (IsFromTo (neg_ℤ (pos (2 ^ 64))) (pos (2 ^ 64)))
    (λ z is. (omega (arith, ints, is.0), omega (arith, ints, is.1))) (drop n numbers)
    (small_multipliers n crossed (take n numbers) (drop n numbers) some good)))

pub found_of_case : (Found : List Decision × LeafNumbers → Option ℤ → Type 0) (n : ℕ) (crossed : List Crossings)
    (case : List Decision) (numbers potentials multipliers : List ℤ) (own : Option ℤ)
    → All (λ own. 1 ≤ own.most) crossed → AreGoodNumbers n crossed (split_at n numbers)
    → potentials ≡ take n numbers → multipliers ≡ drop n numbers → Found (case, as_leaf_numbers potentials multipliers) own
    → IsFoundOfCase Found (AreGoodNumbers n crossed) n case numbers (leaves.Found own)
found_of_case Found n crossed case numbers potentials multipliers own some good of_nodes of_families is = (
  good,
  good_are_small n crossed numbers some good,
  subst (λ (zs : List ℤ). Found (case, as_leaf_numbers (take n numbers) zs) own) of_families
      (subst (λ (zs : List ℤ). Found (case, as_leaf_numbers zs multipliers) own) of_nodes is),
)

-- good numbers in the slice that the code reads
pub good_read : (n p : ℕ) (crossed : List Crossings) (read numbers : List ℤ) → p ≡ n → read ≡ numbers → AreGoodNumbers p crossed
    (as_leaf_numbers (take p read) (drop p read))
    → AreGoodNumbers n crossed (split_at n numbers)
good_read n p crossed read numbers at same good =
    subst (λ (zs : List ℤ). AreGoodNumbers n crossed (split_at n zs)) same
    (subst (λ (k : ℕ). AreGoodNumbers k crossed (split_at k read)) at good)

-- the numbers judged to be good are those in the leaf's memory
pub numbers_are : (n p : ℕ) (crossed : List Crossings) (read potentials multipliers : List ℤ) → p ≡ n → potentials ≡ take p read → multipliers ≡ drop p read
    → AreGoodNumbers p crossed (as_leaf_numbers (take p read) (drop p read)) → AreGoodNumbers n crossed (as_leaf_numbers potentials multipliers)
numbers_are n p crossed read ps ms at of_nodes of_families good =
    subst (λ (k : ℕ). AreGoodNumbers k crossed (as_leaf_numbers ps ms)) at
    (subst (λ (zs : List ℤ). AreGoodNumbers p crossed (as_leaf_numbers ps zs)) (sym of_families)
    (subst (λ (zs : List ℤ). AreGoodNumbers p crossed (as_leaf_numbers zs (drop p read))) (sym of_nodes) good))

-- ---- the whole

-- the least bound of all leaves, or the first bad leaf, is the judgement on a certificate whose families are good
pub certificate_judged : (directed : Bool) (n : ℕ) (cost : ℕ → ℕ → ℤ) (scale : ℤ) (families : List Family) (crossed : List Crossings)
    (given : List Decision) (steps : List listed.Step) (found : TreeVerdict)
    → AreJudgedBy (IsFoundAt directed n cost scale decided_number families) (AreGoodNumbers n crossed) n (length crossed) given steps
    found
    → All (IsFamily n) families → are_whole 1 steps ≡ true
    → AreJudgedLeaves directed n cost scale families crossed given steps found
certificate_judged directed n cost scale families crossed given steps found is are whole =
    by_leaves _ _ (AreJudgedLeaves directed n cost scale families crossed given steps) found is (λ bound is. (
      record {
        families_are = are;
        whole = sym (whole_trees n (no_numbers_of n (length crossed)) 1 steps) ∙ whole;
        numbers_are = All-weaker (λ leaf. AreGoodNumbers n crossed leaf.1) (λ leaf. AreLeafNumbers n leaf.1)
            (λ leaf good. record { each_node = good.each_node; signs = good.signs })
            (leaves_of (given ∷ []) (listed_steps n (length crossed) steps)) is.0;
      },
      is.1,
      is.2,
    )) (λ leaf is. is)

pub cycles_of : CaseTreesBoundCycles → (directed : Bool) (n : ℕ) (cost : ℕ → ℕ → ℤ) (scale : ℤ) (families : List Family)
    (crossed : List Crossings) (given : List Decision) (steps : List listed.Step) (found : TreeVerdict)
    → AreCostsFor directed n cost → IsScale scale → ∥ All (IsFamily n) families ∥₁
    → (All (IsFamily n) families → AreJudgedLeaves directed n cost scale families crossed given steps found)
    → BoundsCycles directed n cost given found
cycles_of bounds directed n cost scale families crossed given steps found costs_are scale_in are is =
    on_bound (BoundsIfAny directed n cost given) found (λ bound same. each bound (λ sure.
    let judged = subst (AreJudgedLeaves directed n cost scale families crossed given steps) same (is sure) in
    bounds directed n cost scale decided_number families given (listed_steps n (length crossed) steps) bound costs_are scale_in
    judged.0 judged.1))
  where
    each : (own : Option ℤ) → (All (IsFamily n) families → BoundsIfAny directed n cost given own)
        → BoundsIfAny directed n cost given own
    each (Some bound) if_sure = λ nodes cycle keeps. ∥∥₁_elim are (hlevel props) (λ sure. if_sure sure nodes cycle keeps)
    each None if_sure = λ nodes cycle keeps. ∥∥₁_elim are (hlevel props) (λ sure. if_sure sure nodes cycle keeps)

-- three nodes, and symmetric costs if pairs have no direction
pub costs_for : (directed : Bool) (n : ℕ) (cost : ℕ → ℕ → ℤ) → 3 ≤ n → (directed ≡ false → IsSymmetric cost)
    → AreCostsFor directed n cost
costs_for false n cost some even = (some, even refl)
costs_for true n cost some even = omega (arith, some)

-- ---- the same of the judgement on a tree of cases

module _ (n : ℕ) (cost : ℕ → ℕ → ℤ) where
  pub judged_of : (families : List Family) (crossed : List Crossings) (found : TreeVerdict) (cases : CheckedTree) (directed : Bool) (scale : ℤ) (given : List Decision) (steps : List TreeStep)
      → AreCasesOf n directed scale given steps cases
      → AreJudgedLeaves cases.directed n cost cases.scale families crossed cases.given.now (steps_of cases.steps.now) found
      → AreJudgedLeaves directed n cost scale families crossed given (steps_of steps) found
  judged_of families crossed found cases directed scale given steps are is =
      subst (λ (d : Bool). AreJudgedLeaves d n cost scale families crossed given (steps_of steps) found) are.direction
      (subst (λ (z : ℤ). AreJudgedLeaves cases.directed n cost z families crossed given (steps_of steps) found) are.scale_is
      (subst (λ (ds : List Decision). AreJudgedLeaves cases.directed n cost cases.scale families crossed ds (steps_of steps) found) are.given_are
      (subst (λ (ss : List TreeStep). AreJudgedLeaves cases.directed n cost cases.scale families crossed cases.given.now (steps_of ss) found) are.steps_are is)))

  pub cycles_of_cases : (found : TreeVerdict) (cases : CheckedTree) (directed : Bool) (scale : ℤ) (given : List Decision) (steps : List TreeStep)
      → AreCasesOf n directed scale given steps cases
      → BoundsCycles cases.directed n cost cases.given.now found → BoundsCycles directed n cost given found
  cycles_of_cases found cases directed scale given steps are is =
      subst (λ (d : Bool). BoundsCycles d n cost given found) are.direction
      (subst (λ (ds : List Decision). BoundsCycles cases.directed n cost ds found) are.given_are is)

-- if families are good, and each branch is on two nodes and none comes twice, the verdict on the leaves is that on the
-- certificate
pub verdict_of_leaves : (directed : Bool) (n : ℕ) (cost : ℕ → ℕ → ℤ) (scale : ℤ) (families : List (List (List ℕ)))
    (crossed : List Crossings) (given : List Decision) (steps : List listed.Step) (found : TreeVerdict)
    → AreFamilies n families crossed → AreBranchesWithin 1 n steps None → AreBranchesJudged directed given steps None
    → AreJudgedLeaves directed n cost scale (families_with crossed families) crossed given steps found
    → IsBranchVerdict directed n cost scale families given steps found
verdict_of_leaves directed n cost scale families crossed given steps found are on_nodes once is =
    by_leaves _ _ (IsBranchVerdict directed n cost scale families given steps) found is
    (λ bound leaves. record { crossed = crossed; are_families = are; on_nodes = on_nodes; are_once = once; leaves = leaves })
    (λ leaf leaves. record { crossed = crossed; are_families = are; on_nodes = on_nodes; are_once = once; leaves = leaves })
