-- For src/plan_verdict.rt: the families so far are sets of customers with their numbers (`HaveCuts`, `good_so_far`),
-- the numbers of a leaf are good as they are read (`plan_numbers_read`), and one pass goes over all leaves.
use Rattle.tsp_routing.proofs.Prelude.{◌≡◌, ◌≢◌, ℕ, zero, suc, ◌+◌, ◌≤◌, ◌<◌, ◌==◌, Bool, true, false, List, [], ◌∷◌, length, get_or, refl, sym, ap, ◌∙◌, subst, arith, inl, inr, ◌^◌, ◌++◌, length-append, ◌-◌, take, drop, cases_Bool, both_ways, or_left, or_right, eq-eqb, cases_lt, ints, get_or_append_left, get_or_push, get_or_default, get_or-map, length-map, take-append-drop, recursion_from_All, All-from_recursion, All-append, All-weaker, Vec, All, range_with_len, AllByRecursion, ℤ, pos, if◌then◌else◌, ◌≤ℤ◌, Some, replicate, Option, None, neg_ℤ, most_potential, most_demand, IsNode, nodes_to, are_whole, IsFromTo, IsScale, sum_int_by, IsCustomer, RoutingProblem, demand_of, whole_trees, IsAbove, IsLeastFound, LeafNumbers, has, AreSetsOf, lists_of, families_in, HasEachOnce, IsFamily, family_with, families_with, BeginsWithin, branch_pairs, as_leaf_numbers, IsStepOf, split_at, no_numbers_of, listed_steps, Crossings, Decision}
use Rattle.tsp_format.specs.Steps as listed
use Rattle.tsp_cases.specs.JudgedLeaves.{IsFoundOfCase}
use Rattle.tsp_cases.specs.declared.judged.JudgedLeaf.TheVariants as leaves
use Rattle.tsp_cases.specs.states.OpenCases.{AreSmall}
use Rattle.tsp_routing.proofs.CutNeeds.{apart_from_pairs, held, no_depot}
use Rattle.tsp_routing.proofs.RouteProducts.{each_small}
use Rattle.tsp_routing.specs.PlanLinks.{IsCutFamily}
use Rattle.tsp_routing.specs.PlanVerdicts.{IsGoodSet, IsFirstBadSet, AreCapacityCuts, most_of_multipliers, ArePlanNumbers, AreGoodBranches}
use Rattle.tsp_routing.specs.declared.demands.Demands.{Demands}
use Rattle.tsp_routing.specs.states.Demands.{loads_problem}
use Rattle.tsp_routing.specs.states.Judged.{AreCutNumbers}
use Rattle.tsp_routing.specs.states.LeafWeights.{IsPlanStep}

-- ---- how many customers a set has

ones : (xs : List ℕ) → sum_int_by (λ (x : ℕ). pos 1) xs ≡ pos (length xs)
ones [] = refl
ones (x ∷ xs) = let rest = ones xs in omega (arith, ints, rest)

at_most : (test : ℕ → Bool) (a m : ℕ) → sum_int_by (λ x. if test x then pos 1 else pos 0) (range_with_len a m) ≤ℤ pos m
at_most test a zero = omega (arith, ints)
at_most test a (suc m) =
    let rest = at_most test (a + 1) m in
    elim (cases_Bool (test a)) [
      | inl t ↦ rw t (omega (arith, ints, rest))
      | inr f ↦ rw f (omega (arith, ints, rest))
    ]

few_in : (n : ℕ) (test : ℕ → Bool) → sum_int_by (λ x. if test x then pos 1 else pos 0) (nodes_to n) ≤ℤ pos n
unfolding nodes_to
few_in n test = at_most test 1 n

pub few_customers : (n depot : ℕ) (nodes : List ℕ) → All (IsNode n) nodes → HasEachOnce nodes → length nodes ≤ n
unfolding nodes_to
few_customers n depot nodes inside once =
    let all = held (λ x. pos 1) n nodes (apart_from_pairs nodes once) (recursion_from_All (IsNode n) nodes inside) in
    let sum : sum_int_by (λ (x : ℕ). pos 1) nodes ≡ sum_int_by (λ x. if has nodes x then pos 1 else pos 0) (nodes_to n) = sym all in
    below (length nodes) n (sum_int_by (λ (x : ℕ). pos 1) nodes) (sum_int_by (λ x. if has nodes x then pos 1 else pos 0) (nodes_to n))
    (ones nodes) sum (few_in n (has nodes))
  where
    below : (k m : ℕ) (a b : ℤ) → a ≡ pos k → a ≡ b → b ≤ℤ pos m → k ≤ m
    below k m a b first same few = omega (arith, ints, first, same, few)

-- ---- one set

pub one_set : (sets : List (Vec ℕ)) (v : Vec ℕ) → length sets ≡ 1 → v ≡ get_or sets 0 v → lists_of sets ≡ v.items ∷ []
one_set [] v is at = absurd (omega (arith, is))
one_set (s ∷ []) v is at = ap (λ (t : Vec ℕ). t.items ∷ []) (sym at)
one_set (s ∷ t ∷ sets) v is at = absurd (omega (arith, is))

pub one_list : (sets : List (Vec ℕ)) (v : Vec ℕ) (nodes : List ℕ) → length sets ≡ 1 → v ≡ get_or sets 0 v → nodes ≡ v.items
    → lists_of sets ≡ nodes ∷ []
one_list sets v nodes is at same = one_set sets v is at ∙ ap (λ (xs : List ℕ). xs ∷ []) (sym same)

pub nodes_inside : (n : ℕ) (sets : List (Vec ℕ)) (v : Vec ℕ) (nodes : List ℕ) → AreSetsOf n sets → length sets ≡ 1 → v ≡ get_or sets 0 v
    → nodes ≡ v.items → All (IsNode n) nodes
nodes_inside n sets v nodes inside is at same =
    subst (All (IsNode n)) (sym same) (subst (λ (u : Vec ℕ). All (IsNode n) u.items) (sym at) (inside 0 v (omega (arith, is))))

first : List (List ℕ) → List ℕ
first [] = []
first (x ∷ xs) = x

pub depot_inside : (n depot : ℕ) (sets : List (List ℕ)) (nodes : List ℕ) → sets ≡ nodes ∷ [] → has nodes depot ≡ true
    → IsGoodSet n depot sets → ⊥
unfolding first
depot_inside n depot sets nodes is inside good =
    let same : good.customers ≡ nodes = ap first (sym good.alone ∙ is) in
    let off = no_depot n depot good.customers (recursion_from_All (IsCustomer n depot) good.customers good.inside) in
    both_ways (has nodes depot) (subst (λ (xs : List ℕ). has xs depot ≡ false) same off) inside

pub is_one_set : (n depot : ℕ) (sets : List (List ℕ)) (nodes : List ℕ) → sets ≡ nodes ∷ [] → nodes ≢ [] → All (IsNode n) nodes
    → HasEachOnce nodes → has nodes depot ≡ false → IsGoodSet n depot sets
is_one_set n depot sets nodes is some inside once off = record {
  customers = nodes;
  alone = is;
  some = some;
  inside = λ k d lt. (inside k d lt, λ same. both_ways (has nodes depot) off (others nodes k d lt same));
  once = once;
}
  where
    others : (xs : List ℕ) (k d : ℕ) → k < length xs → get_or xs k d ≡ depot → has xs depot ≡ true
    others [] k d lt same = absurd (omega (arith, lt))
    others (x ∷ xs) zero d lt same = or_left (x == depot) (has xs depot) (eq-eqb x depot same)
    others (x ∷ xs) (suc k) d lt same = or_right (x == depot) (has xs depot) (others xs k d (omega (arith, lt)) same)

pub customers_of : (n depot : ℕ) (nodes : List ℕ) → IsGoodSet n depot (nodes ∷ []) → All (IsCustomer n depot) nodes
unfolding first
customers_of n depot nodes good = subst (All (IsCustomer n depot)) (ap first (sym good.alone)) good.inside

-- ---- the families of a certificate, one after the other: how often plans cross each

-- the families so far have their numbers
abbrev pub HaveCuts : Demands → List (List (List ℕ)) → List Crossings → Type 0
HaveCuts demands families crossed = (k : ℕ) (default : Crossings) → k < length crossed
    → AreCutNumbers demands (get_or families k []) (Some (get_or crossed k default))

pub cuts_more : (demands : Demands) (families : List (List (List ℕ))) (crossed : List Crossings) (own : Crossings)
    → HaveCuts demands families crossed → AreCutNumbers demands (get_or families (length crossed) []) (Some own)
    → HaveCuts demands families (crossed ++ own ∷ [])
cuts_more demands families crossed own before here k default lt = elim (cases_lt k (length crossed)) [
  | inl old ↦
      subst (λ (c : Crossings). AreCutNumbers demands (get_or families k []) (Some c))
      (sym (get_or_append_left crossed (own ∷ []) default k old)) (before k default old)
  | inr new ↦
      let last : length crossed ≡ k = omega (arith, new, lt, length-append crossed (own ∷ [])) in
      subst (λ (c : Crossings). AreCutNumbers demands (get_or families k []) (Some c)) (sym (get_or_push crossed own default k last))
      (subst (λ (m : ℕ). AreCutNumbers demands (get_or families m []) (Some own)) last here)
]

abbrev zero_crossed : Crossings
zero_crossed = record { least = 0; most = 0 }

-- so each of them is good
pub good_so_far : (demands : Demands) (place : ℕ) (families : List (List (List ℕ))) (crossed : List Crossings) → length crossed ≡ place
    → HaveCuts demands families crossed → (other : ℕ) → other < place
    → IsGoodSet demands.nodes demands.depot (get_or families other [])
good_so_far demands place families crossed many have other lt = (have other zero_crossed (omega (arith, lt, many))).0

cuts_all : (demands : Demands) (cost : ℕ → ℕ → ℤ) (crossed : List Crossings) (families : List (List (List ℕ)))
    → length crossed ≡ length families → HaveCuts demands families crossed
    → AllByRecursion (IsCutFamily (loads_problem demands cost)) (families_with crossed families)
cuts_all demands cost [] families many h = tt
cuts_all demands cost (own ∷ crossed) [] many h = absurd (omega (arith, many))
cuts_all demands cost (own ∷ crossed) (sets ∷ families) many h = (
  (h 0 own (omega arith)).2 cost,
  cuts_all demands cost crossed families (omega (arith, many)) (λ k default lt. h (suc k) default (omega (arith, lt))),
)

pub all_cuts : (demands : Demands) (families : List (List (List ℕ))) (crossed : List Crossings) → length crossed ≡ length families
    → HaveCuts demands families crossed → (cost : ℕ → ℕ → ℤ) → AreCapacityCuts (loads_problem demands cost) families crossed
all_cuts demands families crossed many have cost = record {
  many = many;
  good = good_so_far demands (length families) families crossed many have;
  are = All-from_recursion (IsCutFamily (loads_problem demands cost)) (families_with crossed families)
      (cuts_all demands cost crossed families many have);
}

pub first_bad : (n depot place : ℕ) (families : List (List (List ℕ))) → place < length families
    → ((other : ℕ) → other < place → IsGoodSet n depot (get_or families other []))
    → (IsGoodSet n depot (get_or families place []) → ⊥) → IsFirstBadSet n depot families (place + 1)
first_bad n depot place families lt before bad =
    let same : place + 1 - 1 ≡ place = omega arith in
    record {
      applies = (
        (omega arith, omega (arith, lt)),
        λ good. bad (subst (λ (k : ℕ). IsGoodSet n depot (get_or families k [])) same good),
      );
      none_before = λ other less from. before (other - 1) (omega (arith, less, from));
    }

-- ---- as families of cycles

abbrev pub lone_numbers : Crossings
lone_numbers = record { least = 2; most = 3 }

pub lone_hold : (P : Crossings → Type 0) → P lone_numbers → (k : ℕ) → All P (replicate k lone_numbers)
lone_hold P own k = All-from_recursion P (replicate k lone_numbers) (each k)
  where
    each : (k : ℕ) → AllByRecursion P (replicate k lone_numbers)
    each zero = tt
    each (suc k) = (own, each k)

-- one set of customers is a lone set: it leaves the depot out
lone : (n depot : ℕ) (sets : List (List ℕ)) (customers : List ℕ) → sets ≡ customers ∷ [] → IsNode n depot → customers ≢ []
    → All (IsCustomer n depot) customers → IsFamily n (family_with lone_numbers sets)
lone n depot sets [] is depot_in some inside = absurd (some refl)
lone n depot sets (x ∷ xs) is depot_in some inside =
    subst (λ (ss : List (List ℕ)). IsFamily n (family_with lone_numbers ss)) (sym is) (inl (record {
      kind = inl (record {
        alone = refl;
        inside = x;
        outside = depot;
        inside_node = (inside 0 x (omega arith)).0;
        outside_node = depot_in;
        has_inside = or_left (x == x) (has xs x) (eq-eqb x x refl);
        lacks_outside = no_depot n depot (x ∷ xs) (recursion_from_All (IsCustomer n depot) (x ∷ xs) inside);
      });
      least_is = refl;
      most_is = refl;
    }))

lone_all : (n depot : ℕ) (families : List (List (List ℕ))) (k : ℕ) → k ≡ length families → IsNode n depot
    → ((place : ℕ) → place < length families → IsGoodSet n depot (get_or families place []))
    → AllByRecursion (IsFamily n) (families_with (replicate k lone_numbers) families)
lone_all n depot [] zero many depot_in good = tt
lone_all n depot [] (suc k) many depot_in good = absurd (omega (arith, many))
lone_all n depot (sets ∷ families) zero many depot_in good = absurd (omega (arith, many))
lone_all n depot (sets ∷ families) (suc k) many depot_in good =
    let own = good 0 (omega arith) in (
      lone n depot sets own.customers own.alone depot_in own.some own.inside,
      lone_all n depot families k (omega (arith, many)) depot_in (λ place lt. good (suc place) (omega (arith, lt))),
    )

pub all_lone : (n depot : ℕ) (families : List (List (List ℕ))) (k : ℕ) → k ≡ length families → IsNode n depot
    → ((place : ℕ) → place < length families → IsGoodSet n depot (get_or families place []))
    → All (IsFamily n) (families_with (replicate k lone_numbers) families)
all_lone n depot families k many depot_in good =
    All-from_recursion (IsFamily n) (families_with (replicate k lone_numbers) families) (lone_all n depot families k many depot_in good)

pub all_once : (n depot : ℕ) (families : List (List (List ℕ)))
    → ((place : ℕ) → place < length families → IsGoodSet n depot (get_or families place [])) → All (All HasEachOnce) families
all_once n depot families good = λ k d lt.
    let own = good k lt in
    subst (All HasEachOnce) (get_or_default families k [] d lt) (subst (All HasEachOnce) (sym own.alone)
    (All-from_recursion HasEachOnce (own.customers ∷ []) (own.once, tt)))

pub few_sets : (n depot : ℕ) (families : List (Vec (Vec ℕ)))
    → ((place : ℕ) → place < length (families_in families) → IsGoodSet n depot (get_or (families_in families) place []))
    → All (λ sets. length sets.items < 2 ^ 32) families
few_sets n depot families good = λ k d lt.
    let long = length-map families (λ (f : Vec (Vec ℕ)). lists_of f.items) in
    let own = good k (omega (arith, lt, long)) in
    let here = get_or-map (λ (f : Vec (Vec ℕ)). lists_of f.items) families k d [] lt in
    let count = length-map (get_or families k d).items (λ (set : Vec ℕ). set.items) in
    let one = ap length own.alone in
    let same = ap length here in
    omega (arith, count, one, same)

-- ---- the judge of leaves for routes: numbers that are in range, what is found of one leaf

-- ---- one leaf

pub plan_numbers_small : (n families : ℕ) (numbers : List ℤ) → ArePlanNumbers n families (split_at n numbers) → AreSmall numbers
plan_numbers_small n families numbers good =
    subst AreSmall (take-append-drop n numbers)
    (All-append (IsFromTo (neg_ℤ (pos (2 ^ 64))) (pos (2 ^ 64))) (take n numbers) (drop n numbers)
    (All-weaker (IsFromTo (neg_ℤ (pos most_potential)) (pos most_potential)) (IsFromTo (neg_ℤ (pos (2 ^ 64))) (pos (2 ^ 64)))
    (λ z is. (omega (arith, ints, is.0), omega (arith, ints, is.1))) (take n numbers) good.potentials_are)
    (All-weaker (IsFromTo (neg_ℤ (pos most_of_multipliers)) (pos most_of_multipliers)) (IsFromTo (neg_ℤ (pos (2 ^ 64))) (pos (2 ^ 64)))
    (λ z is. (omega (arith, ints, is.0), omega (arith, ints, is.1))) (drop n numbers)
    (All-from_recursion (IsFromTo (neg_ℤ (pos most_of_multipliers)) (pos most_of_multipliers)) (drop n numbers)
    (each_small most_of_multipliers (drop n numbers) good.sum))))

pub found_of_plan_leaf : (Found : List Decision × LeafNumbers → Option ℤ → Type 0) (n families : ℕ) (case : List Decision)
    (numbers potentials multipliers : List ℤ) (own : Option ℤ)
    → ArePlanNumbers n families (split_at n numbers) → potentials ≡ take n numbers → multipliers ≡ drop n numbers
    → Found (case, as_leaf_numbers potentials multipliers) own
    → IsFoundOfCase Found (ArePlanNumbers n families) n case numbers (leaves.Found own)
found_of_plan_leaf Found n families case numbers potentials multipliers own good of_nodes of_families is = (
  good,
  plan_numbers_small n families numbers good,
  subst (λ (zs : List ℤ). Found (case, as_leaf_numbers (take n numbers) zs) own) of_families
      (subst (λ (zs : List ℤ). Found (case, as_leaf_numbers zs multipliers) own) of_nodes is),
)

-- good numbers as they are read, if as many are read as there are nodes and families
pub plan_numbers_read : (n p families f : ℕ) (numbers : List ℤ) → p ≡ n → f ≡ families
    → ArePlanNumbers p f (as_leaf_numbers (take p numbers) (drop p numbers)) → ArePlanNumbers n families (split_at n numbers)
plan_numbers_read n p families f numbers at many good =
    subst (λ (k : ℕ). ArePlanNumbers n k (split_at n numbers)) many
    (subst (λ (k : ℕ). ArePlanNumbers k f (split_at k numbers)) at good)

pub plan_numbers_kept : (n families : ℕ) (numbers potentials multipliers : List ℤ) → potentials ≡ take n numbers
    → multipliers ≡ drop n numbers → ArePlanNumbers n families (split_at n numbers)
    → ArePlanNumbers n families (as_leaf_numbers potentials multipliers)
plan_numbers_kept n families numbers ps ms of_nodes of_families good =
    subst (λ (zs : List ℤ). ArePlanNumbers n families (as_leaf_numbers ps zs)) (sym of_families)
    (subst (λ (zs : List ℤ). ArePlanNumbers n families (as_leaf_numbers zs (drop n numbers))) (sym of_nodes) good)

-- ---- all leaves

module _ (P : Type 0) (Found : List Decision × LeafNumbers → Option ℤ → Type 0) (holds : P) where
  abbrev FoundIf : List Decision × LeafNumbers → Option ℤ → Type 0
  FoundIf leaf own = P → Found leaf own

  above_if : (bound : ℤ) (leaf : List Decision × LeafNumbers) → IsAbove FoundIf bound leaf → IsAbove Found bound leaf
  above_if bound leaf (inl none) = inl (none holds)
  above_if bound leaf (inr own) = inr (own.0, own.1 holds, own.2)

  pub least_if : (all : List (List Decision × LeafNumbers)) (found : Option ℤ) → IsLeastFound FoundIf all found
      → IsLeastFound Found all found
  least_if all (Some bound) is =
      let there = is.1 in (
        All-weaker (IsAbove FoundIf bound) (IsAbove Found bound) (above_if bound) all is.0,
        (there.0, there.1, there.2, there.3, there.4 holds),
      )
  least_if all None is = All-weaker (λ leaf. FoundIf leaf None) (λ leaf. Found leaf None) (λ leaf own. own holds) all is

-- ---- steps on families

on_families : (n families : ℕ) (steps : List listed.Step) → AllByRecursion (IsPlanStep n) steps
    → AllByRecursion (BeginsWithin (n + 1) (n + families)) (branch_pairs steps) → AllByRecursion (IsStepOf (n + families)) steps
on_families n families [] each within = tt
on_families n families (listed.Branch a b ∷ steps) each within =
    let least = within.0.0 in
    let most = within.0.1 in
    let from = each.0.0 in
    let to = each.0.1 in (
      ((omega (arith, least), most), (from, omega (arith, to)), λ same. absurd (omega (arith, least, to, same))),
      on_families n families steps each.1 within.1,
    )
on_families n families (listed.Leaf changes ∷ steps) each within = (each.0, on_families n families steps each.1 within)

pub steps_on_families : (n families : ℕ) (steps : List listed.Step) → All (IsPlanStep n) steps
    → AreGoodBranches n families steps → All (IsStepOf (n + families)) steps
steps_on_families n families steps each within = All-from_recursion (IsStepOf (n + families)) steps
    (on_families n families steps (recursion_from_All (IsPlanStep n) steps each)
    (recursion_from_All (BeginsWithin (n + 1) (n + families)) (branch_pairs steps) within))

-- ---- the whole

-- each family has one set
pub single_sets : (n depot : ℕ) (families : List (List (List ℕ)))
    → ((place : ℕ) → place < length families → IsGoodSet n depot (get_or families place [])) → All (λ sets. length sets ≡ 1) families
single_sets n depot families good = λ k d lt. ap length (sym (get_or_default families k [] d lt)) ∙ ap length (good k lt).alone

-- no node's demand is below 0
pub no_demand_below : (n : ℕ) (demands : List ℤ) → length demands ≡ n → All (IsFromTo (pos 0) (pos most_demand)) demands
    → (node : ℕ) → IsNode n node → pos 0 ≤ℤ demand_of demands node
no_demand_below n demands each are node inside = (are (node - 1) (pos 0) (omega (arith, each, inside.0, inside.1))).0
