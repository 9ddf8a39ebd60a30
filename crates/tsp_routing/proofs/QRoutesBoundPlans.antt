-- For the laws on bounds by q-routes: crossings of routes are even, the limits of a case hold, and the bound of a
-- certificate is at most the length of each plan. Proofs in tsp_verdict use it, too.
use Rattle.tsp_routing.proofs.Prelude.{get_or, ◌⊎◌, ◌≡◌, ℕ, ◌+◌, ◌-◌, ◌*◌, Bool, true, false, List, [], ◌∷◌, length, ◌≤ℤ◌, inl, inr, refl, arith, Option, None, Some, ap, subst, suc, ◌==◌, ◌&&◌, not, cond, sym, ap₂, ◌∙◌, ◌≤◌, suc_ℤ-*ℤ, zero-*ℤ, *ℤ-zero, *ℤ_comm, cases_lt, both_ways, cases_Bool, and_parts, eqb-true, ints, recursion_from_All, All-from_recursion, AllByRecursion, concat, All, ℤ, pos, negsuc, ◌+ℤ◌, max, min, ◌*ℤ◌, none_or_one, evenly, sum_below, sum_zero, one_if, difference, sum_int_by-add, entry, weight_between, IsScale, links, length_of, RoutingProblem, sum_int_by, IsPlan, plan_length, crossing, crosses, weight_of, over_sum, size_of_link, multiplied, crossings_of, leaves_of, LeafNumbers, Family, family_crossings, family_with, families_with, Crossings, Decision}
use Rattle.tsp_cases.specs.Cases.{BoundsKept}
use Rattle.tsp_cases.proofs.Solutions.{leaves_are_kept, least_found_bounds, one_found}
use Rattle.tsp_routing.proofs.CutNeeds.{routes_are_q_routes}
use Rattle.tsp_routing.proofs.Plans.{lengths_are_weights, plan_firsts, plan_seconds, count_of_plan, plans_have_few_routes, all_same, plans_cross_cuts, lone_crossings, fewest_routes, least_at, least_between, split_surplus, between_weight}
use Rattle.tsp_routing.specs.PlanBounds.{surplus, least_times, low_of, high_of, limits_total, q_route_weight, PlanBoundsBoundPlans, least_product, IsPlanBound, IsQRouteBound, IsFoundByQRoutes, BoundsPlansIfAny, PlanTreesBoundPlans, PlanTreeBoundsAreUnique}
use Rattle.tsp_routing.specs.PlanLinks.{part_crossed, set_at, KeepsLimit, plans, PlansCrossEvenly, PlansKeepEitherLimit, PlansKeepLeaves, IsFewest, plan_links, IsRoutable, IsCutFamily, IsWithinLimit, IsFilledPlan, AreUnits, load_in, capacity_in_parts, KeepsEachLimit}
use Rattle.tsp_routing.specs.QRoutes.{IsLeastAmong, IsQRoute, IsBelowQRoutes}

-- ---- parity

even : (part : ℕ → Bool) (depot : ℕ) (routes : List (List ℕ)) → (half : ℤ) × (part_crossed part depot routes ≡ half +ℤ half)
even part depot [] = (pos 0, refl)
even part depot (route ∷ routes) =
    let own = evenly part (depot ∷ route) in
    let rest = even part depot routes in
    (own.0 +ℤ rest.0, omega (arith, ints, own.1, rest.1))

crossed_low : (part : ℕ → Bool) (nodes : List ℕ) → pos 0 ≤ℤ length_of (crossing part) nodes
crossed_low part nodes =
    let below = sum_below (λ (link : ℕ × ℕ). pos 0) (λ (link : ℕ × ℕ). crossing part link.0 link.1) (links nodes)
    (λ link. (none_or_one (crosses part (link.0, link.1))).0) in
    omega (arith, ints, below, sum_zero (links nodes))

part_low : (part : ℕ → Bool) (depot : ℕ) (routes : List (List ℕ)) → pos 0 ≤ℤ part_crossed part depot routes
part_low part depot [] = omega (arith, ints)
part_low part depot (route ∷ routes) = omega (arith, ints, crossed_low part (depot ∷ route), part_low part depot routes)

half_of : (crossed half : ℤ) → crossed ≡ half +ℤ half → pos 0 ≤ℤ crossed → (count : ℕ) × (crossed ≡ pos (2 * count))
half_of crossed (pos h) is low = (h, omega (arith, ints, is))
half_of crossed (negsuc h) is low = absurd (omega (arith, ints, is, low))

pub plans_cross_evenly : PlansCrossEvenly
plans_cross_evenly part depot routes =
    let halves = even part depot routes in
    half_of (part_crossed part depot routes) halves.0 halves.1 (part_low part depot routes)

pub plans_keep_either_limit : PlansKeepEitherLimit
plans_keep_either_limit part depot routes half =
    let own = plans_cross_evenly part depot routes in
    elim (cases_lt half own.0) [
      | inl lt ↦ inr (omega (arith, ints, own.1, lt))
      | inr le ↦ inl (omega (arith, ints, own.1, le))
    ]

-- ---- the tree

-- routes keep each limit or its opposite
pub keeps_either : (problem : RoutingProblem) (families : List Family) (routes : List (List ℕ)) (pair : ℕ × ℕ)
    → (plans problem families).Keeps routes (record { pair = pair; taken = true })
    ⊎ (plans problem families).Keeps routes (record { pair = pair; taken = false })
keeps_either problem families routes pair =
    plans_keep_either_limit (set_at families (pair.0 - (problem.nodes + 1))) problem.depot routes pair.1

pub plans_keep_leaves : PlansKeepLeaves
plans_keep_leaves problem families = leaves_are_kept (List (List ℕ)) (plans problem families) (keeps_either problem families)

-- what bounds all plans that keep no limit bounds all plans
pub every_plan : (problem : RoutingProblem) (families : List Family) (found : Option ℤ)
    → BoundsKept (plans problem families) [] found → BoundsPlansIfAny problem found
every_plan problem families (Some bound) bounds = λ routes filled.
    bounds routes filled (All-from_recursion (KeepsLimit problem.nodes families problem.depot routes) [] tt)
every_plan problem families None none = λ routes filled.
    none routes filled (All-from_recursion (KeepsLimit problem.nodes families problem.depot routes) [] tt)

-- ---- the least of some numbers is one number

pub one_least : {X : Type 0} (P : X → Type 0) (f : X → ℤ) (a b : ℤ) → IsLeastAmong P f (Some a) → IsLeastAmong P f (Some b) → a ≡ b
one_least {X} P f a b p q =
    let first = p.1 q.0.0 q.0.1 in
    let second = q.1 p.0.0 p.0.1 in
    omega (arith, ints, first, second, p.0.2, q.0.2)

pub one_fewest : (problem : RoutingProblem) (a b : ℕ) → IsFewest problem a → IsFewest problem b → a ≡ b
one_fewest problem a b p q =
    let first = p.least_is.none_less q.least q.least_is.enough in
    let second = q.least_is.none_less p.least p.least_is.enough in
    omega (arith, first, second, p.fewest_is, q.fewest_is)

-- ---- what the limits of a case and the multipliers of the sets give back is at most their sum

-- ---- products

pub scaled_sum : {X : Type 0} (m : ℤ) (f : X → ℤ) (xs : List X) → sum_int_by (λ x. m *ℤ f x) xs ≡ m *ℤ sum_int_by f xs
scaled_sum m f [] = sym (*ℤ-zero m)
scaled_sum m f (x ∷ xs) =
    let rest = scaled_sum m f xs in
    let both = over_sum m (f x) (sum_int_by f xs) in
    omega (arith, ints, rest, both)

-- ---- the limits of a case

module _ (n : ℕ) (families : List Family) (depot : ℕ) (routes : List (List ℕ)) where
  abbrev crossed : ℕ → ℤ
  crossed place = part_crossed (set_at families (place - (n + 1))) depot routes

  lower : (place : ℕ) (limit : Decision) → KeepsLimit n families depot routes limit → limit.pair.0 ≡ place → limit.taken ≡ false
      → pos (2 * limit.pair.1 + 2) ≤ℤ crossed place
  lower place limit keeps same off =
      subst (λ (k : ℕ). pos (2 * limit.pair.1 + 2) ≤ℤ crossed k) same
      (subst (λ (b : Bool). IsWithinLimit (crossed limit.pair.0) b limit.pair.1) off keeps)

  upper : (place : ℕ) (limit : Decision) → KeepsLimit n families depot routes limit → limit.pair.0 ≡ place → limit.taken ≡ true
      → crossed place ≤ℤ pos (2 * limit.pair.1)
  upper place limit keeps same on =
      subst (λ (k : ℕ). crossed k ≤ℤ pos (2 * limit.pair.1)) same
      (subst (λ (b : Bool). IsWithinLimit (crossed limit.pair.0) b limit.pair.1) on keeps)

  off_from : (b : Bool) → not b ≡ true → b ≡ false
  off_from true h = absurd (both_ways false refl h)
  off_from false h = refl

  above_both : (a b : ℕ) (z : ℤ) → pos a ≤ℤ z → pos b ≤ℤ z → pos (max a b) ≤ℤ z
  above_both a b z p q = omega (arith, ints, p, q)

  below_both : (a b : ℕ) (z : ℤ) → z ≤ℤ pos a → z ≤ℤ pos b → z ≤ℤ pos (min a b)
  below_both a b z p q = omega (arith, ints, p, q)

  least_kept : (place : ℕ) (case : List Decision) (own : ℕ) → AllByRecursion (KeepsLimit n families depot routes) case
      → pos own ≤ℤ crossed place → pos (low_of place case own) ≤ℤ crossed place
  least_kept place [] own keeps low = low
  least_kept place (limit ∷ case) own keeps low =
      let rest = least_kept place case own keeps.1 low in
      elim (cases_Bool (not limit.taken && (limit.pair.0 == place))) [
        | inl t ↦
            let both = and_parts (not limit.taken) (limit.pair.0 == place) t in
            let here = lower place limit keeps.0 (eqb-true limit.pair.0 place both.1) (off_from limit.taken both.0) in
            rw t (above_both (2 * limit.pair.1 + 2) (low_of place case own) (crossed place) here rest)
        | inr f ↦ rw f rest
      ]

  most_kept : (place : ℕ) (case : List Decision) (own : ℕ) → AllByRecursion (KeepsLimit n families depot routes) case
      → crossed place ≤ℤ pos own → crossed place ≤ℤ pos (high_of place case own)
  most_kept place [] own keeps high = high
  most_kept place (limit ∷ case) own keeps high =
      let rest = most_kept place case own keeps.1 high in
      elim (cases_Bool (limit.taken && (limit.pair.0 == place))) [
        | inl t ↦
            let both = and_parts limit.taken (limit.pair.0 == place) t in
            let here = upper place limit keeps.0 (eqb-true limit.pair.0 place both.1) both.0 in
            rw t (below_both (2 * limit.pair.1) (high_of place case own) (crossed place) here rest)
        | inr f ↦ rw f rest
      ]

-- ---- a plan crosses a set at most twice for each customer

counted : (part : ℕ → Bool) (nodes : List ℕ) → sum_int_by (λ x. one_if (part x)) nodes ≤ℤ pos (length nodes)
counted part [] = omega (arith, ints)
counted part (x ∷ nodes) = omega (arith, ints, (none_or_one (part x)).1, counted part nodes)

most_crossed : (problem : RoutingProblem) (part : ℕ → Bool) (routes : List (List ℕ)) → IsRoutable problem → IsPlan problem routes
    → part problem.depot ≡ false → part_crossed part problem.depot routes ≤ℤ pos (2 * (problem.nodes - 1))
most_crossed problem part routes routing plan off =
    let pairs = plan_links problem.depot routes in
    let f : ℕ → ℤ = λ x. one_if (part x) in
    let all = lengths_are_weights (crossing part) problem.depot routes in
    let below = sum_below (λ (link : ℕ × ℕ). crossing part link.0 link.1) (λ (link : ℕ × ℕ). f link.0 +ℤ f link.1) pairs
    (λ link. size_of_link (part link.0) (part link.1)) in
    let both = sum_int_by-add (λ (link : ℕ × ℕ). f link.0) (λ (link : ℕ × ℕ). f link.1) pairs in
    let firsts = lengths_are_weights (λ i j. f i) problem.depot routes in
    let seconds = lengths_are_weights (λ i j. f j) problem.depot routes in
    let first = plan_firsts f problem.depot routes in
    let second = plan_seconds f problem.depot routes in
    let none : pos (length routes) *ℤ f problem.depot ≡ pos 0 =
    ap (λ b. pos (length routes) *ℤ one_if b) off ∙ *ℤ-zero (pos (length routes)) in
    let few = counted part (concat routes) in
    let count = count_of_plan problem routes routing plan in
    omega (arith, ints, all, below, both, firsts, seconds, first, second, none, few, count)

-- ---- the sets one by one

module _ (problem : RoutingProblem) (families : List Family) (case : List Decision) (routes : List (List ℕ)) where
  same_crossed : (p q : ℕ → Bool) → ((x : ℕ) → p x ≡ q x) → part_crossed p problem.depot routes ≡ part_crossed q problem.depot routes
  same_crossed p q same =
      all_same (λ route. length_of (crossing p) (problem.depot ∷ route)) (λ route. length_of (crossing q) (problem.depot ∷ route)) routes
      (λ route. all_same (λ (link : ℕ × ℕ). crossing p link.0 link.1) (λ (link : ℕ × ℕ). crossing q link.0 link.1)
      (links (problem.depot ∷ route))
      (λ link. ap₂ (λ a b. one_if (cond a (not b) b)) (same link.0) (same link.1)))

  set_of_plan : (place : ℕ) (family : Family) (multiplier : ℤ) → IsRoutable problem → IsPlan problem routes
      → AllByRecursion (KeepsLimit problem.nodes families problem.depot routes) case → IsCutFamily problem family
      → ((x : ℕ) → set_at families (place - (problem.nodes + 1)) x ≡ family.sets.handle x)
      → least_times (low_of place case family.numbers.least) (high_of place case (2 * (problem.nodes - 1))) multiplier
      ≤ℤ weight_of (λ i j. multiplier *ℤ family_crossings family.sets i j) (plan_links problem.depot routes)
  set_of_plan place family multiplier routing plan keeps is same =
      let pairs = plan_links problem.depot routes in
      let cross = part_crossed (set_at families (place - (problem.nodes + 1))) problem.depot routes in
      let own = plans_cross_cuts problem family routes routing is plan in
      let lone = lone_crossings family.sets problem.depot routes is.alone in
      let all = lengths_are_weights (family_crossings family.sets) problem.depot routes in
      let here = same_crossed (set_at families (place - (problem.nodes + 1))) family.sets.handle same in
      let off : set_at families (place - (problem.nodes + 1)) problem.depot ≡ false = same problem.depot ∙ is.cut.lacks_depot in
      let high = most_crossed problem (set_at families (place - (problem.nodes + 1))) routes routing plan off in
      let low : pos family.numbers.least ≤ℤ cross = omega (arith, ints, own, lone, here) in
      let count = plans_cross_evenly (set_at families (place - (problem.nodes + 1))) problem.depot routes in
      let more = least_kept problem.nodes families problem.depot routes place case family.numbers.least keeps low in
      let less = most_kept problem.nodes families problem.depot routes place case (2 * (problem.nodes - 1)) keeps high in
      let least = least_at (low_of place case family.numbers.least) (high_of place case (2 * (problem.nodes - 1))) (2 * count.0)
      multiplier (omega (arith, ints, more, count.1)) (omega (arith, ints, less, count.1)) in
      let scaled = scaled_sum multiplier (λ (link : ℕ × ℕ). family_crossings family.sets link.0 link.1) pairs in
      let turned = *ℤ_comm multiplier (weight_of (family_crossings family.sets) pairs) in
      let weight : weight_of (family_crossings family.sets) pairs ≡ pos (2 * count.0) =
      omega (arith, ints, lone, all, here, count.1) in
      let times = ap (λ z. z *ℤ multiplier) weight in
      omega (arith, ints, least, scaled, turned, times)

  pub sets_of_plan : (place : ℕ) (others : List Family) (multipliers : List ℤ) → IsRoutable problem → IsPlan problem routes
      → AllByRecursion (KeepsLimit problem.nodes families problem.depot routes) case → AllByRecursion (IsCutFamily problem) others
      → ((k x : ℕ) → set_at families (place + k - (problem.nodes + 1)) x ≡ set_at others k x)
      → limits_total case (2 * (problem.nodes - 1)) place others multipliers
      ≤ℤ weight_of (crossings_of (multiplied others multipliers)) (plan_links problem.depot routes)
  sets_of_plan place [] multipliers routing plan keeps are same =
      omega (arith, ints, sum_zero (plan_links problem.depot routes))
  sets_of_plan place (family ∷ others) [] routing plan keeps are same =
      omega (arith, ints, sum_zero (plan_links problem.depot routes))
  sets_of_plan place (family ∷ others) (multiplier ∷ multipliers) routing plan keeps are same =
      let pairs = plan_links problem.depot routes in
      let first = set_of_plan place family multiplier routing plan keeps are.0
      (λ x. ap (λ k. set_at families k x) (omega arith) ∙ same 0 x) in
      let split = sum_int_by-add (λ (link : ℕ × ℕ). multiplier *ℤ family_crossings family.sets link.0 link.1)
      (λ (link : ℕ × ℕ). crossings_of (multiplied others multipliers) link.0 link.1) pairs in
      let rest = sets_of_plan (place + 1) others multipliers routing plan keeps are.1
      (λ k x. ap (λ j. set_at families j x) (omega arith) ∙ same (suc k) x) in
      omega (arith, ints, first, split, rest)

-- ---- the bound

pub plan_bounds_bound_plans : PlanBoundsBoundPlans
plan_bounds_bound_plans problem scale potentials families multipliers case each bound routes routing scale_in cuts is filled keeps weighs =
    let pairs = plan_links problem.depot routes in
    let count = length routes in
    let own = entry potentials problem.depot in
    let all = lengths_are_weights (q_route_weight scale potentials families multipliers problem.cost) problem.depot routes in
    let split = difference (λ (link : ℕ × ℕ). weight_between scale potentials problem.cost link.0 link.1)
    (λ (link : ℕ × ℕ). crossings_of (multiplied families multipliers) link.0 link.1) pairs in
    let between = between_weight problem scale potentials routes routing scale_in filled.plan in
    let crossed = sets_of_plan problem families case routes (problem.nodes + 1) families multipliers routing filled.plan
    (recursion_from_All (KeepsLimit problem.nodes families problem.depot routes) case keeps)
    (recursion_from_All (IsCutFamily problem) families cuts) (λ k x. ap (λ j. set_at families j x) (omega arith)) in
    let counts = plans_have_few_routes problem routes routing filled in
    let few = fewest_routes problem is.fewest routes routing is.fewest_is filled.plan counts.0 in
    let least = least_between is.fewest (problem.nodes - 1) count (surplus problem potentials each) few counts.1 in
    let parts = split_surplus count each own in
    let length_is = lengths_are_weights problem.cost problem.depot routes in
    is.bound_is.least (plan_length problem.cost problem.depot routes)
    (let whole = ap (λ z. scale *ℤ z) length_is in
    omega (arith, ints, weighs, all, split, between, crossed, least, parts, whole))

-- ---- the bound that a certificate for routes shows is at most the length of every plan

weighs : (n depot : ℕ) (load : ℕ → ℕ) (room : ℕ) (w : ℕ → ℕ → ℤ) (each : ℤ) (routes : List (List ℕ))
    → IsBelowQRoutes n depot load room w each → AllByRecursion (IsQRoute n depot load room) routes
    → (pos (length routes) *ℤ each) ≤ℤ plan_length w depot routes
weighs n depot load room w each [] below are = let none = zero-*ℤ each in omega (arith, ints, none)
weighs n depot load room w each (route ∷ routes) below are =
    let own = below route are.0 in
    let rest = weighs n depot load room w each routes below are.1 in
    let times = suc_ℤ-*ℤ (pos (length routes)) each in
    omega (arith, ints, own, rest, times)

-- ---- one leaf

module _ (problem : RoutingProblem) (scale : ℤ) (unit light : ℕ) (families : List Family) (routing : IsRoutable problem)
    (scale_in : IsScale scale) (units : AreUnits problem unit light) (cuts : All (IsCutFamily problem) families)
    (routes : List (List ℕ)) (filled : IsFilledPlan problem routes) where
  abbrev load : ℕ → ℕ
  load = load_in problem unit light

  abbrev room : ℕ
  room = capacity_in_parts problem unit light

  q_routes : AllByRecursion (IsQRoute problem.nodes problem.depot load room) routes
  q_routes = recursion_from_All (IsQRoute problem.nodes problem.depot load room) routes
      (routes_are_q_routes problem unit light routes routing units filled)

  leaf_bounds : (case : List Decision) (numbers : LeafNumbers) (bound : ℤ)
      → IsQRouteBound problem scale unit light families case numbers bound
      → KeepsEachLimit problem.nodes families problem.depot routes case
      → bound ≤ℤ plan_length problem.cost problem.depot routes
  leaf_bounds case numbers bound is keeps =
      let w = q_route_weight scale numbers.potentials families numbers.multipliers problem.cost in
      plan_bounds_bound_plans problem scale numbers.potentials families numbers.multipliers case is.each
      bound routes routing scale_in cuts is.bound_is filled keeps
      (weighs problem.nodes problem.depot load room w is.each routes is.least.1 q_routes)

  no_q_route : ((nodes : List ℕ) → IsQRoute problem.nodes problem.depot load room nodes → ⊥) → ⊥
  no_q_route never = first routes (plans_have_few_routes problem routes routing filled).0 q_routes
    where
      first : (others : List (List ℕ)) → 1 ≤ length others → AllByRecursion (IsQRoute problem.nodes problem.depot load room) others → ⊥
      first [] some all = absurd (omega (arith, some))
      first (route ∷ others) some all = never route all.0

-- ---- the tree

pub plan_trees_bound_plans : PlanTreesBoundPlans
plan_trees_bound_plans problem scale unit light families steps found routing scale_in units cuts whole is =
    every_plan problem families found
    (least_found_bounds (List (List ℕ)) (plans problem families) (keeps_either problem families)
    (IsFoundByQRoutes problem scale unit light families) [] steps found whole
    (λ k d lt own has. at_leaf (get_or (leaves_of ([] ∷ []) steps) k d) own has) is)
  where
    at_leaf : (leaf : List Decision × LeafNumbers) (own : Option ℤ) → IsFoundByQRoutes problem scale unit light families leaf own
        → BoundsKept (plans problem families) leaf.0 own
    at_leaf leaf (Some bound) has = λ routes filled keeps.
        leaf_bounds problem scale unit light families routing scale_in units cuts routes filled leaf.0 leaf.1 bound has keeps
    at_leaf leaf None never = λ routes filled keeps.
        no_q_route problem scale unit light families routing scale_in units cuts routes filled never

-- ---- one bound

one_plan_bound : (problem : RoutingProblem) (scale : ℤ) (potentials : List ℤ) (families : List Family) (multipliers : List ℤ)
    (case : List Decision) (each own a b : ℤ) → each ≡ own → IsPlanBound problem scale potentials families multipliers case each a
    → IsPlanBound problem scale potentials families multipliers case own b → a ≡ b
one_plan_bound problem scale potentials families multipliers case each own a b each_is x y =
    let same = ap₂ (λ f (e : ℤ). least_product f (problem.nodes - 1) (surplus problem potentials e))
    (one_fewest problem x.fewest y.fewest x.fewest_is y.fewest_is) each_is in
    let first = x.bound_is.least b (let above = y.bound_is.above in omega (arith, ints, above, same)) in
    let second = y.bound_is.least a (let above = x.bound_is.above in omega (arith, ints, above, same)) in
    omega (arith, ints, first, second)

pub plan_tree_bounds_are_unique : PlanTreeBoundsAreUnique
plan_tree_bounds_are_unique problem scale unit light families steps a b p q =
    one_found (IsFoundByQRoutes problem scale unit light families) (λ leaf x y s t. one leaf x y s t) (leaves_of ([] ∷ []) steps) a b p q
  where
    one : (leaf : List Decision × LeafNumbers) (x y : Option ℤ) → IsFoundByQRoutes problem scale unit light families leaf x
        → IsFoundByQRoutes problem scale unit light families leaf y → x ≡ y
    one leaf (Some x) (Some y) s t =
        ap (λ (z : ℤ). Some z) (one_plan_bound problem scale leaf.1.potentials families leaf.1.multipliers
        leaf.0 s.each t.each x y (one_least _ _ s.each t.each s.least t.least) s.bound_is t.bound_is)
    one leaf (Some x) None s t = absurd (t s.least.0.0 s.least.0.1)
    one leaf None (Some y) s t = absurd (s t.least.0.0 t.least.0.1)
    one leaf None None s t = refl

-- ---- a certificate for routes has one bound, or none: how often plans cross its cuts

one_crossed : (problem : RoutingProblem) (sets : List (List ℕ)) (x y : Crossings) → IsCutFamily problem (family_with x sets)
    → IsCutFamily problem (family_with y sets) → x ≡ y
one_crossed problem sets x y p q =
    let first = p.cut.least_is.none_less q.cut.least q.cut.least_is.enough in
    let second = q.cut.least_is.none_less p.cut.least p.cut.least_is.enough in
    let p_need = p.cut.need_is in
    let q_need = q.cut.need_is in
    let p_least = p.least_is in
    let q_least = q.least_is in
    let least : x.least ≡ y.least = omega (arith, first, second, p_need, q_need, p_least, q_least) in
    let p_most = p.most_is in
    let q_most = q.most_is in
    let most : x.most ≡ y.most = omega (arith, p_most, q_most) in
    ap₂ (λ (l m : ℕ). let own : Crossings = record { least = l; most = m } in own) least most

pub all_crossed : (problem : RoutingProblem) (families : List (List (List ℕ))) (xs ys : List Crossings)
    → length xs ≡ length families → length ys ≡ length families
    → AllByRecursion (IsCutFamily problem) (families_with xs families)
    → AllByRecursion (IsCutFamily problem) (families_with ys families) → xs ≡ ys
all_crossed problem [] [] [] long also p q = refl
all_crossed problem [] (x ∷ xs) ys long also p q = absurd (omega (arith, long))
all_crossed problem [] [] (y ∷ ys) long also p q = absurd (omega (arith, also))
all_crossed problem (sets ∷ families) [] ys long also p q = absurd (omega (arith, long))
all_crossed problem (sets ∷ families) (x ∷ xs) [] long also p q = absurd (omega (arith, also))
all_crossed problem (sets ∷ families) (x ∷ xs) (y ∷ ys) long also p q =
    ap₂ (λ (z : Crossings) (zs : List Crossings). z ∷ zs) (one_crossed problem sets x y p.0 q.0)
    (all_crossed problem families xs ys (omega (arith, long)) (omega (arith, also)) p.1 q.1)

pub one_light : (problem : RoutingProblem) (unit a b : ℕ) → AreUnits problem unit a → AreUnits problem unit b → a ≡ b
one_light problem unit a b p q =
    let first = p.light_is in
    let second = q.light_is in
    omega (arith, ints, first, second)
