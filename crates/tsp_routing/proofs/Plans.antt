-- For the first laws in src/laws.rt: sums over the links of a plan, the number of its routes, and how often it leaves a
-- set of customers. Most theorems on plans rest on it. tsp_verdict imports it, too.
use Rattle.tsp_routing.proofs.Prelude.{◌≡◌, ◌≢◌, ℕ, zero, suc, ◌+◌, ◌<◌, ◌≤◌, true, false, eqb, List, [], ◌∷◌, ◌++◌, length, refl, sym, ap, ◌∙◌, arith, inl, inr, ◌&&◌, ◌||◌, Bool, not, cond, suc_ℤ-*ℤ, zero-*ℤ, eqb-false, cases_Bool, both_ways, or_left, ints, recursion_from_All, All-from_recursion, All-contains, AllByRecursion, Contains, IsDistinct, concat, range_with_len, remove, list_any, ◌⊎◌, ℤ, pos, ◌+ℤ◌, ◌*ℤ◌, min, max, if◌then◌else◌, ◌≤ℤ◌, negsuc, int_lt, ◌-ℤ◌, most_nodes, nodes_to, one_if, none_or_one, twice, sum_below, sum_zero, sum_int_by-IsPermutation, length_by_first, length_by_second, sum_int_by-add, sum_int_by-scaled, IsScale, entry, weight_between, links, sum_int_by, RoutingProblem, IsCustomer, IsPlan, plan_length, length_of, crossing, weight_of, Comb, family_crossings}
use Rattle.std.proofs.lemmas.Bool.Decides.{eqb_tells}
use Rattle.std.proofs.lemmas.List.Folds.{Any-from_list_any}
use Rattle.std.proofs.lemmas.List.FromFn.{length-range_with_len}
use Rattle.std.proofs.lemmas.List.Sorted.{IsPermutation-refl, IsPermutation-remove, IsPermutation-cons, IsPermutation-sym, IsPermutation-trans, Contains-permutation, length_permutation}
use Rattle.std.proofs.lemmas.Map.Keys.{IsDistinct-head, IsDistinct-tail, IsDistinct-cons, IsDistinct-IsPermutation}
use Rattle.std.specs.List.Sorted.{IsPermutation}
use Rattle.tsp_format.proofs.Basics.{both_all}
use Rattle.tsp_theory.proofs.Cycles.{apart, distinct, flips}
use Rattle.tsp_routing.specs.PlanBounds.{least_times, least_product}
use Rattle.tsp_routing.specs.PlanLinks.{plan_links, IsRoutable, sum_of_customers, LengthsAreWeights, PlanSums, PlansHaveFewRoutes, IsFewest, leaving, entering, IsCapacityCut, PlansLeaveCuts, PlansCrossCuts}

-- ---- sums

pub sum_append : {X : Type 0} (f : X → ℤ) (xs ys : List X) → sum_int_by f (xs ++ ys) ≡ sum_int_by f xs +ℤ sum_int_by f ys
sum_append f [] ys = omega (arith, ints)
sum_append f (x ∷ xs) ys = let tail = sum_append f xs ys in omega (arith, ints, tail)

pub lengths_are_weights : LengthsAreWeights
lengths_are_weights cost depot [] = refl
lengths_are_weights cost depot (route ∷ routes) =
    let rest = lengths_are_weights cost depot routes in
    let both = sum_append (λ (link : ℕ × ℕ). cost link.0 link.1) (links (depot ∷ route)) (plan_links depot routes) in
    omega (arith, ints, rest, both)

pub plan_firsts : (f : ℕ → ℤ) (depot : ℕ) (routes : List (List ℕ))
    → plan_length (λ i j. f i) depot routes ≡ sum_int_by f (concat routes) +ℤ (pos (length routes) *ℤ f depot)
plan_firsts f depot [] = let none = zero-*ℤ (f depot) in omega (arith, ints, none)
plan_firsts f depot (route ∷ routes) =
    let rest = plan_firsts f depot routes in
    let own = length_by_first f (depot ∷ route) in
    let both = sum_append f route (concat routes) in
    let times = suc_ℤ-*ℤ (pos (length routes)) (f depot) in
    omega (arith, ints, rest, own, both, times)

pub plan_seconds : (f : ℕ → ℤ) (depot : ℕ) (routes : List (List ℕ))
    → plan_length (λ i j. f j) depot routes ≡ sum_int_by f (concat routes) +ℤ (pos (length routes) *ℤ f depot)
plan_seconds f depot [] = let none = zero-*ℤ (f depot) in omega (arith, ints, none)
plan_seconds f depot (route ∷ routes) =
    let rest = plan_seconds f depot routes in
    let own = length_by_second f (depot ∷ route) in
    let both = sum_append f route (concat routes) in
    let times = suc_ℤ-*ℤ (pos (length routes)) (f depot) in
    omega (arith, ints, rest, own, both, times)

-- ---- different numbers that are all of a run are the run in another order

run_permutation : (m a : ℕ) (xs : List ℕ) → IsDistinct eqb xs → ((v : ℕ) → a ≤ v → v < a + m → Contains xs v)
    → ((v : ℕ) → Contains xs v → (a ≤ v) × (v < a + m)) → IsPermutation xs (range_with_len a m)
run_permutation zero a [] apart inside range = IsPermutation-refl []
run_permutation zero a (x ∷ xs) apart inside range =
    let at = range x (0, omega arith, refl) in absurd (omega (arith, at.0, at.1))
run_permutation (suc m) a xs apart inside range =
    let found : Contains xs a = inside a (omega arith) (omega arith) in
    let rest : List ℕ = remove xs found.0 in
    let taken : IsPermutation xs (a ∷ rest) = IsPermutation-remove xs found.0 a found.1 (sym found.2) in
    let kept : IsDistinct eqb (a ∷ rest) = IsDistinct-IsPermutation eqb flips xs (a ∷ rest) taken apart in
    let others : (v : ℕ) → Contains rest v → a ≢ v =
    λ v there. eqb-false a v (All-contains (λ y. eqb a y ≡ false) rest v
    (All-from_recursion (λ y. eqb a y ≡ false) rest (IsDistinct-head eqb a rest kept)) there) in
    let after : IsPermutation rest (range_with_len (a + 1) m) = run_permutation m (a + 1) rest (IsDistinct-tail eqb a rest kept)
    (λ v above below. in_tail a rest v (Contains-permutation xs (a ∷ rest) v taken
    (inside v (omega (arith, above)) (omega (arith, below)))) (omega (arith, above)))
    (λ v there.
    let at = range v (Contains-permutation (a ∷ rest) xs v (IsPermutation-sym xs (a ∷ rest) taken) (put_on a rest v there)) in
    let other = others v there in
    (omega (arith, at.0, other), omega (arith, at.1))) in
    IsPermutation-trans xs (a ∷ rest) (range_with_len a (suc m)) taken (IsPermutation-cons a rest (range_with_len (a + 1) m) after)
  where
    in_tail : (x : ℕ) (zs : List ℕ) (w : ℕ) → Contains (x ∷ zs) w → x ≢ w → Contains zs w
    in_tail x zs w (zero, lt, is) other = absurd (other is)
    in_tail x zs w (suc k, lt, is) other = (k, omega (arith, lt), is)

    put_on : (x : ℕ) (zs : List ℕ) (w : ℕ) → Contains zs w → Contains (x ∷ zs) w
    put_on x zs w there = (suc there.0, omega (arith, there.1), there.2)

-- ---- the nodes of a plan

pub plan_nodes : (problem : RoutingProblem) (routes : List (List ℕ)) → IsRoutable problem → IsPlan problem routes
    → IsPermutation (problem.depot ∷ concat routes) (nodes_to problem.nodes)
unfolding nodes_to IsDistinct
plan_nodes problem routes routing plan =
    let n : ℕ = problem.nodes in
    let depot : ℕ = problem.depot in
    let all : List ℕ = concat routes in
    let customers = recursion_from_All (IsCustomer n depot) all plan.customers in
    run_permutation n 1 (depot ∷ all)
    (IsDistinct-cons eqb depot all (apart depot all (away n depot all customers)) (distinct all plan.once))
    (λ v above below. there v above below (eqb_tells v depot))
    (λ v inside. within v inside)
  where
    away : (n depot : ℕ) (xs : List ℕ) → AllByRecursion (IsCustomer n depot) xs → AllByRecursion (λ y. depot ≢ y) xs
    away n depot [] h = tt
    away n depot (x ∷ xs) h = (λ same. h.0.1 (sym same), away n depot xs h.1)

    there : (v : ℕ) → 1 ≤ v → v < 1 + problem.nodes
        → ((eqb v problem.depot ≡ true) × (v ≡ problem.depot)) ⊎ ((eqb v problem.depot ≡ false) × (v ≢ problem.depot))
        → Contains (problem.depot ∷ concat routes) v
    there v above below (inl is) = (0, omega arith, sym is.1)
    there v above below (inr other) =
        let found = plan.served v ((above, omega (arith, below)), other.1) in
        (suc found.0, omega (arith, found.1), found.2)

    within : (v : ℕ) → Contains (problem.depot ∷ concat routes) v → (1 ≤ v) × (v < 1 + problem.nodes)
    within v (zero, lt, is) = (omega (arith, routing.depot_in.0, is), omega (arith, routing.depot_in.1, is))
    within v (suc k, lt, is) =
        let one = All-contains (IsCustomer problem.nodes problem.depot) (concat routes) v plan.customers (k, omega (arith, lt), is) in
        (one.0.0, omega (arith, one.0.1))

pub sum_of_plan : (problem : RoutingProblem) (routes : List (List ℕ)) (f : ℕ → ℤ) → IsRoutable problem → IsPlan problem routes
    → sum_int_by f (concat routes) ≡ sum_of_customers problem.nodes problem.depot f
sum_of_plan problem routes f routing plan =
    let same = sum_int_by-IsPermutation f (problem.depot ∷ concat routes) (nodes_to problem.nodes)
    (plan_nodes problem routes routing plan) in
    omega (arith, ints, same)

pub count_of_plan : (problem : RoutingProblem) (routes : List (List ℕ)) → IsRoutable problem → IsPlan problem routes
    → suc (length (concat routes)) ≡ problem.nodes
unfolding nodes_to
count_of_plan problem routes routing plan =
    let same = length_permutation (problem.depot ∷ concat routes) (nodes_to problem.nodes) (plan_nodes problem routes routing plan) in
    let long = length-range_with_len 1 problem.nodes in
    omega (arith, same, long)

pub plan_sums : PlanSums
plan_sums problem routes f routing plan =
    let all = sum_of_plan problem routes f routing plan in
    let first = plan_firsts f problem.depot routes in
    let second = plan_seconds f problem.depot routes in
    (omega (arith, ints, all, first), omega (arith, ints, all, second))

-- ---- a plan has at most as many routes as customers

few_routes : (routes : List (List ℕ)) → AllByRecursion (λ route. route ≢ []) routes → length routes ≤ length (concat routes)
few_routes [] h = omega arith
few_routes ([] ∷ routes) h = absurd (h.0 refl)
few_routes ((x ∷ route) ∷ routes) h = omega (arith, few_routes routes h.1, more route (concat routes))
  where
    more : (xs ys : List ℕ) → length ys ≤ length (xs ++ ys)
    more [] ys = omega arith
    more (x ∷ xs) ys = omega (arith, more xs ys)

some_route : (routes : List (List ℕ)) → 1 ≤ length (concat routes) → 1 ≤ length routes
some_route [] h = absurd (omega (arith, h))
some_route (route ∷ routes) h = omega arith

pub plans_have_few_routes : PlansHaveFewRoutes
plans_have_few_routes problem routes routing filled =
    let all = count_of_plan problem routes routing filled.plan in
    let few = few_routes routes (recursion_from_All (λ route. route ≢ []) routes filled.each) in
    (some_route routes (omega (arith, all, routing.some)), omega (arith, all, few))

-- ---- a plan leaves a cut as often as it needs routes

-- ---- a closed way leaves a part as often as it enters it

pub all_same : {X : Type 0} (f g : X → ℤ) (xs : List X) → ((x : X) → f x ≡ g x) → sum_int_by f xs ≡ sum_int_by g xs
all_same f g [] h = refl
all_same f g (x ∷ xs) h = let rest = all_same f g xs h in let own = h x in omega (arith, ints, rest, own)

one_link : (x y : Bool) → one_if (x && not y) +ℤ one_if y ≡ one_if (y && not x) +ℤ one_if x
one_link true true = refl
one_link true false = refl
one_link false true = refl
one_link false false = refl

both_links : (x y : Bool) → one_if (x && not y) +ℤ one_if (y && not x) ≡ one_if (cond x (not y) y)
both_links true true = refl
both_links true false = refl
both_links false true = refl
both_links false false = refl

pub enters_as_often : (part : ℕ → Bool) (nodes : List ℕ) → length_of (leaving part) nodes ≡ length_of (entering part) nodes
enters_as_often part nodes =
    let out = sum_int_by-add (λ (link : ℕ × ℕ). leaving part link.0 link.1) (λ (link : ℕ × ℕ). one_if (part link.1)) (links nodes) in
    let in_again = sum_int_by-add (λ (link : ℕ × ℕ). entering part link.0 link.1) (λ (link : ℕ × ℕ). one_if (part link.0))
    (links nodes) in
    let same = all_same (λ (link : ℕ × ℕ). leaving part link.0 link.1 +ℤ one_if (part link.1))
    (λ (link : ℕ × ℕ). entering part link.0 link.1 +ℤ one_if (part link.0)) (links nodes)
    (λ link. one_link (part link.0) (part link.1)) in
    let firsts = length_by_first (λ x. one_if (part x)) nodes in
    let seconds = length_by_second (λ x. one_if (part x)) nodes in
    omega (arith, ints, out, in_again, same, firsts, seconds)

pub crosses_twice : (part : ℕ → Bool) (nodes : List ℕ)
    → length_of (leaving part) nodes +ℤ length_of (entering part) nodes ≡ length_of (crossing part) nodes
crosses_twice part nodes =
    sym (sum_int_by-add (λ (link : ℕ × ℕ). leaving part link.0 link.1) (λ (link : ℕ × ℕ). entering part link.0 link.1) (links nodes))
    ∙ all_same (λ (link : ℕ × ℕ). leaving part link.0 link.1 +ℤ entering part link.0 link.1)
    (λ (link : ℕ × ℕ). crossing part link.0 link.1) (links nodes) (λ link. both_links (part link.0) (part link.1))

-- a way through a node outside the part and one inside
leaves_once : (part : ℕ → Bool) (depot : ℕ) (route : List ℕ) → part depot ≡ false → list_any part route ≡ true
    → pos 1 ≤ℤ length_of (leaving part) (depot ∷ route)
leaves_once part depot route off some =
    let found = Any-from_list_any part route some in
    let more = twice part (depot ∷ route) found.1 depot (suc found.0, omega (arith, found.2), found.3) (0, omega arith, refl) found.4 off in
    omega (arith, ints, more, enters_as_often part (depot ∷ route), crosses_twice part (depot ∷ route))

leaves_or_not : (part : ℕ → Bool) (nodes : List ℕ) → pos 0 ≤ℤ length_of (leaving part) nodes
leaves_or_not part nodes =
    let below = sum_below (λ (link : ℕ × ℕ). pos 0) (λ (link : ℕ × ℕ). leaving part link.0 link.1) (links nodes)
    (λ link. (none_or_one (part link.0 && not (part link.1))).0) in
    omega (arith, ints, below, sum_zero (links nodes))

-- ---- the demand that routes carry of a part

abbrev carried : (ℕ → Bool) → (ℕ → ℤ) → ℕ → ℤ
carried part demand node = if part node then demand node else pos 0

carries_less : (part : ℕ → Bool) (demand : ℕ → ℤ) (nodes : List ℕ) → AllByRecursion (λ x. pos 0 ≤ℤ demand x) nodes
    → sum_int_by (carried part demand) nodes ≤ℤ sum_int_by demand nodes
carries_less part demand [] low = omega (arith, ints)
carries_less part demand (x ∷ nodes) low =
    let rest = carries_less part demand nodes low.1 in
    elim (cases_Bool (part x)) [
      | inl t ↦ rw t (omega (arith, ints, rest))
      | inr f ↦ rw f (omega (arith, ints, rest, low.0))
    ]

none_in : (part : ℕ → Bool) (nodes : List ℕ) → list_any part nodes ≡ false → AllByRecursion (λ x. part x ≡ false) nodes
none_in part [] none = tt
none_in part (x ∷ nodes) none = elim (cases_Bool (part x)) [
  | inl t ↦ absurd (both_ways (list_any part (x ∷ nodes)) none (or_left (part x) (list_any part nodes) t))
  | inr f ↦ (f, none_in part nodes (sym (ap (λ b. b || list_any part nodes) f) ∙ none))
]

carries_none : (part : ℕ → Bool) (demand : ℕ → ℤ) (nodes : List ℕ) → AllByRecursion (λ x. part x ≡ false) nodes
    → sum_int_by (carried part demand) nodes ≡ pos 0
carries_none part demand [] none = refl
carries_none part demand (x ∷ nodes) none = let rest = carries_none part demand nodes none.1 in rw none.0 (omega (arith, ints, rest))

pub parts_all : {X : Type 0} (P : X → Type 0) (xs ys : List X) → AllByRecursion P (xs ++ ys)
    → AllByRecursion P xs × AllByRecursion P ys
parts_all P [] ys h = (tt, h)
parts_all P (x ∷ xs) ys h = let rest = parts_all P xs ys h.1 in ((h.0, rest.0), rest.1)

-- the routes that have a node of the part: how many they are, how often they leave it, and what they carry
record Touching (part : ℕ → Bool) (depot : ℕ) (demand : ℕ → ℤ) (capacity : ℤ) (routes : List (List ℕ)) : Type 0 where
  count : ℕ
  leave : pos count ≤ℤ plan_length (leaving part) depot routes
  carry : sum_int_by (carried part demand) (concat routes) ≤ℤ (pos count *ℤ capacity)
  none : count ≡ 0 → AllByRecursion (λ x. part x ≡ false) (concat routes)

touching : (part : ℕ → Bool) (depot : ℕ) (demand : ℕ → ℤ) (capacity : ℤ) (routes : List (List ℕ)) → part depot ≡ false
    → AllByRecursion (λ x. pos 0 ≤ℤ demand x) (concat routes) → AllByRecursion (λ route. sum_int_by demand route ≤ℤ capacity) routes
    → Touching part depot demand capacity routes
touching part depot demand capacity [] off low within = record {
  count = 0;
  leave = omega (arith, ints);
  carry = let none = zero-*ℤ capacity in omega (arith, ints, none);
  none = λ h. tt;
}
touching part depot demand capacity (route ∷ routes) off low within =
    let lows = parts_all (λ x. pos 0 ≤ℤ demand x) route (concat routes) low in
    let rest = touching part depot demand capacity routes off lows.1 within.1 in
    let both = sum_append (carried part demand) route (concat routes) in
    elim (cases_Bool (list_any part route)) [
      | inl t ↦ record {
        count = suc rest.count;
        leave = let own = leaves_once part depot route off t in omega (arith, ints, own, rest.leave);
        carry = let own = carries_less part demand route lows.0 in
            let times = suc_ℤ-*ℤ (pos rest.count) capacity in
            omega (arith, ints, own, both, times, within.0, rest.carry);
        none = λ h. absurd (omega (arith, h));
      }
      | inr f ↦ record {
        count = rest.count;
        leave = let own = leaves_or_not part (depot ∷ route) in omega (arith, ints, own, rest.leave);
        carry = let own = carries_none part demand route (none_in part route f) in omega (arith, ints, own, both, rest.carry);
        none = λ h. both_all (λ x. part x ≡ false) route (concat routes) (none_in part route f) (rest.none h);
      }
    ]

-- ---- cuts

pub lows_of : (problem : RoutingProblem) → IsRoutable problem → (nodes : List ℕ)
    → AllByRecursion (IsCustomer problem.nodes problem.depot) nodes → AllByRecursion (λ x. pos 0 ≤ℤ problem.demand x) nodes
lows_of problem routing [] h = tt
lows_of problem routing (x ∷ nodes) h = (routing.demands x h.0, lows_of problem routing nodes h.1)

pub demands_low : (problem : RoutingProblem) (routes : List (List ℕ)) → IsRoutable problem → IsPlan problem routes
    → AllByRecursion (λ x. pos 0 ≤ℤ problem.demand x) (concat routes)
demands_low problem routes routing plan =
    lows_of problem routing (concat routes)
    (recursion_from_All (IsCustomer problem.nodes problem.depot) (concat routes) plan.customers)

touched : (problem : RoutingProblem) (part : ℕ → Bool) (need : ℕ) (routes : List (List ℕ)) → IsRoutable problem
    → IsCapacityCut problem part need → IsPlan problem routes
    → Touching part problem.depot problem.demand problem.capacity routes
touched problem part need routes routing cut plan =
    touching part problem.depot problem.demand problem.capacity routes cut.lacks_depot (demands_low problem routes routing plan)
    (recursion_from_All (λ route. sum_int_by problem.demand route ≤ℤ problem.capacity) routes plan.within)

need_of : (least need count : ℕ) → need ≡ max (min least most_nodes) 1 → least ≤ count → 1 ≤ count → need ≤ count
need_of least need count is low some = omega (arith, is, low, some)

enough : (problem : RoutingProblem) (part : ℕ → Bool) (need : ℕ) (routes : List (List ℕ)) → IsRoutable problem
    → IsCapacityCut problem part need → IsPlan problem routes
    → (touch : Touching part problem.depot problem.demand problem.capacity routes) → need ≤ touch.count
enough problem part need routes routing cut plan touch =
    let all = sum_of_plan problem routes (carried part problem.demand) routing plan in
    let off : carried part problem.demand problem.depot ≡ pos 0 =
    ap (λ b. if b then problem.demand problem.depot else pos 0) cut.lacks_depot in
    need_of cut.least need touch.count cut.need_is
    (cut.least_is.none_less touch.count (omega (arith, ints, all, off, touch.carry))) (some touch.count touch.none)
  where
    some : (count : ℕ) → (count ≡ 0 → AllByRecursion (λ x. part x ≡ false) (concat routes)) → 1 ≤ count
    some zero none =
        let never : part cut.inside ≡ false =
        All-contains (λ x. part x ≡ false) (concat routes) cut.inside
        (All-from_recursion (λ x. part x ≡ false) (concat routes) (none refl)) (plan.served cut.inside cut.customer) in
        absurd (both_ways (part cut.inside) never cut.has_inside)
    some (suc count) none = omega arith

-- a plan has as many routes as all customers need
pub within_all : (demand : ℕ → ℤ) (capacity : ℤ) (routes : List (List ℕ))
    → AllByRecursion (λ route. sum_int_by demand route ≤ℤ capacity) routes
    → sum_int_by demand (concat routes) ≤ℤ (pos (length routes) *ℤ capacity)
within_all demand capacity [] within = let none = zero-*ℤ capacity in omega (arith, ints, none)
within_all demand capacity (route ∷ routes) within =
    let tail = within_all demand capacity routes within.1 in
    let both = sum_append demand route (concat routes) in
    let times = suc_ℤ-*ℤ (pos (length routes)) capacity in
    omega (arith, ints, tail, both, times, within.0)

pub fewest_routes : (problem : RoutingProblem) (fewest : ℕ) (routes : List (List ℕ)) → IsRoutable problem
    → IsFewest problem fewest → IsPlan problem routes → 1 ≤ length routes → fewest ≤ length routes
fewest_routes problem fewest routes routing is plan some =
    let all = within_all problem.demand problem.capacity routes
    (recursion_from_All (λ route. sum_int_by problem.demand route ≤ℤ problem.capacity) routes plan.within) in
    let same = sum_of_plan problem routes problem.demand routing plan in
    need_of is.least fewest (length routes) is.fewest_is
    (is.least_is.none_less (length routes) (omega (arith, ints, all, same))) some

plan_enters : (part : ℕ → Bool) (depot : ℕ) (routes : List (List ℕ))
    → plan_length (leaving part) depot routes ≡ plan_length (entering part) depot routes
plan_enters part depot routes =
    all_same (λ route. length_of (leaving part) (depot ∷ route)) (λ route. length_of (entering part) (depot ∷ route)) routes
    (λ route. enters_as_often part (depot ∷ route))

pub plans_leave_cuts : PlansLeaveCuts
plans_leave_cuts problem part need routes routing cut plan =
    let touch = touched problem part need routes routing cut plan in
    let low = enough problem part need routes routing cut plan touch in (
      omega (arith, ints, low, touch.leave),
      omega (arith, ints, low, touch.leave, plan_enters part problem.depot routes),
    )

-- ---- families of one cut

plan_crosses : (part : ℕ → Bool) (depot : ℕ) (routes : List (List ℕ))
    → plan_length (leaving part) depot routes +ℤ plan_length (entering part) depot routes ≡ plan_length (crossing part) depot routes
plan_crosses part depot [] = refl
plan_crosses part depot (route ∷ routes) =
    let rest = plan_crosses part depot routes in
    let own = crosses_twice part (depot ∷ route) in
    omega (arith, ints, rest, own)

pub lone_crossings : (sets : Comb) (depot : ℕ) (routes : List (List ℕ)) → sets.teeth ≡ []
    → plan_length (family_crossings sets) depot routes ≡ plan_length (crossing sets.handle) depot routes
lone_crossings sets depot routes alone =
    all_same (λ route. length_of (family_crossings sets) (depot ∷ route)) (λ route. length_of (crossing sets.handle) (depot ∷ route))
    routes
    (λ route. all_same (λ (link : ℕ × ℕ). family_crossings sets link.0 link.1)
    (λ (link : ℕ × ℕ). crossing sets.handle link.0 link.1) (links (depot ∷ route))
    (λ link. let none = ap (λ teeth. sum_int_by (λ tooth. crossing tooth link.0 link.1) teeth) alone in omega (arith, ints, none)))

pub plans_cross_cuts : PlansCrossCuts
plans_cross_cuts problem family routes routing is plan =
    let both = plans_leave_cuts problem family.sets.handle is.need routes routing is.cut plan in
    let all = plan_crosses family.sets.handle problem.depot routes in
    let lone = lone_crossings family.sets problem.depot routes is.alone in
    omega (arith, ints, both.0, both.1, all, lone, is.least_is)

-- ---- a plan's weight is its scaled length and the potentials of its nodes, twice

-- ---- products

pub times_low : (k : ℕ) (z : ℤ) → pos 0 ≤ℤ z → pos 0 ≤ℤ (pos k *ℤ z)
times_low zero z low = let none = zero-*ℤ z in omega (arith, ints, none)
times_low (suc k) z low = omega (arith, ints, low, times_low k z low, suc_ℤ-*ℤ (pos k) z)

pub times_more : (k r : ℕ) (z : ℤ) → k ≤ r → pos 0 ≤ℤ z → (pos k *ℤ z) ≤ℤ (pos r *ℤ z)
times_more zero r z le low = let none = zero-*ℤ z in omega (arith, ints, none, times_low r z low)
times_more (suc k) zero z le low = absurd (omega (arith, le))
times_more (suc k) (suc r) z le low =
    omega (arith, ints, times_more k r z (omega (arith, le)) low, suc_ℤ-*ℤ (pos k) z, suc_ℤ-*ℤ (pos r) z)

times_high : (k : ℕ) (z : ℤ) → z ≤ℤ pos 0 → (pos k *ℤ z) ≤ℤ pos 0
times_high zero z high = let none = zero-*ℤ z in omega (arith, ints, none)
times_high (suc k) z high = omega (arith, ints, high, times_high k z high, suc_ℤ-*ℤ (pos k) z)

pub times_less : (k r : ℕ) (z : ℤ) → k ≤ r → z ≤ℤ pos 0 → (pos r *ℤ z) ≤ℤ (pos k *ℤ z)
times_less zero r z le high = let none = zero-*ℤ z in omega (arith, ints, none, times_high r z high)
times_less (suc k) zero z le high = absurd (omega (arith, le))
times_less (suc k) (suc r) z le high =
    omega (arith, ints, times_less k r z (omega (arith, le)) high, suc_ℤ-*ℤ (pos k) z, suc_ℤ-*ℤ (pos r) z)

pub least_at : (fewest most count : ℕ) (z : ℤ) → fewest ≤ count → count ≤ most → least_times fewest most z ≤ℤ (pos count *ℤ z)
least_at fewest most count (pos m) low high = times_more fewest count (pos m) low (omega (arith, ints))
least_at fewest most count (negsuc m) low high = times_less count most (negsuc m) high (omega (arith, ints))

below : {a b : ℤ} → int_lt a b ≡ true → a ≤ℤ b
below {a} {b} h = omega (arith, ints, h)

above : {a b : ℤ} → int_lt a b ≡ false → b ≤ℤ a
above {a} {b} h = omega (arith, ints, h)

pub least_between : (fewest most count : ℕ) (z : ℤ) → fewest ≤ count → count ≤ most → least_product fewest most z ≤ℤ (pos count *ℤ z)
least_between fewest most count z low high = elim (cases_Bool (int_lt (pos most *ℤ z) (pos fewest *ℤ z))) [
  | inl t ↦ rw t (let own = least_at fewest most count z low high in lower z t own)
  | inr f ↦ rw f (let own = least_at fewest most count z low high in upper z f own)
]
  where
    lower : (y : ℤ) → int_lt (pos most *ℤ y) (pos fewest *ℤ y) ≡ true → least_times fewest most y ≤ℤ (pos count *ℤ y)
        → (pos most *ℤ y) ≤ℤ (pos count *ℤ y)
    lower (pos m) less own = let lt = below {a = pos most *ℤ pos m} {b = pos fewest *ℤ pos m} less in omega (arith, ints, lt, own)
    lower (negsuc m) less own = own

    upper : (y : ℤ) → int_lt (pos most *ℤ y) (pos fewest *ℤ y) ≡ false → least_times fewest most y ≤ℤ (pos count *ℤ y)
        → (pos fewest *ℤ y) ≤ℤ (pos count *ℤ y)
    upper (pos m) less own = own
    upper (negsuc m) less own = let le = above {a = pos most *ℤ negsuc m} {b = pos fewest *ℤ negsuc m} less in omega (arith, ints, le, own)

-- each route has its surplus, and twice the potential of the depot
pub split_surplus : (count : ℕ) (each own : ℤ)
    → (pos count *ℤ (each -ℤ (pos 2 *ℤ own))) +ℤ (pos 2 *ℤ (pos count *ℤ own)) ≡ pos count *ℤ each
split_surplus zero each own =
    let a = zero-*ℤ (each -ℤ (pos 2 *ℤ own)) in
    let b = zero-*ℤ own in
    let c = zero-*ℤ each in
    omega (arith, ints, a, b, c)
split_surplus (suc count) each own =
    let rest = split_surplus count each own in
    let a = suc_ℤ-*ℤ (pos count) (each -ℤ (pos 2 *ℤ own)) in
    let b = suc_ℤ-*ℤ (pos count) own in
    let c = suc_ℤ-*ℤ (pos count) each in
    omega (arith, ints, rest, a, b, c)

-- ---- the weight of a plan

scaled_weight : (scale : ℤ) (cost : ℕ → ℕ → ℤ) (pairs : List (ℕ × ℕ)) → IsScale scale
    → weight_of (λ i j. scale *ℤ cost i j) pairs ≡ scale *ℤ weight_of cost pairs
scaled_weight (pos m) cost pairs scale_in = sum_int_by-scaled m (λ (link : ℕ × ℕ). cost link.0 link.1) pairs
scaled_weight (negsuc m) cost pairs scale_in = absurd (omega (arith, ints, scale_in.0))

pub between_weight : (problem : RoutingProblem) (scale : ℤ) (potentials : List ℤ) (routes : List (List ℕ)) → IsRoutable problem
    → IsScale scale → IsPlan problem routes
    → weight_of (weight_between scale potentials problem.cost) (plan_links problem.depot routes)
    ≡ (scale *ℤ weight_of problem.cost (plan_links problem.depot routes))
    +ℤ (pos 2 *ℤ (sum_of_customers problem.nodes problem.depot (entry potentials)
    +ℤ (pos (length routes) *ℤ entry potentials problem.depot)))
between_weight problem scale potentials routes routing scale_in plan =
    let pairs = plan_links problem.depot routes in
    let p = entry potentials in
    let outer = sum_int_by-add (λ (link : ℕ × ℕ). scale *ℤ problem.cost link.0 link.1)
    (λ (link : ℕ × ℕ). p link.0 +ℤ p link.1) pairs in
    let inner = sum_int_by-add (λ (link : ℕ × ℕ). p link.0) (λ (link : ℕ × ℕ). p link.1) pairs in
    let whole = scaled_weight scale problem.cost pairs scale_in in
    let sums = plan_sums problem routes p routing plan in
    let firsts = lengths_are_weights (λ i j. p i) problem.depot routes in
    let seconds = lengths_are_weights (λ i j. p j) problem.depot routes in
    omega (arith, ints, outer, inner, whole, sums.0, sums.1, firsts, seconds)
