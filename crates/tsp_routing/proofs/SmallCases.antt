-- For src/examples.rt: a small rectangle whose three customers load 4 each. How many routes they need, its q-routes and
-- runs where a route carries two customers, and the bounds of small certificates for it. Examples in tsp_verdict rest on
-- its q-routes, too.
use Rattle.std.specs.Int.Signed.{le_z_yes}
use Rattle.tsp_format.specs.Steps as listed
use Rattle.tsp_routing.proofs.Prelude.{◌≡◌, ℕ, ◌≤◌, Bool, true, false, List, [], ◌∷◌, ℤ, ◌≤ℤ◌, refl, sym, subst, arith, pos, max, min, ◌*ℤ◌, ints, most_nodes, nodes_to, IsLeastRoutes, has, ◌<◌, ◌+◌, ◌*◌, ◌≢◌, zero, suc, Some, length, ap, AllByRecursion, All-from_recursion, recursion_from_All, length_of, IsCustomer, Option, None, inr, rules, negsuc, neg_ℤ, slice_index_or, ◌+ℤ◌, ◌-ℤ◌, All-nil, most_potential, IsNode, IsFromTo, entry, ArePotentials, IsLeastBound, Decision, BeginsWithin, IsGoodAtBy, LeafNumbers, IsAbove, IsLeastFound, Family}
use Rattle.tsp_routing.proofs.QRouteRests.{loads_low}
use Rattle.tsp_routing.specs.Examples.{rectangle_with, lone_cut, at_most, above, no_potentials, LeafHas, three_potentials, CertificateHas, branch_on_two}
use Rattle.tsp_routing.specs.PlanBounds.{surplus, least_product, limits_total, q_route_weight, IsPlanBound, IsQRouteBound, IsFoundByQRoutes}
use Rattle.tsp_routing.specs.PlanLinks.{sum_of_customers, demand_in, IsFewest, IsCapacityCut, IsCutFamily, is_light, AreUnits, capacity_in_parts, load_in}
use Rattle.tsp_routing.specs.PlanVerdicts.{most_entries, HasTooManyLoads, ArePlanNumbers, IsGoodSet, AreCapacityCuts}
use Rattle.tsp_routing.specs.QRoutes.{IsQRoute, IsLeastAmong}
use Rattle.tsp_routing.specs.RunBounds.{leaf_rules}
use Rattle.tsp_routing.specs.RunExamples.{of_three, rectangle_problem, lone_customers}
use Rattle.tsp_routing.specs.Runs.{RunRules, IsRunUnder, run_weight}

all_demand : (capacity : ℤ) → sum_of_customers 4 1 (rectangle_with capacity).demand ≡ pos 12
unfolding nodes_to
all_demand capacity = refl

three_demand : (capacity : ℤ) → demand_in (rectangle_with capacity) (has (2 ∷ 3 ∷ 4 ∷ [])) ≡ pos 12
unfolding nodes_to
three_demand capacity = refl

two_demand : (capacity : ℤ) → demand_in (rectangle_with capacity) (has (3 ∷ 4 ∷ [])) ≡ pos 8
unfolding nodes_to
two_demand capacity = refl

pub fewest : (capacity : ℤ) (least : ℕ) → IsLeastRoutes (pos 12) capacity least → least ≡ max (min least most_nodes) 1
    → IsFewest (rectangle_with capacity) least
fewest capacity least is same = record {
  least = least;
  least_is = subst (λ (total : ℤ). IsLeastRoutes total capacity least) (sym (all_demand capacity)) is;
  fewest_is = same;
}

pub two_of_eight : IsLeastRoutes (pos 12) (pos 8) 2
two_of_eight = record { enough = le_z_yes tt; none_less = λ count enough. omega (arith, ints, enough) }

pub three_of_four : IsLeastRoutes (pos 12) (pos 4) 3
three_of_four = record { enough = le_z_yes tt; none_less = λ count enough. omega (arith, ints, enough) }

pub one_of_twelve : IsLeastRoutes (pos 12) (pos 12) 1
one_of_twelve = record { enough = le_z_yes tt; none_less = λ count enough. omega (arith, ints, enough) }

pub need_of_three : (capacity : ℤ) (least : ℕ) → IsLeastRoutes (pos 12) capacity least → least ≡ max (min least most_nodes) 1
    → IsCapacityCut (rectangle_with capacity) (has (2 ∷ 3 ∷ 4 ∷ [])) least
need_of_three capacity least is same = record {
  inside = 2;
  customer = ((omega arith, omega arith), λ e. omega (arith, e));
  has_inside = refl;
  lacks_depot = refl;
  least = least;
  least_is = subst (λ (total : ℤ). IsLeastRoutes total capacity least) (sym (three_demand capacity)) is;
  need_is = same;
}

pub need_of_two : (capacity : ℤ) (least : ℕ) → IsLeastRoutes (pos 8) capacity least → least ≡ max (min least most_nodes) 1
    → IsCapacityCut (rectangle_with capacity) (has (3 ∷ 4 ∷ [])) least
need_of_two capacity least is same = record {
  inside = 3;
  customer = ((omega arith, omega arith), λ e. omega (arith, e));
  has_inside = refl;
  lacks_depot = refl;
  least = least;
  least_is = subst (λ (total : ℤ). IsLeastRoutes total capacity least) (sym (two_demand capacity)) is;
  need_is = same;
}

pub cut_of_three : IsCutFamily (rectangle_with (pos 8)) (lone_cut 4 (2 ∷ 3 ∷ 4 ∷ []))
cut_of_three = record { alone = refl; need = 2; cut = need_of_three (pos 8) 2 two_of_eight refl; least_is = refl; most_is = refl }

pub cut_of_two : IsCutFamily (rectangle_with (pos 8)) (lone_cut 2 (3 ∷ 4 ∷ []))
cut_of_two = record {
  alone = refl;
  need = 1;
  cut = need_of_two (pos 8) 1 (record { enough = le_z_yes tt; none_less = λ count enough. omega (arith, ints, enough) }) refl;
  least_is = refl;
  most_is = refl;
}

-- ---- loads of less than a unit

no_customers : (capacity : ℤ) → sum_of_customers 4 1 (is_light (rectangle_with capacity) 1) ≡ pos 0
unfolding nodes_to
no_customers capacity = refl

pub in_ones : (capacity : ℤ) → AreUnits (rectangle_with capacity) 1 0
unfolding nodes_to
in_ones capacity = record { some = omega arith; light_is = refl }

pub in_fours : AreUnits (rectangle_with (pos 8)) 4 0
unfolding nodes_to
in_fours = record { some = omega arith; light_is = refl }

pub in_fives : AreUnits (rectangle_with (pos 8)) 5 3
unfolding nodes_to
in_fives = record { some = omega arith; light_is = refl }

-- so the number of those is known
pub none_below_one : (capacity : ℤ) (light : ℕ) → AreUnits (rectangle_with capacity) 1 light → light ≡ 0
none_below_one capacity light units =
    let is = units.light_is in
    let none = no_customers capacity in
    omega (arith, ints, is, none)

-- ---- q-routes

-- of four nodes with the depot 1 the customers are 2, 3 and 4
pub of_customers : (P : ℕ → Type 0) → P 2 → P 3 → P 4 → (node : ℕ) → IsCustomer 4 1 node → P node
of_customers P two three four zero is = absurd (omega (arith, is.0.0))
of_customers P two three four (suc zero) is = absurd (is.1 refl)
of_customers P two three four (suc (suc zero)) is = two
of_customers P two three four (suc (suc (suc zero))) is = three
of_customers P two three four (suc (suc (suc (suc zero)))) is = four
of_customers P two three four (suc (suc (suc (suc (suc node))))) is = absurd (omega (arith, is.0.1))

pub not_empty : (node : ℕ) (nodes : List ℕ) → (node ∷ nodes) ≢ []
not_empty node nodes = λ same. let long = ap (λ xs. length xs) same in omega (arith, long)

-- the lists of one customer, and of two
abbrev pub nine : List (List ℕ)
nine = (2 ∷ []) ∷ (3 ∷ []) ∷ (4 ∷ []) ∷ (2 ∷ 3 ∷ []) ∷ (2 ∷ 4 ∷ []) ∷ (3 ∷ 2 ∷ []) ∷ (3 ∷ 4 ∷ []) ∷ (4 ∷ 2 ∷ []) ∷ (4 ∷ 3 ∷ []) ∷ []

module _ (load : ℕ → ℕ) (room : ℕ) (fours : (node : ℕ) → IsCustomer 4 1 node → load node ≡ 4) (holds : 4 ≤ room) (few : room < 12) where
  -- a statement on the nine lists is one on all walks
  of_q_routes : (P : List ℕ → Type 0) → AllByRecursion P nine → (nodes : List ℕ) → IsQRoute 4 1 load room nodes → P nodes
  of_q_routes P h [] q_route = absurd (q_route.some refl)
  of_q_routes P h (a ∷ []) q_route =
      let customers = recursion_from_All (IsCustomer 4 1) (a ∷ []) q_route.customers in
      of_customers (λ x. P (x ∷ [])) h.0 h.1.0 h.1.1.0 a customers.0
  of_q_routes P h (a ∷ b ∷ []) q_route =
      let customers = recursion_from_All (IsCustomer 4 1) (a ∷ b ∷ []) q_route.customers in
      let pairs = h.1.1.1 in
      of_customers (λ x. (y : ℕ) → IsCustomer 4 1 y → x ≢ y → P (x ∷ y ∷ []))
      (of_customers (λ y. 2 ≢ y → P (2 ∷ y ∷ [])) (λ other. absurd (other refl)) (λ other. pairs.0) (λ other. pairs.1.0))
      (of_customers (λ y. 3 ≢ y → P (3 ∷ y ∷ [])) (λ other. pairs.1.1.0) (λ other. absurd (other refl)) (λ other. pairs.1.1.1.0))
      (of_customers (λ y. 4 ≢ y → P (4 ∷ y ∷ [])) (λ other. pairs.1.1.1.1.0) (λ other. pairs.1.1.1.1.1.0) (λ other. absurd (other refl)))
      a customers.0 b customers.1.0 q_route.straight.0.0
  of_q_routes P h (a ∷ b ∷ c ∷ rest) q_route =
      let customers = recursion_from_All (IsCustomer 4 1) (a ∷ b ∷ c ∷ rest) q_route.customers in
      let first = fours a customers.0 in
      let second = fours b customers.1.0 in
      let third = fours c customers.1.1.0 in
      let within = q_route.within in
      let others = loads_low load rest in
      absurd (omega (arith, ints, within, first, second, third, others, few))

  -- the least weight is that of a walk with one customer
  pub least_of_nine : (w : ℕ → ℕ → ℤ) (each : ℤ) (node : ℕ) → IsCustomer 4 1 node → each ≡ length_of w (1 ∷ node ∷ [])
      → AllByRecursion (λ nodes. each ≤ℤ length_of w (1 ∷ nodes)) nine
      → IsLeastAmong (IsQRoute 4 1 load room) (λ nodes. length_of w (1 ∷ nodes)) (Some each)
  least_of_nine w each node customer is above = (
    (
      node ∷ [],
      record {
        some = not_empty node [];
        customers = All-from_recursion (IsCustomer 4 1) (node ∷ []) (customer, tt);
        within = (let four = fours node customer in omega (arith, ints, four, holds));
        straight = (tt, tt);
      },
      is,
    ),
    of_q_routes (λ nodes. each ≤ℤ length_of w (1 ∷ nodes)) above,
  )

-- if no customer fits there is no walk
pub no_room : (load : ℕ → ℕ) (room : ℕ) → ((node : ℕ) → IsCustomer 4 1 node → load node ≡ 4) → room < 4
    → (nodes : List ℕ) → IsQRoute 4 1 load room nodes → ⊥
no_room load room fours small [] q_route = q_route.some refl
no_room load room fours small (a ∷ rest) q_route =
    let customers = recursion_from_All (IsCustomer 4 1) (a ∷ rest) q_route.customers in
    let first = fours a customers.0 in
    let within = q_route.within in
    let others = loads_low load rest in
    omega (arith, ints, within, first, others, small)

-- ---- bounds of small certificates

abbrev set : List Family
set = lone_cut 2 (3 ∷ 4 ∷ []) ∷ []

-- ---- sums

at_scale_one : (sum bound : ℤ) → sum ≡ bound → IsLeastBound (pos 1) sum bound
at_scale_one sum bound is = record { above = omega (arith, ints, is); least = λ other enough. omega (arith, ints, is, enough) }

plan_bound : (potentials : List ℤ) (families : List Family) (multipliers : List ℤ) (case : List Decision) (each bound : ℤ)
    → ((limits_total case 6 5 families multipliers -ℤ (pos 2 *ℤ sum_of_customers 4 1 (entry potentials)))
    +ℤ least_product 2 3 (surplus (rectangle_with (pos 8)) potentials each)) ≡ bound
    → IsPlanBound (rectangle_with (pos 8)) (pos 1) potentials families multipliers case each bound
plan_bound potentials families multipliers case each bound is = record {
  fewest = 2;
  fewest_is = fewest (pos 8) 2 two_of_eight refl;
  bound_is = at_scale_one ((limits_total case 6 5 families multipliers -ℤ (pos 2 *ℤ sum_of_customers 4 1 (entry potentials)))
      +ℤ least_product 2 3 (surplus (rectangle_with (pos 8)) potentials each)) bound is;
}

pub low : LeafHas [] (pos 1) (pos 6) (pos 14)
unfolding nodes_to
low = plan_bound no_potentials set (pos 1 ∷ []) [] (pos 6) (pos 14) refl

pub high : LeafHas [] (negsuc 0) (pos 6) (pos 6)
unfolding nodes_to
high = plan_bound no_potentials set (negsuc 0 ∷ []) [] (pos 6) (pos 6) refl

pub low_of_case : LeafHas (above 5 1 ∷ []) (pos 1) (pos 6) (pos 16)
unfolding nodes_to
low_of_case = plan_bound no_potentials set (pos 1 ∷ []) (above 5 1 ∷ []) (pos 6) (pos 16) refl

pub high_of_case : LeafHas (at_most 5 1 ∷ []) (negsuc 0) (pos 6) (pos 10)
unfolding nodes_to
high_of_case = plan_bound no_potentials set (negsuc 0 ∷ []) (at_most 5 1 ∷ []) (pos 6) (pos 10) refl

pub most_routes : LeafHas [] (pos 0) (negsuc 11) (negsuc 35)
unfolding nodes_to
most_routes = plan_bound no_potentials set (pos 0 ∷ []) [] (negsuc 11) (negsuc 35) refl

-- ---- leaves

fours : (capacity : ℤ) (node : ℕ) → IsCustomer 4 1 node → load_in (rectangle_with capacity) 1 0 node ≡ 4
fours capacity node is = of_customers (λ x. load_in (rectangle_with capacity) 1 0 x ≡ 4) refl refl refl node is

-- the bound by the least weight, which is that of a walk with one customer
q_route_bound : (potentials : List ℤ) (families : List Family) (multipliers : List ℤ) (case : List Decision) (each bound : ℤ) (node : ℕ)
    → IsCustomer 4 1 node
    → each ≡ length_of (q_route_weight (pos 1) potentials families multipliers (rectangle_with (pos 8)).cost) (1 ∷ node ∷ [])
    → AllByRecursion (λ nodes. each ≤ℤ length_of (q_route_weight (pos 1) potentials families multipliers (rectangle_with (pos 8)).cost) (1 ∷ nodes)) nine
    → IsPlanBound (rectangle_with (pos 8)) (pos 1) potentials families multipliers case each bound
    → IsQRouteBound (rectangle_with (pos 8)) (pos 1) 1 0 families case (record { potentials = potentials; multipliers = multipliers }) bound
q_route_bound potentials families multipliers case each bound node customer is least bound_is =
    let holds : 4 ≤ 8 = omega arith in
    let few : 8 < 12 = omega arith in
    record {
      each = each;
      least = least_of_nine (load_in (rectangle_with (pos 8)) 1 0) (capacity_in_parts (rectangle_with (pos 8)) 1 0) (fours (pos 8)) holds few
          (q_route_weight (pos 1) potentials families multipliers (rectangle_with (pos 8)).cost) each node customer is least;
      bound_is = bound_is;
    }

-- the walk 1 2 1, of 6
plain : IsQRouteBound (rectangle_with (pos 8)) (pos 1) 1 0 [] [] (record { potentials = no_potentials; multipliers = [] }) (pos 12)
unfolding nodes_to
plain = q_route_bound no_potentials [] [] [] (pos 6) (pos 12) 2 ((omega arith, omega arith), λ e. omega (arith, e)) refl
    (le_z_yes tt, (le_z_yes tt, (le_z_yes tt, (le_z_yes tt, (le_z_yes tt, (le_z_yes tt, (le_z_yes tt, (le_z_yes tt, (le_z_yes tt, tt)))))))))
    (plan_bound no_potentials [] [] [] (pos 6) (pos 12) refl)

-- the same, of 0
with_potentials : IsQRouteBound (rectangle_with (pos 8)) (pos 1) 1 0 [] []
    (record { potentials = pos 0 ∷ negsuc 2 ∷ negsuc 2 ∷ negsuc 2 ∷ []; multipliers = [] }) (pos 18)
unfolding nodes_to
with_potentials = q_route_bound (pos 0 ∷ negsuc 2 ∷ negsuc 2 ∷ negsuc 2 ∷ []) [] [] [] (pos 0) (pos 18) 2
    ((omega arith, omega arith), λ e. omega (arith, e)) refl
    (le_z_yes tt, (le_z_yes tt, (le_z_yes tt, (le_z_yes tt, (le_z_yes tt, (le_z_yes tt, (le_z_yes tt, (le_z_yes tt, (le_z_yes tt, tt)))))))))
    (plan_bound (pos 0 ∷ negsuc 2 ∷ negsuc 2 ∷ negsuc 2 ∷ []) [] [] [] (pos 0) (pos 18) refl)

-- the same, of 6, beside a multiplier of -1
crossed_twice : IsQRouteBound (rectangle_with (pos 8)) (pos 1) 1 0 set (at_most 5 1 ∷ []) (record { potentials = no_potentials; multipliers = negsuc 0 ∷ [] }) (pos 10)
unfolding nodes_to
crossed_twice = q_route_bound no_potentials set (negsuc 0 ∷ []) (at_most 5 1 ∷ []) (pos 6) (pos 10) 2 ((omega arith, omega arith), λ e. omega (arith, e)) refl
    (le_z_yes tt, (le_z_yes tt, (le_z_yes tt, (le_z_yes tt, (le_z_yes tt, (le_z_yes tt, (le_z_yes tt, (le_z_yes tt, (le_z_yes tt, tt)))))))))
    high_of_case

-- the walk 1 4 1, of 8, which crosses the set twice, beside a multiplier of 2
crossed_more : IsQRouteBound (rectangle_with (pos 8)) (pos 1) 1 0 set (above 5 1 ∷ []) (record { potentials = no_potentials; multipliers = pos 2 ∷ [] }) (pos 16)
unfolding nodes_to
crossed_more = q_route_bound no_potentials set (pos 2 ∷ []) (above 5 1 ∷ []) (pos 4) (pos 16) 4 ((omega arith, omega arith), λ e. omega (arith, e)) refl
    (le_z_yes tt, (le_z_yes tt, (le_z_yes tt, (le_z_yes tt, (le_z_yes tt, (le_z_yes tt, (le_z_yes tt, (le_z_yes tt, (le_z_yes tt, tt)))))))))
    (plan_bound no_potentials set (pos 2 ∷ []) (above 5 1 ∷ []) (pos 4) (pos 16) refl)

-- ---- trees of one leaf, and of two

module _ (found : List Decision × LeafNumbers → Option ℤ → Type 0) where
  of_one : (leaf : List Decision × LeafNumbers) (bound : ℤ) → found leaf (Some bound) → IsLeastFound found (leaf ∷ []) (Some bound)
  of_one leaf bound is = (
    All-from_recursion (IsAbove found bound) (leaf ∷ []) (inr (bound, is, omega (arith, ints)), tt),
    (0, leaf, omega arith, refl, is),
  )

  of_two : (first second : List Decision × LeafNumbers) (a b : ℤ) → found first (Some a) → found second (Some b) → a ≤ℤ b
      → IsLeastFound found (first ∷ second ∷ []) (Some a)
  of_two first second a b one two le = (
    All-from_recursion (IsAbove found a) (first ∷ second ∷ []) (inr (a, one, omega (arith, ints)), (inr (b, two, le), tt)),
    (0, first, omega arith, refl, one),
  )

one_leaf : (P : ℕ → Type 0) → P 1 → (place : ℕ) → 1 ≤ place → place ≤ 1 → P place
one_leaf P first zero from to = absurd (omega (arith, from))
one_leaf P first (suc zero) from to = first
one_leaf P first (suc (suc place)) from to = absurd (omega (arith, to))

two_leaves : (P : ℕ → Type 0) → P 1 → P 2 → (place : ℕ) → 1 ≤ place → place ≤ 2 → P place
two_leaves P first second zero from to = absurd (omega (arith, from))
two_leaves P first second (suc zero) from to = first
two_leaves P first second (suc (suc zero)) from to = second
two_leaves P first second (suc (suc (suc place))) from to = absurd (omega (arith, to))

-- ---- certificates

are_potentials : (p : ℤ) → IsFromTo (neg_ℤ (pos most_potential)) (pos most_potential) p → ArePotentials (pos 0 ∷ p ∷ p ∷ p ∷ [])
are_potentials p is =
    All-from_recursion (IsFromTo (neg_ℤ (pos most_potential)) (pos most_potential)) (pos 0 ∷ p ∷ p ∷ p ∷ [])
    ((le_z_yes tt, le_z_yes tt), (is, (is, (is, tt))))

no_cuts : (capacity : ℤ) → AreCapacityCuts (rectangle_with capacity) [] []
no_cuts capacity = record {
  many = refl;
  good = λ place lt. absurd (omega (arith, lt));
  are = All-nil (IsCutFamily (rectangle_with capacity));
}

good_set : (place : ℕ) → place < 1 → IsGoodSet 4 1 (slice_index_or (((3 ∷ 4 ∷ []) ∷ []) ∷ []) place [])
good_set zero lt = record {
  customers = 3 ∷ 4 ∷ [];
  alone = refl;
  some = not_empty 3 (4 ∷ []);
  inside = All-from_recursion (IsCustomer 4 1) (3 ∷ 4 ∷ [])
      (((omega arith, omega arith), λ e. omega (arith, e)), (((omega arith, omega arith), λ e. omega (arith, e)), tt));
  once = search rules;
}
good_set (suc place) lt = absurd (omega (arith, lt))

one_cut : AreCapacityCuts (rectangle_with (pos 8)) (((3 ∷ 4 ∷ []) ∷ []) ∷ []) (record { least = 2; most = 1 } ∷ [])
one_cut = record {
  many = refl;
  good = good_set;
  are = All-from_recursion (IsCutFamily (rectangle_with (pos 8))) set (cut_of_two, tt);
}

good_zeros : ArePlanNumbers 4 0 (record { potentials = no_potentials; multipliers = [] })
good_zeros = record {
  each_node = refl;
  each_family = refl;
  potentials_are = are_potentials (pos 0) (le_z_yes tt, le_z_yes tt);
  sum = le_z_yes tt;
}

pub twelve : CertificateHas (pos 8) [] (listed.Leaf [] ∷ []) (Some (pos 12))
twelve = record {
  crossed = [];
  cuts = no_cuts (pos 8);
  branches = All-nil (BeginsWithin 5 4);
  leaves = one_leaf (IsGoodAtBy (ArePlanNumbers 4 0) 4 0 ([] ∷ []))
      (record { indexes = All-nil (λ change. IsNode 4 change.0); numbers_are = good_zeros });
  light = 0;
  units = in_ones (pos 8);
  few = omega arith;
  bound = of_one (IsFoundByQRoutes (rectangle_with (pos 8)) (pos 1) 1 0 []) ([], record { potentials = no_potentials; multipliers = [] }) (pos 12) plain;
}

pub eighteen : CertificateHas (pos 8) [] (three_potentials (negsuc 2)) (Some (pos 18))
eighteen =
    let changes : List (ℕ × ℤ) = (2, negsuc 2) ∷ (3, negsuc 2) ∷ (4, negsuc 2) ∷ [] in
    record {
      crossed = [];
      cuts = no_cuts (pos 8);
      branches = All-nil (BeginsWithin 5 4);
      leaves = one_leaf (IsGoodAtBy (ArePlanNumbers 4 0) 4 0 (changes ∷ [])) (record {
        indexes = All-from_recursion (λ change. IsNode 4 change.0) changes
            ((omega arith, omega arith), ((omega arith, omega arith), ((omega arith, omega arith), tt)));
        numbers_are = record {
          each_node = refl;
          each_family = refl;
          potentials_are = are_potentials (negsuc 2) (le_z_yes tt, le_z_yes tt);
          sum = le_z_yes tt;
        };
      });
      light = 0;
      units = in_ones (pos 8);
      few = omega arith;
      bound = of_one (IsFoundByQRoutes (rectangle_with (pos 8)) (pos 1) 1 0 [])
          ([], record { potentials = pos 0 ∷ negsuc 2 ∷ negsuc 2 ∷ negsuc 2 ∷ []; multipliers = [] }) (pos 18) with_potentials;
    }

pub ten : CertificateHas (pos 8) (((3 ∷ 4 ∷ []) ∷ []) ∷ []) branch_on_two (Some (pos 10))
ten =
    let first : List (ℕ × ℤ) = (5, negsuc 0) ∷ [] in
    let second : List (ℕ × ℤ) = (5, pos 3) ∷ [] in
    record {
      crossed = record { least = 2; most = 1 } ∷ [];
      cuts = one_cut;
      branches = All-from_recursion (BeginsWithin 5 5) ((5, 1) ∷ []) ((omega arith, omega arith), tt);
      leaves = two_leaves (IsGoodAtBy (ArePlanNumbers 4 1) 4 1 (first ∷ second ∷ []))
          (record {
            indexes = All-from_recursion (λ change. IsNode 5 change.0) first ((omega arith, omega arith), tt);
            numbers_are = record {
              each_node = refl;
              each_family = refl;
              potentials_are = are_potentials (pos 0) (le_z_yes tt, le_z_yes tt);
              sum = le_z_yes tt;
            };
          })
          (record {
            indexes = All-from_recursion (λ change. IsNode 5 change.0) second ((omega arith, omega arith), tt);
            numbers_are = record {
              each_node = refl;
              each_family = refl;
              potentials_are = are_potentials (pos 0) (le_z_yes tt, le_z_yes tt);
              sum = le_z_yes tt;
            };
          });
      light = 0;
      units = in_ones (pos 8);
      few = omega arith;
      bound = of_two (IsFoundByQRoutes (rectangle_with (pos 8)) (pos 1) 1 0 set)
          (at_most 5 1 ∷ [], record { potentials = no_potentials; multipliers = negsuc 0 ∷ [] })
          (above 5 1 ∷ [], record { potentials = no_potentials; multipliers = pos 2 ∷ [] })
          (pos 10) (pos 16) crossed_twice crossed_more (le_z_yes tt);
    }

pub none : CertificateHas (pos 3) [] (listed.Leaf [] ∷ []) None
none =
    let small : 3 < 4 = omega arith in
    let leaf : List Decision × LeafNumbers = ([], record { potentials = no_potentials; multipliers = [] }) in
    record {
      crossed = [];
      cuts = no_cuts (pos 3);
      branches = All-nil (BeginsWithin 5 4);
      leaves = one_leaf (IsGoodAtBy (ArePlanNumbers 4 0) 4 0 ([] ∷ []))
          (record { indexes = All-nil (λ change. IsNode 4 change.0); numbers_are = good_zeros });
      light = 0;
      units = in_ones (pos 3);
      few = omega arith;
      bound = All-from_recursion (λ l. IsFoundByQRoutes (rectangle_with (pos 3)) (pos 1) 1 0 [] l None) (leaf ∷ [])
          (no_room (load_in (rectangle_with (pos 3)) 1 0) (capacity_in_parts (rectangle_with (pos 3)) 1 0) (fours (pos 3)) small, tt);
    }

-- ---- runs

abbrev pub rules_with : ℤ → RunRules
rules_with charge = leaf_rules rectangle_problem (pos 1) 1 0 [] lone_customers (λ node. []) ((of_three, charge) ∷ [])

-- no run weighs less than `each`, if none of one customer does, and none of two different ones
pub record AreAbove (charge each : ℤ) : Type 0 where
  pub two : each ≤ℤ run_weight (rules_with charge) (2 ∷ [])
  pub three : each ≤ℤ run_weight (rules_with charge) (3 ∷ [])
  pub four : each ≤ℤ run_weight (rules_with charge) (4 ∷ [])
  pub two_three : each ≤ℤ run_weight (rules_with charge) (2 ∷ 3 ∷ [])
  pub three_two : each ≤ℤ run_weight (rules_with charge) (3 ∷ 2 ∷ [])
  pub two_four : each ≤ℤ run_weight (rules_with charge) (2 ∷ 4 ∷ [])
  pub four_two : each ≤ℤ run_weight (rules_with charge) (4 ∷ 2 ∷ [])
  pub three_four : each ≤ℤ run_weight (rules_with charge) (3 ∷ 4 ∷ [])
  pub four_three : each ≤ℤ run_weight (rules_with charge) (4 ∷ 3 ∷ [])

four_each : (node : ℕ) → IsCustomer 4 1 node → load_in rectangle_problem 1 0 node ≡ 4
four_each = of_customers (λ node. load_in rectangle_problem 1 0 node ≡ 4) refl refl refl

pub all_above : (charge each : ℤ) → AreAbove charge each → (nodes : List ℕ) → IsRunUnder (rules_with charge) nodes
    → each ≤ℤ run_weight (rules_with charge) nodes
all_above charge each are [] run = absurd run
all_above charge each are (a ∷ []) run =
    of_customers (λ node. each ≤ℤ run_weight (rules_with charge) (node ∷ [])) are.two are.three are.four a run.0
all_above charge each are (a ∷ b ∷ []) run = pairs a run.0 b run.2.0.customer run.2.0.other
  where
    pairs : (x : ℕ) → IsCustomer 4 1 x → (y : ℕ) → IsCustomer 4 1 y → x ≢ y → each ≤ℤ run_weight (rules_with charge) (x ∷ y ∷ [])
    pairs = of_customers
        (λ x. (y : ℕ) → IsCustomer 4 1 y → x ≢ y → each ≤ℤ run_weight (rules_with charge) (x ∷ y ∷ []))
        (of_customers (λ y. 2 ≢ y → each ≤ℤ run_weight (rules_with charge) (2 ∷ y ∷ [])) (λ other. absurd (other refl)) (λ other. are.two_three)
        (λ other. are.two_four))
        (of_customers (λ y. 3 ≢ y → each ≤ℤ run_weight (rules_with charge) (3 ∷ y ∷ [])) (λ other. are.three_two) (λ other. absurd (other refl))
        (λ other. are.three_four))
        (of_customers (λ y. 4 ≢ y → each ≤ℤ run_weight (rules_with charge) (4 ∷ y ∷ [])) (λ other. are.four_two) (λ other. are.four_three)
        (λ other. absurd (other refl)))
all_above charge each are (a ∷ b ∷ c ∷ rest) run =
    let first = four_each a run.0 in
    let second = four_each b run.2.0.customer in
    let third = four_each c run.2.1.0.customer in
    let within = run.2.1.0.within in
    absurd (omega (arith, first, second, third, within))
