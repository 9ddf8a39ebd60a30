-- For src/demands.rt: what customers demand, in units, how many routes that needs, and that each route is a walk within
-- the capacity. Proofs in tsp_verdict use it, too.
use Rattle.tsp_routing.proofs.Prelude.{◌≡◌, ◌≢◌, ℕ, zero, suc, ◌+◌, ◌-◌, ◌*◌, ◌/◌, ◌<◌, ◌≤◌, ◌==◌, ◌||◌, false, List, [], ◌∷◌, refl, sym, ap, ◌∙◌, subst, arith, to_z, of_z, inl, inr, add-one, ap₂, ◌++◌, +ℤ_assoc, div-mul-le_self, lt-div-mul-add, mul-le-mul_right, add-mul, cases_Bool, cases_eq, cases_lt, or_left, ne_eqb, eq-eqb, eqb-true, ints, recursion_from_All, All-from_recursion, w64, All, AllPairs, AllByRecursion, range_with_len, concat, ◌⊎◌, max, min, if◌then◌else◌, nat_abs, ℤ, pos, negsuc, ◌+ℤ◌, ◌*ℤ◌, ◌≤ℤ◌, most_demand, most_nodes, IsNode, nodes_to, IsFromTo, sum_int_by-add, sum_int_by, RoutingProblem, IsCustomer, IsLeastRoutes, absent, has}
use Rattle.tsp_cases.proofs.SetSums.{some_left}
use Rattle.tsp_routing.proofs.Plans.{all_same, sum_append, sum_of_plan, parts_all, demands_low}
use Rattle.tsp_routing.specs.PlanLinks.{sum_of_customers, IsCapacityCut, units_of, is_light, load_in, capacity_in_parts, RoutesFitCapacity, LoadsAreSome}
use Rattle.tsp_routing.specs.QRoutes.{BeginsOther, IsStraightFrom, IsStraight, IsQRoute, RoutesAreQRoutes}
use Rattle.tsp_routing.specs.states.Demands.{of_others, light_in}

-- a run of nodes with one more at its end
pub run_more : (f : ℕ → ℤ) (a n : ℕ) → sum_int_by f (range_with_len a (suc n)) ≡ sum_int_by f (range_with_len a n) +ℤ f (a + n)
run_more f a zero = let same : f a ≡ f (a + 0) = ap f (omega arith) in omega (arith, ints, same)
run_more f a (suc n) =
    let rest = run_more f (a + 1) n in
    let same : f ((a + 1) + n) ≡ f (a + suc n) = ap f (omega arith) in
    omega (arith, ints, rest, same)

-- ---- sums over the nodes of a list are sums over all nodes

abbrev alone : (ℕ → ℤ) → ℕ → ℕ → ℤ
alone d y x = if y == x then d x else pos 0

alone_none : (d : ℕ → ℤ) (y a m : ℕ) → y < a → sum_int_by (alone d y) (range_with_len a m) ≡ pos 0
alone_none d y a zero lt = refl
alone_none d y a (suc m) lt =
    let first : alone d y a ≡ pos 0 = ap (λ b. if b then d a else pos 0) (ne_eqb y a (λ same. omega (arith, lt, same))) in
    omega (arith, ints, first, alone_none d y (a + 1) m (omega (arith, lt)))

alone_sum : (d : ℕ → ℤ) (y a m : ℕ) → a ≤ y → y < a + m → sum_int_by (alone d y) (range_with_len a m) ≡ d y
alone_sum d y a zero low high = absurd (omega (arith, low, high))
alone_sum d y a (suc m) low high = elim (cases_eq y a) [
  | inl same ↦
      let first : alone d y a ≡ d a = ap (λ b. if b then d a else pos 0) (eq-eqb y a same) in
      let rest = alone_none d y (a + 1) m (omega (arith, same)) in
      let own = ap d same in
      omega (arith, ints, first, rest, own)
  | inr other ↦
      let first : alone d y a ≡ pos 0 = ap (λ b. if b then d a else pos 0) (ne_eqb y a other) in
      omega (arith, ints, first, alone_sum d y (a + 1) m (omega (arith, low, other)) (omega (arith, high)))
]

split : (d : ℕ → ℤ) (y : ℕ) (ys : List ℕ) (x : ℕ) → AllByRecursion (λ z. y ≢ z) ys
    → (if has (y ∷ ys) x then d x else pos 0) ≡ alone d y x +ℤ (if has ys x then d x else pos 0)
split d y ys x h = elim (cases_Bool (y == x)) [
  | inl t ↦
      let none : has ys x ≡ false = absent y ys x (eqb-true y x t) h in
      rw t (rw none (omega (arith, ints)))
  | inr f ↦ rw f (omega (arith, ints))
]

abbrev pub Apart : List ℕ → Type 0
Apart [] = Unit {0}
Apart (x ∷ xs) = AllByRecursion (λ y. x ≢ y) xs × Apart xs

pub apart_from_pairs : (xs : List ℕ) → AllPairs (λ a b. a ≢ b) xs → Apart xs
apart_from_pairs [] h = tt
apart_from_pairs (x ∷ xs) h = (
  recursion_from_All (λ y. x ≢ y) xs (λ k d lt. h zero (suc k) d (omega arith) (omega arith)),
  apart_from_pairs xs (λ i j d below lt. h (suc i) (suc j) d (omega arith) (omega arith)),
)

zeros : (xs : List ℕ) → sum_int_by (λ (x : ℕ). pos 0) xs ≡ pos 0
zeros [] = refl
zeros (x ∷ xs) = omega (arith, ints, zeros xs)

pub held : (d : ℕ → ℤ) (n : ℕ) (ys : List ℕ) → Apart ys → AllByRecursion (IsNode n) ys
    → sum_int_by (λ x. if has ys x then d x else pos 0) (range_with_len 1 n) ≡ sum_int_by d ys
held d n [] apart nodes = zeros (range_with_len 1 n)
held d n (y ∷ ys) apart nodes =
    let same = all_same (λ x. if has (y ∷ ys) x then d x else pos 0) (λ x. alone d y x +ℤ (if has ys x then d x else pos 0))
    (range_with_len 1 n) (λ x. split d y ys x apart.0) in
    let both = sum_int_by-add (alone d y) (λ x. if has ys x then d x else pos 0) (range_with_len 1 n) in
    let own = alone_sum d y 1 n nodes.0.0 (omega (arith, nodes.0.1)) in
    let rest = held d n ys apart.1 nodes.1 in
    omega (arith, ints, same, both, own, rest)

pub nodes_of : (n depot : ℕ) (ys : List ℕ) → AllByRecursion (IsCustomer n depot) ys → AllByRecursion (IsNode n) ys
nodes_of n depot [] h = tt
nodes_of n depot (y ∷ ys) h = (h.0.0, nodes_of n depot ys h.1)

pub no_depot : (n depot : ℕ) (ys : List ℕ) → AllByRecursion (IsCustomer n depot) ys → has ys depot ≡ false
no_depot n depot [] h = refl
no_depot n depot (y ∷ ys) h = ap (λ b. b || has ys depot) (ne_eqb y depot h.0.1) ∙ no_depot n depot ys h.1

-- the customers as a cut
pub cut_of : (problem : RoutingProblem) (customers : List ℕ) (least need : ℕ)
    → All (IsCustomer problem.nodes problem.depot) customers → AllPairs (λ a b. a ≢ b) customers → customers ≢ []
    → IsLeastRoutes (sum_int_by problem.demand customers) problem.capacity least → need ≡ max (min least most_nodes) 1
    → IsCapacityCut problem (has customers) need
unfolding nodes_to
cut_of problem [] least need are once some is need_is = absurd (some refl)
cut_of problem (y ∷ ys) least need are once some is need_is =
    let customers = recursion_from_All (IsCustomer problem.nodes problem.depot) (y ∷ ys) are in
    let same = held problem.demand problem.nodes (y ∷ ys) (apart_from_pairs (y ∷ ys) once)
    (nodes_of problem.nodes problem.depot (y ∷ ys) customers) in
    record {
      inside = y;
      customer = customers.0;
      has_inside = or_left (y == y) (has ys y) (eq-eqb y y refl);
      lacks_depot = no_depot problem.nodes problem.depot (y ∷ ys) customers;
      least = least;
      least_is = subst (λ (z : ℤ). IsLeastRoutes z problem.capacity least) (sym same) is;
      need_is = need_is;
    }

-- ---- the least number of routes

pub least_is : (total capacity : ℕ) → 1 ≤ capacity
    → IsLeastRoutes (pos total) (pos capacity) ((total + (capacity - 1)) / capacity)
least_is total capacity some = record {
  enough =
      let above = lt-div-mul-add {a = total + (capacity - 1)} {b = capacity} some in
      let le : total ≤ (total + (capacity - 1)) / capacity * capacity = omega (arith, above, some) in
      omega (arith, ints, le);
  none_less = λ count carries. by_size count carries (cases_lt count ((total + (capacity - 1)) / capacity));
}
  where
    by_size : (count : ℕ) → pos total ≤ℤ (pos count *ℤ pos capacity) → (count < (total + (capacity - 1)) / capacity)
        ⊎ ((total + (capacity - 1)) / capacity ≤ count) → (total + (capacity - 1)) / capacity ≤ count
    by_size count carries (inr le) = le
    by_size count carries (inl lt) =
        let more : suc count * capacity ≤ (total + (capacity - 1)) / capacity * capacity = mul-le-mul_right capacity lt in
        let below = div-mul-le_self (total + (capacity - 1)) capacity in
        let nat : total ≤ count * capacity = omega (arith, ints, carries) in
        absurd (omega (arith, more, below, nat, some))

pub least_of : (total capacity : ℤ) → pos 0 ≤ℤ total → pos 1 ≤ℤ capacity
    → IsLeastRoutes total capacity ((nat_abs total + (nat_abs capacity - 1)) / nat_abs capacity)
least_of (pos total) (pos capacity) low some = least_is total capacity (omega (arith, ints, some))
least_of (pos total) (negsuc capacity) low some = absurd (omega (arith, ints, some))
least_of (negsuc total) capacity low some = absurd (omega (arith, ints, low))

-- ---- one demand further

pub record IsLoadOf (count : ℕ) (sum : ℤ) : Type 0 where
  pub low : pos 0 ≤ℤ sum
  pub high : sum ≤ℤ pos (most_demand * count)

pub load_more : (sum demand : ℤ) (count : ℕ) → IsLoadOf count sum → IsFromTo (pos 0) (pos most_demand) demand
    → IsLoadOf (count + 1) (sum +ℤ demand)
load_more sum demand count size more =
    record { low = omega (arith, ints, size.low, more.0); high = omega (arith, ints, size.high, more.1) }

pub load_fits : (sum demand : ℤ) (count : ℕ) → count ≤ most_nodes → IsLoadOf count sum → IsFromTo (pos 0) (pos most_demand) demand
    → to_z w64 (of_z w64 (sum +ℤ to_z w64 (of_z w64 demand))) ≡ sum +ℤ demand
load_fits sum demand count few size more = omega (arith, ints, size.low, size.high, more.0, more.1)

pub sum_step : (f : ℕ → ℤ) (so_far total : ℤ) (x : ℕ) (others rest : List ℕ) → others ≡ x ∷ rest
    → so_far +ℤ sum_int_by f others ≡ total → (so_far +ℤ f x) +ℤ sum_int_by f rest ≡ total
sum_step f so_far total x others rest parts e =
    +ℤ_assoc so_far (f x) (sum_int_by f rest) ∙ subst (λ (xs : List ℕ). so_far +ℤ sum_int_by f xs ≡ total) parts e

-- ---- all customers

others_apart : (depot : ℕ) (f : ℕ → ℤ) (x : ℕ) → of_others depot f x +ℤ alone f depot x ≡ f x
others_apart depot f x = elim (cases_eq x depot) [
  | inl same ↦ rw (eq-eqb x depot same) (rw (eq-eqb depot x (sym same)) (omega (arith, ints)))
  | inr other ↦ rw (ne_eqb x depot other) (rw (ne_eqb depot x (λ is. other (sym is))) (omega (arith, ints)))
]

pub others_sum : (n depot : ℕ) (f : ℕ → ℤ) → IsNode n depot
    → sum_int_by (of_others depot f) (nodes_to n) ≡ sum_of_customers n depot f
unfolding nodes_to
others_sum n depot f depot_in =
    let same = all_same (λ x. of_others depot f x +ℤ alone f depot x) f (range_with_len 1 n) (others_apart depot f) in
    let both = sum_int_by-add (of_others depot f) (alone f depot) (range_with_len 1 n) in
    let own = alone_sum f depot 1 n depot_in.0 (omega (arith, depot_in.1)) in
    omega (arith, ints, same, both, own)

pub nodes_more : (f : ℕ → ℤ) (last : ℕ) → sum_int_by f (nodes_to (last + 1)) ≡ sum_int_by f (nodes_to last) +ℤ f (last + 1)
unfolding nodes_to
nodes_more f last =
    let here : f (1 + last) ≡ f (last + 1) = ap f (omega arith) in
    ap (λ k. sum_int_by f (range_with_len 1 k)) (add-one last) ∙ run_more f 1 last ∙ ap (λ z. sum_int_by f (range_with_len 1 last) +ℤ z) here

pub nodes_none : (f : ℕ → ℤ) → pos 0 ≡ sum_int_by f (nodes_to 0)
unfolding nodes_to
nodes_none f = refl

-- ---- the load of one node in units: whether it demands less than a unit

module _ (problem : RoutingProblem) (unit node : ℕ) where
  pub light_depot : node ≡ problem.depot → pos 0 ≡ light_in problem unit node
  light_depot same = sym (ap (λ b. if b then pos 0 else is_light problem unit node) (eq-eqb node problem.depot same))

  other : node ≢ problem.depot → light_in problem unit node ≡ is_light problem unit node
  other differs = ap (λ b. if b then pos 0 else is_light problem unit node) (ne_eqb node problem.depot differs)

  pub light_some : node ≢ problem.depot → 1 ≤ units_of problem unit node → pos 0 ≡ light_in problem unit node
  light_some differs some = sym (other differs
      ∙ ap (λ b. if b then pos 1 else pos 0) (ne_eqb (units_of problem unit node) 0 (λ is. omega (arith, some, is))))

  pub light_none : node ≢ problem.depot → units_of problem unit node ≡ 0 → pos 1 ≡ light_in problem unit node
  light_none differs is = sym (other differs ∙ ap (λ b. if b then pos 1 else pos 0) (eq-eqb (units_of problem unit node) 0 is))

  pub load_is : (units parts light : ℕ) → units ≡ units_of problem unit node → light + 1 ≡ parts
      → (if units == 0 then 1 else (units * parts)) ≡ load_in problem unit light node
  load_is units parts light same is = ap₂ (λ (u p : ℕ). if u == 0 then 1 else (u * p)) same (sym is)

-- ---- the loads of a route are within the capacity in units

pub loads_are_some : LoadsAreSome
loads_are_some problem unit none node =
    elim (cases_Bool (units_of problem unit node == 0)) [
      | inl t ↦ rw t (omega arith)
      | inr f ↦
          let some = some_left (units_of problem unit node) f in
          let more : 1 * (none + 1) ≤ units_of problem unit node * (none + 1) = mul-le-mul_right (none + 1) some in
          rw f (omega (arith, more))
    ]

small_low : (problem : RoutingProblem) (unit node : ℕ) → pos 0 ≤ℤ is_light problem unit node
small_low problem unit node = elim (cases_Bool (units_of problem unit node == 0)) [
  | inl t ↦ rw t (omega (arith, ints))
  | inr f ↦ rw f (omega (arith, ints))
]

-- whole units and small customers of some nodes, and what these make
record Rough (problem : RoutingProblem) (unit none : ℕ) (nodes : List ℕ) : Type 0 where
  whole : ℕ
  small : ℕ
  small_is : pos small ≡ sum_int_by (is_light problem unit) nodes
  below : pos (whole * unit) ≤ℤ sum_int_by problem.demand nodes
  loads_are : sum_int_by (λ node. pos (load_in problem unit none node)) nodes ≡ pos (whole * (none + 1) + small)

from_nat : (z : ℤ) → pos 0 ≤ℤ z → pos (nat_abs z) ≡ z
from_nat (pos n) low = refl
from_nat (negsuc n) low = absurd (omega (arith, ints, low))

rough : (problem : RoutingProblem) (unit none : ℕ) (nodes : List ℕ) → AllByRecursion (λ x. pos 0 ≤ℤ problem.demand x) nodes
    → Rough problem unit none nodes
rough problem unit none [] low = record {
  whole = 0;
  small = 0;
  small_is = refl;
  below = omega (arith, ints);
  loads_are = omega (arith, ints);
}
rough problem unit none (x ∷ nodes) low =
    let rest = rough problem unit none nodes low.1 in
    let own = units_of problem unit x in
    let rounded : own * unit ≤ nat_abs (problem.demand x) = div-mul-le_self (nat_abs (problem.demand x)) unit in
    let demand_is = from_nat (problem.demand x) low.0 in
    let products = add-mul own rest.whole unit in
    let parts = add-mul own rest.whole (none + 1) in
    elim (cases_Bool (own == 0)) [
      | inl t ↦
          let nothing : own ≡ 0 = eqb-true own 0 t in
          let one : is_light problem unit x ≡ pos 1 = ap (λ b. if b then pos 1 else pos 0) t in
          let load : load_in problem unit none x ≡ 1 = ap (λ b. if b then 1 else (own * (none + 1))) t in
          let before = rest.small_is in
          let so_far = rest.below in
          let all = rest.loads_are in
          record {
            whole = rest.whole;
            small = suc rest.small;
            small_is = omega (arith, ints, before, one);
            below = omega (arith, ints, so_far, low.0);
            loads_are = omega (arith, ints, all, load);
          }
      | inr f ↦
          let none_small : is_light problem unit x ≡ pos 0 = ap (λ b. if b then pos 1 else pos 0) f in
          let load : load_in problem unit none x ≡ own * (none + 1) = ap (λ b. if b then 1 else (own * (none + 1))) f in
          let before = rest.small_is in
          let so_far = rest.below in
          let all = rest.loads_are in
          record {
            whole = own + rest.whole;
            small = rest.small;
            small_is = omega (arith, ints, before, none_small);
            below = omega (arith, ints, so_far, rounded, demand_is, products);
            loads_are = omega (arith, ints, all, load, parts);
          }
    ]

sum_low : (f : ℕ → ℤ) → ((x : ℕ) → pos 0 ≤ℤ f x) → (nodes : List ℕ) → pos 0 ≤ℤ sum_int_by f nodes
sum_low f low [] = omega (arith, ints)
sum_low f low (x ∷ nodes) = omega (arith, ints, low x, sum_low f low nodes)

-- whole units that fit are at most those of the capacity
fit : (whole unit room : ℕ) → 1 ≤ unit → whole * unit ≤ room → whole ≤ room / unit
fit whole unit room some le = elim (cases_lt (room / unit) whole) [
  | inl lt ↦
      let above = lt-div-mul-add {a = room} {b = unit} some in
      let more : suc (room / unit) * unit ≤ whole * unit = mul-le-mul_right unit lt in
      absurd (omega (arith, above, more, le))
  | inr high ↦ high
]

to_nat : (k : ℕ) (z : ℤ) → pos k ≤ℤ z → k ≤ nat_abs z
to_nat k (pos n) le = omega (arith, ints, le)
to_nat k (negsuc n) le = absurd (omega (arith, ints, le))

have_room : (problem : RoutingProblem) (unit none : ℕ) (routes : List (List ℕ)) → 1 ≤ unit
    → AllByRecursion (λ x. pos 0 ≤ℤ problem.demand x) (concat routes)
    → AllByRecursion (λ route. sum_int_by problem.demand route ≤ℤ problem.capacity) routes
    → sum_int_by (is_light problem unit) (concat routes) ≤ℤ pos none
    → AllByRecursion (λ route. sum_int_by (λ node. pos (load_in problem unit none node)) route ≤ℤ pos (capacity_in_parts problem unit none)) routes
have_room problem unit none [] some low within few = tt
have_room problem unit none (route ∷ routes) some low within few =
    let lows = parts_all (λ x. pos 0 ≤ℤ problem.demand x) route (concat routes) low in
    let own = rough problem unit none route lows.0 in
    let both = sum_append (is_light problem unit) route (concat routes) in
    let first = sum_low (is_light problem unit) (small_low problem unit) route in
    let others = sum_low (is_light problem unit) (small_low problem unit) (concat routes) in
    let fits : own.whole * unit ≤ nat_abs problem.capacity =
    to_nat (own.whole * unit) problem.capacity (let below = own.below in omega (arith, ints, below, within.0)) in
    let whole = fit own.whole unit (nat_abs problem.capacity) some fits in
    let times : own.whole * (none + 1) ≤ nat_abs problem.capacity / unit * (none + 1) = mul-le-mul_right (none + 1) whole in
    let loads = own.loads_are in
    let small = own.small_is in (
      omega (arith, ints, loads, times, small, both, others, few),
      have_room problem unit none routes some lows.1 within.1 (omega (arith, ints, both, first, few)),
    )

pub routes_fit_capacity : RoutesFitCapacity
routes_fit_capacity problem unit none routes routing units plan =
    let all = sum_of_plan problem routes (is_light problem unit) routing plan in
    let light_is = units.light_is in
    All-from_recursion
    (λ route. sum_int_by (λ node. pos (load_in problem unit none node)) route ≤ℤ pos (capacity_in_parts problem unit none)) routes
    (have_room problem unit none routes units.some (demands_low problem routes routing plan)
    (recursion_from_All (λ route. sum_int_by problem.demand route ≤ℤ problem.capacity) routes plan.within)
    (omega (arith, ints, all, light_is)))

-- ---- each route of a plan is a walk

begins_other : (x : ℕ) (xs : List ℕ) → AllByRecursion (λ y. x ≢ y) xs → BeginsOther x xs
begins_other x [] h = tt
begins_other x (y ∷ xs) h = h.0

straight_from : (x : ℕ) (xs : List ℕ) → AllByRecursion (λ y. x ≢ y) xs → IsStraightFrom x xs
straight_from x [] h = tt
straight_from x (y ∷ xs) h = (h.0, begins_other x xs h.1)

straight : (xs : List ℕ) → Apart xs → IsStraight xs
straight [] h = tt
straight (x ∷ xs) h = (straight_from x xs h.0, straight xs h.1)

pub apart_parts : (xs ys : List ℕ) → Apart (xs ++ ys) → Apart xs × Apart ys
apart_parts [] ys h = (tt, h)
apart_parts (x ∷ xs) ys h =
    let rest = apart_parts xs ys h.1 in
    (((parts_all (λ y. x ≢ y) xs ys h.0).0, rest.0), rest.1)

q_routes : (problem : RoutingProblem) (unit none : ℕ) (routes : List (List ℕ))
    → AllByRecursion (IsCustomer problem.nodes problem.depot) (concat routes) → Apart (concat routes)
    → AllByRecursion (λ route. route ≢ []) routes
    → AllByRecursion (λ route. sum_int_by (λ node. pos (load_in problem unit none node)) route ≤ℤ pos (capacity_in_parts problem unit none)) routes
    → AllByRecursion
    (IsQRoute problem.nodes problem.depot (load_in problem unit none) (capacity_in_parts problem unit none)) routes
q_routes problem unit none [] customers apart each within = tt
q_routes problem unit none (route ∷ routes) customers apart each within =
    let own = parts_all (IsCustomer problem.nodes problem.depot) route (concat routes) customers in
    let aparts = apart_parts route (concat routes) apart in (
      record {
        some = each.0;
        customers = All-from_recursion (IsCustomer problem.nodes problem.depot) route own.0;
        within = within.0;
        straight = straight route aparts.0;
      },
      q_routes problem unit none routes own.1 aparts.1 each.1 within.1,
    )

pub routes_are_q_routes : RoutesAreQRoutes
routes_are_q_routes problem unit none routes routing units filled =
    All-from_recursion (IsQRoute problem.nodes problem.depot (load_in problem unit none) (capacity_in_parts problem unit none)) routes
    (q_routes problem unit none routes
    (recursion_from_All (IsCustomer problem.nodes problem.depot) (concat routes) filled.plan.customers)
    (apart_from_pairs (concat routes) filled.plan.once)
    (recursion_from_All (λ route. route ≢ []) routes filled.each)
    (recursion_from_All
    (λ route. sum_int_by (λ node. pos (load_in problem unit none node)) route ≤ℤ pos (capacity_in_parts problem unit none)) routes
    (routes_fit_capacity problem unit none routes routing units filled.plan)))
