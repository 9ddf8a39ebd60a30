-- For the laws on bounds by runs: a route of a plan is a run, because a run remembers only customers that it had before;
-- a row is charged at most half as often as its set has customers; and so the bounds of leaves and trees are at most the
-- length of every filled plan.
use Rattle.std.proofs.Math.Logic.{∥∥₁_elim}
use Rattle.std.proofs.Props.{props}
use Rattle.tsp_format.specs.Steps.{SubsetRow}
use Rattle.tsp_routing.proofs.CutNeeds.{Apart, apart_from_pairs, apart_parts, routes_fit_capacity}
use Rattle.tsp_cases.specs.Cases.{BoundsKept}
use Rattle.tsp_cases.proofs.Solutions.{least_found_bounds}
use Rattle.tsp_routing.proofs.QRoutesBoundPlans.{sets_of_plan, keeps_either, every_plan}
use Rattle.tsp_routing.proofs.Plans.{all_same, times_more, parts_all, lengths_are_weights, plans_have_few_routes, split_surplus, between_weight, times_less}
use Rattle.tsp_routing.proofs.Prelude.{get_or, ◌≡◌, ◌≢◌, ℕ, zero, suc, ◌+◌, ◌*◌, ◌≤◌, ◌==◌, ◌&&◌, ◌||◌, Bool, true, false, not, List, [], ◌∷◌, ◌++◌, length, refl, sym, ap, ap₂, arith, inl, inr, if◌then◌else◌, ℤ, pos, ◌+ℤ◌, ◌*ℤ◌, ◌≤ℤ◌, AllByRecursion, concat, ints, cases_eq, ne_eqb, eq-eqb, recursion_from_All, suc_ℤ-*ℤ, zero-*ℤ, links_to, sum_int_by, plan_length, weight_of, sum_int_by-add, sum_int_by-le, has, All-from_recursion, IsCustomer, ◌-◌, entry, weight_between, difference, multiplied, crossings_of, All, Option, Some, None, LeafNumbers, Decision, leaves_of}
use Rattle.tsp_routing.proofs.QRouteRests.{loads_low}
use Rattle.tsp_routing.specs.PlanBounds.{surplus}
use Rattle.tsp_routing.specs.PlanLinks.{load_in, capacity_in_parts, plan_links, IsCutFamily, set_at, KeepsLimit, plans}
use Rattle.tsp_routing.specs.RunBounds.{IsLeastRun, leaf_rules, RunBoundsBoundPlans, RunBoundsAreUnique}
use Rattle.tsp_routing.specs.RunTrees.{family_numbers, near_of, rows_of_leaf, IsFoundByRuns, RunTreesBoundPlans}
use Rattle.tsp_routing.specs.Runs.{keeps, RunRules, RunState, first_state, next_state, is_charged, rest_weight, run_weight, charges_from, charges, plan_charges, count_in, half, RunsWeighLinksAndCharges, RowsAreChargedForTwo, PlansAreChargedHalf, PlansWeighAtMost, IsRunRest, IsRunUnder, ApartCustomersAreRuns, RoutesAreRuns}

-- ---- weights

paid : (b : Bool) (g : ℤ) (k : ℕ) → (if b then g else pos 0) +ℤ (pos k *ℤ g) ≡ pos ((if b then 1 else 0) + k) *ℤ g
paid true g k =
    let more = suc_ℤ-*ℤ (pos k) g in
    let same : pos (1 + k) *ℤ g ≡ pos (suc k) *ℤ g = ap (λ (n : ℕ). pos n *ℤ g) (omega arith) in
    omega (arith, ints, more, same)
paid false g k = let same : pos (0 + k) *ℤ g ≡ pos k *ℤ g = ap (λ (n : ℕ). pos n *ℤ g) (omega arith) in omega (arith, ints, same)

rest_weighs : (rules : RunRules) (state : RunState) (rest : List ℕ)
    → rest_weight rules state rest
    ≡ weight_of rules.weight (links_to rules.depot state.last rest)
    +ℤ sum_int_by (λ (priced : SubsetRow × ℤ). pos (charges_from rules priced.0 state rest) *ℤ priced.1) rules.rows
rest_weighs rules state [] =
    let none = no_charges rules.rows in omega (arith, ints, none)
  where
    no_charges : (rows : List (SubsetRow × ℤ)) → sum_int_by (λ (priced : SubsetRow × ℤ). pos 0 *ℤ priced.1) rows ≡ pos 0
    no_charges [] = refl
    no_charges (row ∷ rows) = let none = zero-*ℤ row.1 in omega (arith, ints, none, no_charges rows)
rest_weighs rules state (next ∷ rest) =
    let later = rest_weighs rules (next_state rules state next) rest in
    let both = sum_int_by-add (λ (priced : SubsetRow × ℤ). if is_charged priced.0 state next then priced.1 else pos 0)
    (λ (priced : SubsetRow × ℤ). pos (charges_from rules priced.0 (next_state rules state next) rest) *ℤ priced.1) rules.rows in
    let same = all_same
    (λ (priced : SubsetRow × ℤ). (if is_charged priced.0 state next then priced.1 else pos 0)
    +ℤ (pos (charges_from rules priced.0 (next_state rules state next) rest) *ℤ priced.1))
    (λ (priced : SubsetRow × ℤ). pos (charges_from rules priced.0 state (next ∷ rest)) *ℤ priced.1) rules.rows
    (λ priced. paid (is_charged priced.0 state next) priced.1 (charges_from rules priced.0 (next_state rules state next) rest)) in
    omega (arith, ints, later, both, same)

pub runs_weigh_links_and_charges : RunsWeighLinksAndCharges
runs_weigh_links_and_charges rules [] some = absurd (some refl)
runs_weigh_links_and_charges rules (first ∷ rest) some =
    let later = rest_weighs rules (first_state rules first) rest in omega (arith, ints, later)

-- ---- one run

abbrev bit : Bool → ℕ
bit b = if b then 1 else 0

-- a charge takes an odd parity, and leaves an even one; without a charge the parity is odd at most if the set has
-- the customer, or if it was odd before
parity : (odd within kept : Bool) → 2 * bit (odd && within) + bit (kept && (if within then not odd else odd)) ≤ bit odd + bit within
parity true true true = omega arith
parity true true false = omega arith
parity true false true = omega arith
parity true false false = omega arith
parity false true true = omega arith
parity false true false = omega arith
parity false false true = omega arith
parity false false false = omega arith

twice_from : (rules : RunRules) (row : SubsetRow) (state : RunState) (rest : List ℕ)
    → 2 * charges_from rules row state rest ≤ bit (state.odd row) + count_in row.set rest
twice_from rules row state [] = omega arith
twice_from rules row state (next ∷ rest) =
    let step = parity (state.odd row) (has row.set next) (keeps row next) in
    let later = twice_from rules row (next_state rules state next) rest in
    omega (arith, step, later)

pub twice : (rules : RunRules) (row : SubsetRow) (nodes : List ℕ) → 2 * charges rules row nodes ≤ count_in row.set nodes
twice rules row [] = omega arith
twice rules row (first ∷ rest) = let later = twice_from rules row (first_state rules first) rest in omega (arith, later)

pub rows_are_charged_for_two : RowsAreChargedForTwo
rows_are_charged_for_two rules row nodes = let own = twice rules row nodes in omega (arith, own)

-- ---- a plan

counts_add : (set xs ys : List ℕ) → count_in set (xs ++ ys) ≡ count_in set xs + count_in set ys
counts_add set [] ys = omega arith
counts_add set (x ∷ xs) ys = let rest = counts_add set xs ys in omega (arith, rest)

twice_all : (rules : RunRules) (row : SubsetRow) (routes : List (List ℕ))
    → 2 * plan_charges rules row routes ≤ count_in row.set (concat routes)
twice_all rules row [] = omega arith
twice_all rules row (route ∷ routes) =
    let own = twice rules row route in
    let rest = twice_all rules row routes in
    let both = counts_add row.set route (concat routes) in
    omega (arith, own, rest, both)

-- how many of these are that one
abbrev count_one : ℕ → List ℕ → ℕ
count_one y [] = 0
count_one y (x ∷ xs) = bit (y == x) + count_one y xs

none_more : (y : ℕ) (xs : List ℕ) → AllByRecursion (λ x. y ≢ x) xs → count_one y xs ≡ 0
none_more y [] h = refl
none_more y (x ∷ xs) h =
    let first : bit (y == x) ≡ 0 = ap bit (ne_eqb y x h.0) in
    let rest = none_more y xs h.1 in
    omega (arith, first, rest)

at_most_one : (y : ℕ) (xs : List ℕ) → Apart xs → count_one y xs ≤ 1
at_most_one y [] h = omega arith
at_most_one y (x ∷ xs) h = elim (cases_eq y x) [
  | inl same ↦
      let first : bit (y == x) ≡ 1 = ap bit (eq-eqb y x same) in
      let rest : count_one x xs ≡ 0 = none_more x xs h.0 in
      let moved : count_one y xs ≡ count_one x xs = ap (λ (z : ℕ). count_one z xs) same in
      omega (arith, first, rest, moved)
  | inr other ↦
      let first : bit (y == x) ≡ 0 = ap bit (ne_eqb y x other) in
      let rest = at_most_one y xs h.1 in
      omega (arith, first, rest)
]

either : (a b : Bool) → bit (a || b) ≤ bit a + bit b
either true true = omega arith
either true false = omega arith
either false true = omega arith
either false false = omega arith

split_count : (y : ℕ) (ys xs : List ℕ) → count_in (y ∷ ys) xs ≤ count_one y xs + count_in ys xs
split_count y ys [] = omega arith
split_count y ys (x ∷ xs) =
    let own = either (y == x) (has ys x) in
    let rest = split_count y ys xs in
    omega (arith, own, rest)

-- different customers are no more than their set
no_more : (set xs : List ℕ) → Apart xs → count_in set xs ≤ length set
no_more [] xs apart = none xs
  where
    none : (zs : List ℕ) → count_in [] zs ≤ 0
    none [] = omega arith
    none (z ∷ zs) = omega (arith, none zs)
no_more (y ∷ set) xs apart =
    let split = split_count y set xs in
    let one = at_most_one y xs apart in
    let rest = no_more set xs apart in
    omega (arith, split, one, rest)

pub plans_are_charged_half : PlansAreChargedHalf
plans_are_charged_half rules row problem routes plan =
    let all = twice_all rules row routes in
    let most = no_more row.set (concat routes) (apart_from_pairs (concat routes) plan.once) in
    omega (arith, all, most)

-- ---- the weight of a plan

plan_weighs : (rules : RunRules) (routes : List (List ℕ)) → AllByRecursion (λ route. route ≢ []) routes
    → sum_int_by (run_weight rules) routes
    ≡ plan_length rules.weight rules.depot routes
    +ℤ sum_int_by (λ (priced : SubsetRow × ℤ). pos (plan_charges rules priced.0 routes) *ℤ priced.1) rules.rows
plan_weighs rules [] some = let none = no_charges rules.rows in omega (arith, ints, none)
  where
    no_charges : (rows : List (SubsetRow × ℤ)) → sum_int_by (λ (priced : SubsetRow × ℤ). pos 0 *ℤ priced.1) rows ≡ pos 0
    no_charges [] = refl
    no_charges (row ∷ rows) = let none = zero-*ℤ row.1 in omega (arith, ints, none, no_charges rows)
plan_weighs rules (route ∷ routes) some =
    let own = runs_weigh_links_and_charges rules route some.0 in
    let rest = plan_weighs rules routes some.1 in
    let both = sum_int_by-add (λ (priced : SubsetRow × ℤ). pos (charges rules priced.0 route) *ℤ priced.1)
    (λ (priced : SubsetRow × ℤ). pos (plan_charges rules priced.0 routes) *ℤ priced.1) rules.rows in
    let same = all_same
    (λ (priced : SubsetRow × ℤ). (pos (charges rules priced.0 route) *ℤ priced.1) +ℤ (pos (plan_charges rules priced.0 routes) *ℤ priced.1))
    (λ (priced : SubsetRow × ℤ). pos (plan_charges rules priced.0 (route ∷ routes)) *ℤ priced.1) rules.rows
    (λ priced. spread (charges rules priced.0 route) (plan_charges rules priced.0 routes) priced.1) in
    omega (arith, ints, own, rest, both, same)
  where
    spread : (a b : ℕ) (g : ℤ) → (pos a *ℤ g) +ℤ (pos b *ℤ g) ≡ pos (a + b) *ℤ g
    spread zero b g =
        let none = zero-*ℤ g in
        let same : pos (0 + b) *ℤ g ≡ pos b *ℤ g = ap (λ (n : ℕ). pos n *ℤ g) (omega arith) in
        omega (arith, ints, none, same)
    spread (suc a) b g =
        let rest = spread a b g in
        let own = suc_ℤ-*ℤ (pos a) g in
        let more = suc_ℤ-*ℤ (pos (a + b)) g in
        let same : pos (suc a + b) *ℤ g ≡ pos (suc (a + b)) *ℤ g = ap (λ (n : ℕ). pos n *ℤ g) (omega arith) in
        omega (arith, ints, rest, own, more, same)

pub plans_weigh_at_most : PlansWeighAtMost
plans_weigh_at_most rules problem routes signs filled =
    let whole = plan_weighs rules routes (recursion_from_All (λ route. route ≢ []) routes filled.each) in
    let most = sum_int_by-le (λ (priced : SubsetRow × ℤ). pos (plan_charges rules priced.0 routes) *ℤ priced.1)
    (λ (priced : SubsetRow × ℤ). pos (half priced.0) *ℤ priced.1) rules.rows
    (each rules.rows (recursion_from_All (λ priced. pos 0 ≤ℤ priced.1) rules.rows signs)) in
    omega (arith, ints, whole, most)
  where
    each : (rows : List (SubsetRow × ℤ)) → AllByRecursion (λ (priced : SubsetRow × ℤ). pos 0 ≤ℤ priced.1) rows
        → AllByRecursion (λ (priced : SubsetRow × ℤ). (pos (plan_charges rules priced.0 routes) *ℤ priced.1)
        ≤ℤ (pos (half priced.0) *ℤ priced.1)) rows
    each [] low = tt
    each (row ∷ rows) low = (
      times_more (plan_charges rules row.0 routes) (half row.0) row.1 (plans_are_charged_half rules row.0 problem routes filled.plan) low.0,
      each rows low.1,
    )

-- ---- a route of a plan is a run

-- what has to hold of the customers to come, so that a run may go on through them
record AreNew (rules : RunRules) (state : RunState) (rest : List ℕ) : Type 0 where
  customers : AllByRecursion (IsCustomer rules.nodes rules.depot) rest
  others : AllByRecursion (λ next. state.last ≢ next) rest
  unseen : AllByRecursion (λ next. state.seen next ≡ false) rest
  apart : Apart rest

unseen_later : (last : ℕ) (seen near : ℕ → Bool) (rest : List ℕ) → AllByRecursion (λ next. seen next ≡ false) rest
    → AllByRecursion (λ next. last ≢ next) rest
    → AllByRecursion (λ customer. ((seen customer || (customer == last)) && near customer) ≡ false) rest
unseen_later last seen near [] unseen others = tt
unseen_later last seen near (next ∷ rest) unseen others = (
  ap₂ (λ a b. (a || b) && near next) unseen.0 (ne_eqb next last (λ same. others.0 (sym same))),
  unseen_later last seen near rest unseen.1 others.1,
)

goes_on : (rules : RunRules) (state : RunState) (rest : List ℕ) → AreNew rules state rest
    → (sum_int_by (λ node. pos (rules.load node)) rest +ℤ pos state.load) ≤ℤ pos rules.room → IsRunRest rules state rest
goes_on rules state [] new within = tt
goes_on rules state (next ∷ rest) new within =
    let low = loads_low rules.load rest in (
      record {
        customer = new.customers.0;
        other = new.others.0;
        unseen = new.unseen.0;
        within = omega (arith, ints, within, low);
      },
      goes_on rules (next_state rules state next) rest (record {
        customers = new.customers.1;
        others = new.apart.0;
        unseen = unseen_later state.last state.seen (has (rules.near next)) rest new.unseen.1 new.others.1;
        apart = new.apart.1;
      }) (omega (arith, ints, within)),
    )

none_seen : (rest : List ℕ) → AllByRecursion (λ (next : ℕ). false ≡ false) rest
none_seen [] = tt
none_seen (x ∷ xs) = (refl, none_seen xs)

runs : (rules : RunRules) (nodes : List ℕ) → nodes ≢ [] → AllByRecursion (IsCustomer rules.nodes rules.depot) nodes → Apart nodes
    → sum_int_by (λ node. pos (rules.load node)) nodes ≤ℤ pos rules.room → IsRunUnder rules nodes
runs rules [] some customers apart within = absurd (some refl)
runs rules (first ∷ rest) some customers apart within =
    let low = loads_low rules.load rest in (
      customers.0,
      omega (arith, ints, within, low),
      goes_on rules (first_state rules first) rest (record {
        customers = customers.1;
        others = apart.0;
        unseen = none_seen rest;
        apart = apart.1;
      }) (omega (arith, ints, within)),
    )

pub apart_customers_are_runs : ApartCustomersAreRuns
apart_customers_are_runs rules nodes some customers once within =
    runs rules nodes some (recursion_from_All (IsCustomer rules.nodes rules.depot) nodes customers) (apart_from_pairs nodes once) within

each_is : (rules : RunRules) (routes : List (List ℕ)) → AllByRecursion (IsCustomer rules.nodes rules.depot) (concat routes)
    → Apart (concat routes) → AllByRecursion (λ route. route ≢ []) routes
    → AllByRecursion (λ route. sum_int_by (λ node. pos (rules.load node)) route ≤ℤ pos rules.room) routes
    → AllByRecursion (IsRunUnder rules) routes
each_is rules [] customers apart some within = tt
each_is rules (route ∷ routes) customers apart some within =
    let own = parts_all (IsCustomer rules.nodes rules.depot) route (concat routes) customers in
    let aparts = apart_parts route (concat routes) apart in
    (runs rules route some.0 own.0 aparts.0 within.0, each_is rules routes own.1 aparts.1 some.1 within.1)

pub routes_are_runs : RoutesAreRuns
routes_are_runs problem unit light weight near rows routes routing units filled =
    let rules : RunRules = record {
      nodes = problem.nodes;
      depot = problem.depot;
      load = load_in problem unit light;
      room = capacity_in_parts problem unit light;
      weight = weight;
      near = near;
      rows = rows;
    } in
    All-from_recursion (IsRunUnder rules) routes (each_is rules routes
    (recursion_from_All (IsCustomer problem.nodes problem.depot) (concat routes) filled.plan.customers)
    (apart_from_pairs (concat routes) filled.plan.once)
    (recursion_from_All (λ route. route ≢ []) routes filled.each)
    (recursion_from_All (λ route. sum_int_by (λ node. pos (load_in problem unit light node)) route ≤ℤ pos (capacity_in_parts problem unit light))
    routes (routes_fit_capacity problem unit light routes routing units filled.plan)))

-- ---- the bound of a leaf

weighs : (rules : RunRules) (limit each : ℤ) (routes : List (List ℕ)) → IsLeastRun rules limit each
    → AllByRecursion (IsRunUnder rules) routes → (pos (length routes) *ℤ each) ≤ℤ sum_int_by (run_weight rules) routes
weighs rules limit each [] least are = let none = zero-*ℤ each in omega (arith, ints, none)
weighs rules limit each (route ∷ routes) least are =
    let own = least.below route are.0 in
    let rest = weighs rules limit each routes least are.1 in
    let times = suc_ℤ-*ℤ (pos (length routes)) each in
    omega (arith, ints, own, rest, times)

pub run_bounds_bound_plans : RunBoundsBoundPlans
run_bounds_bound_plans problem scale unit light families case numbers near rows bound routes routing scale_in units cuts signs is filled keeps =
    let rules = leaf_rules problem scale unit light families numbers near rows in
    let pairs = plan_links problem.depot routes in
    let own = entry numbers.potentials problem.depot in
    let runs = recursion_from_All (IsRunUnder rules) routes
    (routes_are_runs problem unit light rules.weight near rows routes routing units filled) in
    let each = weighs rules (pos 2 *ℤ own) is.each routes is.least runs in
    let most = plans_weigh_at_most rules problem routes signs filled in
    let all = lengths_are_weights rules.weight problem.depot routes in
    let split = difference (λ (link : ℕ × ℕ). weight_between scale numbers.potentials problem.cost link.0 link.1)
    (λ (link : ℕ × ℕ). crossings_of (multiplied families numbers.multipliers) link.0 link.1) pairs in
    let between = between_weight problem scale numbers.potentials routes routing scale_in filled.plan in
    let crossed = sets_of_plan problem families case routes (problem.nodes + 1) families numbers.multipliers routing filled.plan
    (recursion_from_All (KeepsLimit problem.nodes families problem.depot routes) case keeps)
    (recursion_from_All (IsCutFamily problem) families cuts) (λ k x. ap (λ j. set_at families j x) (omega arith)) in
    let counts = plans_have_few_routes problem routes routing filled in
    let few = times_less (length routes) (problem.nodes - 1) (surplus problem numbers.potentials is.each) counts.1
    (let within = is.least.within in omega (arith, ints, within)) in
    let parts = split_surplus (length routes) is.each own in
    let length_is = lengths_are_weights problem.cost problem.depot routes in
    is.bound_is.least (plan_length problem.cost problem.depot routes)
    (let whole = ap (λ z. scale *ℤ z) length_is in
    omega (arith, ints, each, most, all, split, between, crossed, few, parts, whole))

one_least_run : (rules : RunRules) (limit a b : ℤ) → IsLeastRun rules limit a → IsLeastRun rules limit b → a ≡ b
one_least_run rules limit a b p q =
    let first = at_most a b p q in
    let second = at_most b a q p in
    omega (arith, ints, first, second)
  where
    at_most : (x y : ℤ) → IsLeastRun rules limit x → IsLeastRun rules limit y → x ≤ℤ y
    at_most x y s t = elim t.met [
      | inl is ↦ let within = s.within in omega (arith, ints, within, is)
      | inr found ↦ let below = s.below found.0 found.1 in let is = found.2 in omega (arith, ints, below, is)
    ]

pub run_bounds_are_unique : RunBoundsAreUnique
run_bounds_are_unique problem scale unit light families case numbers near rows a b p q =
    let own = one_least_run (leaf_rules problem scale unit light families numbers near rows)
    (pos 2 *ℤ entry numbers.potentials problem.depot) p.each q.each p.least q.least in
    let same = ap (λ (e : ℤ). pos (problem.nodes - 1) *ℤ surplus problem numbers.potentials e) own in
    let first = p.bound_is.least b (let above = q.bound_is.above in omega (arith, ints, above, same)) in
    let second = q.bound_is.least a (let above = p.bound_is.above in omega (arith, ints, above, same)) in
    omega (arith, ints, first, second)

-- ---- the bound of a tree

pub run_trees_bound_plans : RunTreesBoundPlans
run_trees_bound_plans tree steps found routing scale_in units cuts whole is =
    every_plan tree.problem tree.families found
    (least_found_bounds (List (List ℕ)) (plans tree.problem tree.families) (keeps_either tree.problem tree.families)
    (IsFoundByRuns tree) [] steps found whole
    (λ k d lt own has. at_leaf (get_or (leaves_of ([] ∷ []) steps) k d) own has) is)
  where
    at_leaf : (leaf : List Decision × LeafNumbers) (own : Option ℤ) → IsFoundByRuns tree leaf own
        → BoundsKept (plans tree.problem tree.families) leaf.0 own
    at_leaf leaf (Some bound) has = λ routes filled keeps. ∥∥₁_elim has.1 (hlevel props) (λ is.
        run_bounds_bound_plans tree.problem tree.scale tree.unit tree.light tree.families leaf.0
        (family_numbers tree.family_count leaf.1) (near_of tree.lists)
        (rows_of_leaf tree.family_count tree.rows leaf.1) bound routes routing scale_in units cuts has.0 is filled keeps)
    at_leaf leaf None never = absurd never
