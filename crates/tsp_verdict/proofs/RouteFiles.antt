-- For src/routes.rt, and partly src/tour.rt and src/certificate.rt: routes as they stand in a file, with places, lengths,
-- loads, and the least number of routes; and lists of a file that are lent to the code.
use Rattle.tsp_verdict.proofs.Prelude.{◌≡◌, ℕ, zero, suc, ◌+◌, ◌-◌, ◌<◌, ◌≤◌, List, [], ◌∷◌, ◌++◌, length, get_or, take, refl, sym, ap, subst, ◌∙◌, inl, inr, arith, length-append, ◌≢◌, true, false, Option, None, Some, eqb, drop, to_z, of_z, drop-cons, add-one, ◌*◌, cases_lt, false≢true, ints, get_or_default, length-map, get_or_past, All-weaker, All-from_recursion, recursion_from_All, Vec, w64, All, concat, AllByRecursion, sum_by, Contains, range_with_len, remove, ◌⊎◌, slice_index_or, map, unwrap_or, ◌^◌, ℤ, pos, ◌+ℤ◌, ◌*ℤ◌, ◌≤ℤ◌, neg_ℤ, int_lt, most_nodes, most_tour_nodes, most_changes, most_weight, most_demand, IsNode, nodes_to, Kind, Fields, nodes_of, is_tour_file, AreTours, IsNodeList, IsStep, AreTreeSteps, IsDemand, sum_int_by, RoutingProblem, demand_of, IsPlan, IsLeastRoutes, links_to, length_of, plan_length, load_of, IsListedStep}
use Rattle.std.proofs.Math.IntN.{+ℤ_assoc, +ℤ_idr}
use Rattle.std.proofs.lemmas.Bool.Decides.{eqb_tells}
use Rattle.std.proofs.lemmas.List.Concat.{get_or-flat_map}
use Rattle.std.proofs.lemmas.List.Folds.{length-flat_map-take}
use Rattle.std.proofs.lemmas.List.Sorted.{IsPermutation-remove, Contains-permutation}
use Rattle.std.proofs.lemmas.List.Sums.{sum_by-cons}
use Rattle.std.specs.List.Sorted.{IsPermutation}
use Rattle.std.specs.Prelude.{◌<ℤ◌}
use Rattle.tsp_format.proofs.Basics.{both_all}
use Rattle.tsp_format.specs.Steps.{Step, Branch, Leaf, are_whole, branch_count, leaf_count, change_count}
use Rattle.tsp_format.specs.declared.kinds.Kind.TheVariants as kinds
use Rattle.tsp_format.specs.declared.steps.TreeStep.{TreeStep}
use Rattle.tsp_format.specs.states.TreeSteps.{step_of, steps_of}
use Rattle.tsp_theory.proofs.Sums.{run_parts}
use Rattle.tsp_routing.proofs.Plans.{within_all}
use Rattle.tsp_theory.specs.First.{IsFirstPlace}
use Rattle.tsp_verdict.specs.SolutionReasons.{node_at, visited, tours_of, IsOverloaded}
use Rattle.tsp_verdict.specs.states.Marks.{StandsAfter, nodes_in, AreToursOf, IsSumOf}

-- a route is after the nodes of those before it
pub route_stands : (routes : List (Vec ℕ)) (i : ℕ) (route : Vec ℕ) → i < length routes → route ≡ get_or routes i route
    → StandsAfter (length (nodes_in (take i routes))) (nodes_in routes) route.items
route_stands routes i route lt is = record {
  inside = subst (λ (r : Vec ℕ). length (nodes_in (take i routes)) + length r.items ≤ length (nodes_in routes)) (sym is)
      (length-flat_map-take (λ (r : Vec ℕ). r.items) routes i route lt);
  same = λ k inside.
      let there : k < length (get_or routes i route).items = subst (λ (r : Vec ℕ). k < length r.items) is inside in
      get_or-flat_map (λ (r : Vec ℕ). r.items) routes i k route 0 lt there ∙ ap (λ (r : Vec ℕ). get_or r.items k 0) (sym is);
}

-- with one route more the list has as many nodes more
pub count_more : (routes : List (Vec ℕ)) (i : ℕ) (route : Vec ℕ) → i < length routes → route ≡ get_or routes i route
    → length (nodes_in (take i routes)) + length route.items ≡ length (nodes_in (take (i + 1) routes))
count_more [] i route lt is = absurd (omega (arith, lt))
count_more (r ∷ routes) zero route lt is = rw is (omega (arith, length-append r.items []))
count_more (r ∷ routes) (suc i) route lt is =
    let tail = count_more routes i route (omega (arith, lt)) is in
    let further : suc i + 1 ≡ suc (i + 1) = omega arith in
    rw further (omega (
      arith,
      length-append r.items (nodes_in (take i routes)),
      length-append r.items (nodes_in (take (i + 1) routes)),
      tail,
    ))

-- the two facts above, with the nodes as the code counts them
pub applies_here : (routes : List (Vec ℕ)) (i before : ℕ) (route : Vec ℕ) (nodes : List ℕ) → i < length routes
    → route ≡ get_or routes i route
    → before ≡ length (nodes_in (take i routes)) → nodes ≡ route.items
    → StandsAfter before (nodes_in routes) nodes
applies_here routes i before route nodes lt is counted same =
    subst (λ (b : ℕ). StandsAfter b (nodes_in routes) nodes) (sym counted)
    (subst (λ (xs : List ℕ). StandsAfter (length (nodes_in (take i routes))) (nodes_in routes) xs) (sym same)
    (route_stands routes i route lt is))

pub count_here : (routes : List (Vec ℕ)) (i before : ℕ) (route : Vec ℕ) (nodes : List ℕ) → i < length routes
    → route ≡ get_or routes i route
    → before ≡ length (nodes_in (take i routes)) → nodes ≡ route.items
    → before + length nodes ≡ length (nodes_in (take (i + 1) routes))
count_here routes i before route nodes lt is counted same =
    omega (arith, count_more routes i route lt is, counted, ap length same)

-- the first place of a route at which P holds is the first one of all, if P holds nowhere before
pub first_after : (P Q : ℕ → Type 0) (nodes piece : List ℕ) (before place : ℕ) → ((v : ℕ) → P v → Q v → ⊥)
    → StandsAfter before nodes piece
    → ((k d : ℕ) → k < before → Q (slice_index_or nodes k d)) → IsFirstPlace (λ k. P (node_at piece k)) piece place
    → IsFirstPlace (λ k. P (node_at nodes k)) nodes (before + place)
first_after P Q nodes piece before place apart applies none first = record {
  applies = (
    (omega (arith, first.applies.0.0), omega (arith, first.applies.0.1, applies.inside)),
    subst P (at_place place first.applies.0.0 first.applies.0.1) first.applies.1,
  );
  none_before = λ earlier less low. earlier_out earlier low less (cases_lt before earlier);
}
  where
    at_place : (k : ℕ) → 1 ≤ k → k ≤ length piece → node_at piece k ≡ node_at nodes (before + k)
    at_place k low high = sym (applies.same (k - 1) (omega (arith, low, high))) ∙ ap (λ j. get_or nodes j 0) (omega (arith, low))

    earlier_out : (earlier : ℕ) → 1 ≤ earlier → earlier < before + place → (before < earlier) ⊎ (earlier ≤ before)
        → P (node_at nodes earlier) → ⊥
    earlier_out earlier low less (inl after) p =
        let k : ℕ = earlier - before in
        let is : before + k ≡ earlier = omega (arith, after) in
        first.none_before k (omega (arith, after, less)) (omega (arith, after))
        (subst P (sym (at_place k (omega (arith, after)) (omega (arith, less, first.applies.0.1, after)) ∙ ap (node_at nodes) is)) p)
    earlier_out earlier low less (inr le) p = apart (node_at nodes earlier) p (none (earlier - 1) 0 (omega (arith, low, le)))

-- what holds of all nodes before a route and of the route's nodes
pub all_more : (Q : ℕ → Type 0) (nodes piece : List ℕ) (before : ℕ) → StandsAfter before nodes piece
    → ((k d : ℕ) → k < before → Q (slice_index_or nodes k d)) → All Q piece
    → (k d : ℕ) → k < before + length piece → Q (slice_index_or nodes k d)
all_more Q nodes piece before applies so_far all k d less = by_place (cases_lt k before)
  where
    by_place : (k < before) ⊎ (before ≤ k) → Q (slice_index_or nodes k d)
    by_place (inl lt) = so_far k d lt
    by_place (inr le) =
        let j : ℕ = k - before in
        let is : before + j ≡ k = omega (arith, le) in
        let inside : j < length piece = omega (arith, less, le) in
        let same : get_or nodes k d ≡ get_or piece j 0 = get_or_default nodes k d 0 (omega (arith, applies.inside, inside, is))
        ∙ ap (λ i. get_or nodes i 0) (sym is) ∙ applies.same j inside in
        subst Q (sym same) (all j 0 inside)

-- the nodes of the routes, as the definitions list them
pub nodes_in_is : (routes : List (Vec ℕ)) → nodes_in routes ≡ concat (map (λ r. r.items) routes)
nodes_in_is [] = refl
nodes_in_is (r ∷ routes) = ap (λ (xs : List ℕ). r.items ++ xs) (nodes_in_is routes)

-- what holds of all nodes holds of those of a route
pub all_here : (Q : ℕ → Type 0) (nodes piece : List ℕ) (before : ℕ) → StandsAfter before nodes piece → All Q nodes → All Q piece
all_here Q nodes piece before applies all k d lt =
    let same : get_or nodes (before + k) 0 ≡ get_or piece k d = applies.same k lt ∙ get_or_default piece k 0 d lt in
    subst Q same (all (before + k) 0 (omega (arith, lt, applies.inside)))

-- ---- the tours and the steps that a valid file lends are on nodes that it has

in_all : (tours : List (List ℕ)) → AllByRecursion IsNodeList tours → AllByRecursion (IsNode most_nodes) (concat tours)
in_all [] filled = tt
in_all (tour ∷ tours) filled =
    both_all (IsNode most_nodes) tour (concat tours) (recursion_from_All (IsNode most_nodes) tour filled.0.1)
    (in_all tours filled.1)

pub counted_from_one : (tours : List (Vec ℕ)) → AreTours (map (λ (t : Vec ℕ). t.items) tours)
    → All (λ node. 1 ≤ node) (nodes_in tours)
counted_from_one tours held =
    let nodes = All-from_recursion (IsNode most_nodes) (concat (map (λ (t : Vec ℕ). t.items) tours))
    (in_all (map (λ (t : Vec ℕ). t.items) tours) (recursion_from_All IsNodeList (map (λ (t : Vec ℕ). t.items) tours) held.0)) in
    rw (nodes_in_is tours) (λ k d lt. (nodes k d lt).0)

sum_is : (tours : List (List ℕ)) → length (concat tours) ≡ sum_by length tours
sum_is [] = refl
sum_is (tour ∷ tours) = omega (arith, length-append tour (concat tours), sum_is tours, sum_by-cons length tour tours)

count_le : (tours : List (List ℕ)) → AllByRecursion IsNodeList tours → length tours ≤ sum_by length tours
count_le [] filled = omega arith
count_le (tour ∷ tours) filled = omega (arith, filled.0.0, count_le tours filled.1, sum_by-cons length tour tours)

pub as_many : (tours : List (Vec ℕ)) → length (map (λ (t : Vec ℕ). t.items) tours) ≡ length tours
as_many [] = refl
as_many (t ∷ tours) = ap suc (as_many tours)

pub few_tours : (tours : List (Vec ℕ)) → AreTours (map (λ (t : Vec ℕ). t.items) tours) → length tours ≤ most_tour_nodes
few_tours tours held =
    omega (
      arith,
      count_le (map (λ (t : Vec ℕ). t.items) tours)
          (recursion_from_All IsNodeList (map (λ (t : Vec ℕ). t.items) tours) held.0),
      held.1,
      as_many tours,
    )

pub few_nodes : (tours : List (Vec ℕ)) → AreTours (map (λ (t : Vec ℕ). t.items) tours) → length (nodes_in tours) ≤ most_tour_nodes
few_nodes tours held = omega (arith, ap length (nodes_in_is tours), sum_is (map (λ (t : Vec ℕ). t.items) tours), held.1)

pub nodes_are : (f : Fields) (tours : List (Vec ℕ)) → map (λ (t : Vec ℕ). t.items) tours ≡ tours_of f → nodes_in tours ≡ visited f
nodes_are f tours same = nodes_in_is tours ∙ ap concat same

pub tours_are : (f : Fields) (tours : List (List ℕ)) → f.tours ≡ Some tours → tours ≡ tours_of f
tours_are f tours stand = sym (ap (λ (o : Option (List (List ℕ))). unwrap_or o []) stand)

some_nodes : (tour : List ℕ) → 1 ≤ length tour → tour ≢ []
some_nodes [] some same = omega (arith, some)
some_nodes (node ∷ nodes) some same = absurd cc

filled : (f : Fields) (tours : List (List ℕ)) → tours ≡ tours_of f → All IsNodeList tours → All (λ tour. tour ≢ []) (tours_of f)
filled f tours same lists = subst (λ (ts : List (List ℕ)). All (λ tour. tour ≢ []) ts) same
    (All-weaker IsNodeList (λ tour. tour ≢ []) (λ tour is. some_nodes tour is.0) tours lists)

pub tours_held : (f : Fields) (tours : List (Vec ℕ)) → f.kind ≡ Some kinds.Tour
    → f.tours ≡ Some (map (λ (t : Vec ℕ). t.items) tours) → AreTours (map (λ (t : Vec ℕ). t.items) tours) → AreToursOf f tours
tours_held f tours sort stand held = record {
  sort = ap is_tour_file sort;
  value = tours_are f (map (λ (t : Vec ℕ). t.items) tours) stand;
  nodes = nodes_are f tours (tours_are f (map (λ (t : Vec ℕ). t.items) tours) stand);
  range = counted_from_one tours held;
  filled = filled f (map (λ (t : Vec ℕ). t.items) tours) (tours_are f (map (λ (t : Vec ℕ). t.items) tours) stand) held.0;
  few = few_tours tours held;
  size = few_nodes tours held;
}

pub no_tours : (f : Fields) → f.kind ≢ Some kinds.Tour → is_tour_file f.kind ≡ false
no_tours f other = by_kind f.kind other
  where
    by_kind : (kind : Option Kind) → kind ≢ Some kinds.Tour → is_tour_file kind ≡ false
    by_kind None other = refl
    by_kind (Some kinds.Tsp) other = refl
    by_kind (Some kinds.Atsp) other = refl
    by_kind (Some kinds.Cvrp) other = refl
    by_kind (Some kinds.Tour) other = absurd (other refl)
    by_kind (Some kinds.Potentials) other = refl
    by_kind (Some kinds.Branches) other = refl

-- ---- steps

-- a leaf's differences are some of all
few_changes : (n most : ℕ) (steps : List Step) → most < 2 ^ 32 → AllByRecursion (IsStep n) steps → change_count steps ≤ most
    → AllByRecursion (IsListedStep n) steps
few_changes n most [] low each few = tt
few_changes n most (Branch a b ∷ steps) low each few = (λ node. (each.0.1, each.0.2), few_changes n most steps low each.1 few)
few_changes n most (Leaf changes ∷ steps) low each few =
    (omega (arith, low, few), few_changes n most steps low each.1 (omega (arith, few)))

pub steps_hold : (f : Fields) (steps : List Step) → AreTreeSteps f steps → All (IsListedStep (nodes_of f)) steps
steps_hold f steps held =
    let same : held.n ≡ nodes_of f = sym (ap (λ (d : Option ℕ). unwrap_or d 0) held.dimension) in
    All-from_recursion (IsListedStep (nodes_of f)) steps
    (few_changes (nodes_of f) most_changes steps (omega arith)
    (subst (λ (n : ℕ). AllByRecursion (IsStep n) steps) same (recursion_from_All (IsStep held.n) steps held.each))
    held.few_changes)

-- n trees have n leaves more than branches
leaves_of_trees : (count : ℕ) (steps : List Step) → are_whole count steps ≡ true → leaf_count steps ≡ branch_count steps + count
leaves_of_trees zero [] whole = refl
leaves_of_trees zero (Branch a b ∷ steps) whole = absurd (false≢true whole)
leaves_of_trees zero (Leaf changes ∷ steps) whole = absurd (false≢true whole)
leaves_of_trees (suc count) [] whole = absurd (false≢true whole)
leaves_of_trees (suc count) (Branch a b ∷ steps) whole = let more = leaves_of_trees (suc (suc count)) steps whole in
    omega (arith, more)
leaves_of_trees (suc count) (Leaf changes ∷ steps) whole = let more = leaves_of_trees count steps whole in omega (arith, more)

all_counted : (steps : List Step) → length steps ≡ branch_count steps + leaf_count steps
all_counted [] = refl
all_counted (Branch a b ∷ steps) = let rest = all_counted steps in omega (arith, rest)
all_counted (Leaf changes ∷ steps) = let rest = all_counted steps in omega (arith, rest)

pub steps_few : (f : Fields) (steps : List TreeStep) → AreTreeSteps f (steps_of steps) → length steps < 2 ^ 32
steps_few f steps held =
    omega (arith, length-map steps step_of, all_counted (steps_of steps), leaves_of_trees 1 (steps_of steps) held.whole, held.few)

-- ---- no plan has fewer routes than the least number that carries all demands

-- ---- sums

sum_append : (f : ℕ → ℤ) (xs ys : List ℕ) → sum_int_by f (xs ++ ys) ≡ sum_int_by f xs +ℤ sum_int_by f ys
sum_append f [] ys = omega (arith, ints)
sum_append f (x ∷ xs) ys = let tail = sum_append f xs ys in omega (arith, ints)

sum_remove : (f : ℕ → ℤ) (xs : List ℕ) (i x : ℕ) → i < length xs → get_or xs i x ≡ x
    → sum_int_by f xs ≡ f x +ℤ sum_int_by f (remove xs i)
sum_remove f [] i x lt is = absurd (omega (arith, lt))
sum_remove f (y ∷ xs) zero x lt is = ap (λ v. f v +ℤ sum_int_by f xs) is
sum_remove f (y ∷ xs) (suc i) x lt is = let tail = sum_remove f xs i x (omega (arith, lt)) is in omega (arith, ints, tail)

-- ---- nodes among others

in_tail : (x : ℕ) (zs : List ℕ) (w k : ℕ) → k < length (x ∷ zs) → get_or (x ∷ zs) k w ≡ w → x ≢ w → Contains zs w
in_tail x zs w zero lt is other = absurd (other is)
in_tail x zs w (suc k) lt is other = (k, omega arith, is)

still_there : (xs : List ℕ) (i x w : ℕ) → i < length xs → get_or xs i x ≡ x → x ≢ w → Contains xs w → Contains (remove xs i) w
still_there xs i x w lt is other there =
    let taken : IsPermutation xs (x ∷ remove xs i) = IsPermutation-remove xs i x lt (sym is) in
    let found = Contains-permutation xs (x ∷ remove xs i) w taken there in
    in_tail x (remove xs i) w found.0 found.1 found.2 other

-- a run of numbers that are all in a list sums to no more than the list, if nothing is below 0
run_sum : (f : ℕ → ℤ) → ((v : ℕ) → pos 0 ≤ℤ f v) → (m a : ℕ) (xs : List ℕ) → ((v : ℕ) → a ≤ v → v < a + m → Contains xs v)
    → sum_int_by f (range_with_len a m) ≤ℤ sum_int_by f xs
run_sum f low zero a xs inside = all_low xs
  where
    all_low : (xs : List ℕ) → pos 0 ≤ℤ sum_int_by f xs
    all_low [] = omega (arith, ints)
    all_low (x ∷ xs) = omega (arith, ints, low x, all_low xs)
run_sum f low (suc m) a xs inside =
    let found : Contains xs a = inside a (omega arith) (omega arith) in
    let rest : sum_int_by f (range_with_len (a + 1) m) ≤ℤ sum_int_by f (remove xs found.0) =
    run_sum f low m (a + 1) (remove xs found.0) (λ v above below.
    still_there xs found.0 a v found.1 found.2 (λ same. omega (arith, above, same))
    (inside v (omega (arith, above)) (omega (arith, below)))) in
    omega (arith, ints, rest, sum_remove f xs found.0 a found.1 found.2)

-- ---- plans

pub demand_low : (demands : List ℤ) → ((k : ℕ) (d : ℤ) → k < length demands → pos 0 ≤ℤ get_or demands k d) → (node : ℕ)
    → pos 0 ≤ℤ demand_of demands node
demand_low demands low node = at_index (node - 1) (cases_lt (node - 1) (length demands))
  where
    at_index : (k : ℕ) → (k < length demands) ⊎ (length demands ≤ k) → pos 0 ≤ℤ get_or demands k (pos 0)
    at_index k (inl lt) = low k (pos 0) lt
    at_index k (inr le) = rw (get_or_past demands k (pos 0) le) (omega (arith, ints))

-- a plan carries all demands
plan_carries : (problem : RoutingProblem) (routes : List (List ℕ)) → ((node : ℕ) → pos 0 ≤ℤ problem.demand node)
    → problem.demand problem.depot ≡ pos 0 → IsPlan problem routes
    → sum_int_by problem.demand (nodes_to problem.nodes) ≤ℤ (pos (length routes) *ℤ problem.capacity)
unfolding nodes_to
plan_carries problem routes low none plan =
    let n : ℕ = problem.nodes in
    let depot : ℕ = problem.depot in
    let demand : ℕ → ℤ = problem.demand in
    let capacity : ℤ = problem.capacity in
    let all : sum_int_by demand (range_with_len 1 n) ≤ℤ sum_int_by demand (depot ∷ concat routes) =
    run_sum demand low n 1 (depot ∷ concat routes) (λ v above below. there v above below (eqb_tells v depot)) in
    let held = within_all demand capacity routes
    (recursion_from_All (λ route. sum_int_by demand route ≤ℤ capacity) routes plan.within) in
    omega (arith, ints, all, held, none)
  where
    there : (v : ℕ) → 1 ≤ v → v < 1 + problem.nodes
        → ((eqb v problem.depot ≡ true) × (v ≡ problem.depot)) ⊎ ((eqb v problem.depot ≡ false) × (v ≢ problem.depot))
        → Contains (problem.depot ∷ concat routes) v
    there v above below (inl is) = (0, omega arith, sym is.1)
    there v above below (inr other) =
        let found = plan.served v ((above, omega (arith, below)), other.1) in
        (suc found.0, omega (arith, found.1), found.2)

pub none_fewer : (problem : RoutingProblem) (least : ℕ) → ((node : ℕ) → pos 0 ≤ℤ problem.demand node)
    → problem.demand problem.depot ≡ pos 0
    → IsLeastRoutes (sum_int_by problem.demand (nodes_to problem.nodes)) problem.capacity least → (routes : List (List ℕ))
    → IsPlan problem routes → least ≤ length routes
none_fewer problem least low none is routes plan = is.none_less (length routes) (plan_carries problem routes low none plan)

-- ---- the length of a route, one link more at a time, and of a plan, one route more at a time

-- the sum of the costs from a node along others to an end
abbrev pub length_to : (ℕ → ℕ → ℤ) → ℕ → ℕ → List ℕ → ℤ
length_to cost end from others = sum_int_by (λ link. cost link.0 link.1) (links_to end from others)

-- one step further
pub length_more : (cost : ℕ → ℕ → ℤ) (so_far total : ℤ) (end from next : ℕ) (others rest : List ℕ) → others ≡ next ∷ rest
    → so_far +ℤ length_to cost end from others ≡ total → (so_far +ℤ cost from next) +ℤ length_to cost end next rest ≡ total
length_more cost so_far total end from next others rest parts e =
    +ℤ_assoc so_far (cost from next) (length_to cost end next rest)
    ∙ subst (λ (xs : List ℕ). so_far +ℤ length_to cost end from xs ≡ total) parts e

-- the last step, to the end
pub length_last : (cost : ℕ → ℕ → ℤ) (so_far total : ℤ) (end from : ℕ) (others : List ℕ) → others ≡ []
    → so_far +ℤ length_to cost end from others ≡ total → so_far +ℤ cost from end ≡ total
length_last cost so_far total end from others none e =
    ap (λ (z : ℤ). so_far +ℤ z) (sym (+ℤ_idr (cost from end)))
    ∙ subst (λ (xs : List ℕ). so_far +ℤ length_to cost end from xs ≡ total) none e

pub sum_more : (sum cost : ℤ) (count more : ℕ) → IsSumOf count sum → IsSumOf more cost → IsSumOf (count + more) (sum +ℤ cost)
sum_more sum cost count more size other =
    record { low = omega (arith, ints, size.low, other.low); high = omega (arith, ints, size.high, other.high) }

pub sum_one : (cost : ℤ) → neg_ℤ (pos most_weight) ≤ℤ cost → cost ≤ℤ pos most_weight → IsSumOf 1 cost
sum_one cost low high = record { low = omega (arith, ints, low); high = omega (arith, ints, high) }

-- the sum is what the code computes
pub sum_fits : (sum cost : ℤ) (count more : ℕ) → (count + more) ≤ 2000001 → IsSumOf count sum → IsSumOf more cost
    → to_z w64 (of_z w64 (sum +ℤ to_z w64 (of_z w64 cost))) ≡ sum +ℤ cost
sum_fits sum cost count more few size other = omega (arith, ints, size.low, size.high, other.low, other.high)

-- one route more
pub plan_more : (cost : ℕ → ℕ → ℤ) (depot : ℕ) (so_far total : ℤ) (routes : List (Vec ℕ)) (i : ℕ) (route : Vec ℕ)
    → i < length routes → route ≡ get_or routes i route
    → so_far +ℤ plan_length cost depot (map (λ r. r.items) (drop i routes)) ≡ total
    → (so_far +ℤ length_of cost (depot ∷ route.items)) +ℤ plan_length cost depot (map (λ r. r.items) (drop (i + 1) routes))
    ≡ total
plan_more cost depot so_far total routes i route lt is e =
    let parts : drop i routes ≡ route ∷ drop (i + 1) routes = drop-cons routes i route lt
    ∙ ap (λ (r : Vec ℕ). r ∷ drop (suc i) routes) (sym is) ∙ ap (λ k. route ∷ drop k routes) (sym (add-one i)) in
    +ℤ_assoc so_far (length_of cost (depot ∷ route.items)) (plan_length cost depot (map (λ r. r.items) (drop (i + 1) routes)))
    ∙ subst (λ (xs : List (Vec ℕ)). so_far +ℤ plan_length cost depot (map (λ r. r.items) xs) ≡ total) parts e

-- ---- the demand of a route and of all nodes, one node more at a time

-- a sum of this many demands is of this size
pub record IsLoadOf (count : ℕ) (sum : ℤ) : Type 0 where
  pub low : pos 0 ≤ℤ sum
  pub high : sum ≤ℤ pos (most_demand * count)

pub load_more : (sum demand : ℤ) (count : ℕ) → IsLoadOf count sum → IsDemand demand → IsLoadOf (count + 1) (sum +ℤ demand)
load_more sum demand count size more =
    record { low = omega (arith, ints, size.low, more.0); high = omega (arith, ints, size.high, more.1) }

pub load_fits : (sum demand : ℤ) (count : ℕ) → count ≤ 1000000 → IsLoadOf count sum → IsDemand demand
    → to_z w64 (of_z w64 (sum +ℤ to_z w64 (of_z w64 demand))) ≡ sum +ℤ demand
load_fits sum demand count few size more = omega (arith, ints, size.low, size.high, more.0, more.1)

-- one demand further
pub sum_step : {X : Type 0} (f : X → ℤ) (so_far total : ℤ) (x : X) (others rest : List X) → others ≡ x ∷ rest
    → so_far +ℤ sum_int_by f others ≡ total → (so_far +ℤ f x) +ℤ sum_int_by f rest ≡ total
sum_step {X} f so_far total x others rest parts e =
    +ℤ_assoc so_far (f x) (sum_int_by f rest) ∙ subst (λ (xs : List X). so_far +ℤ sum_int_by f xs ≡ total) parts e

-- with no element left, the sum so far is the whole one
pub sum_end : {X : Type 0} (f : X → ℤ) (so_far total : ℤ) (others : List X) → others ≡ [] → so_far +ℤ sum_int_by f others ≡ total
    → so_far ≡ total
sum_end {X} f so_far total others none e = sym (+ℤ_idr so_far) ∙ subst (λ (xs : List X). so_far +ℤ sum_int_by f xs ≡ total) none e

-- one node further, over all nodes
pub total_more : (demands : List ℤ) (so_far total : ℤ) (i : ℕ) → i < length demands
    → so_far +ℤ load_of demands (range_with_len (i + 1) (length demands - i)) ≡ total
    → (so_far +ℤ slice_index_or demands i (pos 0)) +ℤ load_of demands (range_with_len (i + 1 + 1) (length demands - (i + 1)))
    ≡ total
total_more demands so_far total i lt e =
    let some : 0 < length demands - i = omega (arith, lt) in
    let less : length demands - (i + 1) ≡ length demands - i - 1 = omega arith in
    let at : i + 1 - 1 ≡ i = omega arith in
    let step : (so_far +ℤ demand_of demands (i + 1)) +ℤ load_of demands (range_with_len (i + 1 + 1) (length demands - i - 1))
    ≡ total =
    sum_step (demand_of demands) so_far total (i + 1) (range_with_len (i + 1) (length demands - i))
    (range_with_len (i + 1 + 1) (length demands - i - 1))
    (run_parts (i + 1) (length demands - i) some) e in
    subst (λ k. (so_far +ℤ slice_index_or demands k (pos 0)) +ℤ load_of demands
    (range_with_len (i + 1 + 1) (length demands - (i + 1))) ≡ total) at
    (subst (λ k. (so_far +ℤ demand_of demands (i + 1)) +ℤ load_of demands (range_with_len (i + 1 + 1) k) ≡ total) (sym less) step)

pub total_end : (demands : List ℤ) (so_far total : ℤ) (i : ℕ) → length demands ≤ i
    → so_far +ℤ load_of demands (range_with_len (i + 1) (length demands - i)) ≡ total → so_far ≡ total
total_end demands so_far total i le e =
    let none : length demands - i ≡ 0 = omega (arith, le) in
    sum_end (demand_of demands) so_far total (range_with_len (i + 1) (length demands - i)) (ap (range_with_len (i + 1)) none) e

-- ---- loads of several routes

pub read_route : (routes : List (Vec ℕ)) (i : ℕ) (route : Vec ℕ) (d : List ℕ) → i < length routes → route ≡ get_or routes i route
    → get_or (map (λ (r : Vec ℕ). r.items) routes) i d ≡ route.items
read_route [] i route d lt is = absurd (omega (arith, lt))
read_route (r ∷ routes) zero route d lt is = ap (λ (v : Vec ℕ). v.items) (sym is)
read_route (r ∷ routes) (suc i) route d lt is = read_route routes i route d (omega (arith, lt)) is

pub carried_more : (demands : List ℤ) (capacity : ℤ) (routes : List (Vec ℕ)) (i : ℕ) (route : Vec ℕ) → i < length routes
    → route ≡ get_or routes i route → load_of demands route.items ≤ℤ capacity
    → ((k : ℕ) (d : List ℕ) → k < i → load_of demands (slice_index_or (map (λ (r : Vec ℕ). r.items) routes) k d) ≤ℤ capacity)
    → (k : ℕ) (d : List ℕ) → k < i + 1 → load_of demands (slice_index_or (map (λ (r : Vec ℕ). r.items) routes) k d) ≤ℤ capacity
carried_more demands capacity routes i route lt is carries so_far k d less = by_place (cases_lt k i)
  where
    by_place : (k < i) ⊎ (i ≤ k) → load_of demands (slice_index_or (map (λ (r : Vec ℕ). r.items) routes) k d) ≤ℤ capacity
    by_place (inl before) = so_far k d before
    by_place (inr le) =
        let here : k ≡ i = omega (arith, less, le) in
        let same : get_or (map (λ (r : Vec ℕ). r.items) routes) k d ≡ route.items =
        ap (λ j. get_or (map (λ (r : Vec ℕ). r.items) routes) j d) here ∙ read_route routes i route d lt is in
        subst (λ (xs : List ℕ). load_of demands xs ≤ℤ capacity) (sym same) carries

pub not_over : (a b : ℤ) → int_lt b a ≡ false → a ≤ℤ b
not_over a b e = grind (arith, ints)

pub is_over : (a b : ℤ) → int_lt b a ≡ true → b <ℤ a
is_over a b e = grind (arith, ints)

-- the first route above the capacity
pub over_here : (demands : List ℤ) (capacity : ℤ) (routes : List (Vec ℕ)) (i place : ℕ) (route : Vec ℕ) → i < length routes
    → route ≡ get_or routes i route → place ≡ i + 1 → capacity <ℤ load_of demands route.items
    → ((k : ℕ) (d : List ℕ) → k < i → load_of demands (slice_index_or (map (λ (r : Vec ℕ). r.items) routes) k d) ≤ℤ capacity)
    → IsFirstPlace (IsOverloaded demands capacity (map (λ (r : Vec ℕ). r.items) routes)) (map (λ (r : Vec ℕ). r.items) routes) place
over_here demands capacity routes i place route lt is counted over so_far =
    let lists : List (List ℕ) = map (λ (r : Vec ℕ). r.items) routes in
    let here : place - 1 ≡ i = omega (arith, counted) in
    let same : get_or lists (place - 1) [] ≡ route.items = ap (λ j. get_or lists j []) here ∙ read_route routes i route [] lt is in
    let wide = length-map routes (λ (r : Vec ℕ). r.items) in
    record {
      applies = (
        (omega (arith, counted), omega (arith, counted, lt, wide)),
        subst (λ (xs : List ℕ). capacity <ℤ load_of demands xs) (sym same) over,
      );
      none_before = λ earlier less from more.
          let most = so_far (earlier - 1) [] (omega (arith, less, from, counted)) in
          omega (arith, ints, most, more);
    }
