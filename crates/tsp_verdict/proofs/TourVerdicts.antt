-- For src/tour.rt and src/solution_verdict.rt: reasons against a tour, ruled out one by one, by marks of nodes and
-- fixed pairs, and the verdict.
use Rattle.tsp_verdict.proofs.Prelude.{◌≡◌, ◌≢◌, ℕ, zero, suc, ◌+◌, ◌-◌, ◌<◌, ◌≤◌, Bool, true, false, List, [], ◌∷◌, length, Option, None, Some, get_or, set, replicate, refl, sym, ap, subst, ◌∙◌, arith, inl, inr, map, eqb, ◌++◌, add-one, cases_lt, false≢true, eqb-true, eq-eqb, get_or_default, append-nil, Vec, AllPairs, Contains, All, concat, ◌⊎◌, MatchOption, ℤ, MatchBool, fixed_of, cost, Fields, nodes_of, length_of, IsCycle, Uses, links_to, is_directed, IsTourOf, Reason, Dimension, TourCount, TourLength, NodeOutOfRange, RepeatedNode, FixedEdgeUnused, DepotCount, DepotDemand, FixedEdgesInRoutes, DepotInRoute, Unserved, Overload}
use Rattle.tsp_bound.proofs.RoundJoins.{set_kept}
use Rattle.tsp_theory.specs.First.{IsFirstPlace}
use Rattle.tsp_verdict.proofs.FirstReasons.{tour_rank}
use Rattle.tsp_verdict.specs.SolutionReasons.{node_at, HoldsAtNone, IsAtEarlierPlace, IsLarger, IsUnused, visited, tours_of, AppliesToTour, NoneOfTourBefore, IsFirstAgainstTour}
use Rattle.tsp_verdict.specs.states.Marks.{Marked, StandsAfter, AreNext}

set_adds : (seen : List Bool) (k m : ℕ) → get_or (set seen k true) m false ≡ true → (m ≡ k) ⊎ (get_or seen m false ≡ true)
set_adds [] k m h = inr h
set_adds (b ∷ seen) zero zero h = inl refl
set_adds (b ∷ seen) zero (suc m) h = inr h
set_adds (b ∷ seen) (suc k) zero h = inr h
set_adds (b ∷ seen) (suc k) (suc m) h = next (set_adds seen k m h)
  where
    next : (m ≡ k) ⊎ (get_or seen m false ≡ true) → (suc m ≡ suc k) ⊎ (get_or seen m false ≡ true)
    next (inl e) = inl (ap suc e)
    next (inr g) = inr g

set_marks : (seen : List Bool) (k : ℕ) → k < length seen → get_or (set seen k true) k false ≡ true
set_marks [] k h = absurd (omega (arith, h))
set_marks (b ∷ seen) zero h = refl
set_marks (b ∷ seen) (suc k) h = set_marks seen k (omega (arith, h))

-- a place up to one more is the new one or one of those before
last_or_before : (place count : ℕ) → place ≤ count + 1 → (place ≡ count + 1) ⊎ (place ≤ count)
last_or_before place count h = by_cases (cases_lt count place)
  where
    by_cases : (count < place) ⊎ (place ≤ count) → (place ≡ count + 1) ⊎ (place ≤ count)
    by_cases (inl over) = inl (omega arith)
    by_cases (inr le) = inr le

here : (nodes : List ℕ) (place count : ℕ) → place ≡ count + 1 → node_at nodes place ≡ get_or nodes count 0
here nodes place count e = let k : place - 1 ≡ count = omega arith in rw k refl

-- one node more, which isn't marked
pub mark_more : (nodes : List ℕ) (seen : List Bool) (count : ℕ) → get_or nodes count 0 < length seen
    → get_or seen (get_or nodes count 0) false ≡ false
    → Marked nodes seen count → Marked nodes (set seen (get_or nodes count 0) true) (count + 1)
mark_more nodes seen count fits free m = record {
  marked = λ place low high. marked_at place low (last_or_before place count high);
  only = λ node h. only_at node (set_adds seen (get_or nodes count 0) node h);
  once = λ place low high. once_at place low (last_or_before place count high);
}
  where
    marked_at : (place : ℕ) → 1 ≤ place → (place ≡ count + 1) ⊎ (place ≤ count)
        → get_or (set seen (get_or nodes count 0) true) (node_at nodes place) false ≡ true
    marked_at place low (inl e) = rw (here nodes place count e) (set_marks seen (get_or nodes count 0) fits)
    marked_at place low (inr le) = set_kept seen (get_or nodes count 0) (node_at nodes place) (m.marked place low le)

    only_at : (node : ℕ) → (node ≡ get_or nodes count 0) ⊎ (get_or seen node false ≡ true)
        → (place : ℕ) × (1 ≤ place) × (place ≤ count + 1) × (node_at nodes place ≡ node)
    only_at node (inl e) = (count + 1, omega arith, omega arith, here nodes (count + 1) count refl ∙ sym e)
    only_at node (inr h) = let found = m.only node h in (found.0, found.1, omega (arith, found.2), found.3)

    once_at : (place : ℕ) → 1 ≤ place → (place ≡ count + 1) ⊎ (place ≤ count) → IsAtEarlierPlace nodes place → ⊥
    once_at place low (inl e) r =
        let taken : get_or seen (node_at nodes r.0) false ≡ true = m.marked r.0 r.1 (omega (arith, r.2)) in
        let same : node_at nodes r.0 ≡ get_or nodes count 0 = r.3 ∙ here nodes place count e in
        let wrong : true ≡ false = sym taken ∙ ap (λ k. get_or seen k false) same ∙ free in cc
    once_at place low (inr le) r = m.once place low le r

-- one node more that is at most n
pub small_next : (nodes : List ℕ) (n count : ℕ) → count < length nodes → get_or nodes count 0 ≤ n
    → ((k d : ℕ) → k < count → get_or nodes k d ≤ n) → (k d : ℕ) → k < count + 1 → get_or nodes k d ≤ n
small_next nodes n count inside small before k d below = by_cases (cases_lt k count)
  where
    by_cases : (k < count) ⊎ (count ≤ k) → get_or nodes k d ≤ n
    by_cases (inl lt) = before k d lt
    by_cases (inr le) =
        let last : k ≡ count = omega (arith, below, le) in
        let same : get_or nodes k d ≡ get_or nodes count 0 = ap (λ j. get_or nodes j d) last
        ∙ get_or_default nodes count d 0 inside in
        omega (arith, same, small)

-- the next node is marked: it is the first that is repeated
pub repeated_here : (nodes : List ℕ) (seen : List Bool) (count : ℕ) → count < length nodes
    → get_or seen (get_or nodes count 0) false ≡ true
    → Marked nodes seen count → IsFirstPlace (IsAtEarlierPlace nodes) nodes (count + 1)
repeated_here nodes seen count lt taken m =
    let found = m.only (get_or nodes count 0) taken in
    record {
      applies = (
        (omega arith, omega arith),
        (found.0, found.1, omega (arith, found.2), found.3 ∙ sym (here nodes (count + 1) count refl)),
      );
      none_before = λ earlier high low. m.once earlier low (omega (arith, high));
    }

-- the mark of a node, as the code reads it
pub mark_is : (seen : List Bool) (k : ℕ) (mark value : Bool) → k < length seen → mark ≡ get_or seen k mark → mark ≡ value
    → get_or seen k false ≡ value
mark_is seen k mark value h read e = get_or_default seen k false mark h ∙ sym read ∙ e

-- no node is marked, and none is at the first 0 places
pub none_marked : (nodes : List ℕ) (m : ℕ) → Marked nodes (replicate m false) 0
none_marked nodes m = record {
  marked = λ place low high. absurd (omega (arith, low, high));
  only = λ node is. absurd (false≢true (sym (unmarked m node) ∙ is));
  once = λ place low high. absurd (omega (arith, low, high));
}
  where
    unmarked : (m node : ℕ) → get_or (replicate m false) node false ≡ false
    unmarked zero node = refl
    unmarked (suc m) zero = refl
    unmarked (suc m) (suc node) = unmarked m node

-- one node more of a piece, which isn't marked
pub mark_next : (nodes piece : List ℕ) (seen : List Bool) (before index : ℕ) → StandsAfter before nodes piece
    → index < length piece
    → get_or piece index 0 < length seen → get_or seen (get_or piece index 0) false ≡ false
    → Marked nodes seen (before + index) → Marked nodes (set seen (get_or piece index 0) true) (before + (index + 1))
mark_next nodes piece seen before index applies lt fits free m =
    let same : get_or nodes (before + index) 0 ≡ get_or piece index 0 = applies.same index lt in
    let fits_there : get_or nodes (before + index) 0 < length seen = omega (arith, same, fits) in
    let more : Marked nodes (set seen (get_or nodes (before + index) 0) true) (before + index + 1) =
    mark_more nodes seen (before + index) fits_there (ap (λ k. get_or seen k false) same ∙ free) m in
    let count : before + index + 1 ≡ before + (index + 1) = omega arith in
    subst (λ k. Marked nodes (set seen (get_or piece index 0) true) k) count
    (subst (λ v. Marked nodes (set seen v true) (before + index + 1)) same more)

-- the next node of a piece is marked
pub repeated_next : (nodes piece : List ℕ) (seen : List Bool) (before index : ℕ) → StandsAfter before nodes piece
    → index < length piece → get_or seen (get_or piece index 0) false ≡ true
    → Marked nodes seen (before + index) → IsFirstPlace (IsAtEarlierPlace nodes) nodes (before + (index + 1))
repeated_next nodes piece seen before index applies lt taken m =
    let same : get_or nodes (before + index) 0 ≡ get_or piece index 0 = applies.same index lt in
    let inside : before + index < length nodes = omega (arith, applies.inside, lt) in
    let first : IsFirstPlace (IsAtEarlierPlace nodes) nodes (before + index + 1) =
    repeated_here nodes seen (before + index) inside (ap (λ k. get_or seen k false) same ∙ taken) m in
    let count : before + index + 1 ≡ before + (index + 1) = omega arith in
    subst (λ k. IsFirstPlace (IsAtEarlierPlace nodes) nodes k) count first

-- a list is part of itself
pub stands_whole : (nodes : List ℕ) → StandsAfter 0 nodes nodes
stands_whole nodes = record {
  inside = omega arith;
  same = λ k lt. ap (λ j. get_or nodes j 0) (omega arith);
}

-- what was found from the first place on
pub found_whole : (nodes : List ℕ) (seen : List Bool) (found : Option ℕ)
    → MatchOption found (Marked nodes seen (0 + length nodes)) (λ place. IsFirstPlace (IsAtEarlierPlace nodes) nodes (0 + place))
    → MatchOption found (HoldsAtNone (IsAtEarlierPlace nodes) (length nodes))
    (λ place. IsFirstPlace (IsAtEarlierPlace nodes) nodes place)
found_whole nodes seen None m = λ place low high. m.once place low (omega (arith, high))
found_whole nodes seen (Some place) first = subst (λ k. IsFirstPlace (IsAtEarlierPlace nodes) nodes k) (omega arith) first

-- no node repeated: all are apart
pub all_apart : (xs : List ℕ) → HoldsAtNone (IsAtEarlierPlace xs) (length xs) → AllPairs (λ a b. a ≢ b) xs
all_apart xs once i j d before inside same =
    let first : node_at xs (suc i) ≡ get_or xs i 0 = ap (λ k. get_or xs k 0) (omega arith) in
    let second : node_at xs (suc j) ≡ get_or xs j 0 = ap (λ k. get_or xs k 0) (omega arith) in
    let first_is : get_or xs i d ≡ get_or xs i 0 = get_or_default xs i d 0 (omega (arith, before, inside)) in
    let second_is : get_or xs j d ≡ get_or xs j 0 = get_or_default xs j d 0 inside in
    once (suc j) (omega arith) (omega (arith, inside))
    (suc i, omega arith, omega (arith, before), first ∙ sym first_is ∙ same ∙ second_is ∙ sym second)

-- a node is marked exactly if the list has it
pub marked_there : (nodes : List ℕ) (seen : List Bool) (node : ℕ) → Marked nodes seen (length nodes)
    → get_or seen node false ≡ true → Contains nodes node
marked_there nodes seen node m is =
    let found = m.only node is in (
      found.0 - 1,
      omega (arith, found.1, found.2),
      get_or_default nodes (found.0 - 1) node 0 (omega (arith, found.1, found.2))
          ∙ found.3,
    )

pub there_marked : (nodes : List ℕ) (seen : List Bool) (node : ℕ) → Marked nodes seen (length nodes) → Contains nodes node
    → get_or seen node false ≡ true
there_marked nodes seen node m there =
    let place : node_at nodes (suc there.0) ≡ node = ap (λ k. get_or nodes k 0) (omega arith)
    ∙ get_or_default nodes there.0 0 node there.1 ∙ there.2 in
    subst (λ v. get_or seen v false ≡ true) place (m.marked (suc there.0) (omega arith) (omega (arith, there.1)))

-- ---- after each test that finds nothing, the reasons up to that test are ruled out

pub after_dimension : (inst sol : Fields) → NoneOfTourBefore inst sol Dimension
    → ((n : ℕ) → sol.dimension ≡ Some n → n ≡ nodes_of inst)
    → NoneOfTourBefore inst sol TourCount
after_dimension inst sol before same Dimension low applies = applies.2 (same applies.0 applies.1)
after_dimension inst sol before same reason low applies = before reason (omega (arith, low)) applies

pub after_count : (inst sol : Fields) → NoneOfTourBefore inst sol TourCount → length (tours_of sol) ≡ 1
    → NoneOfTourBefore inst sol TourLength
after_count inst sol before one TourCount low applies = applies one
after_count inst sol before one reason low applies = before reason (omega (arith, low)) applies

pub after_length : (inst sol : Fields) → NoneOfTourBefore inst sol TourLength → length (visited sol) ≡ nodes_of inst
    → NoneOfTourBefore inst sol (NodeOutOfRange 1)
after_length inst sol before full TourLength low applies = applies full
after_length inst sol before full DepotCount low applies = applies
after_length inst sol before full DepotDemand low applies = applies
after_length inst sol before full FixedEdgesInRoutes low applies = applies
after_length inst sol before full (DepotInRoute place) low applies = applies
after_length inst sol before full reason low applies = before reason (omega (arith, low)) applies

pub after_range : (inst sol : Fields) → NoneOfTourBefore inst sol (NodeOutOfRange 1)
    → ((place : ℕ) → IsFirstPlace (IsLarger (nodes_of inst) (visited sol)) (visited sol) place → ⊥)
    → NoneOfTourBefore inst sol (RepeatedNode 1)
after_range inst sol before inside (NodeOutOfRange place) low applies = inside place applies
after_range inst sol before inside reason low applies = before reason (omega (arith, low)) applies

pub after_repeats : (inst sol : Fields) → NoneOfTourBefore inst sol (RepeatedNode 1)
    → ((place : ℕ) → IsFirstPlace (IsAtEarlierPlace (visited sol)) (visited sol) place → ⊥)
    → NoneOfTourBefore inst sol (FixedEdgeUnused 1)
after_repeats inst sol before once (RepeatedNode place) low applies = once place applies
after_repeats inst sol before once reason low applies = before reason (omega (arith, low)) applies

pub after_fixed : (inst sol : Fields) → NoneOfTourBefore inst sol (FixedEdgeUnused 1) → ((index : ℕ)
    → IsFirstPlace (IsUnused (is_directed inst.kind) (visited sol) (fixed_of inst)) (fixed_of inst) index → ⊥) → (reason : Reason)
    → AppliesToTour inst sol reason → ⊥
after_fixed inst sol before used (FixedEdgeUnused index) applies = used index applies
after_fixed inst sol before used (Unserved node) applies = absurd applies
after_fixed inst sol before used (Overload route) applies = absurd applies
after_fixed inst sol before used reason applies = before reason (omega (arith, tour_rank inst sol reason applies)) applies

-- ---- the verdict on a tour

-- the only one of several tours
pub one_tour : (tours : List (Vec ℕ)) (tour : Vec ℕ) → length tours ≡ 1 → tour ≡ get_or tours 0 tour
    → map (λ t. t.items) tours ≡ tour.items ∷ []
one_tour [] tour one first = absurd (omega (arith, one))
one_tour (t ∷ []) tour one first = ap (λ (v : Vec ℕ). v.items ∷ []) (sym first)
one_tour (t ∷ u ∷ tours) tour one first = absurd (omega (arith, one))

pub visited_is : (sol : Fields) (tour : List ℕ) → tours_of sol ≡ tour ∷ [] → visited sol ≡ tour
visited_is sol tour only = ap concat only ∙ append-nil tour

-- one tour that has this many nodes
pub tour_found : (inst sol : Fields) (tour : List ℕ) → tours_of sol ≡ tour ∷ [] → length tour ≡ nodes_of inst
    → All (λ node. 1 ≤ node) (visited sol) → NoneOfTourBefore inst sol TourCount
    → (tours_of sol ≡ tour ∷ []) × (length tour ≡ nodes_of inst) × All (λ node. 1 ≤ node) tour × NoneOfTourBefore inst sol
    (NodeOutOfRange 1)
tour_found inst sol tour only full low none =
    let low_all : All (λ node. 1 ≤ node) tour =
    subst (λ (xs : List ℕ). All (λ node. 1 ≤ node) xs) (visited_is sol tour only) low in (
      only,
      full,
      low_all,
      after_length inst sol (after_count inst sol none (ap length only))
          (ap length (visited_is sol tour only) ∙ full),
    )

-- nodes of 1..n, as many as n and none repeated, are a cycle
pub is_cycle : (n : ℕ) (tour : List ℕ) → length tour ≡ n → All (λ node. 1 ≤ node) tour → All (λ node. node ≤ n) tour
    → HoldsAtNone (IsAtEarlierPlace tour) (length tour) → IsCycle n tour
is_cycle n tour full low high once = record {
  count = full;
  range = λ k d lt. (low k d lt, high k d lt);
  once = all_apart tour once;
}

-- the first node that is too large
pub larger_first : (inst sol : Fields) (tour : List ℕ) (n place : ℕ) → tours_of sol ≡ tour ∷ [] → n ≡ nodes_of inst
    → NoneOfTourBefore inst sol (NodeOutOfRange 1)
    → IsFirstPlace (IsLarger n tour) tour place → IsFirstAgainstTour inst sol (NodeOutOfRange place)
larger_first inst sol tour n place only n_is none first = record {
  applies = subst (λ m. IsFirstPlace (IsLarger m (visited sol)) (visited sol) place) n_is
      (subst (λ (xs : List ℕ). IsFirstPlace (IsLarger n xs) xs place) (sym (visited_is sol tour only)) first);
  none_before = none;
}

-- if no node is too large, the reasons up to that are ruled out
pub none_up_to_repeats : (inst sol : Fields) (tour : List ℕ) → tours_of sol ≡ tour ∷ []
    → NoneOfTourBefore inst sol (NodeOutOfRange 1)
    → All (λ node. node ≤ nodes_of inst) tour
    → NoneOfTourBefore inst sol (RepeatedNode 1)
none_up_to_repeats inst sol tour only none high =
    let high_all : All (λ node. node ≤ nodes_of inst) (visited sol) =
    subst (λ (xs : List ℕ). All (λ node. node ≤ nodes_of inst) xs) (sym (visited_is sol tour only)) high in
    after_range inst sol none
    (λ place first. omega (arith, first.applies.1, high_all (place - 1) 0 (omega (arith, first.applies.0.0, first.applies.0.1))))

-- the first node that an earlier place has
pub repeated_first : (inst sol : Fields) (tour : List ℕ) (place : ℕ) → tours_of sol ≡ tour ∷ []
    → NoneOfTourBefore inst sol (RepeatedNode 1)
    → IsFirstPlace (IsAtEarlierPlace tour) tour place → IsFirstAgainstTour inst sol (RepeatedNode place)
repeated_first inst sol tour place only none first = record {
  applies = subst (λ (xs : List ℕ). IsFirstPlace (IsAtEarlierPlace xs) xs place) (sym (visited_is sol tour only)) first;
  none_before = none;
}

-- reasons 1 to 8 are ruled out
pub none_up_to_fixed : (inst sol : Fields) (tour : List ℕ) → tours_of sol ≡ tour ∷ []
    → NoneOfTourBefore inst sol (NodeOutOfRange 1)
    → All (λ node. node ≤ nodes_of inst) tour
    → HoldsAtNone (IsAtEarlierPlace tour) (length tour) → NoneOfTourBefore inst sol (FixedEdgeUnused 1)
none_up_to_fixed inst sol tour only none high once =
    let is : tour ≡ visited sol = sym (visited_is sol tour only) in
    let once_all : HoldsAtNone (IsAtEarlierPlace (visited sol)) (length (visited sol)) =
    subst (λ (xs : List ℕ). HoldsAtNone (IsAtEarlierPlace xs) (length xs)) is once in
    after_repeats inst sol (none_up_to_repeats inst sol tour only none high)
    (λ place first. once_all place first.applies.0.0 first.applies.0.1 first.applies.1)

-- if each node is at most n, and none repeated, the tour is a cycle, and reasons 1 to 8 are ruled out
pub cycle_found : (inst sol : Fields) (tour : List ℕ) (n : ℕ) → tours_of sol ≡ tour ∷ [] → length tour ≡ nodes_of inst
    → All (λ node. 1 ≤ node) tour → NoneOfTourBefore inst sol (NodeOutOfRange 1) → n ≡ nodes_of inst → All (λ node. node ≤ n) tour
    → HoldsAtNone (IsAtEarlierPlace tour) (length tour)
    → IsCycle (nodes_of inst) tour × NoneOfTourBefore inst sol (FixedEdgeUnused 1)
cycle_found inst sol tour n only full low none n_is high once =
    let high_all : All (λ node. node ≤ nodes_of inst) tour = subst (λ m. All (λ node. node ≤ m) tour) n_is high in (
      is_cycle (nodes_of inst) tour full low high_all once,
      none_up_to_fixed inst sol tour only none high_all once,
    )

-- the first fixed pair that isn't used
pub unused_first : (inst sol : Fields) (tour : List ℕ) (directed : Bool) (pairs : List (ℕ × ℕ)) (index : ℕ)
    → tours_of sol ≡ tour ∷ [] → directed ≡ is_directed inst.kind → pairs ≡ fixed_of inst
    → NoneOfTourBefore inst sol (FixedEdgeUnused 1) → IsFirstPlace (IsUnused directed tour pairs) pairs index
    → IsFirstAgainstTour inst sol (FixedEdgeUnused index)
unused_first inst sol tour directed pairs index only way listed none first = record {
  applies = subst (λ (xs : List ℕ). IsFirstPlace (IsUnused (is_directed inst.kind) xs (fixed_of inst)) (fixed_of inst) index)
      (sym (visited_is sol tour only))
      (subst (λ (ps : List (ℕ × ℕ)). IsFirstPlace (IsUnused (is_directed inst.kind) tour ps) ps index) listed
      (subst (λ (b : Bool). IsFirstPlace (IsUnused b tour pairs) pairs index) way first));
  none_before = none;
}

-- if every fixed pair is used it is accepted
pub is_yes : (inst sol : Fields) (tour : List ℕ) (directed : Bool) (pairs : List (ℕ × ℕ)) (size : ℤ) → tours_of sol ≡ tour ∷ []
    → directed ≡ is_directed inst.kind → pairs ≡ fixed_of inst
    → NoneOfTourBefore inst sol (FixedEdgeUnused 1) → IsCycle (nodes_of inst) tour → All (Uses directed tour) pairs
    → size ≡ length_of (cost inst) tour
    → ((reason : Reason) → AppliesToTour inst sol reason → ⊥)
    × ((cycle : List ℕ) × (tours_of sol ≡ cycle ∷ []) × IsTourOf inst cycle × (size ≡ length_of (cost inst) cycle))
is_yes inst sol tour directed pairs size only way listed none cycle used measured =
    let used_all : All (Uses (is_directed inst.kind) tour) (fixed_of inst) =
    subst (λ (ps : List (ℕ × ℕ)). All (Uses (is_directed inst.kind) tour) ps) listed
    (subst (λ (b : Bool). All (Uses b tour) pairs) way used) in
    let is : tour ≡ visited sol = sym (visited_is sol tour only) in
    let used_there : All (Uses (is_directed inst.kind) (visited sol)) (fixed_of inst) =
    subst (λ (xs : List ℕ). All (Uses (is_directed inst.kind) xs) (fixed_of inst)) is used_all in (
      after_fixed inst sol none
          (λ index first. first.applies.1 (used_there (index - 1) (0, 0) (omega (arith, first.applies.0.0, first.applies.0.1)))),
      (tour, only, record { cycle = cycle; fixed_used = used_all }, measured),
    )

-- ---- whether a cycle uses a pair, by the table of the next node of each node

-- if the second node doesn't come next, the first one must, and there may be no direction
pub uses_other : (directed : Bool) (cycle next : List ℕ) (pair : ℕ × ℕ) (back : Bool) → AreNext cycle next → 1 ≤ pair.0
    → get_or next pair.0 0 ≢ pair.1
    → directed ≡ false → back ≡ eqb (get_or next pair.1 0) pair.0
    → MatchBool back (Uses directed cycle pair) (Uses directed cycle pair → ⊥)
uses_other true cycle next pair back m some other two e = absurd (false≢true (sym two))
uses_other false cycle next pair true m some other two e =
    inr (m.only pair.1 pair.0 some (eqb-true (get_or next pair.1 0) pair.0 (sym e)))
uses_other false cycle next pair false m some other two e = none
  where
    none : Uses false cycle pair → ⊥
    none (inl f) = other (m.follows pair.0 pair.1 f)
    none (inr f) = false≢true (e ∙ eq-eqb (get_or next pair.1 0) pair.0 (m.follows pair.1 pair.0 f))

pub uses_none : (directed : Bool) (cycle next : List ℕ) (pair : ℕ × ℕ) → AreNext cycle next → get_or next pair.0 0 ≢ pair.1
    → directed ≡ true → Uses directed cycle pair → ⊥
uses_none true cycle next pair m other one f = other (m.follows pair.0 pair.1 f)
uses_none false cycle next pair m other one f = absurd (false≢true one)

-- ---- the table of the next node of each node of a cycle, one link more at a time

-- the k-th link goes from the k-th node to the one after it
link_at : (end node : ℕ) (nodes : List ℕ) (k : ℕ) (d : ℕ × ℕ) → k < suc (length nodes)
    → get_or (links_to end node nodes) k d ≡ (get_or (node ∷ nodes) k 0, get_or (nodes ++ end ∷ []) k 0)
link_at end node [] zero d lt = refl
link_at end node [] (suc k) d lt = absurd (omega (arith, lt))
link_at end node (next ∷ nodes) zero d lt = refl
link_at end node (next ∷ nodes) (suc k) d lt = link_at end next nodes k d (omega (arith, lt))

link_count : (end node : ℕ) (nodes : List ℕ) → length (links_to end node nodes) ≡ suc (length nodes)
link_count end node [] = refl
link_count end node (next ∷ nodes) = ap suc (link_count end next nodes)

-- the first links are in the table, and nothing else is
pub record SetUpTo (firsts seconds next : List ℕ) (count : ℕ) : Type 0 where
  pub set_to : (k : ℕ) → k < count → get_or next (get_or firsts k 0) 0 ≡ get_or seconds k 0
  pub only : (a b : ℕ) → 1 ≤ b → get_or next a 0 ≡ b → (k : ℕ) × (k < count) × (get_or firsts k 0 ≡ a) × (get_or seconds k 0 ≡ b)

set_read : (next : List ℕ) (at value a : ℕ) → at < length next
    → ((a ≡ at) × (get_or (set next at value) a 0 ≡ value)) ⊎ ((a ≢ at) × (get_or (set next at value) a 0 ≡ get_or next a 0))
set_read [] at value a lt = absurd (omega (arith, lt))
set_read (x ∷ next) zero value zero lt = inl (refl, refl)
set_read (x ∷ next) zero value (suc a) lt = inr (λ e. omega (arith, e), refl)
set_read (x ∷ next) (suc at) value zero lt = inr (λ e. omega (arith, e), refl)
set_read (x ∷ next) (suc at) value (suc a) lt = further (set_read next at value a (omega (arith, lt)))
  where
    further : ((a ≡ at) × (get_or (set next at value) a 0 ≡ value))
        ⊎ ((a ≢ at) × (get_or (set next at value) a 0 ≡ get_or next a 0))
        → ((suc a ≡ suc at) × (get_or (set next at value) a 0 ≡ value))
        ⊎ ((suc a ≢ suc at) × (get_or (set next at value) a 0 ≡ get_or next a 0))
    further (inl h) = inl (ap suc h.0, h.1)
    further (inr h) = inr (λ e. h.0 (omega (arith, e)), h.1)

next_last_or_before : (k count : ℕ) → k < count + 1 → (k ≡ count) ⊎ (k < count)
next_last_or_before k count h = by_cases (cases_lt k count)
  where
    by_cases : (k < count) ⊎ (count ≤ k) → (k ≡ count) ⊎ (k < count)
    by_cases (inl lt) = inr lt
    by_cases (inr le) = inl (omega arith)

-- one link more, from a node that is nowhere before
-- plan: by cases of the place: the link just set, or one before it, whose first node is another
pub set_more : (firsts seconds next : List ℕ) (count : ℕ) → count < length firsts → get_or firsts count 0 < length next
    → AllPairs (λ a b. a ≢ b) firsts
    → SetUpTo firsts seconds next count
    → SetUpTo firsts seconds (set next (get_or firsts count 0) (get_or seconds count 0)) (count + 1)
set_more firsts seconds next count inside fits once m = record {
  set_to = λ k lt. set_at k (next_last_or_before k count lt);
  only = λ a b some is. only_at a b some is (set_read next (get_or firsts count 0) (get_or seconds count 0) a fits);
}
  where
    new : List ℕ
    new = set next (get_or firsts count 0) (get_or seconds count 0)

    read_at : (k : ℕ) → (k ≡ count) ⊎ (k < count)
        → ((get_or firsts k 0 ≡ get_or firsts count 0) × (get_or new (get_or firsts k 0) 0 ≡ get_or seconds count 0))
        ⊎ ((get_or firsts k 0 ≢ get_or firsts count 0) × (get_or new (get_or firsts k 0) 0 ≡ get_or next (get_or firsts k 0) 0))
        → get_or new (get_or firsts k 0) 0 ≡ get_or seconds k 0
    read_at k (inl e) (inl h) = h.1 ∙ ap (λ j. get_or seconds j 0) (sym e)
    read_at k (inl e) (inr h) = absurd (h.0 (ap (λ j. get_or firsts j 0) e))
    read_at k (inr lt) (inl h) = absurd (once k count 0 lt inside h.0)
    read_at k (inr lt) (inr h) = h.1 ∙ m.set_to k lt

    set_at : (k : ℕ) → (k ≡ count) ⊎ (k < count) → get_or new (get_or firsts k 0) 0 ≡ get_or seconds k 0
    set_at k place = read_at k place (set_read next (get_or firsts count 0) (get_or seconds count 0) (get_or firsts k 0) fits)

    only_at : (a b : ℕ) → 1 ≤ b → get_or new a 0 ≡ b → ((a ≡ get_or firsts count 0) × (get_or new a 0 ≡ get_or seconds count 0))
        ⊎ ((a ≢ get_or firsts count 0) × (get_or new a 0 ≡ get_or next a 0))
        → (k : ℕ) × (k < count + 1) × (get_or firsts k 0 ≡ a) × (get_or seconds k 0 ≡ b)
    only_at a b some is (inl h) = (count, omega arith, sym h.0, sym h.1 ∙ is)
    only_at a b some is (inr h) = let found = m.only a b some (sym h.1 ∙ is) in
        (found.0, omega (arith, found.1), found.2, found.3)

-- with all links in it the table says what comes next
pub are_next : (first : ℕ) (others next : List ℕ) → SetUpTo (first ∷ others) (others ++ first ∷ []) next (suc (length others))
    → AreNext (first ∷ others) next
are_next first others next m = record {
  follows = λ a b found.
      let lt : found.0 < suc (length others) = omega (arith, found.1, link_count first first others) in
      let pair : (get_or (first ∷ others) found.0 0, get_or (others ++ first ∷ []) found.0 0) ≡ (a, b) =
      sym (link_at first first others found.0 (a, b) lt) ∙ found.2 in
      let from : get_or (first ∷ others) found.0 0 ≡ a = ap (λ (p : ℕ × ℕ). p.0) pair in
      let to : get_or (others ++ first ∷ []) found.0 0 ≡ b = ap (λ (p : ℕ × ℕ). p.1) pair in
      ap (λ v. get_or next v 0) (sym from) ∙ m.set_to found.0 lt ∙ to;
  only = λ a b some is.
      let found = m.only a b some is in
      let from : get_or (first ∷ others) found.0 0 ≡ a = found.2 in
      let to : get_or (others ++ first ∷ []) found.0 0 ≡ b = found.3 in (
        found.0,
        omega (arith, found.1, link_count first first others),
        link_at first first others found.0 (a, b) found.1
            ∙ (ap (λ v. (v, get_or (others ++ first ∷ []) found.0 0)) from ∙ ap (λ v. (a, v)) to),
      );
}

-- ---- in the code's terms

pub from_in : (n first : ℕ) (others : List ℕ) (index from size : ℕ) → IsCycle n (first ∷ others) → index < suc (length others)
    → from ≡ get_or (first ∷ others) index 0 → size ≡ n + 1 → from < size
from_in n first others index from size cycle lt is wide = omega (arith, (cycle.range index 0 lt).1, is, wide)

pub further : (first : ℕ) (others : List ℕ) (index : ℕ) → get_or others index 0 ≡ get_or (first ∷ others) (index + 1) 0
further first others index = ap (λ k. get_or (first ∷ others) k 0) (sym (add-one index))

pub next_at : (first : ℕ) (others : List ℕ) (index : ℕ) → index < length others
    → get_or others index 0 ≡ get_or (others ++ first ∷ []) index 0
next_at first [] index lt = absurd (omega (arith, lt))
next_at first (x ∷ others) zero lt = refl
next_at first (x ∷ others) (suc index) lt = next_at first others index (omega (arith, lt))

pub last_at : (first : ℕ) (others : List ℕ) → first ≡ get_or (others ++ first ∷ []) (length others) 0
last_at first [] = refl
last_at first (x ∷ others) = last_at first others

pub set_next : (n first : ℕ) (others next : List ℕ) (index from value : ℕ) → IsCycle n (first ∷ others)
    → index < suc (length others) → length next ≡ n + 1
    → from ≡ get_or (first ∷ others) index 0 → value ≡ get_or (others ++ first ∷ []) index 0
    → SetUpTo (first ∷ others) (others ++ first ∷ []) next index
    → SetUpTo (first ∷ others) (others ++ first ∷ []) (set next from value) (index + 1)
set_next n first others next index from value cycle lt wide from_is value_is m =
    let fits : get_or (first ∷ others) index 0 < length next =
    from_in n first others index (get_or (first ∷ others) index 0) (length next) cycle lt refl wide in
    subst (λ (v : ℕ). SetUpTo (first ∷ others) (others ++ first ∷ []) (set next v value) (index + 1)) (sym from_is)
    (subst (λ (v : ℕ). SetUpTo (first ∷ others) (others ++ first ∷ []) (set next (get_or (first ∷ others) index 0) v) (index + 1))
    (sym value_is)
    (set_more (first ∷ others) (others ++ first ∷ []) next index lt fits cycle.once m))
