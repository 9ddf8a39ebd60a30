-- The families in src/examples.rt, worked out: which are too many sets, or no family since a set has a node twice or
-- all nodes, how often the others are crossed, and the bounds of leaves with four and six nodes.
use Rattle.tsp_cases.proofs.Prelude.{◌≡◌, ◌≢◌, ℕ, ◌+◌, ◌-◌, ◌≤◌, Bool, true, false, [], ◌∷◌, inl, inr, refl, sym, arith, subst, ◌∙◌, ◌⊎◌, suc, not, cond, List, length, ◌+ℤ◌, ◌≤ℤ◌, ap, ◌==◌, ◌||◌, ap₂, both_ways, eq-eqb, ne_eqb, cases_eq, or_cases, eqb-true, ints, All-from_recursion, All-nil, AllPairs-cons, All, range_with_len, Any, pos, ℤ, ◌*ℤ◌, replicate, slice_index, slice_index_or, IsNode, none_or_one, IsCycle, length_of, crossing, weight_of, tree_of}
use Rattle.std.proofs.Math.Nat.{min_comm, max_comm}
use Rattle.std.proofs.lemmas.List.FromFn.{length-range_with_len, get_or-range_with_len, length-map-range_with_len, get_or-map-range_with_len}
use Rattle.std.specs.Int.Signed.{le_z_yes}
use Rattle.tsp_format.specs.Words.{IsSymmetric}
use Rattle.tsp_cases.proofs.LeavesBoundCycles.{leaf_even}
use Rattle.tsp_cases.proofs.Divisions.{same_least}
use Rattle.tsp_cases.proofs.PartWalks.{run_range, cycle_from}
use Rattle.tsp_cases.proofs.SmallCaseTrees.{of_six, near_one, grows_well, least_tree}
use Rattle.tsp_cases.specs.CaseTrees.{leaf_weight, IsLeafBoundOf, IsLeafBound, multiplied, AreLeafNumbers, IsFoundAt, IsAbove}
use Rattle.tsp_cases.specs.Cases.{LeafNumbers, Branch, Leaf}
use Rattle.tsp_cases.specs.Crossings.{has, AreAlike, AreUnlike, AreTooMany, ArePartsOf, UnlikeNodesNeedParts, sets_of, IsLeastLength}
use Rattle.tsp_cases.specs.Examples.{one_set_times, single_sets, one_set_twice, beside_all_six, all_six, IsCrossed, IsNoFamily, small_comb, small_family, cost_in, four_rows, six_rows, large, one_at_two, with_pair, without_pair, FourHave, SixHave}
use Rattle.tsp_cases.specs.Families.{comb_of, family_crossings, CyclesCrossFamilies, NumbersAreUnique, family_with, AreApart, IsComb, IsTooth, Family, IsFamily}
use Rattle.tsp_cases.specs.declared.decision.Decision.{Decision}

abbrev single : ℕ → ℕ → Bool
single node = has (node ∷ [])

has_itself : (node : ℕ) → single node node ≡ true
has_itself node = rw (eq-eqb node node refl) refl

has_no_other : (node other : ℕ) → node ≢ other → single node other ≡ false
has_no_other node other differ = rw (ne_eqb node other differ) refl

-- ---- one set often

same_often : (count i j : ℕ) → single 1 i ≡ single 1 j → AreAlike (one_set_times count) i j
same_often count i j same = λ k d lt.
    let long = length-map-range_with_len (λ (number : ℕ). single 1) 1 count in
    let at = get_or-map-range_with_len (λ (number : ℕ). single 1) 1 count k (1 + k) d (omega (arith, lt, long)) refl in
    subst (λ (set : ℕ → Bool). set i ≡ set j) (sym at) same

two_parts_of_sets : ArePartsOf 3 (one_set_times 63) (1 ∷ 2 ∷ [])
two_parts_of_sets = record {
  nodes = All-from_recursion (IsNode 3) (1 ∷ 2 ∷ []) ((omega arith, omega arith), ((omega arith, omega arith), tt));
  apart = AllPairs-cons (λ (i j : ℕ). AreAlike (one_set_times 63) i j → ⊥) 1 (2 ∷ [])
      (All-from_recursion (λ (j : ℕ). AreAlike (one_set_times 63) 1 j → ⊥) (2 ∷ []) ((λ same. both_ways true (same 0 (single 1) (omega arith)) refl), tt))
      (λ i j d below lt. absurd (omega (arith, below, lt)));
  each = λ node is. elim (cases_eq 1 node) [
    | inl first ↦ (0, 1, omega arith, refl, same_often 63 node 1 (subst (λ (x : ℕ). single 1 x ≡ true) first refl))
    | inr later ↦ (1, 2, omega arith, refl, same_often 63 node 2 (has_no_other 1 node later))
  ];
}

pub most_sets : UnlikeNodesNeedParts → AreTooMany 3 (one_set_times 63) → ⊥
most_sets unlike (inl many) = omega (arith, many)
most_sets unlike (inr parts) =
    let most = unlike 3 (one_set_times 63) (1 ∷ 2 ∷ []) parts.0 two_parts_of_sets parts.2 parts.3 in
    omega (arith, most, parts.1)

-- ---- sets of one node each

apart : (last i j : ℕ) → 1 ≤ i → i ≤ last → i ≢ j → AreAlike (single_sets last) i j → ⊥
apart last i j some most differ alike =
    let long = length-map-range_with_len single 1 last in
    let at = get_or-map-range_with_len single 1 last (i - 1) i (single i) (omega arith) (omega arith) in
    let same : single i i ≡ single i j = subst (λ (set : ℕ → Bool). set i ≡ set j) at (alike (i - 1) (single i) (omega (arith, long))) in
    both_ways (single i j) (has_no_other i j differ) (sym same ∙ has_itself i)

all_apart : (last : ℕ) → AreUnlike (single_sets last) (range_with_len 1 (last + 1))
all_apart last = λ i j d below lt.
    let long = length-range_with_len 1 (last + 1) in
    let first = get_or-range_with_len 1 (last + 1) i d (omega (arith, below, lt, long)) in
    let second = get_or-range_with_len 1 (last + 1) j d (omega (arith, lt, long)) in
    rw (first, second) (apart last (1 + i) (1 + j) (omega arith) (omega (arith, below, lt, long)) (λ same. omega (arith, same, below)))

are_nodes : (n : ℕ) → All (IsNode n) (range_with_len 1 n)
are_nodes n = All-from_recursion (IsNode n) (range_with_len 1 n) (run_range (IsNode n) 1 n (λ x low high. (low, omega (arith, high))))

each_a_part : (last : ℕ) → ArePartsOf (last + 1) (single_sets last) (range_with_len 1 (last + 1))
each_a_part last = record {
  nodes = are_nodes (last + 1);
  apart = all_apart last;
  each = λ node is.
      let long = length-range_with_len 1 (last + 1) in
      let at = get_or-range_with_len 1 (last + 1) (node - 1) node (omega (arith, is.0, is.1)) in
      let back : 1 + (node - 1) ≡ node = omega (arith, is.0) in
      (node - 1, node, omega (arith, is.0, is.1, long), at ∙ back, λ k d lt. refl);
}

pub most_parts : UnlikeNodesNeedParts → AreTooMany 14 (single_sets 13) → ⊥
most_parts unlike (inl many) = omega (arith, many)
most_parts unlike (inr parts) =
    let most = unlike 14 (single_sets 13) (range_with_len 1 14) parts.0 (each_a_part 13) parts.2 parts.3 in
    omega (arith, most, parts.1)

pub more_parts : AreTooMany 15 (single_sets 14)
more_parts = inr (range_with_len 1 15, refl, are_nodes 15, all_apart 14)

-- ---- small families of sets of six nodes

abbrev three : List ℕ
three = 1 ∷ 2 ∷ 3 ∷ []

-- ---- a lone set

pub lone_set : IsCrossed 2 3 (three ∷ [])
lone_set = inl (record {
  kind = inl (record {
    alone = refl;
    inside = 1;
    outside = 4;
    inside_node = (omega arith, omega arith);
    outside_node = (omega arith, omega arith);
    has_inside = refl;
    lacks_outside = refl;
  });
  least_is = refl;
  most_is = refl;
})

-- ---- the same set twice

alike : (i j : ℕ) → has three i ≡ has three j → AreAlike (sets_of one_set_twice) i j
alike i j same = All-from_recursion (λ set. set i ≡ set j) (sets_of one_set_twice) (same, (same, tt))

two_parts : ArePartsOf 6 (sets_of one_set_twice) (1 ∷ 4 ∷ [])
two_parts = record {
  nodes = All-from_recursion (IsNode 6) (1 ∷ 4 ∷ []) ((omega arith, omega arith), ((omega arith, omega arith), tt));
  apart = AllPairs-cons (λ (i j : ℕ). AreAlike (sets_of one_set_twice) i j → ⊥) 1 (4 ∷ [])
      (All-from_recursion (λ (j : ℕ). AreAlike (sets_of one_set_twice) 1 j → ⊥) (4 ∷ []) ((λ same. differ (same 0 (has three) (omega arith))), tt))
      (λ i j d below lt. absurd (omega (arith, below, lt)));
  each = of_six (λ node. Any (AreAlike (sets_of one_set_twice) node) (1 ∷ 4 ∷ [])) (first 1 refl) (first 2 refl) (first 3 refl) (second 4 refl) (second 5 refl) (second 6 refl);
}
  where
    differ : has three 1 ≡ has three 4 → ⊥
    differ same = both_ways true same refl

    first : (node : ℕ) → has three node ≡ true → Any (AreAlike (sets_of one_set_twice) node) (1 ∷ 4 ∷ [])
    first node is = (0, 1, omega arith, refl, alike node 1 is)

    second : (node : ℕ) → has three node ≡ false → Any (AreAlike (sets_of one_set_twice) node) (1 ∷ 4 ∷ [])
    second node is = (1, 4, omega arith, refl, alike node 4 is)

around : IsCycle 6 (1 ∷ 2 ∷ 3 ∷ 4 ∷ 5 ∷ 6 ∷ [])
around = cycle_from 6 (1 ∷ 2 ∷ 3 ∷ 4 ∷ 5 ∷ 6 ∷ [])
    ((omega arith, omega arith), ((omega arith, omega arith), ((omega arith, omega arith), ((omega arith, omega arith), ((omega arith, omega arith), ((omega arith, omega arith), tt)))))) (
      (less 1 2 (omega arith), (less 1 3 (omega arith), (less 1 4 (omega arith), (less 1 5 (omega arith), (less 1 6 (omega arith), tt))))),
      (
        (less 2 3 (omega arith), (less 2 4 (omega arith), (less 2 5 (omega arith), (less 2 6 (omega arith), tt)))),
        ((less 3 4 (omega arith), (less 3 5 (omega arith), (less 3 6 (omega arith), tt))), ((less 4 5 (omega arith), (less 4 6 (omega arith), tt)), ((less 5 6 (omega arith), tt), (tt, tt)))),
      ),
    )
    (of_six (λ x. (1 ≡ x) ⊎ ((2 ≡ x) ⊎ ((3 ≡ x) ⊎ ((4 ≡ x) ⊎ ((5 ≡ x) ⊎ ((6 ≡ x) ⊎ ⊥))))))
    (inl refl) (inr (inl refl)) (inr (inr (inl refl))) (inr (inr (inr (inl refl)))) (inr (inr (inr (inr (inl refl))))) (inr (inr (inr (inr (inr (inl refl)))))))
  where
    less : (a b : ℕ) → suc a ≤ b → a ≢ b
    less a b lt same = omega (arith, lt, same)

no_more_than_two : (i j : ℕ) → family_crossings (comb_of three (three ∷ [])) i j ≤ℤ pos 2
no_more_than_two i j = let one = none_or_one (cond (has three i) (not (has three j)) (has three j)) in omega (arith, ints, one.1)

module _ (cross : CyclesCrossFamilies) (add : (first second : ℕ → ℕ → ℤ) (nodes : List ℕ) → length_of (λ i j. first i j +ℤ second i j) nodes ≡ length_of first nodes +ℤ length_of second nodes)
    (unlike : UnlikeNodesNeedParts) where
  -- each of the two sets is crossed as often as the lone one
  four : (nodes : List ℕ) → IsCycle 6 nodes → pos 4 ≤ℤ length_of (family_crossings (comb_of three (three ∷ []))) nodes
  four nodes cycle =
      let one : pos 2 ≤ℤ length_of (λ i j. crossing (has three) i j +ℤ pos 0) nodes = cross 6 (family_with (record { least = 2; most = 3 }) (three ∷ [])) nodes lone_set cycle in
      let apart = add (crossing (has three)) (λ i j. pos 0) nodes in
      let both : length_of (family_crossings (comb_of three (three ∷ []))) nodes ≡ length_of (crossing (has three)) nodes +ℤ length_of (λ i j. crossing (has three) i j +ℤ pos 0) nodes =
      add (crossing (has three)) (λ i j. crossing (has three) i j +ℤ pos 0) nodes in
      let none : length_of (λ i j. pos 0) nodes ≡ pos 0 = nothing nodes in
      omega (arith, ints, one, apart, both, none)
    where
      nothing : (nodes : List ℕ) → length_of (λ i j. pos 0) nodes ≡ pos 0
      nothing nodes = let twice = add (λ i j. pos 0) (λ i j. pos 0) nodes in omega (arith, ints, twice)

  pub set_twice : IsCrossed 4 2 one_set_twice
  set_twice = inr (record {
    unknown = λ kind. elim kind [
      | inl lone ↦ absurd (let none = ap length lone.alone in omega (arith, none))
      | inr comb ↦ let odd = comb.odd in let some = comb.some in omega (arith, odd, some)
    ];
    few = few;
    parted = omega arith;
    least_is = record { nodes = 1 ∷ 2 ∷ 3 ∷ 4 ∷ 5 ∷ 6 ∷ []; cycle = around; length_is = refl; below = four };
    most_is = record {
      first = 1;
      second = 4;
      first_node = (omega arith, omega arith);
      second_node = (omega arith, omega arith);
      most_is = refl;
      above = λ i j in_i in_j. no_more_than_two i j;
    };
  })
    where
      few : AreTooMany 6 (sets_of one_set_twice) → ⊥
      few (inl many) = omega (arith, many)
      few (inr parts) = let most = unlike 6 (sets_of one_set_twice) (1 ∷ 4 ∷ []) parts.0 two_parts parts.2 parts.3 in omega (arith, most, parts.1)

  pub not_others : NumbersAreUnique → (least most : ℕ) → IsCrossed least most one_set_twice → (4 ≡ least) × (2 ≡ most)
  not_others unique least most is =
      let same = unique 6 (family_with (record { least = 4; most = 2 }) one_set_twice) (family_with (record { least = least; most = most }) one_set_twice) refl set_twice is in
      (ap (λ c. c.least) same, ap (λ c. c.most) same)

-- ---- a set beside one that has all nodes

abbrev six : List ℕ
six = 1 ∷ 2 ∷ 3 ∷ 4 ∷ 5 ∷ 6 ∷ []

in_six : (node : ℕ) → IsNode 6 node → has six node ≡ true
in_six = of_six (λ x. has six x ≡ true) refl refl refl refl refl refl

-- two nodes cross no other set than the first one
by_the_first : (i j : ℕ) → IsNode 6 i → IsNode 6 j → crossing (has three) i j +ℤ pos 0 ≡ family_crossings (comb_of three all_six) i j
by_the_first i j in_i in_j = rw (in_six i in_i, in_six j in_j) refl

parts_beside : ArePartsOf 6 (sets_of beside_all_six) (1 ∷ 4 ∷ [])
parts_beside = record {
  nodes = All-from_recursion (IsNode 6) (1 ∷ 4 ∷ []) ((omega arith, omega arith), ((omega arith, omega arith), tt));
  apart = AllPairs-cons (λ (i j : ℕ). AreAlike (sets_of beside_all_six) i j → ⊥) 1 (4 ∷ [])
      (All-from_recursion (λ (j : ℕ). AreAlike (sets_of beside_all_six) 1 j → ⊥) (4 ∷ []) ((λ same. both_ways true (same 0 (has three) (omega arith)) refl), tt))
      (λ i j d below lt. absurd (omega (arith, below, lt)));
  each = of_six (λ node. Any (AreAlike (sets_of beside_all_six) node) (1 ∷ 4 ∷ [])) (first 1 refl refl) (first 2 refl refl) (first 3 refl refl) (second 4 refl refl) (second 5 refl refl)
      (second 6 refl refl);
}
  where
    first : (node : ℕ) → has three node ≡ true → has six node ≡ true → Any (AreAlike (sets_of beside_all_six) node) (1 ∷ 4 ∷ [])
    first node is inside = (0, 1, omega arith, refl, All-from_recursion (λ set. set node ≡ set 1) (sets_of beside_all_six) (is, (inside, tt)))

    second : (node : ℕ) → has three node ≡ false → has six node ≡ true → Any (AreAlike (sets_of beside_all_six) node) (1 ∷ 4 ∷ [])
    second node is inside = (1, 4, omega arith, refl, All-from_recursion (λ set. set node ≡ set 4) (sets_of beside_all_six) (is, (inside, tt)))

-- plan: no pair crosses the set of all nodes, so the least crossings are those of the lone set (`alone`)
pub set_beside_all : CyclesCrossFamilies → UnlikeNodesNeedParts → IsCrossed 2 1 beside_all_six
set_beside_all cross unlike = inr (record {
  unknown = λ kind. elim kind [
    | inl lone ↦ absurd (let none = ap length lone.alone in omega (arith, none))
    | inr comb ↦ let odd = comb.odd in let some = comb.some in omega (arith, odd, some)
  ];
  few = few;
  parted = omega arith;
  least_is = same_least 6 (λ i j. crossing (has three) i j +ℤ pos 0) (family_crossings (comb_of three all_six)) (pos 2) by_the_first alone;
  most_is = record {
    first = 1;
    second = 4;
    first_node = (omega arith, omega arith);
    second_node = (omega arith, omega arith);
    most_is = refl;
    above = λ i j in_i in_j.
        let one = none_or_one (cond (has three i) (not (has three j)) (has three j)) in
        let same = by_the_first i j in_i in_j in
        omega (arith, ints, one.1, same);
  };
})
  where
    few : AreTooMany 6 (sets_of beside_all_six) → ⊥
    few (inl many) = omega (arith, many)
    few (inr parts) = let most = unlike 6 (sets_of beside_all_six) (1 ∷ 4 ∷ []) parts.0 parts_beside parts.2 parts.3 in omega (arith, most, parts.1)

    alone : IsLeastLength 6 (λ i j. crossing (has three) i j +ℤ pos 0) (pos 2)
    alone = record {
      nodes = 1 ∷ 2 ∷ 3 ∷ 4 ∷ 5 ∷ 6 ∷ [];
      cycle = around;
      length_is = refl;
      below = λ nodes cycle. cross 6 (family_with (record { least = 2; most = 3 }) (three ∷ [])) nodes lone_set cycle;
    }

-- ---- no families

pub all_nodes : IsNoFamily all_six
all_nodes good = elim good.family [
  | inl known ↦ elim known.kind [
    | inl lone ↦ both_ways (has (1 ∷ 2 ∷ 3 ∷ 4 ∷ 5 ∷ 6 ∷ []) lone.outside) lone.lacks_outside (inside lone.outside lone.outside_node)
    | inr comb ↦ let odd = comb.odd in omega (arith, odd)
  ]
  | inr other ↦
      let most = other.most_is in
      let none : crossing (has (1 ∷ 2 ∷ 3 ∷ 4 ∷ 5 ∷ 6 ∷ [])) most.first most.second ≡ pos 0 = rw (inside most.first most.first_node, inside most.second most.second_node) refl in
      let is = most.most_is in
      let some = other.parted in
      omega (arith, ints, none, is, some)
]
  where
    inside : (node : ℕ) → IsNode 6 node → has (1 ∷ 2 ∷ 3 ∷ 4 ∷ 5 ∷ 6 ∷ []) node ≡ true
    inside = of_six (λ x. has (1 ∷ 2 ∷ 3 ∷ 4 ∷ 5 ∷ 6 ∷ []) x ≡ true) refl refl refl refl refl refl

pub node_twice : IsNoFamily ((1 ∷ 2 ∷ 1 ∷ []) ∷ (1 ∷ 3 ∷ []) ∷ [])
node_twice good = good.once 0 [] (omega arith) 0 2 0 (omega arith) (omega arith) refl

-- ---- the bounds of small certificates: four nodes with a branch, and six with a comb

costs_even : (rows : List (List ℕ)) → IsSymmetric (cost_in rows)
costs_even rows = λ i j other. ap₂ (λ a b. pos (slice_index (slice_index_or rows (a - 1) []) (b - a - 1))) (min_comm i j) (max_comm i j)

-- the bound of a leaf, whose minimum 1-tree SmallCaseTrees.antt tests
leaf_bound : (n : ℕ) (rows : List (List ℕ)) (scale : ℤ) (potentials : List ℤ) (taken avoided : List (ℕ × ℕ × ℤ)) (families : List (Family × ℤ)) (bound : ℤ) (first second : ℕ) (added : List (ℕ × ℕ))
    → 3 ≤ n → 2 + length added ≡ n
    → near_one n (leaf_weight scale potentials taken avoided families (cost_in rows)) first second ≡ true
    → grows_well n (leaf_weight scale potentials taken avoided families (cost_in rows)) (λ x. x == 2) added ≡ true
    → IsLeafBoundOf scale potentials taken families (weight_of (leaf_weight scale potentials taken avoided families (cost_in rows)) (tree_of first second added)) bound
    → IsLeafBound n (cost_in rows) scale potentials taken avoided families bound
leaf_bound n rows scale potentials taken avoided families bound first second added some count near grows bound_is = record {
  tree = tree_of first second added;
  least = least_tree n (leaf_weight scale potentials taken avoided families (cost_in rows)) first second added some count
      (leaf_even scale potentials taken avoided families (cost_in rows) (costs_even rows)) near grows;
  bound_is = bound_is;
}

-- ---- four nodes

abbrev no_numbers_of : ℕ → List ℤ → LeafNumbers
no_numbers_of n multipliers = record { potentials = replicate n (pos 0); multipliers = multipliers }

four_alone : IsLeafBound 4 (cost_in four_rows) (pos 1) (replicate 4 (pos 0)) [] [] [] (pos 5)
four_alone = leaf_bound 4 four_rows (pos 1) (replicate 4 (pos 0)) [] [] [] (pos 5) 2 3 ((2, 3) ∷ (2, 4) ∷ []) (omega arith) refl refl refl
    (record { above = le_z_yes tt; least = λ other above. let known : pos 5 ≤ℤ (pos 1 *ℤ other) = above in omega (arith, ints, known) })

four_with : IsLeafBound 4 (cost_in four_rows) (pos 1) one_at_two.potentials ((1, 2, large) ∷ []) [] [] (pos 6)
four_with = leaf_bound 4 four_rows (pos 1) one_at_two.potentials ((1, 2, large) ∷ []) [] [] (pos 6) 2 3 ((2, 3) ∷ (2, 4) ∷ []) (omega arith) refl refl refl
    (record { above = le_z_yes tt; least = λ other above. let known : pos 6 ≤ℤ (pos 1 *ℤ other) = above in omega (arith, ints, known) })

four_without : IsLeafBound 4 (cost_in four_rows) (pos 1) one_at_two.potentials [] ((1, 2, large) ∷ []) [] (pos 6)
four_without = leaf_bound 4 four_rows (pos 1) one_at_two.potentials [] ((1, 2, large) ∷ []) [] (pos 6) 3 4 ((2, 3) ∷ (2, 4) ∷ []) (omega arith) refl refl refl
    (record { above = le_z_yes tt; least = λ other above. let known : pos 6 ≤ℤ (pos 1 *ℤ other) = above in omega (arith, ints, known) })

abbrev Above : ℤ → List Decision × LeafNumbers → Type 0
Above bound leaf = IsAbove (IsFoundAt false 4 (cost_in four_rows) (pos 1) large []) bound leaf

pub four_have_five : FourHave (Leaf (no_numbers_of 4 []) ∷ []) (pos 5)
four_have_five =
    let leaves : List (List Decision × LeafNumbers) = ([], no_numbers_of 4 []) ∷ [] in (
      record {
        families_are = All-nil (IsFamily 4);
        whole = refl;
        numbers_are = All-from_recursion (λ leaf. AreLeafNumbers 4 leaf.1) leaves (record { each_node = refl; signs = All-nil (λ multiplier. pos 0 ≤ℤ multiplier) }, tt);
      },
      (
        All-from_recursion (Above (pos 5)) leaves (inr (pos 5, four_alone, le_z_yes tt), tt),
        (0, ([], no_numbers_of 4 []), omega arith, refl, four_alone),
      ),
    )

pub four_have_six : FourHave (Branch (1, 2) ∷ Leaf one_at_two ∷ Leaf one_at_two ∷ []) (pos 6)
four_have_six =
    let leaves : List (List Decision × LeafNumbers) = (with_pair 1 2 ∷ [], one_at_two) ∷ (without_pair 1 2 ∷ [], one_at_two) ∷ [] in
    let numbers : AreLeafNumbers 4 one_at_two = record { each_node = refl; signs = All-nil (λ multiplier. pos 0 ≤ℤ multiplier) } in (
      record { families_are = All-nil (IsFamily 4); whole = refl; numbers_are = All-from_recursion (λ leaf. AreLeafNumbers 4 leaf.1) leaves (numbers, (numbers, tt)) },
      (
        All-from_recursion (Above (pos 6)) leaves (inr (pos 6, four_with, le_z_yes tt), (inr (pos 6, four_without, le_z_yes tt), tt)),
        (0, (with_pair 1 2 ∷ [], one_at_two), omega arith, refl, four_with),
      ),
    )

-- ---- six nodes with a comb

pair_apart : (a b : ℕ) (others : List ℕ) → has others a ≡ false → has others b ≡ false → AreApart (has (a ∷ b ∷ [])) (has others)
pair_apart a b others p q = λ node h. elim (or_cases (a == node) ((b == node) || false) h) [
  | inl t ↦ subst (λ (x : ℕ). has others x ≡ false) (eqb-true a node t) p
  | inr u ↦ elim (or_cases (b == node) false u) [
    | inl t ↦ subst (λ (x : ℕ). has others x ≡ false) (eqb-true b node t) q
    | inr none ↦ absurd (both_ways false refl none)
  ]
]

-- the tooth of two nodes, the first of which is in the handle
tooth : (a b : ℕ) → IsNode 6 a → IsNode 6 b → has (1 ∷ 2 ∷ 3 ∷ []) a ≡ true → has (1 ∷ 2 ∷ 3 ∷ []) b ≡ false → has (a ∷ b ∷ []) a ≡ true → has (a ∷ b ∷ []) b ≡ true
    → IsTooth 6 (has (1 ∷ 2 ∷ 3 ∷ [])) (has (a ∷ b ∷ []))
tooth a b a_in b_in inside outside first second = record {
  inside = a;
  outside = b;
  inside_node = a_in;
  outside_node = b_in;
  inside_tooth = first;
  outside_tooth = second;
  in_handle = inside;
  off_handle = outside;
}

small_comb_is : IsComb 6 small_comb
small_comb_is =
    let one = has (1 ∷ 4 ∷ []) in
    let two = has (2 ∷ 5 ∷ []) in
    let three = has (3 ∷ 6 ∷ []) in
    record {
      half = 1;
      some = omega arith;
      odd = refl;
      reach = All-from_recursion (IsTooth 6 small_comb.handle) small_comb.teeth (
        tooth 1 4 (omega arith, omega arith) (omega arith, omega arith) refl refl refl refl,
        (
          tooth 2 5 (omega arith, omega arith) (omega arith, omega arith) refl refl refl refl,
          (tooth 3 6 (omega arith, omega arith) (omega arith, omega arith) refl refl refl refl, tt),
        ),
      );
      apart = AllPairs-cons AreApart one (two ∷ three ∷ []) (All-from_recursion (AreApart one) (two ∷ three ∷ []) (pair_apart 1 4 (2 ∷ 5 ∷ []) refl refl, (pair_apart 1 4 (3 ∷ 6 ∷ []) refl refl, tt)))
          (AllPairs-cons AreApart two (three ∷ []) (All-from_recursion (AreApart two) (three ∷ []) (pair_apart 2 5 (3 ∷ 6 ∷ []) refl refl, tt))
          (AllPairs-cons AreApart three [] (All-nil (AreApart three)) (λ i j d below lt. absurd (omega (arith, lt)))));
    }

abbrev six_tree : List (ℕ × ℕ)
six_tree = (2, 5) ∷ (2, 3) ∷ (3, 6) ∷ (5, 4) ∷ []

six_alone : IsLeafBound 6 (cost_in six_rows) (pos 2) (replicate 6 (pos 0)) [] [] [] (pos 9)
six_alone = leaf_bound 6 six_rows (pos 2) (replicate 6 (pos 0)) [] [] [] (pos 9) 4 2 six_tree (omega arith) refl refl refl
    (record { above = le_z_yes tt; least = λ other above. let known : pos 18 ≤ℤ (pos 2 *ℤ other) = above in omega (arith, ints, known) })

six_combed : IsLeafBound 6 (cost_in six_rows) (pos 2) (replicate 6 (pos 0)) [] [] ((small_family, pos 1) ∷ []) (pos 10)
six_combed = leaf_bound 6 six_rows (pos 2) (replicate 6 (pos 0)) [] [] ((small_family, pos 1) ∷ []) (pos 10) 4 2 six_tree (omega arith) refl refl refl
    (record { above = le_z_yes tt; least = λ other above. let known : pos 19 ≤ℤ (pos 2 *ℤ other) = above in omega (arith, ints, known) })

six_have : (multipliers : List ℤ) (bound : ℤ) → All (λ multiplier. pos 0 ≤ℤ multiplier) multipliers
    → IsLeafBound 6 (cost_in six_rows) (pos 2) (replicate 6 (pos 0)) [] [] (multiplied (small_family ∷ []) multipliers) bound → SixHave multipliers bound
six_have multipliers bound signs leaf =
    let leaves : List (List Decision × LeafNumbers) = ([], no_numbers_of 6 multipliers) ∷ [] in (
      record {
        families_are = All-from_recursion (IsFamily 6) (small_family ∷ []) (inl (record { kind = inr small_comb_is; least_is = refl; most_is = refl }), tt);
        whole = refl;
        numbers_are = All-from_recursion (λ leaf. AreLeafNumbers 6 leaf.1) leaves (record { each_node = refl; signs = signs }, tt);
      },
      (
        All-from_recursion (IsAbove (IsFoundAt false 6 (cost_in six_rows) (pos 2) large (small_family ∷ [])) bound) leaves (inr (bound, leaf, omega (arith, ints)), tt),
        (0, ([], no_numbers_of 6 multipliers), omega arith, refl, leaf),
      ),
    )

pub six_have_nine : SixHave [] (pos 9)
six_have_nine = six_have [] (pos 9) (All-nil (λ multiplier. pos 0 ≤ℤ multiplier)) six_alone

pub six_have_ten : SixHave (pos 1 ∷ []) (pos 10)
six_have_ten = six_have (pos 1 ∷ []) (pos 10) (All-from_recursion (λ multiplier. pos 0 ≤ℤ multiplier) (pos 1 ∷ []) (le_z_yes tt, tt)) six_combed
