-- Step 5 of the cut argument in docs/proof.md: how often a cycle uses a pair or crosses a part, and bounds with numbers
-- on pairs. Crates above import it, too.
use Rattle.tsp_theory.proofs.Prelude.{◌≡◌, ℕ, Bool, true, false, not, cond, List, [], ◌∷◌, ℤ, ◌+ℤ◌, ◌≤ℤ◌, ◌⊎◌, inl, inr, refl, arith, ap, sym, ◌∙◌, ◌≢◌, zero, suc, ◌≤◌, ◌==◌, ◌&&◌, ◌||◌, subst, length, ap₂, subst₂, cases_Bool, both_ways, cases_eq, false_from_ne_true, and_parts, and_from, or_cases, or_left, or_right, eqb-true, eq-eqb, ne_eqb, ints, All-from_recursion, All-contains, recursion_from_All, AllByRecursion, Contains, AllPairs, list_any, pos, if◌then◌else◌, ◌-ℤ◌, ◌*ℤ◌}
use Rattle.std.proofs.Math.Bool.{or_comm}
use Rattle.std.proofs.lemmas.Bool.Decides.{nat_tests}
use Rattle.std.proofs.lemmas.List.Folds.{Any-from_list_any, list_any_at}
use Rattle.tsp_theory.proofs.Cycles.{Laws, has_node, entries_of_links, scaled_length, weight_even, least_tree_below}
use Rattle.tsp_theory.proofs.Sums.{sum_int_by-add}
use Rattle.tsp_theory.specs.Bounds.{is_same_pair, IsScale, entry, total, weight_between, pair_of, number_on, numbers_on, triples_total, adjusted, UsesEach, UsesNone, AdjustedBoundsBoundCycles, UnadjustedBoundsAreNodeBounds}
use Rattle.tsp_theory.specs.Tour.{links_to, sum_int_by, length_of, IsCycle, links, AreNeighbours}
use Rattle.tsp_theory.specs.Tree.{crosses, crossing, weight_of}

abbrev pub one_if : Bool → ℤ
one_if b = if b then pos 1 else pos 0

pub none_or_one : (b : Bool) → (pos 0 ≤ℤ one_if b) × (one_if b ≤ℤ pos 1)
none_or_one true = (omega (arith, ints), omega (arith, ints))
none_or_one false = (omega (arith, ints), omega (arith, ints))

-- the sum over the links from a node along others to an end
abbrev sum_to : (ℕ → ℕ → ℤ) → ℕ → ℕ → List ℕ → ℤ
sum_to f end from others = sum_int_by (λ link. f link.0 link.1) (links_to end from others)

-- ---- evenly often

turns : (a b c : Bool)
    → (half : ℤ) × (one_if (cond a (not b) b) +ℤ one_if (cond b (not c) c) ≡ (half +ℤ half) +ℤ one_if (cond a (not c) c))
turns true true c = (pos 0, omega (arith, ints))
turns true false true = (pos 1, refl)
turns true false false = (pos 0, refl)
turns false true true = (pos 0, refl)
turns false true false = (pos 1, refl)
turns false false c = (pos 0, omega (arith, ints))

-- from one node to another a list crosses as often as the two ends do alone, or by an even number more
parity : (part : ℕ → Bool) (end from : ℕ) (others : List ℕ)
    → (half : ℤ) × (sum_to (crossing part) end from others ≡ (half +ℤ half) +ℤ crossing part from end)
parity part end from [] = (pos 0, omega (arith, ints))
parity part end from (next ∷ others) =
    let rest = parity part end next others in
    let turn = turns (part from) (part next) (part end) in
    (rest.0 +ℤ turn.0, omega (arith, ints, rest.1, turn.1))

pub evenly : (part : ℕ → Bool) (nodes : List ℕ) → (half : ℤ) × (length_of (crossing part) nodes ≡ half +ℤ half)
evenly part [] = (pos 0, refl)
evenly part (x ∷ xs) = let p = parity part x x xs in (p.0, omega (arith, ints, p.1, none (part x)))
  where
    none : (a : Bool) → one_if (cond a (not a) a) ≡ pos 0
    none true = refl
    none false = refl

-- ---- at least twice

crossed : (part : ℕ → Bool) (side : Bool) (end from : ℕ) (others : List ℕ) → part from ≡ side
    → AllByRecursion (λ y. part y ≡ side) others ⊎ (pos 1 ≤ℤ sum_to (crossing part) end from others)
crossed part side end from [] h = inl tt
crossed part side end from (next ∷ others) h = elim (cases_Bool (crosses part (from, next))) [
  | inl t ↦ inr (omega (arith, ints, ap one_if t, positive next others))
  | inr f ↦
      let here : part next ≡ side = same (part from) (part next) f ∙ h in
      elim (crossed part side end next others here) [
        | inl all ↦ inl (here, all)
        | inr more ↦ inr (omega (arith, ints, ap one_if f, more))
      ]
]
  where
    same : (x y : Bool) → cond x (not y) y ≡ false → y ≡ x
    same true true k = refl
    same true false k = sym k
    same false y k = k

    positive : (from : ℕ) (others : List ℕ) → pos 0 ≤ℤ sum_to (crossing part) end from others
    positive from [] = omega (arith, ints, (none_or_one (crosses part (from, end))).0)
    positive from (next ∷ others) = omega (arith, ints, (none_or_one (crosses part (from, next))).0, positive next others)

pub twice : (part : ℕ → Bool) (nodes : List ℕ) (inside outside : ℕ) → Contains nodes inside → Contains nodes outside
    → part inside ≡ true → part outside ≡ false → pos 2 ≤ℤ length_of (crossing part) nodes
twice part [] inside outside in_nodes out_nodes p q = absurd (omega (arith, in_nodes.1))
twice part (x ∷ xs) inside outside in_nodes out_nodes p q = elim (crossed part (part x) x x xs refl) [
  | inl all ↦
      let each = All-from_recursion (λ y. part y ≡ part x) (x ∷ xs) (refl, all) in
      let first : part inside ≡ part x = All-contains (λ y. part y ≡ part x) (x ∷ xs) inside each in_nodes in
      let second : part outside ≡ part x = All-contains (λ y. part y ≡ part x) (x ∷ xs) outside each out_nodes in
      absurd (both_ways (part inside) (first ∙ (sym second ∙ q)) p)
  | inr more ↦ let even = evenly part (x ∷ xs) in omega (arith, ints, more, even.1)
]

-- ---- two neighbours in a cycle of three nodes or more are joined by one link

-- ---- sums and counts

pub sum_below : {X : Type 0} (f g : X → ℤ) (xs : List X) → ((x : X) → f x ≤ℤ g x) → sum_int_by f xs ≤ℤ sum_int_by g xs
sum_below f g [] h = omega (arith, ints)
sum_below f g (x ∷ xs) h = omega (arith, ints, h x, sum_below f g xs h)

-- how many pass a test
abbrev pub count : {X : Type 0} → (X → Bool) → List X → ℤ
count test xs = sum_int_by (λ x. one_if (test x)) xs

pub count_positive : {X : Type 0} (test : X → Bool) (xs : List X) → pos 0 ≤ℤ count test xs
count_positive test [] = omega (arith, ints)
count_positive test (x ∷ xs) = omega (arith, ints, (none_or_one (test x)).0, count_positive test xs)

pub count_any : {X : Type 0} (test : X → Bool) (xs : List X) → list_any test xs ≡ true → pos 1 ≤ℤ count test xs
count_any test [] h = absurd (both_ways false refl h)
count_any test (x ∷ xs) h = elim (cases_Bool (test x)) [
  | inl t ↦ omega (arith, ints, ap one_if t, count_positive test xs)
  | inr f ↦ omega (arith, ints, ap one_if f, count_any test xs (sym (ap (λ b. b || list_any test xs) f) ∙ h))
]

count_none : {X : Type 0} (test : X → Bool) (xs : List X) → list_any test xs ≡ false → count test xs ≡ pos 0
count_none test [] h = refl
count_none test (x ∷ xs) h = elim (cases_Bool (test x)) [
  | inl t ↦ absurd (both_ways (list_any test (x ∷ xs)) h (or_left (test x) (list_any test xs) t))
  | inr f ↦ omega (arith, ints, ap one_if f, count_none test xs (sym (ap (λ b. b || list_any test xs) f) ∙ h))
]

-- a number for each that passes: none, or that number, if none or one does
pub sum_counted : {X : Type 0} (test : X → Bool) (z : ℤ) (xs : List X)
    → ((count test xs ≡ pos 0) → sum_int_by (λ x. if test x then z else pos 0) xs ≡ pos 0)
    × ((count test xs ≡ pos 1) → sum_int_by (λ x. if test x then z else pos 0) xs ≡ z)
sum_counted test z [] = (λ h. refl, λ h. absurd (omega (arith, ints, h)))
sum_counted test z (x ∷ xs) =
    let rest = sum_counted test z xs in
    let some = count_positive test xs in
    elim (cases_Bool (test x)) [
      | inl t ↦ rw t (
        λ h. absurd (omega (arith, ints, h, some)),
        λ h. let none = rest.0 (omega (arith, ints, h)) in
            omega (arith, ints, none),
      )
      | inr f ↦ rw f (
        λ h. let none = rest.0 (omega (arith, ints, h)) in
            omega (arith, ints, none),
        λ h. let one = rest.1 (omega (arith, ints, h)) in omega (arith, ints, one),
      )
    ]

-- a node is at most once in a list of different nodes
pub once : (a : ℕ) (xs : List ℕ) → AllPairs (λ x y. x ≢ y) xs → count (λ x. a == x) xs ≤ℤ pos 1
once a [] h = omega (arith, ints)
once a (x ∷ xs) h = elim (cases_eq a x) [
  | inl same ↦
      let none : count (λ y. x == y) xs ≡ pos 0 =
      never xs (recursion_from_All (λ y. x ≢ y) xs (λ k d lt. h zero (suc k) d (omega arith) (omega arith))) in
      omega (arith, ints, (none_or_one (a == x)).1, subst (λ (z : ℕ). count (λ y. z == y) xs ≡ pos 0) (sym same) none)
  | inr other ↦ omega (
    arith,
    ints,
    ap one_if (ne_eqb a x other),
    once a xs (λ i j d below lt. h (suc i) (suc j) d (omega arith) (omega arith)),
  )
]
  where
    never : (ys : List ℕ) → AllByRecursion (λ y. x ≢ y) ys → count (λ y. x == y) ys ≡ pos 0
    never [] k = refl
    never (y ∷ ys) k = omega (arith, ints, ap one_if (ne_eqb x y k.0), never ys k.1)

-- ---- the links that join a pair

neighbours_found : (nodes : List ℕ) (pair : ℕ × ℕ) → list_any (is_same_pair pair) (links nodes) ≡ true → AreNeighbours nodes pair
neighbours_found nodes pair h =
    let found = Any-from_list_any (is_same_pair pair) (links nodes) h in
    let link = found.1 in
    let here : Contains (links nodes) link = (found.0, found.2, found.3) in
    elim (or_cases ((pair.0 == link.0) && (pair.1 == link.1)) ((pair.1 == link.0) && (pair.0 == link.1)) found.4) [
      | inl t ↦ let both = and_parts (pair.0 == link.0) (pair.1 == link.1) t in
          inl (at pair link (eqb-true pair.0 link.0 both.0) (eqb-true pair.1 link.1 both.1) here)
      | inr t ↦ let both = and_parts (pair.1 == link.0) (pair.0 == link.1) t in
          inr (at (pair.1, pair.0) link (eqb-true pair.1 link.0 both.0) (eqb-true pair.0 link.1 both.1) here)
    ]
  where
    at : (p link : ℕ × ℕ) → p.0 ≡ link.0 → p.1 ≡ link.1 → Contains (links nodes) link → Contains (links nodes) p
    at p link first second here =
        subst (λ (x : ℕ). Contains (links nodes) (x, p.1)) (sym first)
        (subst (λ (y : ℕ). Contains (links nodes) (link.0, y)) (sym second) here)

found_neighbours : (nodes : List ℕ) (pair : ℕ × ℕ) → AreNeighbours nodes pair → list_any (is_same_pair pair) (links nodes) ≡ true
found_neighbours nodes pair (inl c) =
    list_any_at (is_same_pair pair) (links nodes) c.0 pair c.1 (ap (is_same_pair pair) c.2
    ∙ or_left ((pair.0 == pair.0) && (pair.1 == pair.1)) ((pair.1 == pair.0) && (pair.0 == pair.1))
    (and_from (pair.0 == pair.0) (pair.1 == pair.1) (eq-eqb pair.0 pair.0 refl) (eq-eqb pair.1 pair.1 refl)))
found_neighbours nodes pair (inr c) =
    list_any_at (is_same_pair pair) (links nodes) c.0 (pair.1, pair.0) c.1 (ap (is_same_pair pair) c.2
    ∙ or_right ((pair.0 == pair.1) && (pair.1 == pair.0)) ((pair.1 == pair.1) && (pair.0 == pair.0))
    (and_from (pair.1 == pair.1) (pair.0 == pair.0) (eq-eqb pair.1 pair.1 refl) (eq-eqb pair.0 pair.0 refl)))

pub neighbours_or_not : (nodes : List ℕ) (pair : ℕ × ℕ) → AreNeighbours nodes pair ⊎ (AreNeighbours nodes pair → ⊥)
neighbours_or_not nodes pair = elim (cases_Bool (list_any (is_same_pair pair) (links nodes))) [
  | inl t ↦ inl (neighbours_found nodes pair t)
  | inr f ↦ inr (λ h. both_ways (list_any (is_same_pair pair) (links nodes)) f (found_neighbours nodes pair h))
]

-- ---- one link at most: a cycle crosses the part of the two nodes at least twice, and each of the two ends two links

abbrev either : ℕ × ℕ → ℕ → Bool
either pair x = (pair.0 == x) || (pair.1 == x)

ends_in : (pair : ℕ × ℕ) (i j : ℕ) → is_same_pair pair (i, j) ≡ true → (either pair i ≡ true) × (either pair j ≡ true)
ends_in pair i j h = elim (or_cases ((pair.0 == i) && (pair.1 == j)) ((pair.1 == i) && (pair.0 == j)) h) [
  | inl t ↦ let both = and_parts (pair.0 == i) (pair.1 == j) t in
      (or_left (pair.0 == i) (pair.1 == i) both.0, or_right (pair.0 == j) (pair.1 == j) both.1)
  | inr t ↦ let both = and_parts (pair.1 == i) (pair.0 == j) t in
      (or_right (pair.0 == i) (pair.1 == i) both.0, or_left (pair.0 == j) (pair.1 == j) both.1)
]

of_link : (same x y : Bool) → (same ≡ true → (x ≡ true) × (y ≡ true))
    → ((one_if same +ℤ one_if same) +ℤ one_if (cond x (not y) y)) ≤ℤ (one_if x +ℤ one_if y)
of_link true true true h = omega (arith, ints)
of_link true false y h = absurd (both_ways false refl (h refl).0)
of_link true true false h = absurd (both_ways false refl (h refl).1)
of_link false true true h = omega (arith, ints)
of_link false true false h = omega (arith, ints)
of_link false false y h = omega (arith, ints)

of_node : (x y : Bool) → one_if (x || y) ≤ℤ (one_if x +ℤ one_if y)
of_node true y = omega (arith, ints, (none_or_one y).0)
of_node false y = omega (arith, ints)

degrees : (nodes : List ℕ) (pair : ℕ × ℕ) → Laws
    → (count (is_same_pair pair) (links nodes) +ℤ count (is_same_pair pair) (links nodes) +ℤ length_of (crossing (either pair))
    nodes)
    ≤ℤ ((count (λ x. pair.0 == x) nodes +ℤ count (λ x. pair.1 == x) nodes)
    +ℤ (count (λ x. pair.0 == x) nodes +ℤ count (λ x. pair.1 == x) nodes))
degrees nodes pair laws =
    let same = is_same_pair pair in
    let part = either pair in
    let below = sum_below (λ (link : ℕ × ℕ). (one_if (same link) +ℤ one_if (same link)) +ℤ crossing part link.0 link.1)
    (λ (link : ℕ × ℕ). one_if (part link.0) +ℤ one_if (part link.1)) (links nodes)
    (λ link. of_link (same link) (part link.0) (part link.1) (ends_in pair link.0 link.1)) in
    let first = sum_int_by-add (λ (link : ℕ × ℕ). one_if (same link) +ℤ one_if (same link))
    (λ (link : ℕ × ℕ). crossing part link.0 link.1) (links nodes) in
    let second = sum_int_by-add (λ (link : ℕ × ℕ). one_if (same link)) (λ (link : ℕ × ℕ). one_if (same link)) (links nodes) in
    let third = laws.sum (λ i j. one_if (part i)) (λ i j. one_if (part j)) nodes in
    let by_first = laws.by_first (λ x. one_if (part x)) nodes in
    let by_second = laws.by_second (λ x. one_if (part x)) nodes in
    let split = sum_below (λ x. one_if (part x)) (λ x. one_if (pair.0 == x) +ℤ one_if (pair.1 == x)) nodes
    (λ x. of_node (pair.0 == x) (pair.1 == x)) in
    let sums = sum_int_by-add (λ x. one_if (pair.0 == x)) (λ x. one_if (pair.1 == x)) nodes in
    omega (arith, ints, below, first, second, third, by_first, by_second, split, sums)

-- of three nodes one is another than these two
third : (a b : ℕ) → (x : ℕ) × (1 ≤ x) × (x ≤ 3) × (((a == x) || (b == x)) ≡ false)
third a b = elim (cases_Bool ((a == 1) || (b == 1))) [
  | inr f ↦ (1, omega arith, omega arith, f)
  | inl t ↦ elim (cases_Bool ((a == 2) || (b == 2))) [
    | inr f ↦ (2, omega arith, omega arith, f)
    | inl u ↦ (3, omega arith, omega arith, grind (arith, nat_tests))
  ]
]

neighbours_once : (n : ℕ) (nodes : List ℕ) (pair : ℕ × ℕ) → Laws → 3 ≤ n → IsCycle n nodes
    → count (is_same_pair pair) (links nodes) ≤ℤ pos 1
neighbours_once n nodes pair laws some cycle =
    let ends = degrees nodes pair laws in
    let one = once pair.0 nodes cycle.once in
    let other = once pair.1 nodes cycle.once in
    elim (cases_Bool (list_any (λ x. pair.0 == x) nodes)) [
      | inr f ↦ omega (
        arith,
        ints,
        ends,
        other,
        count_none (λ x. pair.0 == x) nodes f,
        count_positive (λ (link : ℕ × ℕ). crosses (either pair) link) (links nodes),
      )
      | inl t ↦
          let found = Any-from_list_any (λ x. pair.0 == x) nodes t in
          let here : Contains nodes found.1 = (found.0, found.2, found.3) in
          let out = third pair.0 pair.1 in
          let away : Contains nodes out.0 =
          has_node n nodes out.0 laws cycle (omega (arith, out.1), omega (arith, out.2, some)) in
          let more = twice (either pair) nodes found.1 out.0 here away (or_left (pair.0 == found.1) (pair.1 == found.1) found.4)
          out.3 in
          omega (arith, ints, ends, one, other, more)
    ]

pub count_neighbours : (n : ℕ) (nodes : List ℕ) (pair : ℕ × ℕ) → Laws → 3 ≤ n → IsCycle n nodes → AreNeighbours nodes pair
    → count (is_same_pair pair) (links nodes) ≡ pos 1
count_neighbours n nodes pair laws some cycle h =
    let most = neighbours_once n nodes pair laws some cycle in
    let least = count_any (is_same_pair pair) (links nodes) (found_neighbours nodes pair h) in
    omega (arith, ints, most, least)

pub count_others : (nodes : List ℕ) (pair : ℕ × ℕ) → (AreNeighbours nodes pair → ⊥)
    → count (is_same_pair pair) (links nodes) ≡ pos 0
count_others nodes pair h =
    count_none (is_same_pair pair) (links nodes)
    (false_from_ne_true (list_any (is_same_pair pair) (links nodes)) (λ t. h (neighbours_found nodes pair t)))

-- ---- a minimum 1-tree under weights with numbers on taken and avoided pairs bounds each cycle

-- ---- adjusted weights are symmetric

and_turned : (x y : Bool) → (x && y) ≡ (y && x)
and_turned true true = refl
and_turned true false = refl
and_turned false true = refl
and_turned false false = refl

pub same_turned : (pair : ℕ × ℕ) (i j : ℕ) → is_same_pair pair (i, j) ≡ is_same_pair pair (j, i)
same_turned pair i j =
    or_comm ((pair.0 == i) && (pair.1 == j)) ((pair.1 == i) && (pair.0 == j))
    ∙ ap (λ b. b || ((pair.0 == i) && (pair.1 == j))) (and_turned (pair.1 == i) (pair.0 == j))
    ∙ ap (λ b. ((pair.0 == j) && (pair.1 == i)) || b) (and_turned (pair.0 == i) (pair.1 == j))

pub numbers_turned : (triples : List (ℕ × ℕ × ℤ)) (i j : ℕ) → numbers_on triples i j ≡ numbers_on triples j i
numbers_turned [] i j = refl
numbers_turned (t ∷ ts) i j =
    let first : number_on t i j ≡ number_on t j i = ap (λ b. if b then t.2 else pos 0) (same_turned (pair_of t) i j) in
    ap₂ (λ a b. a +ℤ b) first (numbers_turned ts i j)

pub adjusted_even : (taken avoided : List (ℕ × ℕ × ℤ)) (w : ℕ → ℕ → ℤ) → ((i j : ℕ) → w i j ≡ w j i) → (i j : ℕ)
    → adjusted taken avoided w i j ≡ adjusted taken avoided w j i
adjusted_even taken avoided w even i j =
    ap₂ (λ a b. a +ℤ b) (ap₂ (λ a b. a -ℤ b) (even i j) (numbers_turned taken i j)) (numbers_turned avoided i j)

-- ---- the numbers along a cycle

pub sum_zero : {X : Type 0} (xs : List X) → sum_int_by (λ x. pos 0) xs ≡ pos 0
sum_zero [] = refl
sum_zero (x ∷ xs) = omega (arith, ints, sum_zero xs)

-- of pairs that the cycle uses, the numbers of all
numbers_of_used : (n : ℕ) (nodes : List ℕ) (triples : List (ℕ × ℕ × ℤ)) → Laws → 3 ≤ n → IsCycle n nodes
    → AllByRecursion (λ t. AreNeighbours nodes (pair_of t)) triples → length_of (numbers_on triples) nodes ≡ triples_total triples
numbers_of_used n nodes [] laws some cycle used = sum_zero (links nodes)
numbers_of_used n nodes (t ∷ ts) laws some cycle used =
    let split = laws.sum (number_on t) (numbers_on ts) nodes in
    let first = (sum_counted (is_same_pair (pair_of t)) t.2 (links nodes)).1
    (count_neighbours n nodes (pair_of t) laws some cycle used.0) in
    let rest = numbers_of_used n nodes ts laws some cycle used.1 in
    omega (arith, ints, split, first, rest)

-- of pairs that the cycle doesn't use, the numbers of none
numbers_of_unused : (nodes : List ℕ) (triples : List (ℕ × ℕ × ℤ)) → Laws
    → AllByRecursion (λ t. AreNeighbours nodes (pair_of t) → ⊥) triples → length_of (numbers_on triples) nodes ≡ pos 0
numbers_of_unused nodes [] laws unused = sum_zero (links nodes)
numbers_of_unused nodes (t ∷ ts) laws unused =
    let split = laws.sum (number_on t) (numbers_on ts) nodes in
    let first = (sum_counted (is_same_pair (pair_of t)) t.2 (links nodes)).0 (count_others nodes (pair_of t) unused.0) in
    let rest = numbers_of_unused nodes ts laws unused.1 in
    omega (arith, ints, split, first, rest)

pub difference : {X : Type 0} (f g : X → ℤ) (xs : List X) → sum_int_by (λ x. f x -ℤ g x) xs ≡ sum_int_by f xs -ℤ sum_int_by g xs
difference f g [] = omega (arith, ints)
difference f g (x ∷ xs) = let rest = difference f g xs in omega (arith, ints, rest)

-- the length under adjusted weights
adjusted_length : (taken avoided : List (ℕ × ℕ × ℤ)) (w : ℕ → ℕ → ℤ) (nodes : List ℕ) → Laws
    → length_of (adjusted taken avoided w) nodes ≡ (length_of w nodes -ℤ length_of (numbers_on taken) nodes) +ℤ length_of
    (numbers_on avoided) nodes
adjusted_length taken avoided w nodes laws =
    let outer = laws.sum (λ i j. w i j -ℤ numbers_on taken i j) (numbers_on avoided) nodes in
    let inner = difference (λ (link : ℕ × ℕ). w link.0 link.1) (λ (link : ℕ × ℕ). numbers_on taken link.0 link.1) (links nodes) in
    omega (arith, ints, outer, inner)

-- what a cycle weighs that uses each taken pair and no avoided one
pub adjusted_cycle : (n : ℕ) (cost : ℕ → ℕ → ℤ) (scale : ℤ) (potentials : List ℤ) (taken avoided : List (ℕ × ℕ × ℤ))
    (nodes : List ℕ)
    → Laws → 3 ≤ n → IsScale scale → length potentials ≡ n
    → IsCycle n nodes → UsesEach taken nodes → UsesNone avoided nodes
    → length_of (adjusted taken avoided (weight_between scale potentials cost)) nodes
    ≡ ((scale *ℤ length_of cost nodes) +ℤ (pos 2 *ℤ total potentials)) -ℤ triples_total taken
adjusted_cycle n cost scale potentials taken avoided nodes laws some scale_in long cycle used unused =
    let own = adjusted_length taken avoided (weight_between scale potentials cost) nodes laws in
    let less = numbers_of_used n nodes taken laws some cycle
    (recursion_from_All (λ t. AreNeighbours nodes (pair_of t)) taken used) in
    let more = numbers_of_unused nodes avoided laws
    (recursion_from_All (λ t. AreNeighbours nodes (pair_of t) → ⊥) avoided unused) in
    let split = laws.sum (λ i j. scale *ℤ cost i j) (λ i j. entry potentials i +ℤ entry potentials j) nodes in
    let sums = entries_of_links n nodes potentials potentials laws long long cycle in
    let whole = scaled_length scale cost nodes laws scale_in in
    omega (arith, ints, own, less, more, split, sums, whole)

pub adjusted_bounds_bound_cycles : Laws → AdjustedBoundsBoundCycles
adjusted_bounds_bound_cycles laws n cost scale potentials taken avoided bound nodes some even scale_in long is cycle used unused =
    let w = weight_between scale potentials cost in
    let below = least_tree_below laws n (adjusted taken avoided w) is.tree nodes some
    (adjusted_even taken avoided w (weight_even scale potentials cost even)) is.least cycle in
    let own = adjusted_cycle n cost scale potentials taken avoided nodes laws some scale_in long cycle used unused in
    is.bound_is.least (length_of cost nodes) (omega (arith, ints, below, own))

-- ---- nothing taken or avoided

unadjusted_weight : (w : ℕ → ℕ → ℤ) (pairs : List (ℕ × ℕ)) → weight_of (adjusted [] [] w) pairs ≡ weight_of w pairs
unadjusted_weight w [] = refl
unadjusted_weight w (pair ∷ pairs) = let rest = unadjusted_weight w pairs in omega (arith, ints, rest)

pub unadjusted_bounds_are_node_bounds : UnadjustedBoundsAreNodeBounds
unadjusted_bounds_are_node_bounds n cost scale potentials bound is =
    let w = weight_between scale potentials cost in
    record {
      tree = is.tree;
      least = record {
        tree = is.least.tree;
        least = λ others tree. subst₂ (λ a b. a ≤ℤ b) (unadjusted_weight w is.tree) (unadjusted_weight w others)
            (is.least.least others tree);
      };
      bound_is = record {
        above = let own = is.bound_is.above in omega (arith, ints, own, unadjusted_weight w is.tree);
        least = λ other above. is.bound_is.least other (omega (arith, ints, above, unadjusted_weight w is.tree));
      };
    }
