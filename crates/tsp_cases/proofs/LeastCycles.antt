-- The least length of a cycle through few parts, from best paths by dynamic programming (`least_cycle` in
-- src/family.rt).
use Rattle.tsp_cases.proofs.Prelude.{◌≡◌, ℕ, ◌+◌, ◌*◌, ◌<◌, List, [], ◌∷◌, ◌++◌, length, inl, inr, arith, sym, ◌∙◌, subst, length-append, ◌≢◌, zero, suc, ◌-◌, ◌/◌, ◌%◌, ◌^◌, ◌≤◌, ◌⊎◌, refl, ap, pow-suc, mul_comm, eqb, false, ◌≤ℤ◌, cases_lt, cases_eq, cases_order, eqb-false, ints, get_or_append_left, get_or_push, get_or_past, same_from_place, mul-add-lt, pow_pos, pow_below, bit_at, AllByRecursion, All, IsDistinct, range_with_len, slice_index, pos, IsNode, AreInner, turned_nodes, turned_length, IsCycle, length_of, IsInner}
use Rattle.std.proofs.Math.Nat.{div-eq_of_lt}
use Rattle.std.proofs.lemmas.List.FromFn.{length-range_with_len}
use Rattle.std.proofs.lemmas.Map.Keys.{IsDistinct-head, IsDistinct-tail}
use Rattle.std.proofs.lemmas.Nat.Bits.{bit_at_lowest, bit_at-suc, bit_at-zero, bit_at_ones, same_from_bits}
use Rattle.tsp_cases.proofs.PartWalks.{Within, at_within, within_or_apart, weaker, no_more, run_has, run_range, run_once, cycle_from, length_to, cycle_has}
use Rattle.tsp_cases.specs.Crossings.{cost_by_rows, path_length, number_of, AllApart, IsOrderOf, no_path, IsBestPath, AreBestPaths, IsLeastSum, IsLeastLength, IsLargest, as_whole}

-- a statement on each cell, with its row, column and value, as far as the list goes
abbrev pub HoldsByRows : ℕ → (ℕ → ℕ → ℕ → Type 0) → List ℕ → Type 0
HoldsByRows w P table = (a b : ℕ) → b < w → a * w + b < length table → P a b (slice_index table (a * w + b))

pub by_rows_push : (w : ℕ) (P : ℕ → ℕ → ℕ → Type 0) (table : List ℕ) (a b value : ℕ) → b < w → length table ≡ a * w + b
    → HoldsByRows w P table → P a b value → HoldsByRows w P (table ++ value ∷ [])
by_rows_push w P table a b value lt long before here c d d_lt in_list = elim (cases_lt (c * w + d) (length table)) [
  | inl old ↦ subst (P c d) (sym (get_or_append_left table (value ∷ []) 0 (c * w + d) old)) (before c d d_lt old)
  | inr new ↦
      let place : c * w + d ≡ a * w + b = omega (arith, new, in_list, length-append table (value ∷ []), long) in
      let same = same_from_place c d a b w d_lt lt place in
      let is : slice_index (table ++ value ∷ []) (c * w + d) ≡ value = get_or_push table value 0 (c * w + d) (long ∙ sym place) in
      subst (λ (z : ℕ). P c d z) (sym is) (subst (λ (z : ℕ). P z d value) (sym same.0) (subst (λ (z : ℕ). P a z value) (sym same.1) here))
]

-- ---- least sums

-- ---- the best path through a set of parts: a least step and a best path through the others

-- ---- one bit more

half : (i m : ℕ) → (2 ^ suc i + m) / 2 ≡ 2 ^ i + m / 2
half i m = let e = pow-suc 2 i in omega (arith, e)

-- the bit that is added changes
flips : (i m : ℕ) → bit_at (2 ^ i + m) i + bit_at m i ≡ 1
flips zero m = let one = bit_at_lowest (2 ^ zero + m) in let two = bit_at_lowest m in omega (arith, one, two)
flips (suc i) m =
    let one : bit_at (2 ^ suc i + m) (suc i) ≡ bit_at (2 ^ i + m / 2) i = bit_at-suc (2 ^ suc i + m) i ∙ ap (λ z. bit_at z i) (half i m) in
    let two = bit_at-suc m i in
    let rest = flips i (m / 2) in
    omega (arith, one, two, rest)

-- if it was 0, the other bits stay
stays : (i j m : ℕ) → bit_at m i ≡ 0 → i ≢ j → bit_at (2 ^ i + m) j ≡ bit_at m j
stays zero zero m clear other = absurd (other refl)
stays zero (suc j) m clear other =
    let even = sym (bit_at_lowest m) ∙ clear in
    bit_at-suc (2 ^ zero + m) j ∙ ap (λ z. bit_at z j) (omega (arith, even)) ∙ sym (bit_at-suc m j)
stays (suc i) zero m clear other =
    let e = pow-suc 2 i in
    bit_at_lowest (2 ^ suc i + m) ∙ omega (arith, e) ∙ sym (bit_at_lowest m)
stays (suc i) (suc j) m clear other =
    bit_at-suc (2 ^ suc i + m) j ∙ ap (λ z. bit_at z j) (half i m) ∙ stays i j (m / 2) (sym (bit_at-suc m i) ∙ clear) (λ same. other (ap suc same)) ∙ sym (bit_at-suc m j)

-- a bit that is set can be taken off
taken_off : (i m : ℕ) → bit_at m i ≡ 1 → (2 ^ i ≤ m) × (bit_at (m - 2 ^ i) i ≡ 0)
taken_off i m own = elim (cases_lt m (2 ^ i)) [
  | inl less ↦ let none : m / 2 ^ i ≡ 0 = div-eq_of_lt less in let zero_is : bit_at m i ≡ 0 = ap (λ z. z % 2) none in absurd (omega (arith, own, zero_is))
  | inr more ↦
      let turned = flips i (m - 2 ^ i) in
      let whole : 2 ^ i + (m - 2 ^ i) ≡ m = omega (arith, more) in
      let same : bit_at (2 ^ i + (m - 2 ^ i)) i ≡ 1 = ap (λ z. bit_at z i) whole ∙ own in
      (more, omega (arith, turned, same))
]

-- ---- the bits of a set are its nodes

pub absent : (n x : ℕ) (nodes : List ℕ) → 2 ≤ x → AllByRecursion (IsInner n) nodes → AllApart nodes
    → AllByRecursion (λ y. x ≢ y) nodes → bit_at (number_of nodes) (x - 2) ≡ 0
absent n x [] low range once apart = bit_at-zero (x - 2)
absent n x (y ∷ ys) low range once apart =
    let clear = absent n y ys range.0.0 range.1 once.1 once.0 in
    let other : y - 2 ≢ x - 2 = λ same. apart.0 (omega (arith, same, low, range.0.0)) in
    stays (y - 2) (x - 2) (number_of ys) clear other ∙ absent n x ys low range.1 once.1 apart.1

pub present : (n x : ℕ) (nodes : List ℕ) → AllByRecursion (IsInner n) nodes → AllApart nodes → Within nodes x
    → bit_at (number_of nodes) (x - 2) ≡ 1
present n x [] range once h = absurd h
present n x (y ∷ ys) range once (inl same) =
    let clear = absent n y ys range.0.0 range.1 once.1 once.0 in
    let turned = flips (y - 2) (number_of ys) in
    let own : bit_at (number_of (y ∷ ys)) (y - 2) ≡ 1 = omega (arith, turned, clear) in
    subst (λ (z : ℕ). bit_at (number_of (y ∷ ys)) (z - 2) ≡ 1) same own
present n x (y ∷ ys) range once (inr later) =
    let clear = absent n y ys range.0.0 range.1 once.1 once.0 in
    let inner : IsInner n x = at_within (IsInner n) ys x range.1 later in
    let apart : y ≢ x = at_within (λ z. y ≢ z) ys x once.0 later in
    let other : y - 2 ≢ x - 2 = λ same. apart (omega (arith, same, inner.0, range.0.0)) in
    stays (y - 2) (x - 2) (number_of ys) clear other ∙ present n x ys range.1 once.1 later

-- ---- orders of the nodes of a set, and of the set without its first one

back : (other : ℕ) → other + 2 - 2 ≡ other
back other = omega arith

own_bit : (n set other : ℕ) (rest : List ℕ) → IsOrderOf n set ((other + 2) ∷ rest) → bit_at set other ≡ 1
own_bit n set other rest h =
    let here : bit_at (number_of ((other + 2) ∷ rest)) (other + 2 - 2) ≡ 1 = present n (other + 2) ((other + 2) ∷ rest) h.range h.once (inl refl) in
    ap (λ z. bit_at z other) (sym h.set_is) ∙ ap (bit_at (number_of ((other + 2) ∷ rest))) (sym (back other)) ∙ here

less_order : (n set other : ℕ) (rest : List ℕ) → IsOrderOf n set ((other + 2) ∷ rest) → IsOrderOf n (set - 2 ^ other) rest
less_order n set other rest h = record {
  range = h.range.1;
  once = h.once.1;
  set_is =
      let whole : 2 ^ other + number_of rest ≡ set = ap (λ z. 2 ^ z + number_of rest) (sym (back other)) ∙ h.set_is in
      omega (arith, whole);
}

more_order : (n set other : ℕ) (rest : List ℕ) → IsInner n (other + 2) → bit_at set other ≡ 1 → IsOrderOf n (set - 2 ^ other) rest
    → IsOrderOf n set ((other + 2) ∷ rest)
more_order n set other rest inner own h =
    let off = taken_off other set own in
    record {
      range = (inner, h.range);
      once = (
        elim (within_or_apart (other + 2) rest) [
          | inl there ↦
              let one = present n (other + 2) rest h.range h.once there in
              let same : bit_at (number_of rest) (other + 2 - 2) ≡ 0 = ap (bit_at (number_of rest)) (back other) ∙ ap (λ z. bit_at z other) h.set_is ∙ off.1 in
              absurd (omega (arith, one, same))
          | inr apart ↦ apart
        ],
        h.once,
      );
      set_is = ap (λ z. 2 ^ z + number_of rest) (back other) ∙ omega (arith, h.set_is, off.0);
    }

-- ---- the best path

-- a path has its last step if no node is left of the set, else no step yet
abbrev pub StartsWith : ℕ → List ℕ → ℕ → ℕ → ℕ → Type 0
StartsWith n costs set other start =
    ((set - 2 ^ other ≡ 0) × (start ≡ slice_index costs ((other + 1) * n))) ⊎ ((set - 2 ^ other ≢ 0) × (start ≡ no_path))

first_place : (n other : ℕ) → (other + 1) * n ≡ (other + 2 - 1) * n + (1 - 1)
first_place n other = let e : other + 2 - 1 ≡ other + 1 = omega arith in rw e (omega arith)

next_place : (n other k : ℕ) → (other + 1) * n + 1 + k ≡ (other + 2 - 1) * n + (k + 2 - 1)
next_place n other k = let e : other + 2 - 1 ≡ other + 1 = omega arith in let f : k + 2 - 1 ≡ k + 1 = omega arith in rw (e, f) (omega arith)

pub inside : (s t m k len : ℕ) → s < t → k < m → t * m ≤ len → s * m + k < len
inside s t m k len p q h = let fits = mul-add-lt s m k t p q in omega (arith, fits, mul_comm t m, h)

pub no_best : (n set other : ℕ) (cost : ℕ → ℕ → ℕ) → bit_at set other ≡ 0 → IsBestPath n cost set (other + 2) no_path
no_best n set other cost clear = record {
  most = omega arith;
  below = λ rest order. absurd (omega (arith, clear, own_bit n set other rest order));
  found = inl refl;
}

abbrev pub IsFound : ℕ → (ℕ → ℕ → ℕ) → ℕ → ℕ → ℕ → Type 0
IsFound n cost set node least =
    (least ≡ no_path) ⊎ ((rest : List ℕ) × IsOrderOf n set (node ∷ rest) × (least ≡ path_length cost node rest))

-- the least sum of a step and of a best path through the rest of the set is that of a best path
-- plan: a path is a step and a best path through the rest (`step`, `at`), so its length is the least of these sums
pub best_from : (n set other start least : ℕ) (costs paths : List ℕ) → other < n - 1 → bit_at set other ≡ 1
    → set * (n - 1) ≤ length paths → AreBestPaths n (cost_by_rows n costs) paths
    → start ≤ no_path → StartsWith n costs set other start
    → IsLeastSum start costs paths ((other + 1) * n + 1) ((set - 2 ^ other) * (n - 1)) (n - 1) least
    → IsBestPath n (cost_by_rows n costs) set (other + 2) least
best_from n set other start least costs paths in_range own long best most starts sum = record {
  most = omega (arith, most, sum.below_start);
  below = below;
  found = found starts sum.found;
}
  where
    off : (2 ^ other ≤ set) × (bit_at (set - 2 ^ other) other ≡ 0)
    off = taken_off other set own

    inner : (k : ℕ) → k < n - 1 → IsInner n (k + 2)
    inner k lt = (omega arith, omega (arith, lt))

    at : (k : ℕ) → k < n - 1 → IsBestPath n (cost_by_rows n costs) (set - 2 ^ other) (k + 2) (slice_index paths ((set - 2 ^ other) * (n - 1) + k))
    at k lt = best (set - 2 ^ other) k lt (inside (set - 2 ^ other) set (n - 1) k (length paths) (omega (arith, off.0, pow_pos other)) lt long)

    step : (k : ℕ) → slice_index costs ((other + 1) * n + 1 + k) ≡ cost_by_rows n costs (other + 2) (k + 2)
    step k = ap (slice_index costs) (next_place n other k)

    last : slice_index costs ((other + 1) * n) ≡ cost_by_rows n costs (other + 2) 1
    last = ap (slice_index costs) (first_place n other)

    ended : (starts : StartsWith n costs set other start) → IsOrderOf n (set - 2 ^ other) [] → least ≤ cost_by_rows n costs (other + 2) 1
    ended (inl here) order = omega (arith, sum.below_start, here.1, last)
    ended (inr none) order = absurd (none.0 (sym order.set_is))

    by_next : (k x : ℕ) (rest : List ℕ) → k < n - 1 → x ≡ k + 2 → IsOrderOf n (set - 2 ^ other) (x ∷ rest) → least ≤ cost_by_rows n costs (other + 2) x + path_length (cost_by_rows n costs) x rest
    by_next k x rest lt is order =
        let left = (at k lt).below rest (subst (λ (y : ℕ). IsOrderOf n (set - 2 ^ other) (y ∷ rest)) is order) in
        let all : least ≤ cost_by_rows n costs (other + 2) (k + 2) + path_length (cost_by_rows n costs) (k + 2) rest = omega (arith, sum.below k lt, left, step k) in
        subst (λ (y : ℕ). least ≤ cost_by_rows n costs (other + 2) y + path_length (cost_by_rows n costs) y rest) (sym is) all

    below : (rest : List ℕ) → IsOrderOf n set ((other + 2) ∷ rest) → least ≤ path_length (cost_by_rows n costs) (other + 2) rest
    below [] order = ended starts (less_order n set other [] order)
    below (x ∷ rest) order =
        let left = less_order n set other (x ∷ rest) order in
        by_next (x - 2) x rest (omega (arith, left.range.0)) (omega (arith, left.range.0)) left

    next : (k : ℕ) → k < n - 1 → least ≡ slice_index costs ((other + 1) * n + 1 + k) + slice_index paths ((set - 2 ^ other) * (n - 1) + k)
        → IsFound n (cost_by_rows n costs) (set - 2 ^ other) (k + 2) (slice_index paths ((set - 2 ^ other) * (n - 1) + k)) → IsFound n (cost_by_rows n costs) set (other + 2) least
    next k lt is (inl none) = inl (omega (arith, is, none, sum.below_start, most))
    next k lt is (inr path) = inr ((k + 2) ∷ path.0, more_order n set other ((k + 2) ∷ path.0) (inner other in_range) own path.1, omega (arith, is, path.2, step k))

    found : StartsWith n costs set other start → (least ≡ start) ⊎ ((k : ℕ) × (k < n - 1) × (least ≡ slice_index costs ((other + 1) * n + 1 + k) + slice_index paths ((set - 2 ^ other) * (n - 1) + k)))
        → IsFound n (cost_by_rows n costs) set (other + 2) least
    found (inl here) (inl is) = inr ([], more_order n set other [] (inner other in_range) own (record { range = tt; once = tt; set_is = sym here.0 }), is ∙ here.1 ∙ last)
    found (inr none) (inl is) = inl (is ∙ none.1)
    found starts (inr sum_at) = next sum_at.0 sum_at.1 sum_at.2 (at sum_at.0 sum_at.1).found

-- ---- the least length of a cycle through few parts, from the best paths through all of them

-- ---- the bits of all nodes from 2 to n

clear_above : (m i : ℕ) → m ≤ i → bit_at (2 ^ m - 1) i ≡ 0
clear_above m i h = ap (λ z. z % 2) (div-eq_of_lt (below (cases_order m i)))
  where
    below : (m ≡ i) ⊎ ((m < i) ⊎ (i < m)) → 2 ^ m - 1 < 2 ^ i
    below (inl same) = let e : 2 ^ m ≡ 2 ^ i = ap (λ k. 2 ^ k) same in omega (arith, e, pow_pos i)
    below (inr (inl less)) = omega (arith, pow_below m i less)
    below (inr (inr more)) = absurd (omega (arith, more, h))

-- nodes of 2..n that are all of these have all bits
all_bits : (n : ℕ) (nodes : List ℕ) → AllByRecursion (IsInner n) nodes → AllApart nodes → ((x : ℕ) → IsInner n x → Within nodes x)
    → number_of nodes ≡ 2 ^ (n - 1) - 1
all_bits n nodes range once all = same_from_bits (number_of nodes) (2 ^ (n - 1) - 1) (λ i. elim (cases_lt i (n - 1)) [
  | inl lt ↦
      let here : bit_at (number_of nodes) (i + 2 - 2) ≡ 1 = present n (i + 2) nodes range once (all (i + 2) (omega arith, omega (arith, lt))) in
      ap (bit_at (number_of nodes)) (omega arith) ∙ here ∙ sym (bit_at_ones (n - 1) i lt)
  | inr ge ↦
      let none : bit_at (number_of nodes) (i + 2 - 2) ≡ 0 = absent n (i + 2) nodes (omega arith) range once
      (weaker (IsInner n) (λ y. i + 2 ≢ y) (λ y h. λ same. omega (arith, same, h.0, h.1, ge)) nodes range) in
      ap (bit_at (number_of nodes)) (omega arith) ∙ none ∙ sym (clear_above (n - 1) i ge)
])

-- as many different nodes of 2..n as there are
pub whole_order : (n : ℕ) (nodes : List ℕ) → AllByRecursion (IsInner n) nodes → AllApart nodes → 1 + length nodes ≡ n
    → IsOrderOf n (2 ^ (n - 1) - 1) nodes
whole_order n nodes range once count = record {
  range = range;
  once = once;
  set_is = all_bits n nodes range once (λ x inner. elim (within_or_apart x nodes) [
    | inl w ↦ w
    | inr apart ↦
        let run = weaker (IsInner n) (Within (range_with_len 2 (n - 1))) (λ y h. run_has 2 (n - 1) y h.0 (omega (arith, h.0, h.1))) (x ∷ nodes) (inner, range) in
        let few = no_more (x ∷ nodes) (range_with_len 2 (n - 1)) (apart, once) run in
        absurd (omega (arith, few, length-range_with_len 2 (n - 1), count))
  ]);
}

-- with node 1 they are a cycle
pub cycle_of_order : (n : ℕ) (nodes : List ℕ) → 1 ≤ n → IsOrderOf n (2 ^ (n - 1) - 1) nodes → IsCycle n (1 ∷ nodes)
cycle_of_order n nodes some h = cycle_from n (1 ∷ nodes)
    ((omega arith, some), weaker (IsInner n) (IsNode n) (λ x inner. (omega (arith, inner.0), inner.1)) nodes h.range)
    (weaker (IsInner n) (λ x. 1 ≢ x) (λ x inner. λ same. omega (arith, same, inner.0)) nodes h.range, h.once)
    all
  where
    all : (x : ℕ) → IsNode n x → (1 ≡ x) ⊎ Within nodes x
    all x node = elim (cases_eq 1 x) [
      | inl same ↦ inl same
      | inr other ↦ elim (within_or_apart x nodes) [
        | inl w ↦ inr w
        | inr apart ↦
            let none = absent n x nodes (omega (arith, other, node.0)) h.range h.once apart in
            let one = bit_at_ones (n - 1) (x - 2) (omega (arith, other, node.0, node.1)) in
            let same : bit_at (number_of nodes) (x - 2) ≡ bit_at (2 ^ (n - 1) - 1) (x - 2) = ap (λ z. bit_at z (x - 2)) h.set_is in
            absurd (omega (arith, none, one, same))
      ]
    ]

-- ---- a cycle from node 1 on

split_at : (xs : List ℕ) (x : ℕ) → Within xs x → (before : List ℕ) × (after : List ℕ) × (before ++ x ∷ after ≡ xs)
split_at [] x h = absurd h
split_at (y ∷ ys) x (inl same) = ([], ys, ap (λ z. z ∷ ys) (sym same))
split_at (y ∷ ys) x (inr later) = let rest = split_at ys x later in (y ∷ rest.0, rest.1, ap (λ zs. y ∷ zs) rest.2)

apart_from_distinct : (xs : List ℕ) → IsDistinct eqb xs → AllApart xs
apart_from_distinct [] h = tt
apart_from_distinct (x ∷ xs) h =
    (weaker (λ y. eqb x y ≡ false) (λ y. x ≢ y) (λ y e. eqb-false x y e) xs (IsDistinct-head eqb x xs h), apart_from_distinct xs (IsDistinct-tail eqb x xs h))

-- ---- lengths

whole_path : (cost : ℕ → ℕ → ℕ) (from : ℕ) (rest : List ℕ)
    → length_to (as_whole cost) 1 from rest ≡ pos (path_length cost from rest)
whole_path cost from [] = omega (arith, ints)
whole_path cost from (next ∷ rest) = let tail = whole_path cost next rest in omega (arith, ints, tail)

-- from node 1 on through others
abbrev pub length_from_one : (ℕ → ℕ → ℕ) → ℕ → List ℕ → ℕ
length_from_one cost x rest = cost 1 x + path_length cost x rest

whole_cycle : (cost : ℕ → ℕ → ℕ) (x : ℕ) (rest : List ℕ)
    → length_of (as_whole cost) (1 ∷ x ∷ rest) ≡ pos (length_from_one cost x rest)
whole_cycle cost x rest = let tail = whole_path cost x rest in omega (arith, ints, tail)

path_most : (cost : ℕ → ℕ → ℕ) (most : ℕ) → ((i j : ℕ) → cost i j ≤ most) → (from : ℕ) (rest : List ℕ)
    → path_length cost from rest ≤ most * (1 + length rest)
path_most cost most small from [] = omega (arith, small from 1)
path_most cost most small from (next ∷ rest) = let tail = path_most cost most small next rest in omega (arith, tail, small from next)

-- ---- a number that is at most the length of each cycle from node 1 on is at most that of any cycle

abbrev pub IsBelowAll : ℕ → (ℕ → ℕ → ℕ) → ℕ → Type 0
IsBelowAll n cost least = (x : ℕ) (rest : List ℕ) → IsOrderOf n (2 ^ (n - 1) - 1) (x ∷ rest) → least ≤ length_from_one cost x rest

below_cycles : (n : ℕ) (cost : ℕ → ℕ → ℕ) (least : ℕ) → 2 ≤ n → IsBelowAll n cost least → (nodes : List ℕ) → IsCycle n nodes
    → pos least ≤ℤ length_of (as_whole cost) nodes
below_cycles n cost least more below nodes cycle =
    let parts = split_at nodes 1 (cycle_has n nodes 1 cycle (omega arith, omega (arith, more))) in
    subst (λ (xs : List ℕ). pos least ≤ℤ length_of (as_whole cost) xs) parts.2 (turned parts.0 parts.1 (subst (IsCycle n) (sym parts.2) cycle))
  where
    from_one : (nodes : List ℕ) → IsOrderOf n (2 ^ (n - 1) - 1) nodes → 1 + length nodes ≡ n → pos least ≤ℤ length_of (as_whole cost) (1 ∷ nodes)
    from_one [] order count = absurd (omega (arith, count, more))
    from_one (x ∷ rest) order count = let e = whole_cycle cost x rest in omega (arith, ints, e, below x rest order)

    turned : (before after : List ℕ) → IsCycle n (before ++ 1 ∷ after) → pos least ≤ℤ length_of (as_whole cost) (before ++ 1 ∷ after)
    turned before after cycle =
        let inner : AreInner n (after ++ before) = turned_nodes n before after cycle in
        let order = whole_order n (after ++ before) inner.range (apart_from_distinct (after ++ before) inner.once) inner.count in
        let same = turned_length (as_whole cost) 1 before after in
        let one = from_one (after ++ before) order inner.count in
        omega (arith, ints, same, one)

-- the nodes in their order are such a cycle, and its length is small
first_cycle : (n : ℕ) → 2 ≤ n → IsOrderOf n (2 ^ (n - 1) - 1) (range_with_len 2 (n - 1))
first_cycle n more =
    whole_order n (range_with_len 2 (n - 1)) (run_range (IsInner n) 2 (n - 1) (λ x low high. (low, omega (arith, high)))) (run_once 2 (n - 1))
    (let long = length-range_with_len 2 (n - 1) in omega (arith, long, more))

short_cycle : (n : ℕ) (cost : ℕ → ℕ → ℕ) (least : ℕ) → 2 ≤ n → n ≤ 14 → ((i j : ℕ) → cost i j < 2 ^ 32) → IsBelowAll n cost least
    → least < no_path
short_cycle n cost least more few small below =
    go (range_with_len 2 (n - 1)) (length-range_with_len 2 (n - 1)) (first_cycle n more)
  where
    go : (nodes : List ℕ) → length nodes ≡ n - 1 → IsOrderOf n (2 ^ (n - 1) - 1) nodes → least < no_path
    go [] long order = absurd (omega (arith, long, more))
    go (x ∷ rest) long order =
        let path = path_most cost (2 ^ 32) (λ i j. omega (arith, small i j)) x rest in
        omega (arith, below x rest order, path, small 1 x, long, few)

pub least_from : (n : ℕ) (cost : ℕ → ℕ → ℕ) (least : ℕ) → 2 ≤ n → n ≤ 14 → ((i j : ℕ) → cost i j < 2 ^ 32)
    → IsBelowAll n cost least
    → (least ≡ no_path) ⊎ ((x : ℕ) × (rest : List ℕ) × IsOrderOf n (2 ^ (n - 1) - 1) (x ∷ rest) × (least ≡ length_from_one cost x rest))
    → IsLeastLength n (as_whole cost) (pos least)
least_from n cost least more few small below (inl none) =
    absurd (omega (arith, none, short_cycle n cost least more few small below))
least_from n cost least more few small below (inr found) = record {
  nodes = 1 ∷ found.0 ∷ found.1;
  cycle = cycle_of_order n (found.0 ∷ found.1) (omega (arith, more)) found.2;
  length_is = ap pos found.3 ∙ sym (whole_cycle cost found.0 found.1);
  below = below_cycles n cost least more below;
}

-- ---- one node alone

pub alone : (cost : ℕ → ℕ → ℕ) (least : ℕ) → least ≡ cost 1 1 → IsLeastLength 1 (as_whole cost) (pos least)
alone cost least is = record {
  nodes = 1 ∷ [];
  cycle = cycle_from 1 (1 ∷ []) ((omega arith, omega arith), tt) (tt, tt) (λ x node. inl (omega (arith, node.0, node.1)));
  length_is = omega (arith, ints, is);
  below = only;
}
  where
    here : (x : ℕ) → IsNode 1 x → pos least ≤ℤ length_of (as_whole cost) (x ∷ [])
    here x node =
        let same : 1 ≡ x = omega (arith, node.0, node.1) in
        let one : pos least ≤ℤ length_of (as_whole cost) (1 ∷ []) = omega (arith, ints, is) in
        subst (λ (y : ℕ). pos least ≤ℤ length_of (as_whole cost) (y ∷ [])) same one

    only : (nodes : List ℕ) → IsCycle 1 nodes → pos least ≤ℤ length_of (as_whole cost) nodes
    only [] cycle = absurd (omega (arith, cycle.count))
    only (x ∷ []) cycle = here x (cycle.range 0 0 (omega arith))
    only (x ∷ y ∷ nodes) cycle = absurd (omega (arith, cycle.count))

-- ---- the last step, from node 1

one_place : (n k : ℕ) → 1 + k ≡ (1 - 1) * n + (k + 2 - 1)
one_place n k = omega arith

pub small_costs : (costs : List ℕ) → All (λ cost. cost ≤ 64) costs → (k : ℕ) → slice_index costs k < 2 ^ 32
small_costs costs small k = elim (cases_lt k (length costs)) [
  | inl lt ↦ let own = small k 0 lt in omega (arith, own)
  | inr ge ↦ let none = get_or_past costs k 0 ge in omega (arith, none)
]

-- plan: a cycle is a step from node 1 and a best path through the others (`step`, `at`), so its length is the least sum
pub least_of_paths : (n least : ℕ) (costs paths : List ℕ) → 2 ≤ n → n ≤ 14 → ((k : ℕ) → slice_index costs k < 2 ^ 32)
    → length paths ≡ 2 ^ (n - 1) * (n - 1) → AreBestPaths n (cost_by_rows n costs) paths
    → IsLeastSum no_path costs paths 1 ((2 ^ (n - 1) - 1) * (n - 1)) (n - 1) least
    → IsLeastLength n (as_whole (cost_by_rows n costs)) (pos least)
least_of_paths n least costs paths more few small long best sum =
    least_from n (cost_by_rows n costs) least more few (λ i j. small ((i - 1) * n + (j - 1))) below (found sum.found)
  where
    step : (k : ℕ) → slice_index costs (1 + k) ≡ cost_by_rows n costs 1 (k + 2)
    step k = ap (slice_index costs) (one_place n k)

    at : (k : ℕ) → k < n - 1 → IsBestPath n (cost_by_rows n costs) (2 ^ (n - 1) - 1) (k + 2) (slice_index paths ((2 ^ (n - 1) - 1) * (n - 1) + k))
    at k lt = best (2 ^ (n - 1) - 1) k lt (inside (2 ^ (n - 1) - 1) (2 ^ (n - 1)) (n - 1) k (length paths) (omega (arith, pow_pos (n - 1))) lt (omega (arith, long)))

    below_at : (k x : ℕ) (rest : List ℕ) → k < n - 1 → x ≡ k + 2 → IsOrderOf n (2 ^ (n - 1) - 1) (x ∷ rest) → least ≤ length_from_one (cost_by_rows n costs) x rest
    below_at k x rest lt is order =
        let left = (at k lt).below rest (subst (λ (y : ℕ). IsOrderOf n (2 ^ (n - 1) - 1) (y ∷ rest)) is order) in
        let all : least ≤ length_from_one (cost_by_rows n costs) (k + 2) rest = omega (arith, sum.below k lt, left, step k) in
        subst (λ (y : ℕ). least ≤ length_from_one (cost_by_rows n costs) y rest) (sym is) all

    below : IsBelowAll n (cost_by_rows n costs) least
    below x rest order = below_at (x - 2) x rest (omega (arith, order.range.0)) (omega (arith, order.range.0)) order

    next : (k : ℕ) → least ≡ slice_index costs (1 + k) + slice_index paths ((2 ^ (n - 1) - 1) * (n - 1) + k)
        → IsFound n (cost_by_rows n costs) (2 ^ (n - 1) - 1) (k + 2) (slice_index paths ((2 ^ (n - 1) - 1) * (n - 1) + k))
        → (least ≡ no_path) ⊎ ((x : ℕ) × (rest : List ℕ) × IsOrderOf n (2 ^ (n - 1) - 1) (x ∷ rest) × (least ≡ length_from_one (cost_by_rows n costs) x rest))
    next k is (inl none) = inl (omega (arith, is, none, sum.below_start))
    next k is (inr path) = inr (k + 2, path.0, path.1, omega (arith, is, path.2, step k))

    found : (least ≡ no_path) ⊎ ((k : ℕ) × (k < n - 1) × (least ≡ slice_index costs (1 + k) + slice_index paths ((2 ^ (n - 1) - 1) * (n - 1) + k)))
        → (least ≡ no_path) ⊎ ((x : ℕ) × (rest : List ℕ) × IsOrderOf n (2 ^ (n - 1) - 1) (x ∷ rest) × (least ≡ length_from_one (cost_by_rows n costs) x rest))
    found (inl none) = inl none
    found (inr sum_at) = next sum_at.0 sum_at.2 (at sum_at.0 sum_at.1).found

-- ---- the least length and the largest cost are small

to_most : (cost : ℕ → ℕ → ℕ) (most : ℕ) → ((i j : ℕ) → cost i j ≤ most) → (end from : ℕ) (xs : List ℕ)
    → length_to (as_whole cost) end from xs ≤ℤ pos (most * (1 + length xs))
to_most cost most small end from [] = omega (arith, ints, small from end)
to_most cost most small end from (x ∷ xs) = let tail = to_most cost most small end x xs in omega (arith, ints, tail, small from x)

least_most : (n most least : ℕ) (cost : ℕ → ℕ → ℕ) → ((i j : ℕ) → cost i j ≤ most) → IsLeastLength n (as_whole cost) (pos least)
    → least ≤ most * n
least_most n most least cost small is = go is.nodes is.cycle.count is.length_is
  where
    go : (nodes : List ℕ) → length nodes ≡ n → pos least ≡ length_of (as_whole cost) nodes → least ≤ most * n
    go [] count same = omega (arith, ints, same)
    go (x ∷ xs) count same =
        let path = to_most cost most small x x xs in
        let whole : most * (1 + length xs) ≡ most * n = ap (λ k. most * k) (omega (arith, count)) in
        omega (arith, ints, same, path, whole)

pub small_cycle : (n most least : ℕ) (costs : List ℕ) → All (λ cost. cost ≤ most) costs
    → IsLeastLength n (as_whole (cost_by_rows n costs)) (pos least) → least ≤ most * n
small_cycle n most least costs small is = least_most n most least (cost_by_rows n costs) each is
  where
    each : (i j : ℕ) → cost_by_rows n costs i j ≤ most
    each i j = elim (cases_lt ((i - 1) * n + (j - 1)) (length costs)) [
      | inl lt ↦ small ((i - 1) * n + (j - 1)) 0 lt
      | inr ge ↦ let none = get_or_past costs ((i - 1) * n + (j - 1)) 0 ge in omega (arith, none)
    ]

pub small_largest : (largest most : ℕ) (costs : List ℕ) → All (λ cost. cost ≤ most) costs → IsLargest costs largest
    → largest ≤ most
small_largest largest most costs small is = elim (cases_lt is.found.0 (length costs)) [
  | inl lt ↦ let own = small is.found.0 0 lt in omega (arith, own, is.found.1)
  | inr ge ↦ let none = get_or_past costs is.found.0 0 ge in omega (arith, none, is.found.1)
]
