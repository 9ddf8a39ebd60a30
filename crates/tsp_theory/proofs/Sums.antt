-- Sums over lists, nodes and links, how large they get in 64 and 128 bits, and division by the scale, rounded up. The
-- proofs of all bounds, here and in crates above, rest on it.
use Rattle.tsp_theory.proofs.Prelude.{◌≡◌, ℕ, zero, suc, List, [], ◌∷◌, refl, arith, ◌≢◌, ◌-◌, ◌<◌, ◌≤◌, length, get_or, sym, ap, ◌∙◌, ◌+◌, ◌*◌, to_z, of_z, subst, ◌/◌, ◌^◌, ◌==◌, inl, inr, cases_eq, eq-eqb, ne_eqb, ints, unsigned_abs-mul, fits_signed_mul, to_z-of_z, by_lt_z, int_wrap_fits, int_wrap-add_left, recursion_from_All, All-weaker, sum_by-IsPermutation, IsPermutation-refl, IsPermutation-remove, IsPermutation-cons, IsPermutation-sym, IsPermutation-trans, Contains-permutation, length_permutation, w64, w128, int_div_euclid, int_rem_euclid, int_wrap, sum_by, AllByRecursion, AllPairs, Contains, range_with_len, remove, ℤ, pos, negsuc, ◌+ℤ◌, ◌*ℤ◌, ◌≤ℤ◌, neg_ℤ, ◌↔◌, IsTrue, int_le, unsigned_abs, FitsSigned, ◌-ℤ◌, ◌<ℤ◌, if◌then◌else◌, IsNode, nodes_to}
use Rattle.std.proofs.Math.IntN.{suc_ℤ-*ℤ, zero-*ℤ, *ℤ-zero, +ℤ_assoc, +ℤ_idr, pos-*ℤ-pos, pos-*ℤ-negsuc}
use Rattle.std.proofs.Math.Nat.{mul-le-mul, mul-suc, div-le_self}
use Rattle.std.proofs.lemmas.List.FromFn.{length-range_with_len, get_or-range_with_len}
use Rattle.std.proofs.lemmas.List.Sums.{sum_by-cons}
use Rattle.std.specs.List.Sorted.{IsPermutation}
use Rattle.tsp_format.proofs.Basics.{in_tail}
use Rattle.tsp_format.specs.Limits.{most_nodes, most_scale, most_weight, most_potential}
use Rattle.tsp_format.specs.Steps.{IsFromTo}
use Rattle.tsp_theory.specs.Bounds.{IsScale, IsLeastBound, IsBoundSized}
use Rattle.tsp_theory.specs.Tour.{sum_int_by, IsCycle, links_to, links, length_of}
use Rattle.tsp_theory.specs.states.Nearest.{least_at, IsMoved}

-- the part of a whole number above 0, and the part below
above : ℤ → ℕ
above (pos n) = n
above (negsuc n) = 0

below : ℤ → ℕ
below (pos n) = 0
below (negsuc n) = suc n

parts : (z : ℤ) → z +ℤ pos (below z) ≡ pos (above z)
unfolding above below
parts (pos n) = omega (arith, ints)
parts (negsuc n) = omega (arith, ints)

sum_parts : {X : Type 0} (f : X → ℤ) (xs : List X)
    → sum_int_by f xs +ℤ pos (sum_by (λ x. below (f x)) xs) ≡ pos (sum_by (λ x. above (f x)) xs)
sum_parts f [] = refl
sum_parts f (x ∷ xs) =
    let tail = sum_parts f xs in
    let head = parts (f x) in
    rw (sum_by-cons (λ x. below (f x)) x xs, sum_by-cons (λ x. above (f x)) x xs) (omega (arith, ints))

-- a sum is the same in any order
pub sum_int_by-IsPermutation : {X : Type 0} (f : X → ℤ) (xs ys : List X) → IsPermutation xs ys → sum_int_by f xs ≡ sum_int_by f ys
sum_int_by-IsPermutation f xs ys p =
    let first = sum_parts f xs in
    let second = sum_parts f ys in
    let lows = sum_by-IsPermutation (λ x. below (f x)) xs ys p in
    let highs = sum_by-IsPermutation (λ x. above (f x)) xs ys p in
    omega (arith, ints)

pub sum_int_by-add : {X : Type 0} (f g : X → ℤ) (xs : List X)
    → sum_int_by (λ x. f x +ℤ g x) xs ≡ sum_int_by f xs +ℤ sum_int_by g xs
sum_int_by-add f g [] = refl
sum_int_by-add f g (x ∷ xs) = let tail = sum_int_by-add f g xs in omega (arith, ints)

pub scaled_sum : (scale : ℕ) (a b : ℤ) → pos scale *ℤ (a +ℤ b) ≡ (pos scale *ℤ a) +ℤ (pos scale *ℤ b)
scaled_sum zero a b = simp zero-*ℤ
scaled_sum (suc scale) a b =
    let tail = scaled_sum scale a b in
    let whole = suc_ℤ-*ℤ (pos scale) (a +ℤ b) in
    let first = suc_ℤ-*ℤ (pos scale) a in
    let second = suc_ℤ-*ℤ (pos scale) b in
    omega (arith, ints)

pub sum_int_by-scaled : {X : Type 0} (scale : ℕ) (f : X → ℤ) (xs : List X)
    → sum_int_by (λ x. pos scale *ℤ f x) xs ≡ pos scale *ℤ sum_int_by f xs
sum_int_by-scaled scale f [] = let none = *ℤ-zero (pos scale) in omega (arith, ints)
sum_int_by-scaled scale f (x ∷ xs) =
    let tail = sum_int_by-scaled scale f xs in
    let both = scaled_sum scale (f x) (sum_int_by f xs) in
    omega (arith, ints)

-- what is at most something for each is so for the sum
pub sum_int_by-le : {X : Type 0} (f g : X → ℤ) (xs : List X) → AllByRecursion (λ x. f x ≤ℤ g x) xs
    → sum_int_by f xs ≤ℤ sum_int_by g xs
sum_int_by-le f g [] h = omega (arith, ints)
sum_int_by-le f g (x ∷ xs) h =
    let tail = sum_int_by-le f g xs h.1 in
    omega (arith, ints, h.0)

-- ---- a cycle of n nodes has the nodes of 1..n in another order

-- ---- different elements

-- no two elements are the same, by recursion
abbrev AllApart : {X : Type 0} → List X → Type 0
AllApart [] = Unit {0}
AllApart (x ∷ xs) = AllByRecursion (λ y. x ≢ y) xs × AllApart xs

apart_from_pairs : {X : Type 0} (xs : List X) → AllPairs (λ a b. a ≢ b) xs → AllApart xs
apart_from_pairs [] h = tt
apart_from_pairs (x ∷ xs) h = (
  recursion_from_All (λ y. x ≢ y) xs (λ k d lt. h zero (suc k) d (omega arith) (omega arith)),
  apart_from_pairs xs (λ i j d below lt. h (suc i) (suc j) d (omega arith) (omega arith)),
)

still_inside : {X : Type 0} (xs ys zs : List X) (x : X) → IsPermutation ys (x ∷ zs) → AllByRecursion (λ y. x ≢ y) xs
    → AllByRecursion (Contains ys) xs → AllByRecursion (Contains zs) xs
still_inside [] ys zs x p other inside = tt
still_inside (w ∷ xs) ys zs x p other inside =
    let found = Contains-permutation ys (x ∷ zs) w p inside.0 in
    (in_tail x zs w found.0 found.1 found.2 other.0, still_inside xs ys zs x p other.1 inside.1)

-- different elements, all from a list that is no longer, are that list in another order
permutation_from_inside : {X : Type 0} (xs ys : List X) → AllApart xs → AllByRecursion (Contains ys) xs → length ys ≤ length xs
    → IsPermutation xs ys
permutation_from_inside [] [] apart inside few = IsPermutation-refl []
permutation_from_inside [] (y ∷ ys) apart inside few = absurd (omega arith)
permutation_from_inside (x ∷ xs) ys apart inside few =
    let i = inside.0.0 in
    let taken : IsPermutation ys (x ∷ remove ys i) = IsPermutation-remove ys i x inside.0.1 (sym inside.0.2) in
    let counted = length_permutation ys (x ∷ remove ys i) taken in
    let fewer : length (remove ys i) ≤ length xs = omega arith in
    let rest = permutation_from_inside xs (remove ys i) apart.1 (still_inside xs ys (remove ys i) x taken apart.0 inside.1)
    fewer in
    IsPermutation-trans (x ∷ xs) (x ∷ remove ys i) ys (IsPermutation-cons x xs (remove ys i) rest)
    (IsPermutation-sym ys (x ∷ remove ys i) taken)

node_inside : (n node : ℕ) → IsNode n node → Contains (range_with_len 1 n) node
node_inside n node h =
    let long = length-range_with_len 1 n in
    let read : get_or (range_with_len 1 n) (node - 1) node ≡ node =
    get_or-range_with_len 1 n (node - 1) node (omega (arith, h.0, h.1)) ∙ omega (arith, h.0) in
    (node - 1, omega (arith, h.0, h.1), read)

pub cycle_permutation : (n : ℕ) (nodes : List ℕ) → IsCycle n nodes → IsPermutation nodes (nodes_to n)
unfolding nodes_to
cycle_permutation n nodes w =
    permutation_from_inside nodes (range_with_len 1 n) (apart_from_pairs nodes w.once)
    (recursion_from_All (Contains (range_with_len 1 n)) nodes
    (All-weaker (IsNode n) (Contains (range_with_len 1 n)) (node_inside n) nodes w.range))
    (omega (arith, length-range_with_len 1 n, w.count))

pub sum_of_cycle : (n : ℕ) (nodes : List ℕ) (f : ℕ → ℤ) → IsCycle n nodes → sum_int_by f nodes ≡ sum_int_by f (nodes_to n)
sum_of_cycle n nodes f w = sum_int_by-IsPermutation f nodes (nodes_to n) (cycle_permutation n nodes w)

-- ---- links

firsts_to : (f : ℕ → ℤ) (end node : ℕ) (nodes : List ℕ)
    → sum_int_by (λ link. f link.0) (links_to end node nodes) ≡ sum_int_by f (node ∷ nodes)
firsts_to f end node [] = refl
firsts_to f end node (next ∷ nodes) = ap (λ z. f node +ℤ z) (firsts_to f end next nodes)

seconds_to : (f : ℕ → ℤ) (end node : ℕ) (nodes : List ℕ)
    → sum_int_by (λ link. f link.1) (links_to end node nodes) ≡ sum_int_by f (end ∷ nodes)
seconds_to f end node [] = refl
seconds_to f end node (next ∷ nodes) = let tail = seconds_to f end next nodes in omega (arith, ints)

-- over the links, the first nodes are those of the list, and so are the second ones
pub length_by_first : (f : ℕ → ℤ) (nodes : List ℕ) → length_of (λ i j. f i) nodes ≡ sum_int_by f nodes
length_by_first f [] = refl
length_by_first f (first ∷ nodes) = firsts_to f first first nodes

pub length_by_second : (f : ℕ → ℤ) (nodes : List ℕ) → length_of (λ i j. f j) nodes ≡ sum_int_by f nodes
length_by_second f [] = refl
length_by_second f (first ∷ nodes) = seconds_to f first first nodes

pub length_of_sum : (first second : ℕ → ℕ → ℤ) (nodes : List ℕ)
    → length_of (λ i j. first i j +ℤ second i j) nodes ≡ length_of first nodes +ℤ length_of second nodes
length_of_sum first second nodes = sum_int_by-add (λ link. first link.0 link.1) (λ link. second link.0 link.1) (links nodes)

-- two different nodes
abbrev IsLink : ℕ → ℕ × ℕ → Type 0
IsLink n link = IsNode n link.0 × IsNode n link.1 × (link.0 ≢ link.1)

links_in_to : (n end node : ℕ) (nodes : List ℕ) → IsNode n end → IsNode n node → AllByRecursion (IsNode n) nodes
    → AllApart (node ∷ nodes) → node ≢ end → AllByRecursion (λ other. end ≢ other) nodes
    → AllByRecursion (IsLink n) (links_to end node nodes)
links_in_to n end node [] e h range apart last away = ((h, e, last), tt)
links_in_to n end node (next ∷ nodes) e h range apart last away =
    ((h, range.0, apart.0.0), links_in_to n end next nodes e range.0 range.1 apart.1 (λ same. away.0 (sym same)) away.1)

cycle_links : (n : ℕ) (nodes : List ℕ) → 2 ≤ n → IsCycle n nodes → AllByRecursion (IsLink n) (links nodes)
cycle_links n nodes more w = go nodes w.count (recursion_from_All (IsNode n) nodes w.range) (apart_from_pairs nodes w.once)
  where
    go : (nodes : List ℕ) → length nodes ≡ n → AllByRecursion (IsNode n) nodes → AllApart nodes
        → AllByRecursion (IsLink n) (links nodes)
    go [] count range apart = tt
    go (a ∷ []) count range apart = absurd (omega arith)
    go (a ∷ b ∷ nodes) count range apart = (
      (range.0, range.1.0, apart.0.0),
      links_in_to n a b nodes range.0 range.1.0 range.1.1 apart.1
          (λ same. apart.0.0 (sym same)) apart.0.1,
    )

each_link : (n : ℕ) (lower upper : ℕ → ℕ → ℤ) → ((i j : ℕ) → IsNode n i → IsNode n j → i ≢ j → lower i j ≤ℤ upper i j)
    → (pairs : List (ℕ × ℕ)) → AllByRecursion (IsLink n) pairs
    → AllByRecursion (λ link. lower link.0 link.1 ≤ℤ upper link.0 link.1) pairs
each_link n lower upper below [] h = tt
each_link n lower upper below (link ∷ pairs) h = (below link.0 link.1 h.0.0 h.0.1 h.0.2, each_link n lower upper below pairs h.1)

pub length_of_cycle-le : (n : ℕ) (nodes : List ℕ) (lower upper : ℕ → ℕ → ℤ) → 2 ≤ n → IsCycle n nodes
    → ((i j : ℕ) → IsNode n i → IsNode n j → i ≢ j → lower i j ≤ℤ upper i j) → length_of lower nodes ≤ℤ length_of upper nodes
length_of_cycle-le n nodes lower upper more w below =
    sum_int_by-le (λ link. lower link.0 link.1) (λ link. upper link.0 link.1) (links nodes)
    (each_link n lower upper below (links nodes) (cycle_links n nodes more w))

pub length_scaled : (scale : ℕ) (cost : ℕ → ℕ → ℤ) (nodes : List ℕ)
    → length_of (λ i j. pos scale *ℤ cost i j) nodes ≡ pos scale *ℤ length_of cost nodes
length_scaled scale cost nodes = sum_int_by-scaled scale (λ link. cost link.0 link.1) (links nodes)

-- ---- scaled costs and sums of potentials fit 64 bits

-- ---- sizes

pub size_of : (most : ℕ) (z : ℤ) → IsFromTo (neg_ℤ (pos most)) (pos most) z → unsigned_abs z ≤ most
size_of most (pos n) h = omega (arith, ints, h.0, h.1)
size_of most (negsuc n) h = omega (arith, ints, h.0, h.1)

pub from_size : (most : ℕ) (z : ℤ) → unsigned_abs z ≤ most → IsFromTo (neg_ℤ (pos most)) (pos most) z
from_size most (pos n) h = (omega (arith, ints), omega (arith, ints))
from_size most (negsuc n) h = (omega (arith, ints), omega (arith, ints))

-- a product is no larger than that of the limits
pub product_size : (m n : ℕ) (a b : ℤ) → unsigned_abs a ≤ m → unsigned_abs b ≤ n
    → IsFromTo (neg_ℤ (pos (m * n))) (pos (m * n)) (a *ℤ b)
product_size m n a b p q = from_size (m * n) (a *ℤ b) (rw (unsigned_abs-mul a b) (mul-le-mul p q))

pub scaled_size : (scale cost : ℤ) → IsScale scale → neg_ℤ (pos most_weight) ≤ℤ cost → cost ≤ℤ pos most_weight
    → IsFromTo (neg_ℤ (pos (most_scale * most_weight))) (pos (most_scale * most_weight)) (scale *ℤ cost)
scaled_size scale cost s low high =
    product_size most_scale most_weight scale cost (size_of most_scale scale (omega (arith, ints, s.0), s.1))
    (size_of most_weight cost (low, high))

-- ---- what the code computes

pub same_64 : (most : ℕ) (z : ℤ) → most ≤ 1000000000000000000 → IsFromTo (neg_ℤ (pos most)) (pos most) z
    → to_z w64 (of_z w64 z) ≡ z
same_64 most z few h = omega (arith, ints, h.0, h.1)

pub product_fits : (scale cost : ℤ) → IsScale scale → neg_ℤ (pos most_weight) ≤ℤ cost → cost ≤ℤ pos most_weight
    → FitsSigned w64 (to_z w64 (of_z w64 scale) *ℤ to_z w64 (of_z w64 cost))
product_fits scale cost s low high =
    let first : to_z w64 (of_z w64 scale) ≡ scale = omega (arith, ints, s.0, s.1) in
    let second : to_z w64 (of_z w64 cost) ≡ cost = omega (arith, ints, low, high) in
    rw (first, second) (fits_signed_mul w64 scale cost most_scale most_weight
    (size_of most_scale scale (omega (arith, ints, s.0), s.1)) (size_of most_weight cost (low, high)) (omega arith))

pub product_is : (scale cost : ℤ) → IsScale scale → neg_ℤ (pos most_weight) ≤ℤ cost → cost ≤ℤ pos most_weight
    → to_z w64 (of_z w64 (to_z w64 (of_z w64 scale) *ℤ to_z w64 (of_z w64 cost))) ≡ scale *ℤ cost
product_is scale cost s low high =
    let first : to_z w64 (of_z w64 scale) ≡ scale = omega (arith, ints, s.0, s.1) in
    let second : to_z w64 (of_z w64 cost) ≡ cost = omega (arith, ints, low, high) in
    rw (first, second) (same_64 (most_scale * most_weight) (scale *ℤ cost) (omega arith) (scaled_size scale cost s low high))

pub decided : (a b : ℤ) → IsTrue (int_le a b) ↔ (a ≤ℤ b)
decided a b = (λ h. grind (arith, ints), λ h. grind (arith, ints))

pub pair_decided : (row column scaled : ℤ) → IsFromTo (neg_ℤ (pos most_potential)) (pos most_potential) row
    → IsFromTo (neg_ℤ (pos most_potential)) (pos most_potential) column
    → IsFromTo (neg_ℤ (pos (most_scale * most_weight))) (pos (most_scale * most_weight)) scaled
    → IsTrue (int_le (to_z w64 (of_z w64 (to_z w64 (of_z w64 row) +ℤ to_z w64 (of_z w64 column)))) (to_z w64 (of_z w64 scaled)))
    ↔ ((row +ℤ column) ≤ℤ scaled)
pair_decided row column scaled p q r =
    let sum : to_z w64 (of_z w64 (to_z w64 (of_z w64 row) +ℤ to_z w64 (of_z w64 column))) ≡ row +ℤ column =
    omega (arith, ints, p.0, p.1, q.0, q.1) in
    let right : to_z w64 (of_z w64 scaled) ≡ scaled = omega (arith, ints, r.0, r.1) in
    rw (sum, right) (decided (row +ℤ column) scaled)

pub same_scale : (scale : ℤ) → IsScale scale → to_z w64 (of_z w64 scale) ≡ scale
same_scale scale s = omega (arith, ints, s.0, s.1)

pub fit_decided : (row column scale cost scaled : ℤ) → IsFromTo (neg_ℤ (pos most_potential)) (pos most_potential) row
    → IsFromTo (neg_ℤ (pos most_potential)) (pos most_potential) column
    → IsScale scale → scaled ≡ to_z w64 (of_z w64 scale) *ℤ cost
    → IsFromTo (neg_ℤ (pos (most_scale * most_weight))) (pos (most_scale * most_weight)) scaled
    → IsTrue (int_le (to_z w64 (of_z w64 (to_z w64 (of_z w64 row) +ℤ to_z w64 (of_z w64 column)))) (to_z w64 (of_z w64 scaled)))
    ↔ ((row +ℤ column) ≤ℤ (scale *ℤ cost))
fit_decided row column scale cost scaled p q s is r =
    subst (λ (z : ℤ). IsTrue
    (int_le (to_z w64 (of_z w64 (to_z w64 (of_z w64 row) +ℤ to_z w64 (of_z w64 column)))) (to_z w64 (of_z w64 scaled)))
    ↔ ((row +ℤ column) ≤ℤ z))
    (is ∙ ap (λ (z : ℤ). z *ℤ cost) (same_scale scale s))
    (pair_decided row column scaled p q r)

-- ---- sums of two

pub sum_more : (sum number : ℤ) (index : ℕ) → index ≤ most_nodes
    → IsFromTo (neg_ℤ (pos (index * most_potential))) (pos (index * most_potential)) sum
    → IsFromTo (neg_ℤ (pos most_potential)) (pos most_potential) number
    → IsFromTo (neg_ℤ (pos ((index + 1) * most_potential))) (pos ((index + 1) * most_potential)) (sum +ℤ number)
sum_more sum number index few s p = (omega (arith, ints, s.0, p.0), omega (arith, ints, s.1, p.1))

pub sum_computed : (sum number from : ℤ) (index : ℕ) → index ≤ most_nodes
    → IsFromTo (neg_ℤ (pos (index * most_potential))) (pos (index * most_potential)) sum
    → IsFromTo (neg_ℤ (pos most_potential)) (pos most_potential) number
    → from ≡ to_z w64 (of_z w64 number) → to_z w128 (of_z w128 (sum +ℤ to_z w128 (of_z w128 from))) ≡ sum +ℤ number
sum_computed sum number from index few s p is =
    let same : from ≡ number = is ∙ omega (arith, ints, p.0, p.1) in
    omega (arith, ints, s.0, s.1, p.0, p.1)

pub bound_of_sums : (scale first second first_total second_total bound : ℤ) → IsScale scale → FitsSigned w128 bound
    → IsFromTo (neg_ℤ (pos (most_nodes * most_potential))) (pos (most_nodes * most_potential)) first
    → IsFromTo (neg_ℤ (pos (most_nodes * most_potential))) (pos (most_nodes * most_potential)) second
    → first ≡ first_total → second ≡ second_total
    → IsLeastBound (to_z w64 (of_z w64 scale))
    (to_z w128 (of_z w128 (to_z w128 (of_z w128 first) +ℤ to_z w128 (of_z w128 second)))) bound
    → IsLeastBound scale (first_total +ℤ second_total) (to_z w128 (of_z w128 bound))
bound_of_sums scale first second first_total second_total bound s fits p q first_is second_is least =
    let sum : to_z w128 (of_z w128 (to_z w128 (of_z w128 first) +ℤ to_z w128 (of_z w128 second))) ≡ first_total +ℤ second_total =
    omega (arith, ints, p.0, p.1, q.0, q.1) in
    rw (to_z-of_z w128 bound fits) (subst (λ (z : ℤ). IsLeastBound scale z bound) sum
    (subst (λ (z : ℤ). IsLeastBound z (to_z w128 (of_z w128 (to_z w128 (of_z w128 first) +ℤ to_z w128 (of_z w128 second)))) bound)
    (same_scale scale s)
    least))

-- ---- the length of a list of nodes, one link more at a time, as the code sums it in 64 bits

-- the sum of the costs from a node along others to an end
abbrev pub length_to : (ℕ → ℕ → ℤ) → ℕ → ℕ → List ℕ → ℤ
length_to cost end from others = sum_int_by (λ link. cost link.0 link.1) (links_to end from others)

-- one step further
pub length_more : (cost : ℕ → ℕ → ℤ) (so_far total : ℤ) (end from next : ℕ) (others rest : List ℕ) → others ≡ next ∷ rest
    → so_far +ℤ length_to cost end from others ≡ total → (so_far +ℤ cost from next) +ℤ length_to cost end next rest ≡ total
length_more cost so_far total end from next others rest parts e =
    +ℤ_assoc so_far (cost from next) (length_to cost end next rest)
    ∙ subst (λ (xs : List ℕ). so_far +ℤ length_to cost end from xs ≡ total) parts e

-- the last step, to the end
pub length_last : (cost : ℕ → ℕ → ℤ) (so_far total : ℤ) (end from : ℕ) (others : List ℕ) → others ≡ []
    → so_far +ℤ length_to cost end from others ≡ total → so_far +ℤ cost from end ≡ total
length_last cost so_far total end from others none e =
    ap (λ (z : ℤ). so_far +ℤ z) (sym (+ℤ_idr (cost from end)))
    ∙ subst (λ (xs : List ℕ). so_far +ℤ length_to cost end from xs ≡ total) none e

-- a sum of this many costs is of this size
pub record IsSumOf (count : ℕ) (sum : ℤ) : Type 0 where
  pub low : pos 0 ≤ℤ (sum +ℤ pos (1000000000000 * count))
  pub high : sum ≤ℤ pos (1000000000000 * count)

pub lengths_sum_more : (sum cost : ℤ) (count : ℕ) → IsSumOf count sum → neg_ℤ (pos 1000000000000) ≤ℤ cost → cost ≤ℤ pos 1000000000000
    → IsSumOf (count + 1) (sum +ℤ cost)
lengths_sum_more sum cost count size low high = record { low = omega (arith, ints, size.low); high = omega (arith, ints, size.high) }

-- the sum is what the code computes
pub sum_fits : (sum cost : ℤ) (count : ℕ) → count ≤ 1000000 → IsSumOf count sum → neg_ℤ (pos 1000000000000) ≤ℤ cost
    → cost ≤ℤ pos 1000000000000
    → to_z w64 (of_z w64 (sum +ℤ to_z w64 (of_z w64 cost))) ≡ sum +ℤ cost
sum_fits sum cost count few size low high = omega (arith, ints, size.low, size.high)

-- ---- over all nodes

-- the numbers from a on: a, and those from a + 1 on
pub run_parts : (a m : ℕ) → 0 < m → range_with_len a m ≡ a ∷ range_with_len (a + 1) (m - 1)
run_parts a zero some = absurd (omega (arith, some))
run_parts a (suc m) some = ap (λ k. a ∷ range_with_len (a + 1) k) (omega arith)

pub canonical : (cost : ℕ → ℕ → ℤ) (n : ℕ) → 1 ≤ n → length_of cost (nodes_to n) ≡ length_to cost 1 1 (range_with_len 2 (n - 1))
unfolding nodes_to
canonical cost n some = ap (length_of cost) (run_parts 1 n some)

-- ---- the largest whole number of 64 bits

abbrev pub most_64 : ℤ
most_64 = pos 9223372036854775807

-- ---- the least whole number that at a scale is no less than a sum, by Euclid's quotient

-- ---- products

natural : (z : ℤ) → pos 0 ≤ℤ z → z ≡ pos (unsigned_abs z)
natural (pos n) h = refl
natural (negsuc n) h = absurd (omega (arith, ints, h))

-- a greater factor gives at least one scale more
step_up : (scale : ℕ) (a b : ℤ) → a <ℤ b → ((pos scale *ℤ a) +ℤ pos scale) ≤ℤ (pos scale *ℤ b)
step_up scale a b lt =
    let next = a +ℤ pos 1 in
    let gap = unsigned_abs (b -ℤ next) in
    let apart : b -ℤ next ≡ pos gap = natural (b -ℤ next) (omega (arith, ints)) in
    let sum : b ≡ next +ℤ pos gap = omega (arith, ints) in
    let outer : (pos scale *ℤ b) ≡ (pos scale *ℤ next) +ℤ (pos scale *ℤ pos gap) = ap (λ z. pos scale *ℤ z) sum
    ∙ scaled_sum scale next (pos gap) in
    let inner : (pos scale *ℤ next) ≡ (pos scale *ℤ a) +ℤ pos scale = scaled_sum scale a (pos 1)
    ∙ ap (λ z. (pos scale *ℤ a) +ℤ z) (pos-*ℤ-pos scale 1 ∙ ap (λ (n : ℕ). pos n) (omega arith)) in
    let rest : (pos scale *ℤ pos gap) ≡ pos (scale * gap) = pos-*ℤ-pos scale gap in
    omega (arith, ints)

-- a factor that is no less gives no less
pub scaled_up : (scale : ℕ) (a b : ℤ) → a ≤ℤ b → (pos scale *ℤ a) ≤ℤ (pos scale *ℤ b)
scaled_up scale a b le =
    let gap = unsigned_abs (b -ℤ a) in
    let apart : b -ℤ a ≡ pos gap = natural (b -ℤ a) (omega (arith, ints, le)) in
    let sum : b ≡ a +ℤ pos gap = omega (arith, ints, apart) in
    let outer : (pos scale *ℤ b) ≡ (pos scale *ℤ a) +ℤ (pos scale *ℤ pos gap) = ap (λ z. pos scale *ℤ z) sum
    ∙ scaled_sum scale a (pos gap) in
    let rest : (pos scale *ℤ pos gap) ≡ pos (scale * gap) = pos-*ℤ-pos scale gap in
    omega (arith, ints)

-- ---- the quotient

-- a number is the scaled quotient and the remainder
whole : (scale : ℕ) (z : ℤ) → 0 < scale → z ≡ (pos scale *ℤ int_div_euclid z (pos scale)) +ℤ int_rem_euclid z (pos scale)
whole scale (pos a) low =
    let times = pos-*ℤ-pos scale (a / scale) in
    omega (arith, ints)
whole scale (negsuc a) low =
    let times = pos-*ℤ-negsuc scale (a / scale) in
    let product : scale * suc (a / scale) ≡ scale * (a / scale) + scale = mul-suc scale (a / scale) in
    omega (arith, ints)

rest_low : (scale : ℕ) (z : ℤ) → 0 < scale → pos 0 ≤ℤ int_rem_euclid z (pos scale)
rest_low scale (pos a) low = omega (arith, ints)
rest_low scale (negsuc a) low = omega (arith, ints)

rest_high : (scale : ℕ) (z : ℤ) → 0 < scale → int_rem_euclid z (pos scale) <ℤ pos scale
rest_high scale (pos a) low = omega (arith, ints)
rest_high scale (negsuc a) low = omega (arith, ints)

-- a quotient is no larger than the number
pub quotient_size : (most scale : ℕ) (z : ℤ) → 0 < scale → IsFromTo (neg_ℤ (pos most)) (pos most) z
    → IsFromTo (neg_ℤ (pos most)) (pos most) (int_div_euclid z (pos scale))
quotient_size most scale (pos a) low size = let less = div-le_self a scale in
    (omega (arith, ints, size.0, size.1), omega (arith, ints, size.0, size.1))
quotient_size most scale (negsuc a) low size = let less = div-le_self a scale in
    (omega (arith, ints, size.0, size.1), omega (arith, ints, size.0, size.1))

-- ---- the bound

-- what is the negative quotient of the negative sum
pub least_of_negative : (scale : ℕ) (sum q bound : ℤ) → 0 < scale → q ≡ int_div_euclid (pos 0 -ℤ sum) (pos scale)
    → bound ≡ pos 0 -ℤ q → IsLeastBound (pos scale) sum bound
least_of_negative scale sum q bound low is turned =
    let r = int_rem_euclid (pos 0 -ℤ sum) (pos scale) in
    let parts : pos 0 -ℤ sum ≡ (pos scale *ℤ q) +ℤ r = whole scale (pos 0 -ℤ sum) low
    ∙ ap (λ z. (pos scale *ℤ z) +ℤ r) (sym_of q (int_div_euclid (pos 0 -ℤ sum) (pos scale)) is) in
    let least_rest = rest_low scale (pos 0 -ℤ sum) low in
    let most_rest = rest_high scale (pos 0 -ℤ sum) low in
    let none : q +ℤ bound ≡ pos 0 = omega (arith, ints) in
    let product : pos 0 ≡ (pos scale *ℤ q) +ℤ (pos scale *ℤ bound) =
    sym_of (pos scale *ℤ (q +ℤ bound)) (pos 0) (ap (λ z. pos scale *ℤ z) none ∙ *ℤ-zero (pos scale)) ∙ scaled_sum scale q bound in
    record {
      above = omega (arith, ints);
      least = λ other h. by_lt_z {P = bound ≤ℤ other} other bound
          (λ lt. let far = step_up scale other bound lt in absurd (omega (arith, ints))) (λ le. le);
    }
  where
    sym_of : (a b : ℤ) → a ≡ b → b ≡ a
    sym_of a b e = sym e

-- ---- as the code computes it

pub least_computed : (scale sum whole_scale q : ℤ) → IsScale scale → IsFromTo (neg_ℤ (pos (2 ^ 100))) (pos (2 ^ 100)) sum
    → whole_scale ≡ to_z w64 (of_z w64 scale)
    → q ≡ int_div_euclid (to_z w128 (of_z w128 (pos 0 -ℤ to_z w128 (of_z w128 sum)))) (to_z w128 (of_z w128 whole_scale))
    → IsLeastBound scale sum (to_z w128 (of_z w128 (pos 0 -ℤ to_z w128 (of_z w128 q)))) × IsBoundSized
    (to_z w128 (of_z w128 (pos 0 -ℤ to_z w128 (of_z w128 q))))
least_computed (negsuc m) sum whole_scale q scale_in size scale_is is = absurd (omega (arith, ints, scale_in.0))
least_computed (pos m) sum whole_scale q scale_in size scale_is is =
    let some : 0 < m = omega (arith, ints, scale_in.0) in
    let first : to_z w128 (of_z w128 (pos 0 -ℤ to_z w128 (of_z w128 sum))) ≡ pos 0 -ℤ sum = omega (arith, ints, size.0, size.1) in
    let second : to_z w128 (of_z w128 whole_scale) ≡ pos m = omega (arith, ints, scale_in.0, scale_in.1, scale_is) in
    let q_is : q ≡ int_div_euclid (pos 0 -ℤ sum) (pos m) = is
    ∙ ap (λ z. int_div_euclid z (to_z w128 (of_z w128 whole_scale))) first ∙ ap (int_div_euclid (pos 0 -ℤ sum)) second in
    let turned : IsFromTo (neg_ℤ (pos (2 ^ 100))) (pos (2 ^ 100)) (pos 0 -ℤ sum) =
    (omega (arith, ints, size.1), omega (arith, ints, size.0)) in
    let q_size : IsFromTo (neg_ℤ (pos (2 ^ 100))) (pos (2 ^ 100)) q =
    rw q_is (quotient_size (2 ^ 100) m (pos 0 -ℤ sum) some turned) in
    let bound_is : to_z w128 (of_z w128 (pos 0 -ℤ to_z w128 (of_z w128 q))) ≡ pos 0 -ℤ q =
    omega (arith, ints, q_size.0, q_size.1) in (
      least_of_negative m sum q (to_z w128 (of_z w128 (pos 0 -ℤ to_z w128 (of_z w128 q)))) some q_is bound_is,
      (omega (arith, ints, q_size.1, bound_is), omega (arith, ints, q_size.0, bound_is)),
    )

-- ---- numbers added to an entry one after the other

pub moved_on : (a b old between new : ℤ) → IsMoved a old between → IsMoved b between new → IsMoved (a +ℤ b) old new
moved_on a b old between new (inl same) (inl kept) = inl (kept.0 ∙ same.0, let one = same.1 in let two = kept.1 in omega (arith, ints, one, two))
moved_on a b old between new (inl same) (inr wrapped) = inr (wrapped ∙ ap (int_wrap w64) (let one = same.0 in let two = same.1 in omega (arith, ints, one, two)))
moved_on a b old between new (inr wrapped) (inl kept) =
    inr (kept.0 ∙ wrapped ∙ ap (int_wrap w64) (let two = kept.1 in omega (arith, ints, two)))
moved_on a b old between new (inr first) (inr second) =
    inr (second ∙ ap (λ z. int_wrap w64 (z +ℤ b)) first ∙ int_wrap-add_left w64 (old +ℤ a) b ∙ ap (int_wrap w64) (omega (arith, ints)))

pub node_moved : (number : ℤ) (node x : ℕ) (old new : List ℤ) → least_at new node ≡ int_wrap w64 (least_at old node +ℤ number)
    → ((y : ℕ) → y ≢ node → least_at new y ≡ least_at old y)
    → IsMoved (if node == x then number else pos 0) (least_at old x) (least_at new x)
node_moved number node x old new here others = elim (cases_eq node x) [
  | inl same ↦ rw (eq-eqb node x same) (inr (subst (λ (y : ℕ). least_at new y ≡ int_wrap w64 (least_at old y +ℤ number)) same here))
  | inr other ↦ rw (ne_eqb node x other) (inl (others x (λ e. other (sym e)), refl))
]

pub moved_to : (change old new sum : ℤ) → sum ≡ old +ℤ change → FitsSigned w64 sum → IsMoved change old new → new ≡ sum
moved_to change old new sum is fits (inl same) = same.0 ∙ (let none = same.1 in omega (arith, ints, is, none))
moved_to change old new sum is fits (inr wrapped) = wrapped ∙ ap (int_wrap w64) (sym is) ∙ int_wrap_fits w64 sum fits
