-- Steps 3 and 4 of the cut argument in docs/proof.md: a tour is a 1-tree, and no cycle is shorter than the bound. Also
-- weak duality, for an ATSP. Crates above import it, too.
use Rattle.tsp_theory.proofs.Prelude.{◌≡◌, ◌≢◌, ℕ, ◌≤◌, ◌<◌, suc, ◌+◌, List, [], ◌∷◌, length, get_or, refl, sym, ap, subst, ◌∙◌, arith, Bool, true, false, not, eqb, cond, map, inl, inr, ◌*◌, ◌^◌, ◌++◌, to_z, of_z, zero, ◌-◌, take, drop, length-append, drop-cons, cases_Bool, or_parts, or_cases, both_ways, ne_eqb, eqb-true, eqb-false, cases_eq, ints, to_z-of_z, fits_signed_from_abs, append-nil, take-append-drop, recursion_from_All, IsPermutation-sym, IsPermutation-append_comm, Contains-permutation, w64, w128, range_with_len, AllByRecursion, IsDistinct, list_any, AllPairs, Contains, ℤ, pos, ◌+ℤ◌, ◌*ℤ◌, ◌≤ℤ◌, negsuc, ◌-ℤ◌, neg_ℤ, FitsSigned, IsNode, nodes_to}
use Rattle.std.proofs.lemmas.List.FromFn.{length-range_with_len, get_or-range_with_len}
use Rattle.std.proofs.lemmas.Map.Keys.{IsDistinct-head, IsDistinct-tail, IsDistinct-cons, IsDistinct-IsPermutation}
use Rattle.std.proofs.lemmas.Map.Steps.{length-le_from_distinct_below}
use Rattle.std.specs.List.Sorted.{IsPermutation}
use Rattle.tsp_format.proofs.Basics.{both_all}
use Rattle.tsp_format.specs.Limits.{most_nodes, most_scale, most_weight, most_potential, most_triples, most_multiplier}
use Rattle.tsp_format.specs.Steps.{IsFromTo}
use Rattle.tsp_format.specs.Words.{IsSymmetric}
use Rattle.tsp_theory.proofs.Sums.{same_scale, size_of}
use Rattle.tsp_theory.proofs.Trees.{IsLink, one_tree_of, ordered_weight}
use Rattle.tsp_theory.specs.Bounds.{entry, total, IsScale, IsLeastBound, DualsBoundCycles, weight_between, IsNodeBound, most_between, NodeBoundsBoundCycles, LeastOneTreesAreBelowCycles}
use Rattle.tsp_theory.specs.Tour.{IsCycle, sum_int_by, length_of, links_to}
use Rattle.tsp_theory.specs.Tree.{weight_of, crosses, IsInner, IsOneTree, IsLeastOneTree, ordered, tree_of}

pub record Laws : Type 0 where
  pub permutation : (n : ℕ) (nodes : List ℕ) → IsCycle n nodes → IsPermutation nodes (nodes_to n)
  pub sum_of_cycle : (n : ℕ) (nodes : List ℕ) (f : ℕ → ℤ) → IsCycle n nodes → sum_int_by f nodes ≡ sum_int_by f (nodes_to n)
  pub by_first : (f : ℕ → ℤ) (nodes : List ℕ) → length_of (λ i j. f i) nodes ≡ sum_int_by f nodes
  pub by_second : (f : ℕ → ℤ) (nodes : List ℕ) → length_of (λ i j. f j) nodes ≡ sum_int_by f nodes
  pub sum : (first second : ℕ → ℕ → ℤ) (nodes : List ℕ)
      → length_of (λ i j. first i j +ℤ second i j) nodes ≡ length_of first nodes +ℤ length_of second nodes
  pub scale : (scale : ℕ) (cost : ℕ → ℕ → ℤ) (nodes : List ℕ)
      → length_of (λ i j. pos scale *ℤ cost i j) nodes ≡ pos scale *ℤ length_of cost nodes
  pub no_loops : (n : ℕ) (nodes : List ℕ) (lower upper : ℕ → ℕ → ℤ) → 2 ≤ n → IsCycle n nodes
      → ((i j : ℕ) → IsNode n i → IsNode n j → i ≢ j → lower i j ≤ℤ upper i j) → length_of lower nodes ≤ℤ length_of upper nodes

-- the sum over the numbers of a list, by their places
sum_by_places : (numbers : List ℤ) (a : ℕ) (f : ℕ → ℤ) → ((k : ℕ) → k < length numbers → f (a + k) ≡ get_or numbers k (pos 0))
    → sum_int_by f (range_with_len a (length numbers)) ≡ total numbers
sum_by_places [] a f h = refl
sum_by_places (z ∷ zs) a f h =
    let first : f a ≡ z = subst (λ (i : ℕ). f i ≡ z) (omega arith) (h 0 (omega arith)) in
    let rest = sum_by_places zs (a + 1) f
    (λ k lt. subst (λ (i : ℕ). f i ≡ get_or zs k (pos 0)) (omega arith) (h (suc k) (omega arith))) in
    omega (arith, ints)

-- the entries of all nodes add up to the total
entries_of_all : (n : ℕ) (numbers : List ℤ) → length numbers ≡ n → sum_int_by (entry numbers) (nodes_to n) ≡ total numbers
unfolding nodes_to
entries_of_all n numbers long =
    ap (λ k. sum_int_by (entry numbers) (range_with_len 1 k)) (sym long)
    ∙ sum_by_places numbers 1 (entry numbers) (λ k lt. ap (λ i. get_or numbers i (pos 0)) (omega arith))

-- and so do those of a cycle's nodes
pub entries_of_cycle : (n : ℕ) (nodes : List ℕ) (numbers : List ℤ) → Laws → length numbers ≡ n → IsCycle n nodes
    → sum_int_by (entry numbers) nodes ≡ total numbers
entries_of_cycle n nodes numbers laws long cycle = laws.sum_of_cycle n nodes (entry numbers) cycle ∙ entries_of_all n numbers long

-- the length under the sum of a number of the first node and one of the second
pub entries_of_links : (n : ℕ) (nodes : List ℕ) (firsts seconds : List ℤ) → Laws → length firsts ≡ n → length seconds ≡ n
    → IsCycle n nodes
    → length_of (λ i j. entry firsts i +ℤ entry seconds j) nodes ≡ total firsts +ℤ total seconds
entries_of_links n nodes firsts seconds laws long as_long cycle =
    let split = laws.sum (λ i j. entry firsts i) (λ i j. entry seconds j) nodes in
    let one = laws.by_first (entry firsts) nodes ∙ entries_of_cycle n nodes firsts laws long cycle in
    let two = laws.by_second (entry seconds) nodes ∙ entries_of_cycle n nodes seconds laws as_long cycle in
    omega (arith, ints, split, one, two)

-- ---- weak duality: duals whose sums are at most the scaled costs bound every cycle

-- the length at a scale
pub scaled_length : (scale : ℤ) (cost : ℕ → ℕ → ℤ) (nodes : List ℕ) → Laws → IsScale scale
    → length_of (λ i j. scale *ℤ cost i j) nodes ≡ scale *ℤ length_of cost nodes
scaled_length (pos m) cost nodes laws scale_in = laws.scale m cost nodes
scaled_length (negsuc m) cost nodes laws scale_in = absurd (omega (arith, ints, scale_in.0))

pub duals_bound_cycles : Laws → DualsBoundCycles
duals_bound_cycles laws n cost scale rows columns bound nodes more scale_in row_count column_count good least cycle =
    let below = laws.no_loops n nodes (λ i j. entry rows i +ℤ entry columns j) (λ i j. scale *ℤ cost i j) more cycle good in
    let sums = entries_of_links n nodes rows columns laws row_count column_count cycle in
    let whole = scaled_length scale cost nodes laws scale_in in
    least.least (length_of cost nodes) (omega (arith, ints, below, sums, whole))

-- ---- one bound

pub one_bound : (scale sum a b : ℤ) → IsLeastBound scale sum a → IsLeastBound scale sum b → a ≡ b
one_bound scale sum a b p q =
    let first = p.least b q.above in
    let second = q.least a p.above in
    omega (arith, ints, first, second)

pub one_node_bound : (n : ℕ) (cost : ℕ → ℕ → ℤ) (scale : ℤ) (potentials : List ℤ) (a b : ℤ)
    → IsNodeBound n cost scale potentials a → IsNodeBound n cost scale potentials b → a ≡ b
one_node_bound n cost scale potentials a b p q =
    let w = weight_between scale potentials cost in
    let first = p.least.least q.tree q.least.tree in
    let second = q.least.least p.tree p.least.tree in
    let same : weight_of w q.tree ≡ weight_of w p.tree = omega (arith, ints, first, second) in
    one_bound scale (weight_of w p.tree -ℤ (pos 2 *ℤ total potentials)) a b p.bound_is
    (subst (λ (z : ℤ). IsLeastBound scale (z -ℤ (pos 2 *ℤ total potentials)) b) same q.bound_is)

-- ---- a cycle from node 1 on is a 1-tree, so a minimum 1-tree weighs no more

-- each node with the one after it
abbrev pub path : ℕ → List ℕ → List (ℕ × ℕ)
path a [] = []
path a (b ∷ bs) = (a, b) ∷ path b bs

abbrev pub last_of : ℕ → List ℕ → ℕ
last_of a [] = a
last_of a (b ∷ bs) = last_of b bs

-- the nodes 2..n, each once
pub record AreInner (n : ℕ) (nodes : List ℕ) : Type 0 where
  pub range : AllByRecursion (IsInner n) nodes
  pub once : IsDistinct eqb nodes
  pub count : 1 + length nodes ≡ n

-- from node 1 through the nodes and back
abbrev pub tour_weight : (ℕ → ℕ → ℤ) → List ℕ → ℤ
tour_weight w nodes = weight_of w (path 1 nodes) +ℤ w (last_of 1 nodes) 1

-- ---- a tour has each node

none_equal : (x : ℕ) (nodes : List ℕ) → list_any (eqb x) nodes ≡ false → AllByRecursion (λ y. eqb x y ≡ false) nodes
none_equal x [] h = tt
none_equal x (y ∷ nodes) h = let p = or_parts (eqb x y) (list_any (eqb x) nodes) h in (p.0, none_equal x nodes p.1)

all_apart : (n x : ℕ) (nodes : List ℕ) → (IsInner n x → ⊥) → AllByRecursion (IsInner n) nodes
    → AllByRecursion (λ y. eqb x y ≡ false) nodes
all_apart n x [] never h = tt
all_apart n x (y ∷ nodes) never h = (ne_eqb x y (λ same. never (subst (IsInner n) (sym same) h.0)), all_apart n x nodes never h.1)

-- what holds of each element holds of an equal one
at_equal : (P : ℕ → Type 0) (q : ℕ) (nodes : List ℕ) → AllByRecursion P nodes → list_any (eqb q) nodes ≡ true → P q
at_equal P q [] h e = absurd (both_ways false refl e)
at_equal P q (y ∷ nodes) h e = elim (or_cases (eqb q y) (list_any (eqb q) nodes) e) [
  | inl same ↦ subst P (sym (eqb-true q y same)) h.0
  | inr later ↦ at_equal P q nodes h.1 later
]

inner_below : (n : ℕ) (nodes : List ℕ) → AllByRecursion (IsInner n) nodes → AllByRecursion (λ y. y < suc n) nodes
inner_below n [] h = tt
inner_below n (y ∷ nodes) h = (omega (arith, h.0), inner_below n nodes h.1)

has_each : (n : ℕ) (nodes : List ℕ) → AreInner n nodes → (x : ℕ) → IsInner n x → list_any (eqb x) nodes ≡ true
has_each n nodes t x in_x = elim (cases_Bool (list_any (eqb x) nodes)) [
  | inl h ↦ h
  | inr h ↦
      let more : IsDistinct eqb (x ∷ nodes) = IsDistinct-cons eqb x nodes (none_equal x nodes h) t.once in
      let range : AllByRecursion (IsInner n) (x ∷ nodes) = (in_x, t.range) in
      let one : IsDistinct eqb (1 ∷ x ∷ nodes) =
      IsDistinct-cons eqb 1 (x ∷ nodes) (all_apart n 1 (x ∷ nodes) (λ k. absurd (omega (arith, k.0))) range) more in
      let zero_apart : AllByRecursion (λ y. eqb 0 y ≡ false) (1 ∷ x ∷ nodes) =
      (refl, all_apart n 0 (x ∷ nodes) (λ k. absurd (omega (arith, k.0))) range) in
      let all : IsDistinct eqb (0 ∷ 1 ∷ x ∷ nodes) = IsDistinct-cons eqb 0 (1 ∷ x ∷ nodes) zero_apart one in
      let below : AllByRecursion (λ y. y < suc n) (0 ∷ 1 ∷ x ∷ nodes) =
      (omega arith, (omega (arith, in_x), inner_below n (x ∷ nodes) range)) in
      let few = length-le_from_distinct_below (0 ∷ 1 ∷ x ∷ nodes) (suc n) all
      (λ q e. at_equal (λ y. y < suc n) q (0 ∷ 1 ∷ x ∷ nodes) below e) in
      absurd (omega (arith, few, t.count))
]

-- ---- a path crosses each part of its nodes

-- if the path does not cross, its nodes are on one side
one_side : (part : ℕ → Bool) (side : Bool) (a : ℕ) (nodes : List ℕ) → part a ≡ side
    → list_any (crosses part) (path a nodes) ≡ false → AllByRecursion (λ y. part y ≡ side) nodes
one_side part side a [] h e = tt
one_side part side a (b ∷ bs) h e =
    let p = or_parts (crosses part (a, b)) (list_any (crosses part) (path b bs)) e in
    let here : part b ≡ side = same_side (part a) (part b) p.0 ∙ h in
    (here, one_side part side b bs here p.1)
  where
    same_side : (x y : Bool) → cond x (not y) y ≡ false → y ≡ x
    same_side true true k = refl
    same_side true false k = sym k
    same_side false y k = k

path_crosses : (part : ℕ → Bool) (b : ℕ) (bs : List ℕ) (inside outside : ℕ) → list_any (eqb inside) (b ∷ bs) ≡ true
    → list_any (eqb outside) (b ∷ bs) ≡ true
    → part inside ≡ true → part outside ≡ false → list_any (crosses part) (path b bs) ≡ true
path_crosses part b bs inside outside has_in has_out in_part out_part = elim (cases_Bool (list_any (crosses part) (path b bs))) [
  | inl h ↦ h
  | inr h ↦
      let one : AllByRecursion (λ y. part y ≡ part b) (b ∷ bs) = (refl, one_side part (part b) b bs refl h) in
      let first : part inside ≡ part b = at_equal (λ y. part y ≡ part b) inside (b ∷ bs) one has_in in
      let second : part outside ≡ part b = at_equal (λ y. part y ≡ part b) outside (b ∷ bs) one has_out in
      absurd (both_ways (part inside) (first ∙ (sym second ∙ out_part)) in_part)
]

path_links : (n b : ℕ) (bs : List ℕ) → IsInner n b → AllByRecursion (IsInner n) bs → IsDistinct eqb (b ∷ bs)
    → AllByRecursion (IsLink (IsInner n)) (path b bs)
path_links n b [] in_b h d = tt
path_links n b (c ∷ cs) in_b h d = (
  (in_b, h.0, eqb-false b c (IsDistinct-head eqb b (c ∷ cs) d).0),
  path_links n c cs h.0 h.1 (IsDistinct-tail eqb b (c ∷ cs) d),
)

path_length : (b : ℕ) (bs : List ℕ) → length (path b bs) ≡ length bs
path_length b [] = refl
path_length b (c ∷ cs) = ap suc (path_length c cs)

last_all : (P : ℕ → Type 0) (b : ℕ) (bs : List ℕ) → P b → AllByRecursion P bs → P (last_of b bs)
last_all P b [] h all = h
last_all P b (c ∷ cs) h all = last_all P c cs all.0 all.1

-- ---- a tour is a 1-tree

pub tour_tree : (n b c : ℕ) (cs : List ℕ) → AreInner n (b ∷ c ∷ cs) → IsOneTree n (tree_of b (last_of c cs) (path b (c ∷ cs)))
tour_tree n b c cs t =
    let far = IsDistinct-head eqb b (c ∷ cs) t.once in
    one_tree_of n b (last_of c cs) (path b (c ∷ cs)) t.range.0 (last_all (IsInner n) c cs t.range.1.0 t.range.1.1)
    (last_all (λ y. b ≢ y) c cs (eqb-false b c far.0) (all_other cs far.1))
    (path_links n b (c ∷ cs) t.range.0 t.range.1 t.once)
    (λ part inside outside in_node out_node in_part out_part. path_crosses part b (c ∷ cs) inside outside
    (has_each n (b ∷ c ∷ cs) t inside in_node)
    (has_each n (b ∷ c ∷ cs) t outside out_node) in_part out_part)
    (omega (arith, t.count, path_length b (c ∷ cs)))
  where
    all_other : (ys : List ℕ) → AllByRecursion (λ y. eqb b y ≡ false) ys → AllByRecursion (λ y. b ≢ y) ys
    all_other [] h = tt
    all_other (y ∷ ys) h = (eqb-false b y h.0, all_other ys h.1)

pub tour_tree_weight : (w : ℕ → ℕ → ℤ) → ((a b : ℕ) → w a b ≡ w b a) → (b c : ℕ) (cs : List ℕ)
    → weight_of w (tree_of b (last_of c cs) (path b (c ∷ cs))) ≡ tour_weight w (b ∷ c ∷ cs)
tour_tree_weight w symmetric b c cs =
    let same : weight_of w (map ordered (path b (c ∷ cs))) ≡ weight_of w (path b (c ∷ cs)) =
    ordered_weight w symmetric (path b (c ∷ cs)) in
    let back : w (last_of c cs) 1 ≡ w 1 (last_of c cs) = symmetric (last_of c cs) 1 in
    omega (arith, ints, same, back)

-- a minimum 1-tree weighs no more than a tour
pub tree_below_tour : (n : ℕ) (w : ℕ → ℕ → ℤ) (pairs : List (ℕ × ℕ)) (nodes : List ℕ) → 3 ≤ n → ((a b : ℕ) → w a b ≡ w b a)
    → IsLeastOneTree n w pairs
    → AreInner n nodes → weight_of w pairs ≤ℤ tour_weight w nodes
tree_below_tour n w pairs [] some symmetric least t = absurd (omega (arith, t.count))
tree_below_tour n w pairs (b ∷ []) some symmetric least t = absurd (omega (arith, t.count))
tree_below_tour n w pairs (b ∷ c ∷ cs) some symmetric least t =
    subst (λ z. weight_of w pairs ≤ℤ z) (tour_tree_weight w symmetric b c cs)
    (least.least (tree_of b (last_of c cs) (path b (c ∷ cs))) (tour_tree n b c cs t))

-- ---- the weight between two nodes and of a 1-tree, and the bound by it

pub between_size : (scaled first second : ℤ)
    → IsFromTo (neg_ℤ (pos (most_scale * most_weight))) (pos (most_scale * most_weight)) scaled
    → IsFromTo (neg_ℤ (pos most_potential)) (pos most_potential) first
    → IsFromTo (neg_ℤ (pos most_potential)) (pos most_potential) second
    → IsFromTo (neg_ℤ (pos most_between)) (pos most_between) (scaled +ℤ (first +ℤ second))
between_size scaled first second p q r = (omega (arith, ints, p.0, q.0, r.0), omega (arith, ints, p.1, q.1, r.1))

both_is : (first second : ℤ) → IsFromTo (neg_ℤ (pos most_potential)) (pos most_potential) first
    → IsFromTo (neg_ℤ (pos most_potential)) (pos most_potential) second
    → to_z w64 (of_z w64 (to_z w64 (of_z w64 first) +ℤ to_z w64 (of_z w64 second))) ≡ first +ℤ second
both_is first second q r = omega (arith, ints, q.0, q.1, r.0, r.1)

scaled_is : (scaled : ℤ) → IsFromTo (neg_ℤ (pos (most_scale * most_weight))) (pos (most_scale * most_weight)) scaled
    → to_z w64 (of_z w64 scaled) ≡ scaled
scaled_is scaled p = omega (arith, ints, p.0, p.1)

between_fits : (z : ℤ) → IsFromTo (neg_ℤ (pos most_between)) (pos most_between) z → FitsSigned w64 z
between_fits z h = fits_signed_from_abs w64 z (let size = size_of most_between z h in omega (arith, size))

pub weight_fits : (scaled first second : ℤ)
    → IsFromTo (neg_ℤ (pos (most_scale * most_weight))) (pos (most_scale * most_weight)) scaled
    → IsFromTo (neg_ℤ (pos most_potential)) (pos most_potential) first
    → IsFromTo (neg_ℤ (pos most_potential)) (pos most_potential) second
    → FitsSigned w64 (to_z w64 (of_z w64 scaled) +ℤ to_z w64 (of_z w64 (to_z w64 (of_z w64 first) +ℤ to_z w64 (of_z w64 second))))
weight_fits scaled first second p q r =
    rw (both_is first second q r, scaled_is scaled p)
    (between_fits (scaled +ℤ (first +ℤ second)) (between_size scaled first second p q r))

pub weight_computed : (scaled first second : ℤ)
    → IsFromTo (neg_ℤ (pos (most_scale * most_weight))) (pos (most_scale * most_weight)) scaled
    → IsFromTo (neg_ℤ (pos most_potential)) (pos most_potential) first
    → IsFromTo (neg_ℤ (pos most_potential)) (pos most_potential) second
    → to_z w64 (of_z w64 (to_z w64 (of_z w64 scaled) +ℤ to_z w64
    (of_z w64 (to_z w64 (of_z w64 first) +ℤ to_z w64 (of_z w64 second))))) ≡ scaled +ℤ (first +ℤ second)
weight_computed scaled first second p q r = rw (both_is first second q r, scaled_is scaled p)
    (to_z-of_z w64 (scaled +ℤ (first +ℤ second))
    (between_fits (scaled +ℤ (first +ℤ second)) (between_size scaled first second p q r)))

pub scaled_by : (scale cost scaled both : ℤ) → IsScale scale → scaled ≡ to_z w64 (of_z w64 scale) *ℤ cost
    → scaled +ℤ both ≡ (scale *ℤ cost) +ℤ both
scaled_by scale cost scaled both s is = ap (λ z. z +ℤ both) (is ∙ ap (λ z. z *ℤ cost) (same_scale scale s))

-- the weight is symmetric
pub weight_even : (scale : ℤ) (potentials : List ℤ) (cost : ℕ → ℕ → ℤ) → IsSymmetric cost → (i j : ℕ)
    → weight_between scale potentials cost i j ≡ weight_between scale potentials cost j i
weight_even scale potentials cost even i j = elim (cases_eq i j) [
  | inl same ↦ ap (λ k. weight_between scale potentials cost k j) same
      ∙ ap (λ k. weight_between scale potentials cost j k) (sym same)
  | inr other ↦ let turned : cost i j ≡ cost j i = even i j other in
      ap (λ z. (scale *ℤ z) +ℤ (entry potentials i +ℤ entry potentials j)) turned
      ∙ ap (λ z. (scale *ℤ cost j i) +ℤ z) (swapped (entry potentials i) (entry potentials j))
]
  where
    swapped : (a b : ℤ) → a +ℤ b ≡ b +ℤ a
    swapped a b = omega (arith, ints)

-- ---- lower weights

lower_size : (weight number : ℤ) → IsFromTo (neg_ℤ (pos most_between)) (pos most_between) weight
    → IsFromTo (pos 0) (pos most_multiplier) number
    → IsFromTo (neg_ℤ (pos 1003000000000000000)) (pos 1003000000000000000) (weight -ℤ number)
lower_size weight number p q = (omega (arith, ints, p.0, q.1), omega (arith, ints, p.1, q.0))

pub lower_is : (weight number : ℤ) → IsFromTo (neg_ℤ (pos most_between)) (pos most_between) weight
    → IsFromTo (pos 0) (pos most_multiplier) number
    → (to_z w64 (of_z w64 weight) -ℤ to_z w64 (of_z w64 number)) ≡ weight -ℤ number
lower_is weight number p q = omega (arith, ints, p.0, p.1, q.0, q.1)

lower_in : (weight number : ℤ) → IsFromTo (neg_ℤ (pos most_between)) (pos most_between) weight
    → IsFromTo (pos 0) (pos most_multiplier) number → FitsSigned w64 (weight -ℤ number)
lower_in weight number p q =
    fits_signed_from_abs w64 (weight -ℤ number)
    (let size = size_of 1003000000000000000 (weight -ℤ number) (lower_size weight number p q) in omega (arith, size))

pub lower_fits : (weight number : ℤ) → IsFromTo (neg_ℤ (pos most_between)) (pos most_between) weight
    → IsFromTo (pos 0) (pos most_multiplier) number
    → FitsSigned w64 (to_z w64 (of_z w64 weight) -ℤ to_z w64 (of_z w64 number))
lower_fits weight number p q = rw (lower_is weight number p q) (lower_in weight number p q)

-- ---- sums of weights

pub sum_more : (sum weight : ℤ) (index : ℕ) → IsFromTo (neg_ℤ (pos (index * 2 ^ 63))) (pos (index * 2 ^ 63)) sum
    → FitsSigned w64 weight
    → IsFromTo (neg_ℤ (pos ((index + 1) * 2 ^ 63))) (pos ((index + 1) * 2 ^ 63)) (sum +ℤ weight)
sum_more sum weight index s fits = (omega (arith, ints, s.0, fits), omega (arith, ints, s.1, fits))

pub sum_fits : (sum weight from : ℤ) (index : ℕ) → index ≤ most_nodes
    → IsFromTo (neg_ℤ (pos (index * 2 ^ 63))) (pos (index * 2 ^ 63)) sum → FitsSigned w64 weight
    → from ≡ to_z w64 (of_z w64 weight) → FitsSigned w128 (sum +ℤ to_z w128 (of_z w128 from))
sum_fits sum weight from index few s fits is =
    let same : from ≡ weight = is ∙ to_z-of_z w64 weight fits in
    let own : to_z w128 (of_z w128 from) ≡ weight = omega (arith, ints, fits, same) in
    let size : IsFromTo (neg_ℤ (pos (2 ^ 100))) (pos (2 ^ 100)) (sum +ℤ weight) =
    (omega (arith, ints, s.0, fits, few), omega (arith, ints, s.1, fits, few)) in
    rw own (fits_signed_from_abs w128 (sum +ℤ weight) (let most = size_of (2 ^ 100) (sum +ℤ weight) size in omega (arith, most)))

pub sum_computed : (sum weight from : ℤ) (index : ℕ) → index ≤ most_nodes
    → IsFromTo (neg_ℤ (pos (index * 2 ^ 63))) (pos (index * 2 ^ 63)) sum → FitsSigned w64 weight
    → from ≡ to_z w64 (of_z w64 weight) → to_z w128 (of_z w128 (sum +ℤ to_z w128 (of_z w128 from))) ≡ sum +ℤ weight
sum_computed sum weight from index few s fits is =
    let same : from ≡ weight = is ∙ to_z-of_z w64 weight fits in
    omega (arith, ints, s.0, s.1, fits, same)

-- the weight of pairs with one pair more
pub weight_added : (w : ℕ → ℕ → ℤ) (pairs : List (ℕ × ℕ)) (pair : ℕ × ℕ)
    → weight_of w (pairs ++ pair ∷ []) ≡ weight_of w pairs +ℤ w pair.0 pair.1
weight_added w [] pair = omega (arith, ints)
weight_added w (p ∷ pairs) pair = let rest = weight_added w pairs pair in omega (arith, ints, rest)

-- ---- the weight of a whole 1-tree

abbrev pub most_tree : ℕ
most_tree = (most_nodes + 2) * 2 ^ 63

root_edges_is : (first second from other : ℤ) → FitsSigned w64 first → FitsSigned w64 second → from ≡ to_z w64 (of_z w64 first)
    → other ≡ to_z w64 (of_z w64 second)
    → to_z w128 (of_z w128 (to_z w128 (of_z w128 from) +ℤ to_z w128 (of_z w128 other))) ≡ first +ℤ second
root_edges_is first second from other p q is also =
    let one : from ≡ first = is ∙ to_z-of_z w64 first p in
    let two : other ≡ second = also ∙ to_z-of_z w64 second q in
    omega (arith, ints, p, q, one, two)

grown_is : (grown : ℤ) → IsFromTo (neg_ℤ (pos (most_nodes * 2 ^ 63))) (pos (most_nodes * 2 ^ 63)) grown
    → to_z w128 (of_z w128 grown) ≡ grown
grown_is grown r = omega (arith, ints, r.0, r.1)

pub tree_size : (first second grown : ℤ) → FitsSigned w64 first → FitsSigned w64 second
    → IsFromTo (neg_ℤ (pos (most_nodes * 2 ^ 63))) (pos (most_nodes * 2 ^ 63)) grown
    → IsFromTo (neg_ℤ (pos most_tree)) (pos most_tree) ((first +ℤ second) +ℤ grown)
tree_size first second grown p q r = (omega (arith, ints, p, q, r.0), omega (arith, ints, p, q, r.1))

pub tree_same : (z : ℤ) → IsFromTo (neg_ℤ (pos most_tree)) (pos most_tree) z → to_z w128 (of_z w128 z) ≡ z
tree_same z h = omega (arith, ints, h.0, h.1)

tree_in : (z : ℤ) → IsFromTo (neg_ℤ (pos most_tree)) (pos most_tree) z → FitsSigned w128 z
tree_in z h = fits_signed_from_abs w128 z (let size = size_of most_tree z h in omega (arith, size))

pub tree_fits : (first second grown from other : ℤ) → FitsSigned w64 first → FitsSigned w64 second
    → from ≡ to_z w64 (of_z w64 first) → other ≡ to_z w64 (of_z w64 second)
    → IsFromTo (neg_ℤ (pos (most_nodes * 2 ^ 63))) (pos (most_nodes * 2 ^ 63)) grown
    → FitsSigned w128 (to_z w128 (of_z w128 (to_z w128 (of_z w128 from) +ℤ to_z w128 (of_z w128 other))) +ℤ to_z w128
    (of_z w128 grown))
tree_fits first second grown from other p q is also r =
    rw (root_edges_is first second from other p q is also, grown_is grown r)
    (tree_in ((first +ℤ second) +ℤ grown) (tree_size first second grown p q r))

pub tree_computed : (first second grown from other : ℤ) → FitsSigned w64 first → FitsSigned w64 second
    → from ≡ to_z w64 (of_z w64 first) → other ≡ to_z w64 (of_z w64 second)
    → IsFromTo (neg_ℤ (pos (most_nodes * 2 ^ 63))) (pos (most_nodes * 2 ^ 63)) grown
    → to_z w128 (of_z w128 (to_z w128 (of_z w128 (to_z w128 (of_z w128 from) +ℤ to_z w128 (of_z w128 other))) +ℤ to_z w128
    (of_z w128 grown))) ≡ (first +ℤ second) +ℤ grown
tree_computed first second grown from other p q is also r =
    rw (root_edges_is first second from other p q is also, grown_is grown r)
    (to_z-of_z w128 ((first +ℤ second) +ℤ grown) (tree_in ((first +ℤ second) +ℤ grown) (tree_size first second grown p q r)))

pub weight_of_tree : (w : ℕ → ℕ → ℤ) → ((a b : ℕ) → w a b ≡ w b a) → (first second : ℕ) (added : List (ℕ × ℕ))
    → weight_of w (tree_of first second added) ≡ (w 1 first +ℤ w 1 second) +ℤ weight_of w added
weight_of_tree w even first second added = let same = ordered_weight w even added in omega (arith, ints, same)

-- ---- the bound as the code computes it

computed_parts : (a b c : ℤ) → IsFromTo (neg_ℤ (pos most_tree)) (pos most_tree) a
    → IsFromTo (neg_ℤ (pos (2 * (most_nodes * most_potential)))) (pos (2 * (most_nodes * most_potential))) b
    → IsFromTo (pos 0) (pos (most_triples * most_multiplier)) c
    → (to_z w128 (of_z w128 (to_z w128 (of_z w128 (to_z w128 (of_z w128 a) -ℤ b)) +ℤ c)) ≡ (a -ℤ b) +ℤ c)
    × (to_z w128 (of_z w128 a) ≡ a)
computed_parts a b c p q r =
    let same : to_z w128 (of_z w128 a) ≡ a = omega (arith, ints, p.0, p.1) in
    let less : to_z w128 (of_z w128 (a -ℤ b)) ≡ a -ℤ b = omega (arith, ints, p.0, p.1, q.0, q.1) in
    let all : to_z w128 (of_z w128 ((a -ℤ b) +ℤ c)) ≡ (a -ℤ b) +ℤ c = omega (arith, ints, p.0, p.1, q.0, q.1, r.0, r.1) in
    (rw (same, less) all, same)

-- the sum that is rounded, and how large it is
pub sum_of_bound : (weight potentials given all more : ℤ) → IsFromTo (neg_ℤ (pos most_tree)) (pos most_tree) weight
    → IsFromTo (neg_ℤ (pos (most_nodes * most_potential))) (pos (most_nodes * most_potential)) potentials
    → IsFromTo (pos 0) (pos (most_triples * most_multiplier)) given → potentials ≡ all → given ≡ more
    → (to_z w128 (of_z w128 (to_z w128
    (of_z w128 (to_z w128 (of_z w128 weight) -ℤ to_z w128 (of_z w128 (pos 2 *ℤ to_z w128 (of_z w128 potentials)))))
    +ℤ to_z w128 (of_z w128 given))) ≡ (weight -ℤ (pos 2 *ℤ all)) +ℤ more)
    × IsFromTo (neg_ℤ (pos (2 ^ 100))) (pos (2 ^ 100)) ((weight -ℤ (pos 2 *ℤ all)) +ℤ more)
sum_of_bound weight potentials given all more p q r is also =
    let twice : to_z w128 (of_z w128 (pos 2 *ℤ to_z w128 (of_z w128 potentials))) ≡ pos 2 *ℤ all =
    omega (arith, ints, q.0, q.1, is) in
    let size : IsFromTo (neg_ℤ (pos (2 * (most_nodes * most_potential)))) (pos (2 * (most_nodes * most_potential)))
    (pos 2 *ℤ all) = (omega (arith, ints, q.0, is), omega (arith, ints, q.1, is)) in
    let own : to_z w128 (of_z w128 given) ≡ more = omega (arith, ints, r.0, r.1, also) in
    let over : IsFromTo (pos 0) (pos (most_triples * most_multiplier)) more =
    (omega (arith, ints, r.0, also), omega (arith, ints, r.1, also)) in
    let parts = computed_parts weight (pos 2 *ℤ all) more p size over in
    (rw (twice, own) parts.0, (omega (arith, ints, p.0, size.1, over.0), omega (arith, ints, p.1, size.0, over.1)))

pub bound_of_weight : (scale weight potentials given all more bound : ℤ) → IsScale scale → FitsSigned w128 bound
    → IsFromTo (neg_ℤ (pos most_tree)) (pos most_tree) weight
    → IsFromTo (neg_ℤ (pos (most_nodes * most_potential))) (pos (most_nodes * most_potential)) potentials
    → IsFromTo (pos 0) (pos (most_triples * most_multiplier)) given → potentials ≡ all → given ≡ more
    → IsLeastBound (to_z w64 (of_z w64 scale)) (to_z w128 (of_z w128
    (to_z w128 (of_z w128 (to_z w128 (of_z w128 weight) -ℤ to_z w128 (of_z w128 (pos 2 *ℤ to_z w128 (of_z w128 potentials)))))
    +ℤ to_z w128 (of_z w128 given))))
    bound → IsLeastBound scale ((weight -ℤ (pos 2 *ℤ all)) +ℤ more) (to_z w128 (of_z w128 bound))
bound_of_weight scale weight potentials given all more bound s fits p q r is also least =
    let sum = (sum_of_bound weight potentials given all more p q r is also).0 in
    rw (to_z-of_z w128 bound fits) (subst (λ (z : ℤ). IsLeastBound scale z bound) sum
    (subst (λ (z : ℤ). IsLeastBound z (to_z w128 (of_z w128 (to_z w128
    (of_z w128 (to_z w128 (of_z w128 weight) -ℤ to_z w128 (of_z w128 (pos 2 *ℤ to_z w128 (of_z w128 potentials))))) +ℤ to_z w128
    (of_z w128 given)))) bound)
    (same_scale scale s) least))

-- ---- a cycle, wherever it begins, is one from node 1 on

-- ---- the length of a list that begins at another of its nodes

abbrev length_to : (ℕ → ℕ → ℤ) → ℕ → ℕ → List ℕ → ℤ
length_to cost end from others = sum_int_by (λ link. cost link.0 link.1) (links_to end from others)

length_through : (cost : ℕ → ℕ → ℤ) (end from middle : ℕ) (before after : List ℕ)
    → length_to cost end from (before ++ middle ∷ after) ≡ length_to cost middle from before +ℤ length_to cost end middle after
length_through cost end from middle [] after = omega (arith, ints)
length_through cost end from middle (next ∷ before) after = let rest = length_through cost end next middle before after in
    omega (arith, ints)

pub turned_length : (cost : ℕ → ℕ → ℤ) (node : ℕ) (before after : List ℕ)
    → length_of cost (before ++ node ∷ after) ≡ length_of cost (node ∷ (after ++ before))
turned_length cost node [] after = ap (λ xs. length_of cost (node ∷ xs)) (sym (append-nil after))
turned_length cost node (first ∷ before) after =
    let one = length_through cost first first node before after in
    let two = length_through cost node node first after before in
    omega (arith, ints)

-- from node 1 through the others and back
tour_length : (cost : ℕ → ℕ → ℤ) (end from : ℕ) (nodes : List ℕ)
    → length_to cost end from nodes ≡ weight_of cost (path from nodes) +ℤ cost (last_of from nodes) end
tour_length cost end from [] = omega (arith, ints)
tour_length cost end from (next ∷ nodes) = let rest = tour_length cost end next nodes in omega (arith, ints)

-- ---- the nodes of a cycle

pub apart : (x : ℕ) (xs : List ℕ) → AllByRecursion (λ y. x ≢ y) xs → AllByRecursion (λ y. eqb x y ≡ false) xs
apart x [] h = tt
apart x (y ∷ xs) h = (ne_eqb x y h.0, apart x xs h.1)

pub distinct : (xs : List ℕ) → AllPairs (λ a b. a ≢ b) xs → IsDistinct eqb xs
unfolding IsDistinct
distinct [] h = tt
distinct (x ∷ xs) h =
    IsDistinct-cons eqb x xs
    (apart x xs (recursion_from_All (λ y. x ≢ y) xs (λ k d lt. h zero (suc k) d (omega arith) (omega arith))))
    (distinct xs (λ i j d below lt. h (suc i) (suc j) d (omega arith) (omega arith)))

parts_all : (P : ℕ → Type 0) (xs ys : List ℕ) → AllByRecursion P (xs ++ ys) → AllByRecursion P xs × AllByRecursion P ys
parts_all P [] ys h = (tt, h)
parts_all P (x ∷ xs) ys h = let rest = parts_all P xs ys h.1 in ((h.0, rest.0), rest.1)

-- nodes that aren't 1
inner : (n : ℕ) (xs : List ℕ) → AllByRecursion (IsNode n) xs → AllByRecursion (λ y. eqb 1 y ≡ false) xs
    → AllByRecursion (IsInner n) xs
inner n [] h other = tt
inner n (x ∷ xs) h other = let not_one : 1 ≢ x = eqb-false 1 x other.0 in
    ((omega (arith, h.0.0, not_one), h.0.1), inner n xs h.1 other.1)

pub flips : (x y : ℕ) → eqb x y ≡ eqb y x
flips x y = elim (cases_eq x y) [
  | inl same ↦ ap (λ z. eqb z y) same ∙ ap (eqb y) (sym same)
  | inr other ↦ ne_eqb x y other ∙ sym (ne_eqb y x (λ same. other (sym same)))
]

-- a cycle that goes through node 1 after some nodes
pub turned_nodes : (n : ℕ) (before after : List ℕ) → IsCycle n (before ++ 1 ∷ after) → AreInner n (after ++ before)
turned_nodes n before after cycle =
    let turned : IsDistinct eqb (1 ∷ (after ++ before)) =
    IsDistinct-IsPermutation eqb flips (before ++ 1 ∷ after) (1 ∷ (after ++ before))
    (IsPermutation-append_comm before (1 ∷ after)) (distinct (before ++ 1 ∷ after) cycle.once) in
    let range = parts_all (IsNode n) before (1 ∷ after) (recursion_from_All (IsNode n) (before ++ 1 ∷ after) cycle.range) in
    record {
      range = inner n (after ++ before) (both_all (IsNode n) after before range.1.1 range.0)
          (IsDistinct-head eqb 1 (after ++ before) turned);
      once = IsDistinct-tail eqb 1 (after ++ before) turned;
      count = omega (arith, cycle.count, length-append before (1 ∷ after), length-append after before);
    }

pub has_node : (n : ℕ) (nodes : List ℕ) (node : ℕ) → Laws → IsCycle n nodes → IsNode n node → Contains nodes node
unfolding nodes_to
has_node n nodes node laws cycle h =
    let read : get_or (range_with_len 1 n) (node - 1) node ≡ node =
    get_or-range_with_len 1 n (node - 1) node (omega (arith, h.0, h.1)) ∙ omega (arith, h.0) in
    Contains-permutation (range_with_len 1 n) nodes node
    (IsPermutation-sym nodes (range_with_len 1 n) (laws.permutation n nodes cycle))
    (node - 1, omega (arith, length-range_with_len 1 n, h.0, h.1), read)

-- ---- the bound

-- a minimum 1-tree weighs no more than a cycle
pub tree_below_cycle : (n : ℕ) (w : ℕ → ℕ → ℤ) (pairs : List (ℕ × ℕ)) (before after : List ℕ) → 3 ≤ n
    → ((a b : ℕ) → w a b ≡ w b a) → IsLeastOneTree n w pairs
    → IsCycle n (before ++ 1 ∷ after) → weight_of w pairs ≤ℤ length_of w (before ++ 1 ∷ after)
tree_below_cycle n w pairs before after some symmetric least cycle =
    let below : weight_of w pairs ≤ℤ tour_weight w (after ++ before) =
    tree_below_tour n w pairs (after ++ before) some symmetric least (turned_nodes n before after cycle) in
    let same = turned_length w 1 before after in
    let tour = tour_length w 1 1 (after ++ before) in
    omega (arith, ints, below, same, tour)

pub least_tree_below : Laws → LeastOneTreesAreBelowCycles
least_tree_below laws n w pairs nodes some symmetric least cycle =
    let one = has_node n nodes 1 laws cycle (omega arith, omega (arith, some)) in
    let here : get_or nodes one.0 1 ≡ 1 = one.2 in
    let parts : take one.0 nodes ++ 1 ∷ drop (suc one.0) nodes ≡ nodes =
    ap (λ x. take one.0 nodes ++ x ∷ drop (suc one.0) nodes) (sym here)
    ∙ ap (λ xs. take one.0 nodes ++ xs) (sym (drop-cons nodes one.0 1 one.1)) ∙ take-append-drop one.0 nodes in
    subst (λ (xs : List ℕ). weight_of w pairs ≤ℤ length_of w xs) parts
    (tree_below_cycle n w pairs (take one.0 nodes) (drop (suc one.0) nodes) some symmetric least
    (subst (IsCycle n) (sym parts) cycle))

pub node_bounds_bound_cycles : Laws → NodeBoundsBoundCycles
node_bounds_bound_cycles laws n cost scale potentials bound nodes some even scale_in count is cycle =
    let w = weight_between scale potentials cost in
    let below : weight_of w is.tree ≤ℤ length_of w nodes =
    least_tree_below laws n w is.tree nodes some (weight_even scale potentials cost even) is.least cycle in
    let split = laws.sum (λ i j. scale *ℤ cost i j) (λ i j. entry potentials i +ℤ entry potentials j) nodes in
    let sums = entries_of_links n nodes potentials potentials laws count count cycle in
    let whole = scaled_length scale cost nodes laws scale_in in
    is.bound_is.least (length_of cost nodes) (omega (arith, ints, below, split, sums, whole))
