-- Step 2 of the cut argument in docs/proof.md: least joins, found one after the other, make a least tree and a minimum
-- 1-tree. Crates above import it, too.
use Rattle.tsp_theory.proofs.Prelude.{◌≡◌, ℕ, zero, suc, ◌+◌, ◌≤◌, ◌==◌, Bool, true, false, List, [], ◌∷◌, ◌++◌, length, append_assoc, append-nil, ℤ, ◌+ℤ◌, ◌≤ℤ◌, inl, inr, refl, arith, ap, sym, ◌∙◌, subst, ◌≢◌, ◌<◌, not, ◌||◌, cond, map, ltb, take, drop, to_z, of_z, cases_eq, both_ways, true_from_ne_false, eqb-true, cases_Bool, ne_eqb, ltb-true, ltb-false, eqb-false, cond_both, or_left, or_parts, eq-eqb, ints, to_z-of_z, length-map, get_or-set_same, get_or-set_other, All-nil, All-cons, All-head, All-tail, All-push, All-weaker, recursion_from_All, All-from_recursion, All-permutation, length_permutation, w64, All, list_any, AllByRecursion, filter, ◌<ℤ◌, int_lt, FitsSigned}
use Rattle.std.proofs.Math.ListN.{set}
use Rattle.std.proofs.Math.Seq.{take-append_seam}
use Rattle.tsp_theory.proofs.Exchange.{IsCrossed, IsPairOf, JoinsBeside, and_node_all, and_node_self, and_node_old, crosses_both, same_side, uncrossed_from, exchange, least_below, crossed_joins, crosses_turned}
use Rattle.tsp_theory.proofs.Sums.{sum_int_by-IsPermutation}
use Rattle.tsp_theory.specs.Forest.{IsUncrossed, IsLeastJoin, AreLeastJoins, IsWholeForest}
use Rattle.tsp_theory.specs.Tree.{crosses, weight_of, IsInner, and_node, Grows, IsWholeGrowth, IsPair, is_at_one, inner_pairs, IsOneTree, IsLeastOneTree, ordered, AreNearest, tree_of, IsLeastLeaving, grown_by}
use Rattle.tsp_theory.specs.states.Nearest.{is_inside, least_at}

-- ---- lists of least joins

pub joins_append : (Node : ℕ → Type 0) (w : ℕ → ℕ → ℤ) (earlier xs ys : List (ℕ × ℕ)) → AreLeastJoins Node w earlier xs
    → AreLeastJoins Node w (earlier ++ xs) ys
    → AreLeastJoins Node w earlier (xs ++ ys)
joins_append Node w earlier [] ys first later = subst (λ pairs. AreLeastJoins Node w pairs ys) (append-nil earlier) later
joins_append Node w earlier (x ∷ xs) ys first later = (
  first.0,
  joins_append Node w (earlier ++ x ∷ []) xs ys first.1
      (subst (λ pairs. AreLeastJoins Node w pairs ys) (sym (append_assoc earlier (x ∷ []) xs)) later),
)

pub joins_more : (Node : ℕ → Type 0) (w : ℕ → ℕ → ℤ) (earlier added : List (ℕ × ℕ)) (pair : ℕ × ℕ)
    → AreLeastJoins Node w earlier added
    → IsLeastJoin Node w (earlier ++ added) pair → AreLeastJoins Node w earlier (added ++ pair ∷ [])
joins_more Node w earlier added pair joins join = joins_append Node w earlier added (pair ∷ []) joins (join, tt)

-- ---- a growth is one

grown_joins : (Node : ℕ → Type 0) (w : ℕ → ℕ → ℤ) (added : List (ℕ × ℕ)) (grown : ℕ → Bool) (earlier : List (ℕ × ℕ))
    → ((x : ℕ) → grown x ≡ true → Node x)
    → All (λ pair. (grown pair.0 ≡ true) × (grown pair.1 ≡ true)) earlier → Grows Node w grown added
    → AreLeastJoins Node w earlier added
grown_joins Node w [] grown earlier nodes within grows = tt
grown_joins Node w (e ∷ es) grown earlier nodes within grows =
    let more : ℕ → Bool = and_node grown e.1 in (
      record {
        part = grown;
        uncrossed = All-weaker (λ pair. (grown pair.0 ≡ true) × (grown pair.1 ≡ true)) (λ pair. crosses grown pair ≡ false)
            (λ pair ends. crosses_both grown pair.0 pair.1 ends.0 ends.1) earlier within;
        from = nodes e.0 grows.0.from;
        leaving = grows.0;
      },
      grown_joins Node w es more (earlier ++ e ∷ []) (and_node_all grown e.1 Node grows.0.node nodes)
          (All-push (λ pair. (more pair.0 ≡ true) × (more pair.1 ≡ true)) earlier e
          (All-weaker (λ pair. (grown pair.0 ≡ true) × (grown pair.1 ≡ true))
          (λ pair. (more pair.0 ≡ true) × (more pair.1 ≡ true))
          (λ pair ends. (and_node_old grown e.1 pair.0 ends.0, and_node_old grown e.1 pair.1 ends.1)) earlier within)
          (and_node_old grown e.1 e.0 grows.0.from, and_node_self grown e.1)) grows.1,
    )

-- a growth from a single node
pub growth_joins : (Node : ℕ → Type 0) (w : ℕ → ℕ → ℤ) (start : ℕ) (added : List (ℕ × ℕ)) → Node start
    → Grows Node w (λ x. x == start) added → AreLeastJoins Node w [] added
growth_joins Node w start added at_start =
    grown_joins Node w added (λ x. x == start) [] (λ x h. subst Node (sym (eqb-true x start h)) at_start)
    (All-nil (λ pair. ((pair.0 == start) ≡ true) × ((pair.1 == start) ≡ true)))

pub growth_is_forest : (n : ℕ) (w : ℕ → ℕ → ℤ) (added : List (ℕ × ℕ)) → 2 ≤ n → IsWholeGrowth n w added → IsWholeForest n w added
growth_is_forest n w added some growth = record {
  joins = growth_joins (IsInner n) w 2 added (omega arith, some) growth.grows;
  count = growth.count;
}

-- ---- beside the earlier pairs least joins join all nodes if as many others do, and weigh no more than those

joins_least : (Node : ℕ → Type 0) (w : ℕ → ℕ → ℤ) → ((a b : ℕ) → w a b ≡ w b a) → (added earlier xs : List (ℕ × ℕ))
    → AreLeastJoins Node w earlier added
    → length xs ≡ length added → All (IsPairOf Node) xs → JoinsBeside Node earlier xs
    → (weight_of w added ≤ℤ weight_of w xs) × JoinsBeside Node (earlier ++ added) []
joins_least Node w symmetric [] earlier [] least size of joins =
    (omega (arith, ints), subst (λ pairs. JoinsBeside Node pairs []) (sym (append-nil earlier)) joins)
joins_least Node w symmetric [] earlier (x ∷ xs) least size of joins = absurd (omega (arith, size))
joins_least Node w symmetric (e ∷ es) earlier xs least size of joins =
    let join = least.0 in
    let x = exchange Node w earlier xs e join joins in
    let all = All-permutation (IsPairOf Node) xs (x.pair ∷ x.rest) x.takes of in
    let first : w e.0 e.1 ≤ℤ w x.pair.0 x.pair.1 =
    least_below Node w join.part e x.pair symmetric join.leaving (All-head (IsPairOf Node) x.pair x.rest all) x.leaves in
    let later = joins_least Node w symmetric es (earlier ++ e ∷ []) x.rest least.1
    (omega (arith, size, length_permutation xs (x.pair ∷ x.rest) x.takes))
    (All-tail (IsPairOf Node) x.pair x.rest all) x.joins in
    let weighs : weight_of w xs ≡ w x.pair.0 x.pair.1 +ℤ weight_of w x.rest =
    sum_int_by-IsPermutation (λ pair. w pair.0 pair.1) xs (x.pair ∷ x.rest) x.takes in (
      omega (arith, ints, first, later.0, weighs),
      subst (λ pairs. JoinsBeside Node pairs []) (append_assoc earlier (e ∷ []) es) later.1,
    )

-- ---- over 2..n there is a tree

-- node 2 with each of the next ones
abbrev star_of : ℕ → List (ℕ × ℕ)
star_of zero = []
star_of (suc k) = (2, k + 3) ∷ star_of k

star_length : (k : ℕ) → length (star_of k) ≡ k
star_length zero = refl
star_length (suc k) = ap suc (star_length k)

star_nodes : (n k : ℕ) → 2 + k ≤ n → All (IsPairOf (IsInner n)) (star_of k)
star_nodes n zero few = All-nil (IsPairOf (IsInner n))
star_nodes n (suc k) few =
    All-cons (IsPairOf (IsInner n)) (2, k + 3) (star_of k) ((omega arith, omega (arith, few)), (omega arith, omega (arith, few)))
    (star_nodes n k (omega (arith, few)))

star_joins : (k : ℕ) (part : ℕ → Bool) → IsUncrossed part (star_of k) → (x : ℕ) → IsInner (2 + k) x → part x ≡ part 2
star_joins zero part free x node = ap part (omega (arith, node.0, node.1))
star_joins (suc k) part free x node = elim (cases_eq x (k + 3)) [
  | inl same ↦ ap part same
      ∙ sym (same_side part (2, k + 3) (All-head (λ pair. crosses part pair ≡ false) (2, k + 3) (star_of k) free))
  | inr other ↦ star_joins k part (All-tail (λ pair. crosses part pair ≡ false) (2, k + 3) (star_of k) free) x
      (node.0, omega (arith, node.1, other))
]

-- ---- so least joins as many as it has are one, and weigh no more than any other

pub forest_joins : (n : ℕ) (w : ℕ → ℕ → ℤ) → ((a b : ℕ) → w a b ≡ w b a) → (added : List (ℕ × ℕ)) → IsWholeForest n w added
    → (part : ℕ → Bool) (inside outside : ℕ) → IsInner n inside → IsInner n outside → part inside ≡ true → part outside ≡ false
    → IsCrossed added part
forest_joins n w symmetric added forest = λ part inside outside in_node out_node in_part out_part.
    let k = length added in
    let star = joins_least (IsInner n) w symmetric added [] (star_of k) forest.joins (star_length k)
    (star_nodes n k (omega (arith, forest.count)))
    (λ other free also x y in_x in_y. star_joins k other also x (in_x.0, omega (arith, in_x.1, forest.count))
    ∙ sym (star_joins k other also y (in_y.0, omega (arith, in_y.1, forest.count)))) in
    true_from_ne_false (list_any (crosses part) added) (λ none.
    both_ways (part inside) (star.1 part (uncrossed_from part added none) (All-nil (λ pair. crosses part pair ≡ false)) inside
    outside in_node out_node ∙ out_part) in_part)

pub forest_least : (n : ℕ) (w : ℕ → ℕ → ℤ) → ((a b : ℕ) → w a b ≡ w b a) → (added xs : List (ℕ × ℕ)) → IsWholeForest n w added
    → length xs ≡ length added
    → All (IsPairOf (IsInner n)) xs → JoinsBeside (IsInner n) [] xs → weight_of w added ≤ℤ weight_of w xs
forest_least n w symmetric added xs forest size of joins =
    (joins_least (IsInner n) w symmetric added [] xs forest.joins size of joins).0

-- ---- least joins with the two nearest nodes, and so a growth with them, are a minimum 1-tree

-- both ends are nodes, and they differ
abbrev pub IsLink : (ℕ → Type 0) → ℕ × ℕ → Type 0
IsLink Node e = Node e.0 × Node e.1 × (e.0 ≢ e.1)

joins_links : (Node : ℕ → Type 0) (w : ℕ → ℕ → ℤ) (added earlier : List (ℕ × ℕ)) → AreLeastJoins Node w earlier added
    → AllByRecursion (IsLink Node) added
joins_links Node w [] earlier joins = tt
joins_links Node w (e ∷ es) earlier joins =
    let leaving = joins.0.leaving in (
      (
        joins.0.from,
        leaving.node,
        λ same. both_ways (joins.0.part e.1) leaving.to
            (subst (λ x. joins.0.part x ≡ true) same leaving.from),
      ),
      joins_links Node w es (earlier ++ e ∷ []) joins.1,
    )

-- ---- the lower end first

-- a symmetric fact of a pair holds of it with the lower end first
ordered_both : (e : ℕ × ℕ) (P : ℕ × ℕ → Type 0) → (e.0 < e.1 → P e) → (e.1 ≤ e.0 → P (e.1, e.0)) → P (ordered e)
ordered_both e P here turned =
    cond_both (ltb e.0 e.1) e (e.1, e.0) P (λ t. here (ltb-true e.0 e.1 t)) (λ f. turned (ltb-false e.0 e.1 f))

pub ordered_weight : (w : ℕ → ℕ → ℤ) → ((a b : ℕ) → w a b ≡ w b a) → (es : List (ℕ × ℕ))
    → weight_of w (map ordered es) ≡ weight_of w es
ordered_weight w symmetric [] = refl
ordered_weight w symmetric (e ∷ es) =
    let head : w (ordered e).0 (ordered e).1 ≡ w e.0 e.1 =
    ordered_both e (λ p. w p.0 p.1 ≡ w e.0 e.1) (λ h. refl) (λ h. symmetric e.1 e.0) in
    omega (arith, ints, head, ordered_weight w symmetric es)

ordered_crossed : (part : ℕ → Bool) (es : List (ℕ × ℕ)) → list_any (crosses part) (map ordered es) ≡ list_any (crosses part) es
ordered_crossed part [] = refl
ordered_crossed part (e ∷ es) =
    let head : crosses part (ordered e) ≡ crosses part e =
    ordered_both e (λ p. crosses part p ≡ crosses part e) (λ h. refl) (λ h. crosses_turned part e.1 e.0) in
    ap (λ b. b || list_any (crosses part) (map ordered es)) head ∙ ap (λ b. crosses part e || b) (ordered_crossed part es)

-- ---- the pairs at node 1 and the others

both_weights : (w : ℕ → ℕ → ℤ) (b : Bool) (e : ℕ × ℕ) (xs ys : List (ℕ × ℕ))
    → weight_of w (cond b (e ∷ xs) xs) +ℤ weight_of w (cond (not b) (e ∷ ys) ys) ≡ w e.0 e.1 +ℤ (weight_of w xs +ℤ weight_of w ys)
both_weights w true e xs ys = omega (arith, ints)
both_weights w false e xs ys = omega (arith, ints)

apart_weight : (w : ℕ → ℕ → ℤ) (es : List (ℕ × ℕ))
    → weight_of w es ≡ weight_of w (filter is_at_one es) +ℤ weight_of w (inner_pairs es)
apart_weight w [] = omega (arith, ints)
apart_weight w (e ∷ es) =
    ap (λ z. w e.0 e.1 +ℤ z) (apart_weight w es) ∙ sym (both_weights w (is_at_one e) e (filter is_at_one es) (inner_pairs es))

both_lengths : (b : Bool) (e : ℕ × ℕ) (xs ys : List (ℕ × ℕ))
    → length (cond b (e ∷ xs) xs) + length (cond (not b) (e ∷ ys) ys) ≡ suc (length xs + length ys)
both_lengths true e xs ys = omega arith
both_lengths false e xs ys = omega arith

apart_length : (es : List (ℕ × ℕ)) → length es ≡ length (filter is_at_one es) + length (inner_pairs es)
apart_length [] = refl
apart_length (e ∷ es) = ap suc (apart_length es) ∙ sym (both_lengths (is_at_one e) e (filter is_at_one es) (inner_pairs es))

-- a pair that is not at node 1 lies in 2..n
ends_inside : (n : ℕ) (es : List (ℕ × ℕ)) → AllByRecursion (IsPair n) es → AllByRecursion (IsPairOf (IsInner n)) (inner_pairs es)
ends_inside n [] h = tt
ends_inside n (e ∷ es) h =
    let later = ends_inside n es h.1 in
    elim (cases_Bool (is_at_one e)) [
      | inl t ↦ rw t later
      | inr f ↦ rw f (let above = eqb-false e.0 1 f in ((omega arith, omega arith), (omega arith, omega arith)), later)
    ]

kept_pairs : (P : ℕ × ℕ → Type 0) (test : ℕ × ℕ → Bool) (es : List (ℕ × ℕ)) → AllByRecursion P es
    → AllByRecursion P (filter test es)
kept_pairs P test [] h = tt
kept_pairs P test (e ∷ es) h =
    cond_both (test e) (e ∷ filter test es) (filter test es) (AllByRecursion P) (λ t. (h.0, kept_pairs P test es h.1))
    (λ f. kept_pairs P test es h.1)

-- ---- least joins with their spokes are a 1-tree

none_at_one : (es : List (ℕ × ℕ)) → AllByRecursion (λ e. is_at_one e ≡ false) es
    → (filter is_at_one es ≡ []) × (inner_pairs es ≡ es)
none_at_one [] h = (refl, refl)
none_at_one (e ∷ es) h = let later = none_at_one es h.1 in rw h.0 (later.0, ap (λ xs. e ∷ xs) later.1)

ordered_pairs : (n : ℕ) (es : List (ℕ × ℕ)) → AllByRecursion (IsLink (IsInner n)) es
    → AllByRecursion (IsPair n) (map ordered es) × AllByRecursion (λ e. is_at_one e ≡ false) (map ordered es)
ordered_pairs n [] h = (tt, tt)
ordered_pairs n (e ∷ es) h =
    let ends = h.0 in
    let differ : e.0 ≢ e.1 = ends.2 in
    let later = ordered_pairs n es h.1 in (
      (ordered_both e (IsPair n) (λ k. (omega arith, k, omega arith)) (λ k. (omega arith, omega arith, omega arith)), later.0),
      (
        ordered_both e (λ p. is_at_one p ≡ false) (λ k. ne_eqb e.0 1 (λ s. omega arith)) (λ k. ne_eqb e.1 1 (λ s. omega arith)),
        later.1,
      ),
    )

-- two spokes and as many links as a tree has, which cross each part
pub one_tree_of : (n first second : ℕ) (added : List (ℕ × ℕ)) → IsInner n first → IsInner n second → first ≢ second
    → AllByRecursion (IsLink (IsInner n)) added
    → ((part : ℕ → Bool) (inside outside : ℕ) → IsInner n inside → IsInner n outside → part inside ≡ true → part outside ≡ false
    → IsCrossed added part)
    → 2 + length added ≡ n → IsOneTree n (tree_of first second added)
one_tree_of n first second added one two differ links joined count =
    let pairs = ordered_pairs n added links in
    let none = none_at_one (map ordered added) pairs.1 in
    record {
      count = omega (arith, count, length-map added ordered);
      range = All-from_recursion (IsPair n) (tree_of first second added)
          ((omega arith, omega arith, omega arith), ((omega arith, omega arith, omega arith), pairs.0));
      first = first;
      second = second;
      root_edges = ap (λ es. (1, first) ∷ (1, second) ∷ es) none.0;
      differ = differ;
      joined = λ part inside outside in_node out_node in_part out_part.
          ap (list_any (crosses part)) none.1
          ∙ (ordered_crossed part added ∙ joined part inside outside in_node out_node in_part out_part);
    }

pub forest_one_tree : (n : ℕ) (w : ℕ → ℕ → ℤ) → ((a b : ℕ) → w a b ≡ w b a) → (first second : ℕ) (added : List (ℕ × ℕ))
    → AreNearest n w first second
    → IsWholeForest n w added → IsOneTree n (tree_of first second added)
forest_one_tree n w symmetric first second added near forest =
    one_tree_of n first second added near.first_in near.second_in near.differ (joins_links (IsInner n) w added [] forest.joins)
    (forest_joins n w symmetric added forest) forest.count

-- ---- and none weighs less

nearest_least : (n : ℕ) (w : ℕ → ℕ → ℤ) (first second a b : ℕ) → AreNearest n w first second → IsInner n a → IsInner n b → a ≢ b
    → (w 1 first +ℤ w 1 second) ≤ℤ (w 1 a +ℤ w 1 b)
nearest_least n w first second a b near in_a in_b differ = elim (cases_eq a first) [
  | inl same ↦
      let one : w 1 first ≤ℤ w 1 a = near.near a in_a in
      let two : w 1 second ≤ℤ w 1 b = near.next b in_b (λ s. differ (same ∙ sym s)) in
      omega (arith, ints, one, two)
  | inr other ↦
      let one : w 1 first ≤ℤ w 1 b = near.near b in_b in
      let two : w 1 second ≤ℤ w 1 a = near.next a in_a other in
      omega (arith, ints, one, two)
]

pub forest_tree_least : (n : ℕ) (w : ℕ → ℕ → ℤ) → ((a b : ℕ) → w a b ≡ w b a) → (first second : ℕ) (added : List (ℕ × ℕ))
    → AreNearest n w first second
    → IsWholeForest n w added → (es : List (ℕ × ℕ)) → IsOneTree n es → weight_of w (tree_of first second added) ≤ℤ weight_of w es
forest_tree_least n w symmetric first second added nearest forest es t =
    let range = recursion_from_All (IsPair n) es t.range in
    let root_edges = subst (AllByRecursion (IsPair n)) t.root_edges (kept_pairs (IsPair n) is_at_one es range) in
    let near : (w 1 first +ℤ w 1 second) ≤ℤ (w 1 t.first +ℤ w 1 t.second) =
    nearest_least n w first second t.first t.second nearest (omega arith, root_edges.0.2) (omega arith, root_edges.1.0.2) t.differ in
    let size : length es ≡ 2 + length (inner_pairs es) = apart_length es
    ∙ ap (λ xs. length xs + length (inner_pairs es)) t.root_edges in
    let rest : weight_of w added ≤ℤ weight_of w (inner_pairs es) =
    forest_least n w symmetric added (inner_pairs es) forest (omega (arith, size, t.count, forest.count))
    (All-from_recursion (IsPairOf (IsInner n)) (inner_pairs es) (ends_inside n es range))
    (crossed_joins (IsInner n) (inner_pairs es) t.joined) in
    let split : weight_of w es ≡ weight_of w ((1, t.first) ∷ (1, t.second) ∷ []) +ℤ weight_of w (inner_pairs es) =
    apart_weight w es
    ∙ ap (λ xs. weight_of w xs +ℤ weight_of w (inner_pairs es)) t.root_edges in
    let same : weight_of w (map ordered added) ≡ weight_of w added = ordered_weight w symmetric added in
    omega (arith, ints, near, rest, split, same)

-- ---- as the functions find them

pub least_from_forest : (n : ℕ) (w : ℕ → ℕ → ℤ) (first second : ℕ) (added seen pairs : List (ℕ × ℕ)) → 3 ≤ n
    → ((a b : ℕ) → w a b ≡ w b a)
    → AreNearest n w first second → IsWholeForest n w added → seen ≡ added → pairs ≡ tree_of first second seen
    → IsLeastOneTree n w pairs
least_from_forest n w first second added seen pairs some symmetric nearest forest same is =
    subst (IsLeastOneTree n w) (sym (is ∙ ap (tree_of first second) same)) (record {
      tree = forest_one_tree n w symmetric first second added nearest forest;
      least = forest_tree_least n w symmetric first second added nearest forest;
    })

pub least_from_growth : (n : ℕ) (w : ℕ → ℕ → ℤ) (first second : ℕ) (added seen pairs : List (ℕ × ℕ)) → 3 ≤ n
    → ((a b : ℕ) → w a b ≡ w b a)
    → AreNearest n w first second → IsWholeGrowth n w added → seen ≡ added → pairs ≡ tree_of first second seen
    → IsLeastOneTree n w pairs
least_from_growth n w first second added seen pairs some symmetric nearest growth =
    least_from_forest n w first second added seen pairs some symmetric nearest
    (growth_is_forest n w added (omega (arith, some)) growth)

-- ---- a growth of a tree with one pair more, which reaches one node more

-- ---- a pair more

pub grows_more : (Node : ℕ → Type 0) (w : ℕ → ℕ → ℤ) (added : List (ℕ × ℕ)) (grown : ℕ → Bool) (e : ℕ × ℕ)
    → Grows Node w grown added
    → IsLeastLeaving Node w (grown_by grown added) e → Grows Node w grown (added ++ e ∷ [])
grows_more Node w [] grown e g least = (least, tt)
grows_more Node w (f ∷ fs) grown e g least = (g.0, grows_more Node w fs (and_node grown f.1) e g.1 least)

pub grown_by_more : (added : List (ℕ × ℕ)) (grown : ℕ → Bool) (e : ℕ × ℕ)
    → grown_by grown (added ++ e ∷ []) ≡ and_node (grown_by grown added) e.1
grown_by_more [] grown e = refl
grown_by_more (f ∷ fs) grown e = grown_by_more fs (and_node grown f.1) e

-- ---- a mark more

pub marked_more : (inside : List Bool) (v x : ℕ) → v < length inside
    → is_inside (set inside v true) x ≡ and_node (is_inside inside) v x
marked_more inside v x h = elim (cases_eq x v) [
  | inl same ↦ subst (λ z. is_inside (set inside v true) z ≡ and_node (is_inside inside) v z) (sym same)
      (get_or-set_same inside v true false h ∙ sym (or_left (v == v) (is_inside inside v) (eq-eqb v v refl)))
  | inr other ↦ get_or-set_other inside v x true false other ∙ sym (ap (λ b. b || is_inside inside x) (ne_eqb x v other))
]

-- ---- the step

-- a node that is outside now was outside before
before : (n : ℕ) (inside : List Bool) (v x : ℕ) → v < length inside → is_inside (set inside v true) x ≡ false
    → is_inside inside x ≡ false
before n inside v x in_list free = (or_parts (x == v) (is_inside inside x) (sym (marked_more inside v x in_list) ∙ free)).1

-- ---- the steps as the code shows them: slices of the vectors, and the slices written back

pub written_back : {X : Type 0} (before after : List X) (len : ℕ) → len ≡ length after
    → take len (after ++ drop (length after) before) ≡ after
written_back before after len same =
    ap (λ k. take k (after ++ drop (length after) before)) same ∙ take-append_seam after (drop (length after) before)

-- ---- the two nodes that are nearest to node 1, in one pass

-- the two nearest ones of the nodes before this one, and their weights
pub record AreNearestBefore (n : ℕ) (w : ℕ → ℕ → ℤ) (node first : ℕ) (first_weight : ℤ) (second : ℕ) (second_weight : ℤ) : Type 0
  where
    pub first_in : IsInner n first
    pub first_before : first < node
    pub second_in : IsInner n second
    pub second_before : second < node
    pub differ : first ≢ second
    pub first_is : first_weight ≡ w 1 first
    pub second_is : second_weight ≡ w 1 second
    pub near : (x : ℕ) → IsInner n x → x < node → first_weight ≤ℤ w 1 x
    pub next : (x : ℕ) → IsInner n x → x < node → x ≢ first → second_weight ≤ℤ w 1 x

-- the nodes 2 and 3
two_nodes : (n : ℕ) (w : ℕ → ℕ → ℤ) (a b : ℕ) (a_weight b_weight : ℤ) → IsInner n a → IsInner n b → a < 4 → b < 4 → a ≢ b
    → a_weight ≡ w 1 a → b_weight ≡ w 1 b
    → a_weight ≤ℤ b_weight → AreNearestBefore n w 4 a a_weight b b_weight
two_nodes n w a b a_weight b_weight a_in b_in a_few b_few differ a_is b_is less = record {
  first_in = a_in;
  first_before = a_few;
  second_in = b_in;
  second_before = b_few;
  differ = differ;
  first_is = a_is;
  second_is = b_is;
  near = λ x h few. elim (cases_eq x a) [
    | inl same ↦ subst (λ (y : ℕ). a_weight ≤ℤ w 1 y) (sym same) (omega (arith, ints, a_is))
    | inr other ↦ let here : x ≡ b = omega (arith, h.0, few, other, a_in.0, a_few, b_in.0, b_few, differ) in
        subst (λ (y : ℕ). a_weight ≤ℤ w 1 y) (sym here) (omega (arith, ints, b_is, less))
  ];
  next = λ x h few other. let here : x ≡ b = omega (arith, h.0, few, other, a_in.0, a_few, b_in.0, b_few, differ) in
      subst (λ (y : ℕ). b_weight ≤ℤ w 1 y) (sym here) (omega (arith, ints, b_is));
}

pub two_first : (n : ℕ) (w : ℕ → ℕ → ℤ) (a b : ℕ) (a_weight b_weight : ℤ) → 3 ≤ n → a ≡ 2 → b ≡ 3 → a_weight ≡ w 1 2
    → b_weight ≡ w 1 3 → a_weight ≤ℤ b_weight
    → AreNearestBefore n w 4 a a_weight b b_weight
two_first n w a b a_weight b_weight some a_is b_is a_weighs b_weighs less =
    two_nodes n w a b a_weight b_weight (omega (arith, a_is), omega (arith, a_is, some))
    (omega (arith, b_is), omega (arith, b_is, some)) (omega (arith, a_is))
    (omega (arith, b_is)) (λ same. omega (arith, a_is, b_is, same))
    (a_weighs ∙ ap (w 1) (sym a_is)) (b_weighs ∙ ap (w 1) (sym b_is)) less

pub three_first : (n : ℕ) (w : ℕ → ℕ → ℤ) (a b : ℕ) (a_weight b_weight : ℤ) → 3 ≤ n → a ≡ 2 → b ≡ 3 → a_weight ≡ w 1 2
    → b_weight ≡ w 1 3 → b_weight <ℤ a_weight
    → AreNearestBefore n w 4 b b_weight a a_weight
three_first n w a b a_weight b_weight some a_is b_is a_weighs b_weighs less =
    two_nodes n w b a b_weight a_weight (omega (arith, b_is), omega (arith, b_is, some))
    (omega (arith, a_is), omega (arith, a_is, some)) (omega (arith, b_is))
    (omega (arith, a_is)) (λ same. omega (arith, a_is, b_is, same))
    (b_weighs ∙ ap (w 1) (sym b_is)) (a_weighs ∙ ap (w 1) (sym a_is)) (omega (arith, ints, less))

-- ---- one node more

pub nearer_first : (n : ℕ) (w : ℕ → ℕ → ℤ) (node first second here : ℕ) (first_weight second_weight weight : ℤ)
    → AreNearestBefore n w node first first_weight second second_weight → 2 ≤ node → node ≤ n → here ≡ node → weight ≡ w 1 node
    → weight <ℤ first_weight → AreNearestBefore n w (node + 1) here weight first first_weight
nearer_first n w node first second here first_weight second_weight weight b low high here_is is less = record {
  first_in = (omega (arith, low, here_is), omega (arith, high, here_is));
  first_before = omega (arith, here_is);
  second_in = b.first_in;
  second_before = omega (arith, b.first_before);
  differ = λ same. omega (arith, here_is, same, b.first_before);
  first_is = is ∙ ap (w 1) (sym here_is);
  second_is = b.first_is;
  near = λ x h before. elim (cases_eq x node) [
    | inl same ↦ subst (λ (y : ℕ). weight ≤ℤ w 1 y) (sym same) (omega (arith, ints, is))
    | inr other ↦ let under : first_weight ≤ℤ w 1 x = b.near x h (omega (arith, before, other)) in
        omega (arith, ints, under, less)
  ];
  next = λ x h before other. b.near x h (omega (arith, before, other, here_is));
}

pub nearer_second : (n : ℕ) (w : ℕ → ℕ → ℤ) (node first second here : ℕ) (first_weight second_weight weight : ℤ)
    → AreNearestBefore n w node first first_weight second second_weight → 2 ≤ node → node ≤ n → here ≡ node → weight ≡ w 1 node
    → first_weight ≤ℤ weight → weight <ℤ second_weight → AreNearestBefore n w (node + 1) first first_weight here weight
nearer_second n w node first second here first_weight second_weight weight b low high here_is is not_less less = record {
  first_in = b.first_in;
  first_before = omega (arith, b.first_before);
  second_in = (omega (arith, low, here_is), omega (arith, high, here_is));
  second_before = omega (arith, here_is);
  differ = λ same. omega (arith, here_is, same, b.first_before);
  first_is = b.first_is;
  second_is = is ∙ ap (w 1) (sym here_is);
  near = λ x h before. elim (cases_eq x node) [
    | inl same ↦ subst (λ (y : ℕ). first_weight ≤ℤ w 1 y) (sym same) (omega (arith, ints, is, not_less))
    | inr other ↦ b.near x h (omega (arith, before, other))
  ];
  next = λ x h before apart. elim (cases_eq x node) [
    | inl same ↦ subst (λ (y : ℕ). weight ≤ℤ w 1 y) (sym same) (omega (arith, ints, is))
    | inr other ↦ let under : second_weight ≤ℤ w 1 x = b.next x h (omega (arith, before, other)) apart in
        omega (arith, ints, under, less)
  ];
}

pub nearer_none : (n : ℕ) (w : ℕ → ℕ → ℤ) (node first second : ℕ) (first_weight second_weight weight : ℤ)
    → AreNearestBefore n w node first first_weight second second_weight → weight ≡ w 1 node
    → first_weight ≤ℤ weight → second_weight ≤ℤ weight → AreNearestBefore n w (node + 1) first first_weight second second_weight
nearer_none n w node first second first_weight second_weight weight b is not_first not_second = record {
  first_in = b.first_in;
  first_before = omega (arith, b.first_before);
  second_in = b.second_in;
  second_before = omega (arith, b.second_before);
  differ = b.differ;
  first_is = b.first_is;
  second_is = b.second_is;
  near = λ x h before. elim (cases_eq x node) [
    | inl same ↦ subst (λ (y : ℕ). first_weight ≤ℤ w 1 y) (sym same) (omega (arith, ints, is, not_first))
    | inr other ↦ b.near x h (omega (arith, before, other))
  ];
  next = λ x h before apart. elim (cases_eq x node) [
    | inl same ↦ subst (λ (y : ℕ). second_weight ≤ℤ w 1 y) (sym same) (omega (arith, ints, is, not_second))
    | inr other ↦ b.next x h (omega (arith, before, other)) apart
  ];
}

pub nearest_of_all : (n : ℕ) (w : ℕ → ℕ → ℤ) (node first second : ℕ) (first_weight second_weight : ℤ) → n < node
    → AreNearestBefore n w node first first_weight second second_weight → AreNearest n w first second
nearest_of_all n w node first second first_weight second_weight past b = record {
  first_in = b.first_in;
  second_in = b.second_in;
  differ = b.differ;
  near = λ x h. subst (λ (z : ℤ). z ≤ℤ w 1 x) b.first_is (b.near x h (omega (arith, h.1, past)));
  next = λ x h other. subst (λ (z : ℤ). z ≤ℤ w 1 x) b.second_is (b.next x h (omega (arith, h.1, past)) other);
}

-- the same under weights that are these between node 1 and the others
pub nearest_by_row : (n : ℕ) (w : ℕ → ℕ → ℤ) (row : List ℤ) (first second : ℕ) → ((x : ℕ) → IsInner n x → least_at row x ≡ w 1 x)
    → AreNearest n (λ i j. least_at row j) first second → AreNearest n w first second
nearest_by_row n w row first second same h = record {
  first_in = h.first_in;
  second_in = h.second_in;
  differ = h.differ;
  near = λ x in_x. let below = h.near x in_x in let own = same first h.first_in in let other = same x in_x in
      omega (arith, ints, below, own, other);
  next = λ x in_x apart. let below = h.next x in_x apart in let own = same second h.second_in in let other = same x in_x in
      omega (arith, ints, below, own, other);
}

-- ---- what the code compares

pub less_of : (a b : ℤ) → FitsSigned w64 a → FitsSigned w64 b → int_lt (to_z w64 (of_z w64 a)) (to_z w64 (of_z w64 b)) ≡ true
    → a <ℤ b
less_of a b a_in b_in h =
    let first : to_z w64 (of_z w64 a) ≡ a = to_z-of_z w64 a a_in in
    let second : to_z w64 (of_z w64 b) ≡ b = to_z-of_z w64 b b_in in
    let own : int_lt a b ≡ true = rw (first, second) at h in
    grind (arith, ints, own)

pub not_less_of : (a b : ℤ) → FitsSigned w64 a → FitsSigned w64 b → int_lt (to_z w64 (of_z w64 a)) (to_z w64 (of_z w64 b)) ≡ false
    → b ≤ℤ a
not_less_of a b a_in b_in h =
    let first : to_z w64 (of_z w64 a) ≡ a = to_z-of_z w64 a a_in in
    let second : to_z w64 (of_z w64 b) ≡ b = to_z-of_z w64 b b_in in
    let own : int_lt a b ≡ false = rw (first, second) at h in
    grind (arith, ints, own)
