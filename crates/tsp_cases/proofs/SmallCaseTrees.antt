-- The trees in src/examples.rt, worked out: pairs on which a tree branches once or twice, links that decisions close,
-- bounds of leaves with three nodes, and families that are good or not.
use Rattle.tsp_cases.proofs.Prelude.{◌≡◌, ℕ, Bool, true, false, List, [], ◌∷◌, refl, arith, zero, suc, ◌+◌, ◌-◌, ◌<◌, ◌≤◌, ◌==◌, ◌&&◌, ◌||◌, not, leb, length, ℤ, ◌≤ℤ◌, inl, inr, subst, ◌≢◌, sym, both_ways, cases_eq, and_parts, or_cases, leb-true, eqb-true, eqb-false, not-true, ints, All-from_recursion, recursion_from_All, All-nil, All-head, All-tail, AllPairs-cons, list_all, range_with_len, pos, ◌*ℤ◌, ◌+ℤ◌, slice_index_or, IsNode, nodes_to, weight_between, IsInner, IsLeastOneTree, and_node, Grows, grown_by, AreNearest, tree_of}
use Rattle.std.proofs.lemmas.Float.{T_from_true}
use Rattle.std.specs.Int.Signed.{le_z, le_z_yes}
use Rattle.tsp_format.proofs.Basics.{or_right_from}
use Rattle.tsp_theory.proofs.Trees.{least_from_growth}
use Rattle.tsp_cases.proofs.GoodFamilies.{all_had, comb_of_family, lone_of_family}
use Rattle.tsp_cases.proofs.Passes.{IsFirstTwiceFrom, first_twice_in_pass}
use Rattle.tsp_cases.specs.CaseTrees.{Allows, IsAllowed, IsLeastFrom, HasNoLink, IsSumOfLeast, IsRowBound, combed}
use Rattle.tsp_cases.specs.Cases.{is_same, DecideOnce}
use Rattle.tsp_cases.specs.Crossings.{has}
use Rattle.tsp_cases.specs.Examples.{AreOnce, AreNotOnce, branched, with_pair, without_pair, cost_of_three, ThreeHave, lone_one, LeafOfThreeHas, IsNotGood, IsGood, three_teeth, TwiceAt, branches}
use Rattle.tsp_cases.specs.Families.{IsTooth, HasEachOnce}
use Rattle.tsp_cases.specs.declared.decision.Decision.{Decision}

alone : (directed : Bool) (a : Decision) → DecideOnce directed (a ∷ [])
alone directed a = AllPairs-cons (λ x y. is_same directed x.pair y.pair ≡ false) a [] (λ k d lt. absurd (omega arith)) (λ i j d lt within. absurd (omega arith))

two : (directed : Bool) (a b : Decision) → is_same directed a.pair b.pair ≡ false → DecideOnce directed (a ∷ b ∷ [])
two directed a b apart = AllPairs-cons (λ x y. is_same directed x.pair y.pair ≡ false) a (b ∷ [])
    (All-from_recursion (λ y. is_same directed a.pair y.pair ≡ false) (b ∷ []) (apart, tt)) (alone directed b)

abbrev on : (a b : ℕ) → Bool → Decision
on a b taken = record { pair = (a, b); taken = taken }

-- the cases of the leaves of two such branches
abbrev cases : ℕ → ℕ → ℕ → ℕ → List Decision → List (List Decision)
cases a b c d given = (on c d true ∷ on a b true ∷ given) ∷ (on c d false ∷ on a b true ∷ given) ∷ (on a b false ∷ given) ∷ []

pub once : AreOnce false [] (branched 1 2 3 4)
once = All-from_recursion (DecideOnce false) (cases 1 2 3 4 []) (two false (on 3 4 true) (on 1 2 true) refl, (two false (on 3 4 false) (on 1 2 true) refl, (alone false (on 1 2 false), tt)))

pub turned_arcs : AreOnce true [] (branched 1 2 2 1)
turned_arcs = All-from_recursion (DecideOnce true) (cases 1 2 2 1 []) (two true (on 2 1 true) (on 1 2 true) refl, (two true (on 2 1 false) (on 1 2 true) refl, (alone true (on 1 2 false), tt)))

pub turned : AreNotOnce false [] (branched 1 2 2 1)
turned h =
    let first : DecideOnce false (on 2 1 true ∷ on 1 2 true ∷ []) = (recursion_from_All (DecideOnce false) (cases 1 2 2 1 []) h).0 in
    both_ways true (first 0 1 (on 1 2 true) (omega arith) (omega arith)) refl

pub given_too : AreNotOnce false (on 2 1 true ∷ []) (branched 1 2 3 4)
given_too h =
    let first : DecideOnce false (on 3 4 true ∷ on 1 2 true ∷ on 2 1 true ∷ []) = (recursion_from_All (DecideOnce false) (cases 1 2 3 4 (on 2 1 true ∷ [])) h).0 in
    both_ways true (first 1 2 (on 1 2 true) (omega arith) (omega arith)) refl

-- ---- a minimum 1-tree of a few nodes

-- ---- tests of the nodes 2..n

abbrev is_inner : ℕ → ℕ → Bool
is_inner n x = leb 2 x && leb x n

abbrev all_inner : ℕ → (ℕ → Bool) → Bool
all_inner n test = list_all test (range_with_len 2 (n - 1))

inner_from : (n x : ℕ) → is_inner n x ≡ true → IsInner n x
inner_from n x h = let both = and_parts (leb 2 x) (leb x n) h in (leb-true 2 x both.0, leb-true x n both.1)

at_inner : (n : ℕ) (test : ℕ → Bool) → all_inner n test ≡ true → (x : ℕ) → IsInner n x → test x ≡ true
at_inner n test h x inner = go 2 (n - 1) h inner.0 (omega (arith, inner.0, inner.1))
  where
    go : (a k : ℕ) → list_all test (range_with_len a k) ≡ true → a ≤ x → x < a + k → test x ≡ true
    go a zero all from to = absurd (omega (arith, from, to))
    go a (suc k) all from to =
        let both = and_parts (test a) (list_all test (range_with_len (a + 1) k)) all in
        elim (cases_eq a x) [
          | inl same ↦ subst (λ (y : ℕ). test y ≡ true) same both.0
          | inr other ↦ go (a + 1) k both.1 (omega (arith, from, other)) (omega (arith, to))
        ]

below_from : (a b : ℤ) → le_z a b ≡ true → a ≤ℤ b
below_from a b h = le_z_yes (T_from_true (le_z a b) h)

-- ---- a growth

abbrev leaves_least : ℕ → (ℕ → ℕ → ℤ) → (ℕ → Bool) → ℕ × ℕ → Bool
leaves_least n w grown pair = all_inner n (λ a. not (grown a) || all_inner n (λ b. grown b || le_z (w pair.0 pair.1) (w a b)))

abbrev pub grows_well : ℕ → (ℕ → ℕ → ℤ) → (ℕ → Bool) → List (ℕ × ℕ) → Bool
grows_well n w grown [] = all_inner n grown
grows_well n w grown (pair ∷ pairs) = ((grown pair.0 && not (grown pair.1)) && (is_inner n pair.1 && leaves_least n w grown pair)) && grows_well n w (and_node grown pair.1) pairs

-- plan: by induction over the pairs: the test has each condition of `Grows` (`leaves_least`), and at the end
-- `all_inner`
grown_well : (n : ℕ) (w : ℕ → ℕ → ℤ) (grown : ℕ → Bool) (pairs : List (ℕ × ℕ)) → grows_well n w grown pairs ≡ true
    → Grows (IsInner n) w grown pairs × ((x : ℕ) → IsInner n x → grown_by grown pairs x ≡ true)
grown_well n w grown [] h = (tt, at_inner n grown h)
grown_well n w grown (pair ∷ pairs) h =
    let parts = and_parts ((grown pair.0 && not (grown pair.1)) && (is_inner n pair.1 && leaves_least n w grown pair)) (grows_well n w (and_node grown pair.1) pairs) h in
    let here = and_parts (grown pair.0 && not (grown pair.1)) (is_inner n pair.1 && leaves_least n w grown pair) parts.0 in
    let ends = and_parts (grown pair.0) (not (grown pair.1)) here.0 in
    let least = and_parts (is_inner n pair.1) (leaves_least n w grown pair) here.1 in
    let rest = grown_well n w (and_node grown pair.1) pairs parts.1 in (
      (
        record {
          from = ends.0;
          to = not-true (grown pair.1) ends.1;
          node = inner_from n pair.1 least.0;
          least = λ a b a_in b_in a_grown b_out.
              let from_a = at_inner n (λ a. not (grown a) || all_inner n (λ b. grown b || le_z (w pair.0 pair.1) (w a b))) least.1 a a_in in
              let to_all : all_inner n (λ b. grown b || le_z (w pair.0 pair.1) (w a b)) ≡ true = elim (or_cases (not (grown a)) (all_inner n (λ b. grown b || le_z (w pair.0 pair.1) (w a b))) from_a) [
                | inl off ↦ absurd (both_ways (grown a) (not-true (grown a) off) a_grown)
                | inr all ↦ all
              ] in
              below_from (w pair.0 pair.1) (w a b) (or_right_from (grown b) (le_z (w pair.0 pair.1) (w a b)) (at_inner n (λ b. grown b || le_z (w pair.0 pair.1) (w a b)) to_all b b_in) b_out);
        },
        rest.0,
      ),
      rest.1,
    )

-- ---- the two nearest nodes

abbrev pub near_one : ℕ → (ℕ → ℕ → ℤ) → ℕ → ℕ → Bool
near_one n w first second =
    ((is_inner n first && is_inner n second) && not (first == second)) && (all_inner n (λ x. le_z (w 1 first) (w 1 x)) && all_inner n (λ x. (x == first) || le_z (w 1 second) (w 1 x)))

nearest_from : (n : ℕ) (w : ℕ → ℕ → ℤ) (first second : ℕ) → near_one n w first second ≡ true → AreNearest n w first second
nearest_from n w first second h =
    let parts = and_parts ((is_inner n first && is_inner n second) && not (first == second))
    (all_inner n (λ x. le_z (w 1 first) (w 1 x)) && all_inner n (λ x. (x == first) || le_z (w 1 second) (w 1 x))) h in
    let nodes = and_parts (is_inner n first && is_inner n second) (not (first == second)) parts.0 in
    let both = and_parts (is_inner n first) (is_inner n second) nodes.0 in
    let least = and_parts (all_inner n (λ x. le_z (w 1 first) (w 1 x))) (all_inner n (λ x. (x == first) || le_z (w 1 second) (w 1 x))) parts.1 in
    record {
      first_in = inner_from n first both.0;
      second_in = inner_from n second both.1;
      differ = eqb-false first second (not-true (first == second) nodes.1);
      near = λ x x_in. below_from (w 1 first) (w 1 x) (at_inner n (λ x. le_z (w 1 first) (w 1 x)) least.0 x x_in);
      next = λ x x_in other. elim (or_cases (x == first) (le_z (w 1 second) (w 1 x)) (at_inner n (λ x. (x == first) || le_z (w 1 second) (w 1 x)) least.1 x x_in)) [
        | inl same ↦ absurd (other (eqb-true x first same))
        | inr below ↦ below_from (w 1 second) (w 1 x) below
      ];
    }

pub least_tree : (n : ℕ) (w : ℕ → ℕ → ℤ) (first second : ℕ) (added : List (ℕ × ℕ)) → 3 ≤ n → 2 + length added ≡ n → ((i j : ℕ) → w i j ≡ w j i)
    → near_one n w first second ≡ true → grows_well n w (λ x. x == 2) added ≡ true → IsLeastOneTree n w (tree_of first second added)
least_tree n w first second added some count even near grows =
    let grown = grown_well n w (λ x. x == 2) added grows in
    least_from_growth n w first second added added (tree_of first second added) some even (nearest_from n w first second near) (record { grows = grown.0; reached = grown.1; count = count }) refl refl

-- ---- arcs between three nodes: which ones decisions allow, and the bounds of the least ones

-- a statement on 1 to 3 is one on three nodes
of_three : (P : ℕ → Type 0) → P 1 → P 2 → P 3 → (i : ℕ) → IsNode 3 i → P i
of_three P a b c i node = elim (cases_eq i 1) [
  | inl same ↦ subst P (sym same) a
  | inr not_one ↦ elim (cases_eq i 2) [
    | inl same ↦ subst P (sym same) b
    | inr not_two ↦ let last : 3 ≡ i = omega (arith, node.0, node.1, not_one, not_two) in subst P last c
  ]
]

-- ---- links

-- a link that one decision allows
by_one : (decision : Decision) (i j : ℕ) → IsNode 3 j → i ≢ j → Allows i j decision → IsAllowed 3 (decision ∷ []) i j
by_one decision i j node other allows =
    record { node = node; other = other; each = All-from_recursion (Allows i j) (decision ∷ []) (allows, tt) }

by_none : (i j : ℕ) → IsNode 3 j → i ≢ j → IsAllowed 3 [] i j
by_none i j node other = record { node = node; other = other; each = All-nil (Allows i j) }

first_of : (decision : Decision) (decisions : List Decision) (i j : ℕ) → IsAllowed 3 (decision ∷ decisions) i j → Allows i j decision
first_of decision decisions i j h = All-head (Allows i j) decision decisions h.each

second_of : (decision other : Decision) (decisions : List Decision) (i j : ℕ) → IsAllowed 3 (decision ∷ other ∷ decisions) i j → Allows i j other
second_of decision other decisions i j h =
    All-head (Allows i j) other decisions (All-tail (Allows i j) decision (other ∷ decisions) h.each)

taken : IsAllowed 3 (with_pair 1 3 ∷ []) 1 3
taken = by_one (with_pair 1 3) 1 3 (omega arith, omega arith) (λ e. omega (arith, e)) (λ e. refl, λ e. refl)

pub row_of_taken : IsAllowed 3 (with_pair 1 3 ∷ []) 1 2 → ⊥
row_of_taken h = let other : 2 ≡ 3 = (first_of (with_pair 1 3) [] 1 2 h).0 refl in omega (arith, other)

pub column_of_taken : IsAllowed 3 (with_pair 1 3 ∷ []) 2 3 → ⊥
column_of_taken h = let other : 2 ≡ 1 = (first_of (with_pair 1 3) [] 2 3 h).1 refl in omega (arith, other)

beside_taken : IsAllowed 3 (with_pair 1 3 ∷ []) 2 1
beside_taken = by_one (with_pair 1 3) 2 1 (omega arith, omega arith) (λ e. omega (arith, e)) (λ e. omega (arith, e), λ e. omega (arith, e))

from_the_last : IsAllowed 3 (with_pair 1 3 ∷ []) 3 1
from_the_last = by_one (with_pair 1 3) 3 1 (omega arith, omega arith) (λ e. omega (arith, e)) (λ e. omega (arith, e), λ e. omega (arith, e))

pub avoided : IsAllowed 3 (without_pair 1 3 ∷ []) 1 3 → ⊥
avoided h = first_of (without_pair 1 3) [] 1 3 h refl refl

pub second_decision : IsAllowed 3 (with_pair 1 2 ∷ without_pair 2 3 ∷ []) 2 3 → ⊥
second_decision h = second_of (with_pair 1 2) (without_pair 2 3) [] 2 3 h refl refl

-- ---- nodes without a link

pub none_left : HasNoLink 3 (with_pair 3 2 ∷ with_pair 2 3 ∷ [])
none_left = record {
  from = 1;
  node = (omega arith, omega arith);
  none = λ j h.
      let second : j ≡ 2 → 1 ≡ 3 = (first_of (with_pair 3 2) (with_pair 2 3 ∷ []) 1 j h).1 in
      let third : j ≡ 3 → 1 ≡ 2 = (second_of (with_pair 3 2) (with_pair 2 3) [] 1 j h).1 in
      let other = h.other in
      of_three (λ x. x ≡ j → ⊥) other (λ e. omega (arith, second (sym e))) (λ e. omega (arith, third (sym e))) j h.node refl;
}

-- ---- the least weights

nodes_to_three : nodes_to 3 ≡ 1 ∷ 2 ∷ 3 ∷ []
unfolding nodes_to
nodes_to_three = refl

-- the least weight from i, if the link to `to` is allowed, and each other one is absurd or weighs no less
least_from : (w : ℕ → ℕ → ℤ) (decisions : List Decision) (i to : ℕ) → IsAllowed 3 decisions i to
    → (IsAllowed 3 decisions i 1 → w i to ≤ℤ w i 1) → (IsAllowed 3 decisions i 2 → w i to ≤ℤ w i 2)
    → (IsAllowed 3 decisions i 3 → w i to ≤ℤ w i 3) → IsLeastFrom 3 w decisions i (w i to)
least_from w decisions i to allowed one two three = record {
  to = to;
  allowed = allowed;
  reached = refl;
  below = λ j h. of_three (λ x. IsAllowed 3 decisions i x → w i to ≤ℤ w i x) one two three j h.node h;
}

-- the sum of the least weights to these nodes
sum_of : (w : ℕ → ℕ → ℤ) (decisions : List Decision) (a b c : ℕ) → IsLeastFrom 3 w decisions 1 (w 1 a)
    → IsLeastFrom 3 w decisions 2 (w 2 b) → IsLeastFrom 3 w decisions 3 (w 3 c)
    → IsSumOfLeast 3 w decisions 3 (w 1 a +ℤ (w 2 b +ℤ (w 3 c +ℤ pos 0)))
sum_of w decisions a b c one two three = record {
  least = λ i. w i (slice_index_or (a ∷ b ∷ c ∷ []) (i - 1) 0);
  each = λ i node. of_three (λ x. IsLeastFrom 3 w decisions x (w x (slice_index_or (a ∷ b ∷ c ∷ []) (x - 1) 0))) one two three i node;
  sum_is = rw nodes_to_three refl;
}

itself : (decisions : List Decision) (i : ℕ) → IsAllowed 3 decisions i i → ⊥
itself decisions i h = h.other refl

sum_without : IsSumOfLeast 3 cost_of_three [] 3 (pos 6)
sum_without = sum_of cost_of_three [] 2 3 1
    (least_from cost_of_three [] 1 2 (by_none 1 2 (omega arith, omega arith) (λ e. omega (arith, e)))
    (λ h. absurd (itself [] 1 h)) (λ h. le_z_yes tt) (λ h. le_z_yes tt))
    (least_from cost_of_three [] 2 3 (by_none 2 3 (omega arith, omega arith) (λ e. omega (arith, e)))
    (λ h. le_z_yes tt) (λ h. absurd (itself [] 2 h)) (λ h. le_z_yes tt))
    (least_from cost_of_three [] 3 1 (by_none 3 1 (omega arith, omega arith) (λ e. omega (arith, e)))
    (λ h. le_z_yes tt) (λ h. le_z_yes tt) (λ h. absurd (itself [] 3 h)))

sum_with : IsSumOfLeast 3 cost_of_three (with_pair 1 3 ∷ []) 3 (pos 23)
sum_with =
    let case : List Decision = with_pair 1 3 ∷ [] in
    sum_of cost_of_three case 3 1 1
    (least_from cost_of_three case 1 3 taken (λ h. absurd (itself case 1 h)) (λ h. absurd (row_of_taken h)) (λ h. le_z_yes tt))
    (least_from cost_of_three case 2 1 beside_taken (λ h. le_z_yes tt) (λ h. absurd (itself case 2 h)) (λ h. absurd (column_of_taken h)))
    (least_from cost_of_three case 3 1 from_the_last (λ h. le_z_yes tt) (λ h. le_z_yes tt) (λ h. absurd (itself case 3 h)))

avoided_two : IsAllowed 3 (without_pair 1 2 ∷ []) 1 2 → ⊥
avoided_two h = first_of (without_pair 1 2) [] 1 2 h refl refl

sum_avoiding : IsSumOfLeast 3 cost_of_three (without_pair 1 2 ∷ []) 3 (pos 15)
sum_avoiding =
    let case : List Decision = without_pair 1 2 ∷ [] in
    let apart : (i j : ℕ) → IsNode 3 j → i ≢ j → (i ≡ 1 → j ≢ 2) → IsAllowed 3 case i j = by_one (without_pair 1 2) in
    sum_of cost_of_three case 3 3 1
    (least_from cost_of_three case 1 3 (apart 1 3 (omega arith, omega arith) (λ e. omega (arith, e)) (λ e f. omega (arith, f)))
    (λ h. absurd (itself case 1 h)) (λ h. absurd (avoided_two h)) (λ h. le_z_yes tt))
    (least_from cost_of_three case 2 3 (apart 2 3 (omega arith, omega arith) (λ e. omega (arith, e)) (λ e f. omega (arith, e)))
    (λ h. le_z_yes tt) (λ h. absurd (itself case 2 h)) (λ h. le_z_yes tt))
    (least_from cost_of_three case 3 1 (apart 3 1 (omega arith, omega arith) (λ e. omega (arith, e)) (λ e f. omega (arith, e)))
    (λ h. le_z_yes tt) (λ h. le_z_yes tt) (λ h. absurd (itself case 3 h)))

-- ---- bounds

pub without_decisions : ThreeHave [] (pos 1) (pos 6)
without_decisions = record {
  sum = pos 6;
  least = sum_without;
  bound_is = record { above = le_z_yes tt; least = λ other above. let known : pos 6 ≤ℤ (pos 1 *ℤ other) = above in omega (arith, ints, known) };
}

pub with_arc : ThreeHave (with_pair 1 3 ∷ []) (pos 1) (pos 23)
with_arc = record {
  sum = pos 23;
  least = sum_with;
  bound_is = record { above = le_z_yes tt; least = λ other above. let known : pos 23 ≤ℤ (pos 1 *ℤ other) = above in omega (arith, ints, known) };
}

pub without_arc : ThreeHave (without_pair 1 2 ∷ []) (pos 1) (pos 15)
without_arc = record {
  sum = pos 15;
  least = sum_avoiding;
  bound_is = record { above = le_z_yes tt; least = λ other above. let known : pos 15 ≤ℤ (pos 1 *ℤ other) = above in omega (arith, ints, known) };
}

pub rounded_up : ThreeHave (with_pair 1 3 ∷ []) (pos 2) (pos 12)
rounded_up = record {
  sum = pos 23;
  least = sum_with;
  bound_is = record { above = le_z_yes tt; least = λ other above. let known : pos 23 ≤ℤ (pos 2 *ℤ other) = above in omega (arith, ints, known) };
}

pub given_back : IsRowBound 3 cost_of_three (with_pair 1 3 ∷ []) (pos 2) (pos 5) (pos 14)
given_back = record {
  sum = pos 23;
  least = sum_with;
  bound_is = record { above = le_z_yes tt; least = λ other above. let known : pos 28 ≤ℤ (pos 2 *ℤ other) = above in omega (arith, ints, known) };
}

-- ---- leaves

abbrev weight_at : ℤ → ℕ → ℕ → ℤ
weight_at scale = combed ((lone_one, pos 2) ∷ []) (weight_between scale (pos 3 ∷ pos 0 ∷ pos 1 ∷ []) cost_of_three)

pub leaf_alone : LeafOfThreeHas [] (pos 1) (pos 6)
leaf_alone = record {
  sum = pos 10;
  least = sum_of (weight_at (pos 1)) [] 2 3 1
      (least_from (weight_at (pos 1)) [] 1 2 (by_none 1 2 (omega arith, omega arith) (λ e. omega (arith, e)))
      (λ h. absurd (itself [] 1 h)) (λ h. le_z_yes tt) (λ h. le_z_yes tt))
      (least_from (weight_at (pos 1)) [] 2 3 (by_none 2 3 (omega arith, omega arith) (λ e. omega (arith, e)))
      (λ h. le_z_yes tt) (λ h. absurd (itself [] 2 h)) (λ h. le_z_yes tt))
      (least_from (weight_at (pos 1)) [] 3 1 (by_none 3 1 (omega arith, omega arith) (λ e. omega (arith, e)))
      (λ h. le_z_yes tt) (λ h. le_z_yes tt) (λ h. absurd (itself [] 3 h)));
  bound_is = record { above = le_z_yes tt; least = λ other above. let known : pos 6 ≤ℤ (pos 1 *ℤ other) = above in omega (arith, ints, known) };
}

pub leaf_with_arc : LeafOfThreeHas (with_pair 1 3 ∷ []) (pos 2) (pos 24)
leaf_with_arc =
    let case : List Decision = with_pair 1 3 ∷ [] in
    record {
      sum = pos 51;
      least = sum_of (weight_at (pos 2)) case 3 1 1
          (least_from (weight_at (pos 2)) case 1 3 taken (λ h. absurd (itself case 1 h)) (λ h. absurd (row_of_taken h)) (λ h. le_z_yes tt))
          (least_from (weight_at (pos 2)) case 2 1 beside_taken (λ h. le_z_yes tt) (λ h. absurd (itself case 2 h)) (λ h. absurd (column_of_taken h)))
          (least_from (weight_at (pos 2)) case 3 1 from_the_last (λ h. le_z_yes tt) (λ h. le_z_yes tt) (λ h. absurd (itself case 3 h)));
      bound_is = record { above = le_z_yes tt; least = λ other above. let known : pos 47 ≤ℤ (pos 2 *ℤ other) = above in omega (arith, ints, known) };
    }

-- ---- small combs and lone sets that are bad

pub no_sets : IsNotGood []
no_sets h = elim h.kind [
  | inl lone ↦ both_ways false refl lone.has_inside
  | inr comb ↦ let odd = comb.odd in omega (arith, odd)
]

pub one_tooth : IsNotGood ((1 ∷ 2 ∷ 3 ∷ []) ∷ (1 ∷ 4 ∷ []) ∷ [])
one_tooth h =
    let comb = comb_of_family 6 (1 ∷ 2 ∷ 3 ∷ []) ((1 ∷ 4 ∷ []) ∷ []) (omega arith) h.kind in
    let odd = comb.odd in
    let some = comb.some in
    omega (arith, odd, some)

pub two_teeth : IsNotGood ((1 ∷ 2 ∷ 3 ∷ []) ∷ (1 ∷ 4 ∷ []) ∷ (2 ∷ 5 ∷ []) ∷ [])
two_teeth h =
    let comb = comb_of_family 6 (1 ∷ 2 ∷ 3 ∷ []) ((1 ∷ 4 ∷ []) ∷ (2 ∷ 5 ∷ []) ∷ []) (omega arith) h.kind in
    let odd = comb.odd in
    omega (arith, odd)

pub node_twice : IsNotGood ((1 ∷ 2 ∷ 3 ∷ 1 ∷ []) ∷ three_teeth)
node_twice h = h.once 0 [] (omega arith) 0 3 0 (omega arith) (omega arith) refl

pub teeth_meet : IsNotGood ((1 ∷ 2 ∷ 3 ∷ []) ∷ (1 ∷ 4 ∷ []) ∷ (2 ∷ 4 ∷ []) ∷ (3 ∷ 6 ∷ []) ∷ [])
teeth_meet h = both_ways true ((comb_of_family 6 (1 ∷ 2 ∷ 3 ∷ []) ((1 ∷ 4 ∷ []) ∷ (2 ∷ 4 ∷ []) ∷ (3 ∷ 6 ∷ []) ∷ []) (omega arith) h.kind).apart 0 1 (λ node. false) (omega arith)
    (omega arith) 4 refl) refl

pub tooth_inside : IsNotGood ((1 ∷ 2 ∷ 3 ∷ 4 ∷ []) ∷ three_teeth)
tooth_inside h =
    let tooth : IsTooth 6 (has (1 ∷ 2 ∷ 3 ∷ 4 ∷ [])) (has (1 ∷ 4 ∷ [])) = (comb_of_family 6 (1 ∷ 2 ∷ 3 ∷ 4 ∷ []) three_teeth (omega arith) h.kind).reach 0 (λ node. false) (omega arith) in
    both_ways (has (1 ∷ 2 ∷ 3 ∷ 4 ∷ []) tooth.outside) tooth.off_handle
    (all_had (λ x. has (1 ∷ 2 ∷ 3 ∷ 4 ∷ []) x ≡ true) (1 ∷ 4 ∷ []) tooth.outside (All-from_recursion (λ x. has (1 ∷ 2 ∷ 3 ∷ 4 ∷ []) x ≡ true) (1 ∷ 4 ∷ []) (refl, (refl, tt))) tooth.outside_tooth)

pub tooth_outside : IsNotGood ((1 ∷ 2 ∷ []) ∷ three_teeth)
tooth_outside h =
    let tooth : IsTooth 6 (has (1 ∷ 2 ∷ [])) (has (3 ∷ 6 ∷ [])) = (comb_of_family 6 (1 ∷ 2 ∷ []) three_teeth (omega arith) h.kind).reach 2 (λ node. false) (omega arith) in
    both_ways (has (1 ∷ 2 ∷ []) tooth.inside)
    (all_had (λ x. has (1 ∷ 2 ∷ []) x ≡ false) (3 ∷ 6 ∷ []) tooth.inside (All-from_recursion (λ x. has (1 ∷ 2 ∷ []) x ≡ false) (3 ∷ 6 ∷ []) (refl, (refl, tt))) tooth.inside_tooth) tooth.in_handle

-- ---- lone sets

pub lone_set : IsGood ((1 ∷ 2 ∷ []) ∷ [])
lone_set = record {
  kind = inl (record {
    alone = refl;
    inside = 1;
    outside = 3;
    inside_node = (omega arith, omega arith);
    outside_node = (omega arith, omega arith);
    has_inside = refl;
    lacks_outside = refl;
  });
  once = All-from_recursion HasEachOnce ((1 ∷ 2 ∷ []) ∷ []) (
    AllPairs-cons (λ (a b : ℕ). a ≢ b) 1 (2 ∷ []) (All-from_recursion (λ (b : ℕ). 1 ≢ b) (2 ∷ []) (λ e. omega (arith, e), tt)) (λ i j d below lt. absurd (omega (arith, below, lt))),
    tt,
  );
}

-- a statement on 1 to 6 is one on six nodes
pub of_six : (P : ℕ → Type 0) → P 1 → P 2 → P 3 → P 4 → P 5 → P 6 → (i : ℕ) → IsNode 6 i → P i
of_six P a b c d e f i node = elim (cases_eq i 1) [
  | inl same ↦ subst P (sym same) a
  | inr not_one ↦ elim (cases_eq i 2) [
    | inl same ↦ subst P (sym same) b
    | inr not_two ↦ elim (cases_eq i 3) [
      | inl same ↦ subst P (sym same) c
      | inr not_three ↦ elim (cases_eq i 4) [
        | inl same ↦ subst P (sym same) d
        | inr not_four ↦ elim (cases_eq i 5) [
          | inl same ↦ subst P (sym same) e
          | inr not_five ↦ let last : 6 ≡ i = omega (arith, node.0, node.1, not_one, not_two, not_three, not_four, not_five) in subst P last f
        ]
      ]
    ]
  ]
]

pub all_nodes : IsNotGood ((1 ∷ 2 ∷ 3 ∷ 4 ∷ 5 ∷ 6 ∷ []) ∷ [])
all_nodes h =
    let lone = lone_of_family 6 (1 ∷ 2 ∷ 3 ∷ 4 ∷ 5 ∷ 6 ∷ []) h.kind in
    both_ways (has (1 ∷ 2 ∷ 3 ∷ 4 ∷ 5 ∷ 6 ∷ []) lone.outside) lone.lacks_outside
    (of_six (λ x. has (1 ∷ 2 ∷ 3 ∷ 4 ∷ 5 ∷ 6 ∷ []) x ≡ true) refl refl refl refl refl refl lone.outside lone.outside_node)

pub lone_node_twice : IsNotGood ((1 ∷ 2 ∷ 1 ∷ []) ∷ [])
lone_node_twice h = h.once 0 [] (omega arith) 0 2 0 (omega arith) (omega arith) refl

pub no_node : IsNotGood ([] ∷ [])
no_node h = let lone = lone_of_family 6 [] h.kind in both_ways false refl lone.has_inside

-- ---- two arcs in opposite directions

pub never_twice : (branch : ℕ) → TwiceAt true [] (branches 1 2 2 1) branch → ⊥
never_twice branch twice = never branch (first_twice_in_pass true [] (branches 1 2 2 1) branch twice)
  where
    never : (branch : ℕ) → IsFirstTwiceFrom true 0 ([] ∷ []) (branches 1 2 2 1) branch → ⊥
    never branch (inl first) = both_ways false refl first.1
    never branch (inr (none, inl second)) = both_ways false refl second.1
    never branch (inr (none, inr rest)) = rest.1
