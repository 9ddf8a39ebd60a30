-- What the multipliers of pairs take off weights, by the table of src/multipliers_by_node.rt, and the test of the duals
-- row by row. tsp_verdict imports it, too.
use Rattle.tsp_bound.proofs.Prelude.{◌≡◌, ◌≢◌, ℕ, zero, suc, ◌+◌, ◌<◌, ◌==◌, List, [], ◌∷◌, drop, length, map, get_or, ℤ, FitsSigned, inl, inr, refl, arith, ap, sym, ◌∙◌, drop-cons, add-one, ◌≤◌, ◌&&◌, ◌||◌, Bool, true, false, ◌++◌, take, ap₂, subst, below_more, set, length-set, cases_eq, eq-eqb, ne_eqb, cases_Bool, both_ways, and_from, or_left, or_right, eqb-true, ints, get_or-set_same, get_or-set_other, append-nil, append_assoc, take_more, recursion_from_All, All-from_recursion, w64, pos, neg_ℤ, ◌+ℤ◌, ◌-ℤ◌, ◌<ℤ◌, if◌then◌else◌, ◌≤ℤ◌, most_multiplier, IsNode, IsFromTo, most_64, moved_to, most_between, IsMultiplier, pair_of, is_same_pair, number_on, numbers_on, AreOnPairs, IsMoved}
use Rattle.std.specs.Global.{Vec}
use Rattle.std.specs.List.{AllPairs, AllByRecursion, All}
use Rattle.tsp_format.proofs.Basics.{both_all}
use Rattle.tsp_bound.specs.states.ByNode.{node_in, lowered_by, AreLowerings, said_of, all_said_of, IsTable}

-- ---- the multiplier that the weight to a node is lowered by

pub none_lowered : (lowerings : List (ℕ × ℤ)) (x : ℕ) → AllByRecursion (λ l. l.0 ≢ x) lowerings → lowered_by lowerings x ≡ pos 0
none_lowered [] x h = refl
none_lowered (l ∷ ls) x h = let rest = none_lowered ls x h.1 in let other = ne_eqb l.0 x h.0 in rw other (omega (arith, ints, rest))

pub one_lowered : (lowerings : List (ℕ × ℤ)) (x k : ℕ) (number : ℤ) → AllPairs (λ a b. a.0 ≢ b.0) lowerings → k < length lowerings
    → get_or lowerings k (x, number) ≡ (x, number) → lowered_by lowerings x ≡ number
one_lowered [] x k number once lt is = absurd (omega arith)
one_lowered (l ∷ ls) x zero number once lt is =
    let node : l.0 ≡ x = ap (λ (e : ℕ × ℤ). e.0) is in
    let own : l.1 ≡ number = ap (λ (e : ℕ × ℤ). e.1) is in
    let here = eq-eqb l.0 x node in
    let rest = none_lowered ls x (recursion_from_All (λ m. m.0 ≢ x) ls (λ k d below same. once zero (suc k) d (omega arith) (omega arith) (node ∙ sym same))) in
    rw here (omega (arith, ints, rest, own))
one_lowered (l ∷ ls) x (suc k) number once lt is =
    let node : (get_or ls k (x, number)).0 ≡ x = ap (λ (e : ℕ × ℤ). e.0) is in
    let other = ne_eqb l.0 x (λ same. once zero (suc k) (x, number) (omega arith) lt (same ∙ sym node)) in
    let rest = one_lowered ls x k number (λ i j d below lt. once (suc i) (suc j) d (omega arith) (omega arith)) (omega arith) is in
    rw other (omega (arith, ints, rest))

pub none_listed : (lowerings : List (ℕ × ℤ)) (x : ℕ) → ((k : ℕ) → k < length (map (λ lowering. lowering.0) lowerings) → node_in (map (λ lowering. lowering.0) lowerings) k ≢ x)
    → AllByRecursion (λ l. l.0 ≢ x) lowerings
none_listed [] x none = tt
none_listed (l ∷ ls) x none = (none zero (omega arith), none_listed ls x (λ k low. none (suc k) (omega (arith, low))))

-- ---- it is a multiplier or 0

pub lowered_size : (n : ℕ) (lowerings : List (ℕ × ℤ)) (x : ℕ) → AreLowerings n lowerings → IsFromTo (pos 0) (pos most_multiplier) (lowered_by lowerings x)
lowered_size n lowerings x are = sized lowerings are.once (recursion_from_All (λ l. IsFromTo (pos 0) (pos most_multiplier) l.1) lowerings (λ k d lt. (are.each k d lt).1))
  where
    sized : (ls : List (ℕ × ℤ)) → AllPairs (λ a b. a.0 ≢ b.0) ls → AllByRecursion (λ l. IsFromTo (pos 0) (pos most_multiplier) l.1) ls → IsFromTo (pos 0) (pos most_multiplier) (lowered_by ls x)
    sized [] once each = (omega (arith, ints), omega (arith, ints))
    sized (l ∷ ls) once each = elim (cases_eq l.0 x) [
      | inl same ↦
          let here = eq-eqb l.0 x same in
          let rest = none_lowered ls x (recursion_from_All (λ m. m.0 ≢ x) ls (λ k d below e. once zero (suc k) d (omega arith) (omega arith) (same ∙ sym e))) in
          rw here (omega (arith, ints, rest, each.0.0), omega (arith, ints, rest, each.0.1))
      | inr other ↦
          let none = ne_eqb l.0 x other in
          let rest = sized ls (λ i j d below lt. once (suc i) (suc j) d (omega arith) (omega arith)) each.1 in
          rw none (omega (arith, ints, rest.0), omega (arith, ints, rest.1))
    ]

-- ---- a row of weights, lowered by one multiplier after the other

pub lowered_left : (lowerings : List (ℕ × ℤ)) (index x : ℕ) (d : ℕ × ℤ) → index < length lowerings
    → neg_ℤ (lowered_by (drop index lowerings) x)
    ≡ (if (get_or lowerings index d).0 == x then neg_ℤ (get_or lowerings index d).1 else pos 0) +ℤ neg_ℤ (lowered_by (drop (index + 1) lowerings) x)
lowered_left lowerings index x d lt =
    let l : ℕ × ℤ = get_or lowerings index d in
    let rest : List (ℕ × ℤ) = drop (suc index) lowerings in
    let split : lowered_by (drop index lowerings) x ≡ lowered_by (l ∷ rest) x = ap (λ ls. lowered_by ls x) (drop-cons lowerings index d lt) in
    rw (add-one index) (elim (cases_eq l.0 x) [
      | inl same ↦ let here = eq-eqb l.0 x same in
          let own : lowered_by (l ∷ rest) x ≡ l.1 +ℤ lowered_by rest x = rw here refl in
          rw here (omega (arith, ints, split, own))
      | inr other ↦ let none = ne_eqb l.0 x other in
          let own : lowered_by (l ∷ rest) x ≡ pos 0 +ℤ lowered_by rest x = rw none refl in
          rw none (omega (arith, ints, split, own))
    ])

-- a weight that all multipliers have moved, in 64 bits, is the lowered one
pub lowered_to : (n : ℕ) (lowerings : List (ℕ × ℤ)) (x : ℕ) (weight value lower : ℤ) → AreLowerings n lowerings → IsFromTo (neg_ℤ (pos most_between)) (pos most_between) weight
    → IsMoved (neg_ℤ (lowered_by lowerings x)) weight value → lower ≡ weight -ℤ lowered_by lowerings x → (value ≡ lower) × (value <ℤ most_64)
lowered_to n lowerings x weight value lower are size moved is =
    let own = lowered_size n lowerings x are in
    let sum : lower ≡ weight +ℤ neg_ℤ (lowered_by lowerings x) = omega (arith, ints, is) in
    let fits : FitsSigned w64 lower = omega (arith, ints, is, size.0, size.1, own.0, own.1) in
    let to : value ≡ lower = moved_to (neg_ℤ (lowered_by lowerings x)) weight value lower sum fits moved in
    (to, omega (arith, ints, to, is, size.1, own.0))

-- ---- the multipliers of pairs in a table by node: how it is filled

-- ---- the number that a node's list takes off a weight is the sum of the multipliers of that pair

lowered_both : (xs ys : List (ℕ × ℤ)) (x : ℕ) → lowered_by (xs ++ ys) x ≡ lowered_by xs x +ℤ lowered_by ys x
lowered_both [] ys x = omega (arith, ints)
lowered_both (e ∷ xs) ys x = let rest = lowered_both xs ys x in omega (arith, ints, rest)

by_tests : (p q : Bool) (a b x : ℕ) (z : ℤ) → (p ≡ true → q ≡ false)
    → lowered_by (if p then (b, z) ∷ [] else (if q then (a, z) ∷ [] else [])) x ≡ (if (p && (b == x)) || (q && (a == x)) then z else pos 0)
by_tests true true a b x z h = absurd (both_ways true (h refl) refl)
by_tests true false a b x z h = one (b == x)
  where
    one : (y : Bool) → ((if y then z else pos 0) +ℤ pos 0) ≡ (if y || false then z else pos 0)
    one true = omega (arith, ints)
    one false = omega (arith, ints)
by_tests false true a b x z h = one (a == x)
  where
    one : (y : Bool) → ((if y then z else pos 0) +ℤ pos 0) ≡ (if y then z else pos 0)
    one true = omega (arith, ints)
    one false = omega (arith, ints)
by_tests false false a b x z h = refl

pub lowered_said : (node : ℕ) (triples : List (ℕ × ℕ × ℤ)) (x : ℕ) → AllByRecursion IsMultiplier triples → lowered_by (all_said_of node triples) x ≡ numbers_on triples node x
lowered_said node [] x h = refl
lowered_said node (t ∷ ts) x h =
    let only : (t.0 == node) ≡ true → (t.1 == node) ≡ false = λ first. ne_eqb t.1 node (λ second. h.0.0 (eqb-true t.0 node first ∙ sym second)) in
    let own : lowered_by (said_of node t) x ≡ number_on t node x = by_tests (t.0 == node) (t.1 == node) t.0 t.1 x t.2 only in
    lowered_both (said_of node t) (all_said_of node ts) x ∙ ap₂ (λ a b. a +ℤ b) own (lowered_said node ts x h.1)

-- ---- a node's list has multipliers of different other nodes

one_or_none : {X : Type 0} (P : X → Type 0) (p q : Bool) (x y : X) → (p ≡ true → P x) → (q ≡ true → P y) → AllByRecursion P (if p then x ∷ [] else (if q then y ∷ [] else []))
one_or_none P true q x y first second = (first refl, tt)
one_or_none P false true x y first second = (second refl, tt)
one_or_none P false false x y first second = tt

abbrev IsLowering : ℕ → ℕ × ℤ → Type 0
IsLowering n lowering = IsNode n lowering.0 × IsFromTo (pos 0) (pos most_multiplier) lowering.1

said_in : (n node : ℕ) (triples : List (ℕ × ℕ × ℤ)) → AllByRecursion IsMultiplier triples → AllByRecursion (λ t. IsNode n t.0 × IsNode n t.1) triples
    → AllByRecursion (IsLowering n) (all_said_of node triples)
said_in n node [] h nodes = tt
said_in n node (t ∷ ts) h nodes =
    both_all (IsLowering n) (said_of node t) (all_said_of node ts)
    (one_or_none (IsLowering n) (t.0 == node) (t.1 == node) (t.1, t.2) (t.0, t.2) (λ first. (nodes.0.1, h.0.1)) (λ second. (nodes.0.0, h.0.1)))
    (said_in n node ts h.1 nodes.1)

pub straight : (p q : ℕ × ℕ) → p.0 ≡ q.0 → p.1 ≡ q.1 → is_same_pair p q ≡ true
straight p q first second = or_left ((p.0 == q.0) && (p.1 == q.1)) ((p.1 == q.0) && (p.0 == q.1)) (and_from (p.0 == q.0) (p.1 == q.1) (eq-eqb p.0 q.0 first) (eq-eqb p.1 q.1 second))

pub crossed : (p q : ℕ × ℕ) → p.1 ≡ q.0 → p.0 ≡ q.1 → is_same_pair p q ≡ true
crossed p q first second = or_right ((p.0 == q.0) && (p.1 == q.1)) ((p.1 == q.0) && (p.0 == q.1)) (and_from (p.1 == q.0) (p.0 == q.1) (eq-eqb p.1 q.0 first) (eq-eqb p.0 q.1 second))

-- no pair of the triples is that of the node and the other one
abbrev HaveNone : ℕ → ℕ → List (ℕ × ℕ × ℤ) → Type 0
HaveNone node other triples = AllByRecursion (λ u. ((u.0 ≡ node) → (u.1 ≡ other) → ⊥) × ((u.1 ≡ node) → (u.0 ≡ other) → ⊥)) triples

none_said : (node other : ℕ) (triples : List (ℕ × ℕ × ℤ)) → HaveNone node other triples → AllByRecursion (λ e. other ≢ e.0) (all_said_of node triples)
none_said node other [] h = tt
none_said node other (u ∷ us) h =
    both_all (λ e. other ≢ e.0) (said_of node u) (all_said_of node us)
    (one_or_none (λ e. other ≢ e.0) (u.0 == node) (u.1 == node) (u.1, u.2) (u.0, u.2) (λ first same. h.0.0 (eqb-true u.0 node first) (sym same))
    (λ second same. h.0.1 (eqb-true u.1 node second) (sym same)))
    (none_said node other us h.1)

have_none : (t : ℕ × ℕ × ℤ) (node other : ℕ) (triples : List (ℕ × ℕ × ℤ)) → ((p : ℕ × ℕ) → (p.0 ≡ node) → (p.1 ≡ other) → is_same_pair (pair_of t) p ≡ true)
    → ((p : ℕ × ℕ) → (p.1 ≡ node) → (p.0 ≡ other) → is_same_pair (pair_of t) p ≡ true)
    → AllByRecursion (λ u. is_same_pair (pair_of t) (pair_of u) ≡ false) triples → HaveNone node other triples
have_none t node other [] one two h = tt
have_none t node other (u ∷ us) one two h = (
  (
    λ first second. both_ways (is_same_pair (pair_of t) (pair_of u)) h.0 (one (pair_of u) first second),
    λ second first. both_ways (is_same_pair (pair_of t) (pair_of u)) h.0 (two (pair_of u) second first),
  ),
  have_none t node other us one two h.1,
)

-- different elements, by recursion
abbrev AllApart : List (ℕ × ℤ) → Type 0
AllApart [] = Unit {0}
AllApart (e ∷ es) = AllByRecursion (λ f. e.0 ≢ f.0) es × AllApart es

abbrev AllDiffer : List (ℕ × ℕ × ℤ) → Type 0
AllDiffer [] = Unit {0}
AllDiffer (t ∷ ts) = AllByRecursion (λ u. is_same_pair (pair_of t) (pair_of u) ≡ false) ts × AllDiffer ts

said_apart : (node : ℕ) (triples : List (ℕ × ℕ × ℤ)) → AllDiffer triples → AllApart (all_said_of node triples)
said_apart node [] h = tt
said_apart node (t ∷ ts) h =
    let rest = said_apart node ts h.1 in
    elim (cases_Bool (t.0 == node)) [
      | inl first ↦ rw first (
        none_said node t.1 ts (have_none t node t.1 ts (λ p a b. straight (pair_of t) p (eqb-true t.0 node first ∙ sym a) (sym b))
            (λ p a b. crossed (pair_of t) p (sym b) (eqb-true t.0 node first ∙ sym a)) h.0),
        rest,
      )
      | inr other ↦ elim (cases_Bool (t.1 == node)) [
        | inl second ↦ rw (other, second) (
          none_said node t.0 ts (have_none t node t.0 ts (λ p a b. crossed (pair_of t) p (eqb-true t.1 node second ∙ sym a) (sym b))
              (λ p a b. straight (pair_of t) p (sym b) (eqb-true t.1 node second ∙ sym a)) h.0),
          rest,
        )
        | inr neither ↦ rw (other, neither) rest
      ]
    ]

all_differ : (triples : List (ℕ × ℕ × ℤ)) → AllPairs (λ s t. is_same_pair (pair_of s) (pair_of t) ≡ false) triples → AllDiffer triples
all_differ [] h = tt
all_differ (t ∷ ts) h = (
  recursion_from_All (λ u. is_same_pair (pair_of t) (pair_of u) ≡ false) ts (λ k d lt. h zero (suc k) d (omega arith) (omega arith)),
  all_differ ts (λ i j d below lt. h (suc i) (suc j) d (omega arith) (omega arith)),
)

pairs_from_apart : (es : List (ℕ × ℤ)) → AllApart es → AllPairs (λ a b. a.0 ≢ b.0) es
pairs_from_apart [] h i j d below lt = absurd (omega arith)
pairs_from_apart (e ∷ es) h zero zero d below lt = absurd (omega arith)
pairs_from_apart (e ∷ es) h zero (suc j) d below lt = All-from_recursion (λ f. e.0 ≢ f.0) es h.0 j d (omega arith)
pairs_from_apart (e ∷ es) h (suc i) zero d below lt = absurd (omega arith)
pairs_from_apart (e ∷ es) h (suc i) (suc j) d below lt = pairs_from_apart es h.1 i j d (omega arith) (omega arith)

pub are_lowerings : (n node : ℕ) (triples : List (ℕ × ℕ × ℤ)) → All IsMultiplier triples → AreOnPairs n triples → AreLowerings n (all_said_of node triples)
are_lowerings n node triples each on = record {
  each = All-from_recursion (IsLowering n) (all_said_of node triples)
      (said_in n node triples (recursion_from_All IsMultiplier triples each) (recursion_from_All (λ t. IsNode n t.0 × IsNode n t.1) triples on.nodes));
  once = pairs_from_apart (all_said_of node triples) (said_apart node triples (all_differ triples on.differ));
}

-- ---- one triple more

said_both : (node : ℕ) (xs ys : List (ℕ × ℕ × ℤ)) → all_said_of node (xs ++ ys) ≡ all_said_of node xs ++ all_said_of node ys
said_both node [] ys = refl
said_both node (t ∷ xs) ys = ap (λ zs. said_of node t ++ zs) (said_both node xs ys) ∙ sym (append_assoc (said_of node t) (all_said_of node xs) (all_said_of node ys))

said_more : (node : ℕ) (triples : List (ℕ × ℕ × ℤ)) (t : ℕ × ℕ × ℤ) → all_said_of node (triples ++ t ∷ []) ≡ all_said_of node triples ++ said_of node t
said_more node triples t = said_both node triples (t ∷ []) ∙ ap (λ zs. all_said_of node triples ++ zs) (append-nil (said_of node t))

-- the lists of both nodes, with a new entry each
-- plan: by whether a node is an end of the new pair: its list has one entry more (`said_more`), any other is as it was
pub table_more : (n : ℕ) (triples : List (ℕ × ℕ × ℤ)) (t : ℕ × ℕ × ℤ) (lists : List (Vec (ℕ × ℤ))) (first second : Vec (ℕ × ℤ)) → IsTable n triples lists → t.0 ≤ n → t.1 ≤ n → t.0 ≢ t.1
    → first.items ≡ all_said_of t.0 triples ++ (t.1, t.2) ∷ [] → second.items ≡ all_said_of t.1 triples ++ (t.0, t.2) ∷ [] → IsTable n (triples ++ t ∷ []) (set (set lists t.0 first) t.1 second)
table_more n triples t lists first second table a_in b_in differ first_is second_is = record {
  count = length-set (set lists t.0 first) t.1 second ∙ length-set lists t.0 first ∙ table.count;
  said = λ node d in_n. elim (cases_eq node t.1) [
    | inl same ↦ subst (λ (k : ℕ). (get_or (set (set lists t.0 first) t.1 second) k d).items ≡ all_said_of k (triples ++ t ∷ [])) (sym same)
        (ap (λ (v : Vec (ℕ × ℤ)). v.items) (get_or-set_same (set lists t.0 first) t.1 second d (omega (arith, length-set lists t.0 first, table.count, b_in)))
        ∙ second_is
        ∙ ap (λ zs. all_said_of t.1 triples ++ zs) (sym at_second)
        ∙ sym (said_more t.1 triples t))
    | inr other ↦
        ap (λ (v : Vec (ℕ × ℤ)). v.items) (get_or-set_other (set lists t.0 first) t.1 node second d other)
        ∙ (elim (cases_eq node t.0) [
          | inl same ↦ subst (λ (k : ℕ). (get_or (set lists t.0 first) k d).items ≡ all_said_of k (triples ++ t ∷ [])) (sym same)
              (ap (λ (v : Vec (ℕ × ℤ)). v.items) (get_or-set_same lists t.0 first d (omega (arith, table.count, a_in)))
              ∙ first_is
              ∙ ap (λ zs. all_said_of t.0 triples ++ zs) (sym at_first)
              ∙ sym (said_more t.0 triples t))
          | inr apart ↦
              ap (λ (v : Vec (ℕ × ℤ)). v.items) (get_or-set_other lists t.0 node first d apart)
              ∙ table.said node d in_n
              ∙ sym (append-nil (all_said_of node triples))
              ∙ ap (λ zs. all_said_of node triples ++ zs) (sym (elsewhere node apart other))
              ∙ sym (said_more node triples t)
        ])
  ];
}
  where
    at_first : said_of t.0 t ≡ (t.1, t.2) ∷ []
    at_first = let here = eq-eqb t.0 t.0 refl in rw here refl

    at_second : said_of t.1 t ≡ (t.0, t.2) ∷ []
    at_second = let here = eq-eqb t.1 t.1 refl in let none = ne_eqb t.0 t.1 differ in rw (none, here) refl

    elsewhere : (node : ℕ) → node ≢ t.0 → node ≢ t.1 → said_of node t ≡ []
    elsewhere node a b = let first_none = ne_eqb t.0 node (λ same. a (sym same)) in let second_none = ne_eqb t.1 node (λ same. b (sym same)) in rw (first_none, second_none) refl

-- the same for a round of the loop of `lists_of`
pub table_pushed : (n : ℕ) (triples : List (ℕ × ℕ × ℤ)) (index : ℕ) (lists : List (Vec (ℕ × ℤ))) (t : ℕ × ℕ × ℤ) (number : ℤ)
    (old_first old_second first second : Vec (ℕ × ℤ)) → index < length triples → t ≡ get_or triples index (0, 0, pos 0)
    → number ≡ t.2 → All IsMultiplier triples → AreOnPairs n triples → IsTable n (take index triples) lists
    → old_first ≡ get_or lists t.0 old_first → first.items ≡ old_first.items ++ (t.1, number) ∷ []
    → old_second ≡ get_or (set lists t.0 first) t.1 old_second → second.items ≡ old_second.items ++ (t.0, number) ∷ []
    → IsTable n (take (index + 1) triples) (set (set lists t.0 first) t.1 second)
table_pushed n triples index lists t number old_first old_second first second lt is same each on table old_first_is first_is old_second_is second_is =
    let taken : take (index + 1) triples ≡ take index triples ++ t ∷ [] = take_more triples index (0, 0, pos 0) lt ∙ ap (λ u. take index triples ++ u ∷ []) (sym is) in
    let own : IsMultiplier t = subst IsMultiplier (sym is) (each index (0, 0, pos 0) lt) in
    let nodes : IsNode n t.0 × IsNode n t.1 = subst (λ (u : ℕ × ℕ × ℤ). IsNode n u.0 × IsNode n u.1) (sym is) (on.nodes index (0, 0, pos 0) lt) in
    let one : first.items ≡ all_said_of t.0 (take index triples) ++ (t.1, t.2) ∷ [] =
    first_is ∙ ap₂ (λ (xs : List (ℕ × ℤ)) (z : ℤ). xs ++ (t.1, z) ∷ []) (ap (λ (v : Vec (ℕ × ℤ)). v.items) old_first_is ∙ table.said t.0 old_first nodes.0.1) same in
    let old : old_second ≡ get_or lists t.1 old_second = old_second_is ∙ get_or-set_other lists t.0 t.1 first old_second (λ e. own.0 (sym e)) in
    let two : second.items ≡ all_said_of t.1 (take index triples) ++ (t.0, t.2) ∷ [] =
    second_is ∙ ap₂ (λ (xs : List (ℕ × ℤ)) (z : ℤ). xs ++ (t.0, z) ∷ []) (ap (λ (v : Vec (ℕ × ℤ)). v.items) old ∙ table.said t.1 old_second nodes.1.1) same in
    rw taken (table_more n (take index triples) t lists first second table nodes.0.1 nodes.1.1 own.0 one two)

-- ---- the duals fit the costs of all rows, or columns, up to this one if they fit those before

pub columns_passed : (P : ℕ → Type 0) (i j : ℕ) → ((b : ℕ) → 1 ≤ b → b < j → i ≢ b → P b) → (i ≢ j → P j)
    → (b : ℕ) → 1 ≤ b → b < j + 1 → i ≢ b → P b
columns_passed P i j before here b low below other =
    below_more (λ (k : ℕ). 1 ≤ k → i ≢ k → P k) j (λ k lt one differ. before k one lt differ) (λ one differ. here differ) b below low other

pub rows_passed : (n : ℕ) (P : ℕ → ℕ → Type 0) (i : ℕ) → ((a b : ℕ) → IsNode n a → IsNode n b → a ≢ b → a < i → P a b)
    → ((b : ℕ) → IsNode n b → i ≢ b → P i b) → (a b : ℕ) → IsNode n a → IsNode n b → a ≢ b → a < i + 1 → P a b
rows_passed n P i before here a b row column other below =
    below_more (λ (k : ℕ). (m : ℕ) → IsNode n k → IsNode n m → k ≢ m → P k m) i
    (λ k lt m in_k in_m differ. before k m in_k in_m differ lt) (λ m in_i in_m differ. here m in_m differ) a below b row column other

pub above_where_not : (a b : ℤ) → (a ≤ℤ b → ⊥) → b <ℤ a
above_where_not a b h = grind (arith, ints, h)
