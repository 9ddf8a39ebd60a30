-- Rounds that join each component by its least link give a least tree (src/rounds.rt), over places of an order as over
-- nodes. tsp_verdict imports it, too.
use Rattle.tsp_bound.proofs.Prelude.{◌≡◌, ℕ, ◌<◌, not, Bool, false, List, [], ◌∷◌, ◌++◌, get_or, map, ℤ, ◌≤ℤ◌, ap, ap₂, ◌∙◌, subst, ◌+◌, ◌*◌, ◌^◌, ◌≤◌, take, length, refl, arith, sym, Option, Result, Ok, Err, IfOk, IfSome, ◌≢◌, zero, suc, ◌==◌, true, cond, ◌⊎◌, inl, inr, set, None, Some, length-set, false≢true, eqb-true, eq-eqb, ne_eqb, cases_eq, ints, map-append, take_more, length-map, get_or-set_same, get_or-set_other, All-map, All-nil, All-push, recursion_from_All, All-weaker, if◌then◌else◌, pos, neg_ℤ, slice_index_or, MatchOption, most_nodes, IsFromTo, joins_more, IsSumSized, IsInner, crosses, weight_of}
use Rattle.std.specs.Global.{Vec}
use Rattle.std.specs.List.{All, AllByRecursion}
use Rattle.tsp_theory.specs.Forest.{IsLeastJoin, AreLeastJoins, IsWholeForest}
use Rattle.tsp_bound.specs.declared.search.Link.{Link}
use Rattle.tsp_bound.specs.states.Boxes.{IsNumbering, on_both, node_of}
use Rattle.tsp_bound.specs.states.Components.{IsBelow, IsSpanning, IsWeighedForest, IsForest, IsLeastOf, IsNearest, is_in_other_component, IsKeptLink, AreKept, IsLeaving, link_of, AreLeaving, AreLeast, IsOffered}

-- plan: by induction over the pairs: a node is in the cut of a join if its place is, so the same pairs cross it
-- (`crossed`)
joins_renamed : (n : ℕ) (Node : ℕ → Type 0) (node place : ℕ → ℕ) (w v : ℕ → ℕ → ℤ) (earlier pairs : List (ℕ × ℕ))
    → IsNumbering n Node node place → ((i j : ℕ) → i < n → j < n → v i j ≡ w (node i) (node j))
    → All (λ pair. (pair.0 < n) × (pair.1 < n)) earlier → AllByRecursion (λ pair. (pair.0 < n) × (pair.1 < n)) pairs
    → AreLeastJoins (IsBelow n) v earlier pairs → AreLeastJoins Node w (map (on_both node) earlier) (map (on_both node) pairs)
joins_renamed n Node node place w v earlier [] num same before ends joins = tt
joins_renamed n Node node place w v earlier (pair ∷ pairs) num same before ends joins =
    let join = joins.0 in
    let from_in : pair.0 < n = join.from in
    let to_in : pair.1 < n = join.leaving.node in
    let over : ℕ → Bool = λ x. join.part (place x) in
    let back : (i : ℕ) → i < n → over (node i) ≡ join.part i = λ i i_in. ap join.part (num.back i i_in) in
    let crossed : (p : ℕ × ℕ) → (p.0 < n) × (p.1 < n) → crosses over (on_both node p) ≡ crosses join.part p =
    λ p p_in. ap₂ (λ (a b : Bool). if a then not b else b) (back p.0 p_in.0) (back p.1 p_in.1) in
    let least : IsLeastJoin Node w (map (on_both node) earlier) (on_both node pair) = record {
      part = over;
      uncrossed = All-map (λ p. crosses over p ≡ false) (on_both node) earlier (λ k d low. crossed (get_or earlier k d) (before k d low) ∙ join.uncrossed k d low);
      from = num.node_in pair.0 from_in;
      leaving = record {
        from = back pair.0 from_in ∙ join.leaving.from;
        to = back pair.1 to_in ∙ join.leaving.to;
        node = num.node_in pair.1 to_in;
        least = λ a b a_in b_in a_over b_out.
            let pa = num.place_in a a_in in
            let pb = num.place_in b b_in in
            let below = join.leaving.least (place a) (place b) pa pb a_over b_out in
            let other : v (place a) (place b) ≡ w a b = same (place a) (place b) pa pb ∙ (ap (λ (x : ℕ). w x (node (place b))) (num.there a a_in) ∙ ap (w a) (num.there b b_in)) in
            subst (λ (z : ℤ). z ≤ℤ w a b) (same pair.0 pair.1 from_in to_in) (subst (λ (z : ℤ). v pair.0 pair.1 ≤ℤ z) other below);
      };
    } in (
      least,
      subst (λ (es : List (ℕ × ℕ)). AreLeastJoins Node w es (map (on_both node) pairs)) (map-append (on_both node) earlier (pair ∷ []))
          (joins_renamed n Node node place w v (earlier ++ pair ∷ []) pairs num same (All-push (λ p. (p.0 < n) × (p.1 < n)) earlier pair before ends.0) ends.1 joins.1),
    )

pub joins_rename : (n last : ℕ) (node place : ℕ → ℕ) (w v : ℕ → ℕ → ℤ) (pairs : List (ℕ × ℕ))
    → IsNumbering n (IsInner last) node place → ((i j : ℕ) → i < n → j < n → v i j ≡ w (node i) (node j))
    → All (λ pair. (pair.0 < n) × (pair.1 < n)) pairs → AreLeastJoins (IsBelow n) v [] pairs → AreLeastJoins (IsInner last) w [] (map (on_both node) pairs)
joins_rename n last node place w v pairs num same ends joins =
    joins_renamed n (IsInner last) node place w v [] pairs num same (All-nil (λ pair. (pair.0 < n) × (pair.1 < n)))
    (recursion_from_All (λ pair. (pair.0 < n) × (pair.1 < n)) pairs ends) joins

-- ---- a least tree over the places of an order is one over its nodes

pub map_more : (f : ℕ × ℕ → ℕ × ℕ) (xs : List (ℕ × ℕ)) (i : ℕ) (d : ℕ × ℕ) → i < length xs → map f (take (i + 1) xs) ≡ map f (take i xs) ++ f (get_or xs i d) ∷ []
map_more f xs i d low = ap (map f) (take_more xs i d low) ∙ map-append f (take i xs) (get_or xs i d ∷ [])

-- ---- the weight of a pair, less its multiplier

-- the pairs over places, renamed to nodes, are a forest over all nodes with its weight
pub whole_size : (n : ℕ) (w : ℕ → ℕ → ℤ) (pairs : List (ℕ × ℕ)) (sum : ℤ) → n ≤ most_nodes → 2 + length pairs ≡ n → IsSumSized (length pairs) sum
    → IsFromTo (neg_ℤ (pos (most_nodes * 2 ^ 63))) (pos (most_nodes * 2 ^ 63)) sum
whole_size n w pairs sum most count size = (omega (arith, ints, size.0, most, count), omega (arith, ints, size.1, most, count))

pub forest_of : (order places : List ℕ) (last : ℕ) (w : ℕ → ℕ → ℤ) (pairs named : List (ℕ × ℕ)) (sum : ℤ) → length order + 1 ≡ last
    → IsNumbering (length order) (IsInner last) (node_of order) (λ x. slice_index_or places x 0)
    → IsSpanning (length order) (λ i j. w (node_of order i) (node_of order j)) pairs
    → last ≤ most_nodes → named ≡ map (on_both (node_of order)) pairs → sum ≡ weight_of w named → IsSumSized (length named) sum → IsWeighedForest last w named sum
forest_of order places last w pairs named sum count num spanning most named_is sum_is size =
    let pairs_count : length named ≡ length pairs = ap length named_is ∙ length-map pairs (on_both (node_of order)) in
    record {
      whole = subst (IsWholeForest last w) (sym named_is) (record {
        joins = joins_rename (length order) last (node_of order) (λ x. slice_index_or places x 0) w (λ i j. w (node_of order i) (node_of order j)) pairs num (λ i j i_in j_in. refl)
            spanning.ends spanning.joins;
        count = omega (arith, length-map pairs (on_both (node_of order)), spanning.count, count);
      });
      weight = sum_is;
      size = whole_size last w named sum most (omega (arith, pairs_count, spanning.count, count)) size;
    }

-- an equal order and equal weights have the same pairs
pub spanning_seen : {E : Type 0} (order seen : List ℕ) (w shown : ℕ → ℕ → ℤ) (result : Result (Option (Vec (ℕ × ℕ))) E) → seen ≡ order → shown ≡ w
    → IfOk result (λ found. IfSome found (λ pairs. IsSpanning (length seen) (λ i j. shown (node_of seen i) (node_of seen j)) pairs.items))
    → IfOk result (λ found. IfSome found (λ pairs. IsSpanning (length order) (λ i j. w (node_of order i) (node_of order j)) pairs.items))
spanning_seen order seen w shown result same_order same_weights g =
    subst (λ (os : List ℕ). IfOk result (λ found. IfSome found (λ pairs. IsSpanning (length os) (λ i j. w (node_of os i) (node_of os j)) pairs.items))) same_order
    (subst (λ (k : ℕ → ℕ → ℤ). IfOk result (λ found. IfSome found (λ pairs. IsSpanning (length seen) (λ i j. k (node_of seen i) (node_of seen j)) pairs.items))) same_weights g)

-- ---- in the form of the goals of rounds.rt

pub if_ok_more : {X Y : Type 0} (r : Result X Y) (P Q : X → Type 0) → ((x : X) → P x → Q x) → IfOk r P → IfOk r Q
if_ok_more (Ok x) P Q more p = more x p
if_ok_more (Err e) P Q more p = tt

-- ---- in a round each component is joined by its least link

-- both ends of a pair have one label, or two labels that this round has met, which have the same new label
abbrev pub IsWithin : (ℕ → ℕ) → (ℕ → ℕ) → (ℕ → Bool) → ℕ × ℕ → Type 0
IsWithin label new met pair = (label pair.0 ≡ label pair.1)
    ⊎ ((met (label pair.0) ≡ true) × (met (label pair.1) ≡ true) × (new (label pair.0) ≡ new (label pair.1)))

-- the pairs of the forest within a round, with those added so far
pub record IsJoining (n : ℕ) (w : ℕ → ℕ → ℤ) (label new : ℕ → ℕ) (met : ℕ → Bool) (added : List (ℕ × ℕ)) : Type 0 where
  pub joins : AreLeastJoins (IsBelow n) w [] added
  pub ends : All (λ pair. (pair.0 < n) × (pair.1 < n)) added
  pub within : All (IsWithin label new met) added

pub joining_start : (n : ℕ) (w : ℕ → ℕ → ℤ) (label new : ℕ → ℕ) (met : ℕ → Bool) (added : List (ℕ × ℕ)) → IsForest n w label added → IsJoining n w label new met added
joining_start n w label new met added forest = record {
  joins = forest.joins;
  ends = forest.ends;
  within = All-weaker (λ pair. label pair.0 ≡ label pair.1) (IsWithin label new met) (λ pair same. inl same) added forest.within;
}

-- a pair with both ends in a part, or neither, doesn't cross it
one_side : (x y : Bool) → x ≡ y → cond x (not y) y ≡ false
one_side true true same = refl
one_side true false same = absurd (false≢true (sym same))
one_side false true same = absurd (false≢true same)
one_side false false same = refl

-- no pair so far crosses a component that this round hasn't met
not_left : (label new : ℕ → ℕ) (met : ℕ → Bool) (c : ℕ) (pair : ℕ × ℕ) → met c ≡ false → IsWithin label new met pair
    → crosses (λ x. label x == c) pair ≡ false
not_left label new met c pair free within = one_side (label pair.0 == c) (label pair.1 == c) (elim within [
  | inl same ↦ ap (λ (l : ℕ). l == c) same
  | inr both ↦
      let apart : (l : ℕ) → met l ≡ true → (l == c) ≡ false = λ l h. ne_eqb l c (λ e. false≢true (sym free ∙ (ap met (sym e) ∙ h))) in
      apart (label pair.0) both.0 ∙ sym (apart (label pair.1) both.1)
])

-- one pair more: the least link of a component that this round hasn't met
-- plan: the new pair's cut is the component c, across which it is least, and which no earlier pair crosses (`not_left`)
pub joining_more : (n : ℕ) (w : ℕ → ℕ → ℤ) (label old new : ℕ → ℕ) (before met : ℕ → Bool) (added : List (ℕ × ℕ)) (c : ℕ) (link : Link)
    → IsJoining n w label old before added → IsLeastOf n w label c link → before c ≡ false
    → ((l : ℕ) → before l ≡ true → met l ≡ true) → met c ≡ true → met (label link.to) ≡ true
    → ((l : ℕ) → l ≢ c → new l ≡ old l) → new c ≡ old (label link.to)
    → IsJoining n w label new met (added ++ (link.from, link.to) ∷ [])
joining_more n w label old new before met added c link h least free kept met_c met_to other taken =
    let pair : ℕ × ℕ = (link.from, link.to) in
    let l = least.leaving in
    record {
      joins = joins_more (IsBelow n) w [] added pair h.joins (record {
        part = λ x. label x == c;
        uncrossed = All-weaker (IsWithin label old before) (λ p. crosses (λ x. label x == c) p ≡ false) (λ p within. not_left label old before c p free within) added h.within;
        from = l.from_in;
        leaving = record {
          from = eq-eqb (label link.from) c l.from_is;
          to = ne_eqb (label link.to) c l.to_out;
          node = l.to_in;
          least = λ a b a_in b_in a_part b_out. subst (λ (z : ℤ). z ≤ℤ w a b) l.weight_is
              (least.least a b a_in b_in (eqb-true (label a) c a_part) (λ same. false≢true (sym b_out ∙ eq-eqb (label b) c same)));
        };
      });
      ends = All-push (λ p. (p.0 < n) × (p.1 < n)) added pair h.ends (l.from_in, l.to_in);
      within = All-push (IsWithin label new met) added pair
          (All-weaker (IsWithin label old before) (IsWithin label new met) (λ p within. elim within [
            | inl same ↦ inl same
            | inr both ↦
                let apart : (k : ℕ) → before k ≡ true → new k ≡ old k = λ k m. other k (λ e. false≢true (sym free ∙ (ap before (sym e) ∙ m))) in
                inr (kept (label p.0) both.0, kept (label p.1) both.1, apart (label p.0) both.0 ∙ (both.2 ∙ sym (apart (label p.1) both.1)))
          ]) added h.within)
          (inr (ap met l.from_is ∙ met_c, met_to, ap new l.from_is ∙ (taken ∙ sym (other (label link.to) l.to_out))));
    }

-- ---- in the form of the goals of `join`

pub set_kept : (marks : List Bool) (i x : ℕ) → get_or marks x false ≡ true → get_or (set marks i true) x false ≡ true
set_kept [] i x h = absurd (false≢true h)
set_kept (b ∷ bs) zero zero h = refl
set_kept (b ∷ bs) zero (suc x) h = h
set_kept (b ∷ bs) (suc i) zero h = h
set_kept (b ∷ bs) (suc i) (suc x) h = set_kept bs i x h

-- ---- the least link that is known of each node

-- ---- the link of one node

kept_found : (n : ℕ) (w : ℕ → ℕ → ℤ) (label : ℕ → ℕ) (x : ℕ) (link : Link) → IsNearest n w (is_in_other_component label (label x)) x link → IsKeptLink n w label x link
kept_found n w label x link h = record {
  from_is = h.from_is;
  to_in = h.to_in;
  weight_is = h.weight_is;
  least = λ y y_in out. h.least y y_in (ap not (ne_eqb (label y) (label x) out));
}

pub kept_of_nearest : (n : ℕ) (w : ℕ → ℕ → ℤ) (label : ℕ → ℕ) (x : ℕ) (found : Option Link) → IfSome found (IsNearest n w (is_in_other_component label (label x)) x)
    → IfSome found (IsKeptLink n w label x)
kept_of_nearest n w label x None h = tt
kept_of_nearest n w label x (Some link) h = kept_found n w label x link h

pub leaving_kept : (n : ℕ) (w : ℕ → ℕ → ℤ) (label : ℕ → ℕ) (x : ℕ) (link : Link) → x < n → IsKeptLink n w label x link → label link.to ≢ label x
    → IsLeaving n w label (label x) link
leaving_kept n w label x link x_in h out = record {
  from_in = subst (λ (k : ℕ). k < n) (sym h.from_is) x_in;
  from_is = ap label h.from_is;
  to_in = h.to_in;
  to_out = out;
  weight_is = subst (λ (k : ℕ). link.weight ≡ w k link.to) (sym h.from_is) h.weight_is;
}

pub kept_set : (n : ℕ) (w : ℕ → ℕ → ℤ) (label : ℕ → ℕ) (known : List Link) (x : ℕ) (link : Link) → x < n → AreKept n w label known → IsKeptLink n w label x link
    → AreKept n w label (set known x link)
kept_set n w label known x link x_in h own = record {
  len = length-set known x link ∙ h.len;
  each = λ y d y_in. elim (cases_eq y x) [
    | inl same ↦ subst (λ (k : ℕ). IsKeptLink n w label k (get_or (set known x link) k d)) (sym same)
        (subst (IsKeptLink n w label x) (sym (get_or-set_same known x link d (subst (λ (k : ℕ). x < k) (sym h.len) x_in))) own)
    | inr other ↦ subst (IsKeptLink n w label y) (sym (get_or-set_other known x y link d other)) (h.each y d y_in)
  ];
}

-- ---- the best link of one component

-- the place that the best link leads to, or the node's own if there is none, is below n
pub end_in : (n : ℕ) (w : ℕ → ℕ → ℤ) (label : ℕ → ℕ) (c node near : ℕ) (best : Option Link) → node < n → IfSome best (IsLeaving n w label c)
    → MatchOption best (near ≡ node) (λ link. near ≡ link.to) → near < n
end_in n w label c node near None node_in leaving is = subst (λ (k : ℕ). k < n) (sym is) node_in
end_in n w label c node near (Some link) node_in leaving is = subst (λ (k : ℕ). k < n) (sym is) leaving.to_in

pub leaving_offered : (n : ℕ) (w : ℕ → ℕ → ℤ) (label : ℕ → ℕ) (best : List (Option Link)) (c : ℕ) (link new : Link) → c < n → AreLeaving n w label best
    → IsLeaving n w label c link → IsOffered (link_of best c) link new → AreLeaving n w label (set best c (Some new))
leaving_offered n w label best c link new c_in h own offered =
    let here : IsLeaving n w label c new = elim offered.one [
      | inl same ↦ subst (IsLeaving n w label c) (sym same) own
      | inr was ↦ subst (λ (o : Option Link). IfSome o (IsLeaving n w label c)) was (h.each c c_in)
    ] in
    record {
      len = length-set best c (Some new) ∙ h.len;
      each = λ x x_in. elim (cases_eq x c) [
        | inl same ↦ subst (λ (k : ℕ). IfSome (link_of (set best c (Some new)) k) (IsLeaving n w label k)) (sym same)
            (subst (λ (o : Option Link). IfSome o (IsLeaving n w label c)) (sym (get_or-set_same best c (Some new) None (subst (λ (k : ℕ). c < k) (sym h.len) c_in))) here)
        | inr other ↦ subst (λ (o : Option Link). IfSome o (IsLeaving n w label x)) (sym (get_or-set_other best c x (Some new) None other)) (h.each x x_in)
      ];
    }

-- there is a best link, and it weighs at most this
abbrev pub IsReached : Option Link → ℤ → Type 0
IsReached best weight = MatchOption best ⊥ (λ link. link.weight ≤ℤ weight)

abbrev pub AreReached : (ℕ → ℕ) → List (Option Link) → List Link → ℕ → Type 0
AreReached label best known count = (x : ℕ) (d : Link) → x < count → IsReached (link_of best (label x)) (get_or known x d).weight

pub lower_reached : (best : Option Link) (link new : Link) (weight : ℤ) → IsOffered best link new → IsReached best weight → new.weight ≤ℤ weight
lower_reached None link new weight offered reached = absurd reached
lower_reached (Some was) link new weight offered reached = let k = offered.kept in omega (arith, ints, k, reached)

-- one node more, whose known link weighs no less than the best one of its component
pub reached_more : (label : ℕ → ℕ) (best : List (Option Link)) (known : List Link) (node : ℕ) → AreReached label best known node
    → ((d : Link) → IsReached (link_of best (label node)) (get_or known node d).weight) → AreReached label best known (node + 1)
reached_more label best known node h own x d x_in = elim (cases_eq x node) [
  | inl same ↦ subst (λ (k : ℕ). IsReached (link_of best (label k)) (get_or known k d).weight) (sym same) (own d)
  | inr other ↦ h x d (omega (arith, x_in, other))
]

-- one node more, whose link is searched for again and offered to its component
pub reached_again : (n : ℕ) (label : ℕ → ℕ) (best : List (Option Link)) (known : List Link) (node : ℕ) (link new : Link) → node < length known → label node < length best
    → AreReached label best known node → IsOffered (link_of best (label node)) link new
    → AreReached label (set best (label node) (Some new)) (set known node link) (node + 1)
reached_again n label best known node link new node_in label_in h offered x d x_in = elim (cases_eq x node) [
  | inl same ↦ subst (λ (k : ℕ). IsReached (link_of (set best (label node) (Some new)) (label k)) (get_or (set known node link) k d).weight) (sym same)
      (subst (λ (o : Option Link). IsReached o (get_or (set known node link) node d).weight) (sym (get_or-set_same best (label node) (Some new) None label_in))
      (subst (λ (l : Link). new.weight ≤ℤ l.weight) (sym (get_or-set_same known node link d node_in)) offered.no_worse))
  | inr other ↦
      let was = h x d (omega (arith, x_in, other)) in
      subst (λ (l : Link). IsReached (link_of (set best (label node) (Some new)) (label x)) l.weight) (sym (get_or-set_other known node x link d other))
      (elim (cases_eq (label x) (label node)) [
        | inl same ↦ subst (λ (o : Option Link). IsReached o (get_or known x d).weight)
            (sym (ap (link_of (set best (label node) (Some new))) same ∙ get_or-set_same best (label node) (Some new) None label_in))
            (lower_reached (link_of best (label node)) link new (get_or known x d).weight offered
            (subst (λ (k : ℕ). IsReached (link_of best k) (get_or known x d).weight) same was))
        | inr apart ↦ subst (λ (o : Option Link). IsReached o (get_or known x d).weight)
            (sym (get_or-set_other best (label node) (label x) (Some new) None apart)) was
      ])
]

-- one node more, with a new known link that weighs no less than the best one of its component
pub reached_set : (label : ℕ → ℕ) (best : List (Option Link)) (known : List Link) (node : ℕ) (link : Link) → node < length known → AreReached label best known node
    → IsReached (link_of best (label node)) link.weight → AreReached label best (set known node link) (node + 1)
reached_set label best known node link node_in h own x d x_in = elim (cases_eq x node) [
  | inl same ↦ subst (λ (k : ℕ). IsReached (link_of best (label k)) (get_or (set known node link) k d).weight) (sym same)
      (subst (λ (l : Link). IsReached (link_of best (label node)) l.weight) (sym (get_or-set_same known node link d node_in)) own)
  | inr other ↦ subst (λ (l : Link). IsReached (link_of best (label x)) l.weight) (sym (get_or-set_other known node x link d other)) (h x d (omega (arith, x_in, other)))
]

least_of : (n : ℕ) (w : ℕ → ℕ → ℤ) (label : ℕ → ℕ) (c : ℕ) (o : Option Link) → IfSome o (IsLeaving n w label c)
    → ((x y : ℕ) → x < n → y < n → label x ≡ c → label y ≢ c → MatchOption o ⊥ (λ link. link.weight ≤ℤ w x y))
    → IfSome o (IsLeastOf n w label c)
least_of n w label c None leaving least = tt
least_of n w label c (Some link) leaving least = record { leaving = leaving; least = least }

below_all : (o : Option Link) (a b : ℤ) → IsReached o a → a ≤ℤ b → IsReached o b
below_all None a b h k = h
below_all (Some link) a b h k = omega (arith, ints, h, k)

-- after all nodes, the best link of each component is its least
pub reached_all : (n : ℕ) (w : ℕ → ℕ → ℤ) (label : ℕ → ℕ) (best : List (Option Link)) (known : List Link) (d : Link) → AreKept n w label known → AreLeaving n w label best
    → AreReached label best known n → AreLeast n w label best
reached_all n w label best known d kept leaving h = record {
  len = leaving.len;
  each = λ c c_in. least_of n w label c (link_of best c) (leaving.each c c_in) (λ x y x_in y_in x_is y_out.
      below_all (link_of best c) (get_or known x d).weight (w x y) (subst (λ (k : ℕ). IsReached (link_of best k) (get_or known x d).weight) x_is (h x d x_in))
      ((kept.each x d x_in).least y y_in (λ e. y_out (e ∙ x_is))));
}
