-- The nearest node of another component if multipliers lower the weights to some nodes: these are looked at one by one
-- (`Placed` in src/search.rt).
use Rattle.tsp_bound.proofs.Prelude.{◌≡◌, ◌≢◌, ℕ, zero, suc, ◌+◌, ◌<◌, Bool, true, List, [], ◌∷◌, length, ℤ, ◌≤ℤ◌, ◌⊎◌, inl, inr, arith, ap, sym, subst, ◌∙◌, w64, slice_index_or, FitsSigned, cases_eq, ints, IsInner}
use Rattle.tsp_bound.specs.declared.search.Best.{Best}
use Rattle.tsp_bound.specs.states.Boxes.{node_of, IsFound, IsBest, IsSearched, no_best}
use Rattle.tsp_bound.specs.states.ByNode.{node_in}
use Rattle.tsp_bound.proofs.Searches.{searched_all}

-- the place that the search of all boxes finds is the best
pub searched_best : (w : ℕ → ℕ → ℤ) (order : List ℕ) (outside : ℕ → Bool) (from : ℕ) (best : Best) → IsSearched w order outside from 1 no_best best → IsBest w order outside from best
searched_best w order outside from best all = record {
  least = searched_all w order outside from no_best best all;
  found = all.found;
}

-- each of the nodes 2 to n has a place in the order, and the place has the node
pub record ArePlaces (n : ℕ) (order places : List ℕ) : Type 0 where
  pub inner : (j : ℕ) → j < length order → IsInner n (node_of order j)
  pub placed : (x : ℕ) → IsInner n x → slice_index_or places x 0 < length order
  pub back : (j : ℕ) → j < length order → slice_index_or places (node_of order j) 0 ≡ j
  pub there : (x : ℕ) → IsInner n x → node_of order (slice_index_or places x 0) ≡ x

-- the weights v are w, but lower perhaps to the nodes that are listed
pub record AreLowered (n : ℕ) (w v : ℕ → ℕ → ℤ) (listed : List ℕ) (from : ℕ) : Type 0 where
  pub no_more : (x : ℕ) → IsInner n x → v from x ≤ℤ w from x
  pub others : (x : ℕ) → IsInner n x → ((k : ℕ) → k < length listed → node_in listed k ≢ x) → v from x ≡ w from x

-- the best after the first nodes of the list, as many as `count`
pub record IsLowest (n : ℕ) (v : ℕ → ℕ → ℤ) (listed order places : List ℕ) (outside : ℕ → Bool) (from count : ℕ) (old best : Best) : Type 0 where
  pub fits : FitsSigned w64 best.weight
  pub kept : best.weight ≤ℤ old.weight
  pub seen : (k : ℕ) → k < count → IsInner n (node_in listed k) → outside (slice_index_or places (node_in listed k) 0) ≡ true
      → best.weight ≤ℤ v from (node_in listed k)
  pub found : (best ≡ old) ⊎ IsFound v order outside from best

-- one listed node more, whose weight is no lower than the best
pub lowest_kept : (n : ℕ) (v : ℕ → ℕ → ℤ) (listed order places : List ℕ) (outside : ℕ → Bool) (from count : ℕ) (old best : Best) (node : ℕ) → node_in listed count ≡ node
    → (IsInner n node → outside (slice_index_or places node 0) ≡ true → best.weight ≤ℤ v from node)
    → IsLowest n v listed order places outside from count old best → IsLowest n v listed order places outside from (count + 1) old best
lowest_kept n v listed order places outside from count old best node is own h = record {
  fits = h.fits;
  kept = h.kept;
  seen = λ k low inner out. elim (cases_eq k count) [
    | inl here ↦
        let same : node_in listed k ≡ node = ap (node_in listed) here ∙ is in
        subst (λ (x : ℕ). best.weight ≤ℤ v from x) (sym same)
        (own (subst (IsInner n) same inner) (ap (λ (x : ℕ). outside (slice_index_or places x 0)) (sym same) ∙ out))
    | inr apart ↦ h.seen k (omega (arith, low, apart)) inner out
  ];
  found = h.found;
}

-- one listed node more, whose weight is lower and is the new best
pub lowest_taken : (n : ℕ) (v : ℕ → ℕ → ℤ) (listed order places : List ℕ) (outside : ℕ → Bool) (from count : ℕ) (old best new : Best) (node : ℕ)
    → ArePlaces n order places → node_in listed count ≡ node
    → IsInner n node → new.place ≡ slice_index_or places node 0 → outside new.place ≡ true → new.weight ≡ v from node → FitsSigned w64 new.weight → new.weight ≤ℤ best.weight
    → IsLowest n v listed order places outside from count old best → IsLowest n v listed order places outside from (count + 1) old new
lowest_taken n v listed order places outside from count old best new node are is inner place out weight fits better h =
    let before : IsLowest n v listed order places outside from count old new = record {
      fits = fits;
      kept = let k = h.kept in omega (arith, ints, k, better);
      seen = λ k low in_x out_x. let s = h.seen k low in_x out_x in omega (arith, ints, s, better);
      found =
          let there : node_of order new.place ≡ node = ap (node_of order) place ∙ are.there node inner in
          inr (record {
            node_in = subst (λ (k : ℕ). k < length order) (sym place) (are.placed node inner);
            out = out;
            weight_is = weight ∙ ap (v from) (sym there);
          });
    } in
    lowest_kept n v listed order places outside from count old new node is (λ in_node out_node. omega (arith, ints, weight)) before

-- ---- after all listed nodes

is_listed : (listed : List ℕ) (x : ℕ) → ((k : ℕ) → k < length listed → node_in listed k ≢ x) ⊎ ((k : ℕ) × (k < length listed) × (node_in listed k ≡ x))
is_listed [] x = inl (λ k low. absurd (omega (arith, low)))
is_listed (y ∷ ys) x = elim (cases_eq y x) [
  | inl same ↦ inr (zero, omega arith, same)
  | inr other ↦ elim (is_listed ys x) [
    | inl none ↦ inl (apart other none)
    | inr found ↦ inr (suc found.0, omega (arith, found.1), found.2)
  ]
]
  where
    apart : y ≢ x → ((k : ℕ) → k < length ys → node_in ys k ≢ x) → (k : ℕ) → k < length (y ∷ ys) → node_in (y ∷ ys) k ≢ x
    apart other none zero low = other
    apart other none (suc k) low = none k (omega (arith, low))

lowest_least : (n : ℕ) (w v : ℕ → ℕ → ℤ) (listed order places : List ℕ) (outside : ℕ → Bool) (from : ℕ) (old best : Best)
    → ArePlaces n order places → AreLowered n w v listed from → IsBest w order outside from old
    → IsLowest n v listed order places outside from (length listed) old best → (j : ℕ) → j < length order → outside j ≡ true → best.weight ≤ℤ v from (node_of order j)
lowest_least n w v listed order places outside from old best are lower first h j j_in out =
    let x : ℕ = node_of order j in
    elim (is_listed listed x) [
      | inl none ↦
          let own : v from x ≡ w from x = lower.others x (are.inner j j_in) none in
          let below : old.weight ≤ℤ w from x = first.least j j_in out in
          let kept = h.kept in
          omega (arith, ints, below, own, kept)
      | inr found ↦ subst (λ (y : ℕ). best.weight ≤ℤ v from y) found.2 (h.seen found.0 found.1 (subst (IsInner n) (sym found.2) (are.inner j j_in))
          (ap (λ (y : ℕ). outside (slice_index_or places y 0)) found.2 ∙ (ap outside (are.back j j_in) ∙ out)))
    ]

-- plan: a listed node was offered, and the others weigh as before, so it is least (`lowest_least`); an old best that is
-- still best isn't lowered, since lowered weights aren't greater
pub lowest_end : (n : ℕ) (w v : ℕ → ℕ → ℤ) (listed order places : List ℕ) (outside : ℕ → Bool) (from count : ℕ) (old best : Best) → count ≡ length listed
    → ArePlaces n order places → AreLowered n w v listed from → IsBest w order outside from old
    → IsLowest n v listed order places outside from count old best → IsBest v order outside from best
lowest_end n w v listed order places outside from count old best all are lower first h =
    let whole : IsLowest n v listed order places outside from (length listed) old best = subst (λ (k : ℕ). IsLowest n v listed order places outside from k old best) all h in
    let least = lowest_least n w v listed order places outside from old best are lower first whole in
    record {
      least = least;
      found = elim h.found [
        | inl same ↦ elim first.found [
          | inl none ↦ inl (same ∙ none)
          | inr found ↦
              let kept : IsFound w order outside from best = subst (λ (b : Best). IsFound w order outside from b) (sym same) found in
              let x : ℕ = node_of order best.place in
              let low : v from x ≤ℤ w from x = lower.no_more x (are.inner best.place kept.node_in) in
              let below : best.weight ≤ℤ v from x = least best.place kept.node_in kept.out in
              let is : best.weight ≡ w from x = kept.weight_is in
              inr (record {
                node_in = kept.node_in;
                out = kept.out;
                weight_is = omega (arith, ints, low, below, is);
              })
        ]
        | inr found ↦ inr found
      ];
    }
