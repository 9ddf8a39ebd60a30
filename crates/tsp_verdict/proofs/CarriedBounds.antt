-- For src/potentials_certificate.rt and the lemmas on trees: a certificate's bound for the costs that the code looks up
-- is its bound for the instance.
use Rattle.tsp_verdict.proofs.Prelude.{◌≡◌, ℕ, List, [], ◌∷◌, get_or, inl, inr, refl, sym, ap, ap₂, subst, subst₂, arith, Option, ints, All-contains, All, Some, ◌≤◌, length, unwrap_or, ℤ, ◌+ℤ◌, ◌-ℤ◌, ◌*ℤ◌, ◌≤ℤ◌, ◌<ℤ◌, IsSymmetric, cost, fixed_of, scale_in, multipliers_in, HoldsNodeNumbers, HoldsDuals, Fields, nodes_of, IsScale, entry, IsBoundSized, weight_between, pair_of, numbers_on, adjusted, UsesEach, IsAdjustedBoundOf, IsAdjustedBound, AdjustedBoundsBoundCycles, AreGood, IsFirstBroken, IsDualBound, DualsBoundCycles, length_of, IsCycle, AreNeighbours, Uses, is_directed, Potentials, DualInfeasible}
use Rattle.tsp_format.specs.declared.kinds.Kind.TheVariants as kinds
use Rattle.tsp_theory.specs.Tree.{weight_of, IsLeastOneTree}
use Rattle.tsp_cost.specs.states.Views.{HasCosts}
use Rattle.tsp_verdict.specs.Certificates.{AreListed, AppliesToPotentials, IsBoundByNodes, IsBoundByDuals}
use Rattle.tsp_verdict.specs.Certified.{IsBoundBy, BoundsSolutionsBy, IsBoundFitting, IsCertified}

-- the bounds of the crates below are as large at most
pub fitting : (bound : ℤ) → IsBoundSized bound → IsBoundFitting bound
fitting bound sized = (omega (arith, ints, sized.0), omega (arith, ints, sized.1))

abbrev pub Same : (ℕ → ℕ → ℤ) → (ℕ → ℕ → ℤ) → Type 0
Same v w = (i j : ℕ) → v i j ≡ w i j

pub weights_same : (v w : ℕ → ℕ → ℤ) → Same v w → (pairs : List (ℕ × ℕ)) → weight_of v pairs ≡ weight_of w pairs
weights_same v w same [] = refl
weights_same v w same (pair ∷ pairs) = ap₂ (λ a b. a +ℤ b) (same pair.0 pair.1) (weights_same v w same pairs)

pub least_same : (n : ℕ) (v w : ℕ → ℕ → ℤ) → Same v w → (pairs : List (ℕ × ℕ)) → IsLeastOneTree n v pairs
    → IsLeastOneTree n w pairs
least_same n v w same pairs found = record {
  tree = found.tree;
  least = λ others tree. subst₂ (λ a b. a ≤ℤ b) (weights_same v w same pairs) (weights_same v w same others)
      (found.least others tree);
}

pub bound_same : (n : ℕ) (a b : ℕ → ℕ → ℤ) (scale : ℤ) (potentials : List ℤ) (triples : List (ℕ × ℕ × ℤ)) (bound : ℤ) → Same a b
    → IsAdjustedBound n a scale potentials triples [] bound → IsAdjustedBound n b scale potentials triples [] bound
bound_same n a b scale potentials triples bound same found =
    let v = adjusted triples [] (weight_between scale potentials a) in
    let w = adjusted triples [] (weight_between scale potentials b) in
    let between : Same v w =
    λ i j. ap (λ c. (((scale *ℤ c) +ℤ (entry potentials i +ℤ entry potentials j)) -ℤ numbers_on triples i j) +ℤ numbers_on [] i j)
    (same i j) in
    record {
      tree = found.tree;
      least = least_same n v w between found.tree found.least;
      bound_is = subst (λ weight. IsAdjustedBoundOf scale potentials triples weight bound) (weights_same v w between found.tree)
          found.bound_is;
    }

-- a tour of a TSP uses each pair that is listed as fixed
listed_used : (nodes : List ℕ) (pairs : List (ℕ × ℕ)) (triples : List (ℕ × ℕ × ℤ)) → All (AreNeighbours nodes) pairs
    → AreListed pairs triples → UsesEach triples nodes
listed_used nodes pairs triples used listed k d lt = elim (listed k d lt) [
  | inl here ↦ All-contains (AreNeighbours nodes) pairs (pair_of (get_or triples k d)) used here
  | inr back ↦ turned (All-contains (AreNeighbours nodes) pairs ((get_or triples k d).1, (get_or triples k d).0) used back)
]
  where
    turned : AreNeighbours nodes ((get_or triples k d).1, (get_or triples k d).0)
        → AreNeighbours nodes (pair_of (get_or triples k d))
    turned (inl next) = inr next
    turned (inr next) = inl next

-- the bound that a view's costs give is that of the certificate
pub certified : (inst pot : Fields) (n : ℕ) (costs : ℕ → ℕ → ℤ) (scale : ℤ) (potentials : List ℤ) (triples : List (ℕ × ℕ × ℤ))
    (bound : ℤ)
    → AdjustedBoundsBoundCycles
    → triples ≡ multipliers_in pot → AreListed (fixed_of inst) (multipliers_in pot) → inst.kind ≡ Some kinds.Tsp
    → IsSymmetric (cost inst) → 3 ≤ nodes_of inst
    → IsScale scale → scale ≡ scale_in pot → pot.node_potentials ≡ Some potentials → length potentials ≡ nodes_of inst
    → HasCosts inst n costs → IsAdjustedBound n costs scale potentials triples [] bound × IsBoundSized bound
    → IsCertified Potentials inst pot bound
certified inst pot n costs scale potentials triples bound law triples_are listed kind even some scale_is scale_in_is
    potentials_are count keeps found =
    let same : nodes_of inst ≡ n = ap (λ o. unwrap_or o 0) keeps.count in
    let here : IsAdjustedBound (nodes_of inst) (cost inst) scale potentials triples [] bound =
    subst (λ m. IsAdjustedBound m (cost inst) scale potentials triples [] bound) (sym same)
    (bound_same n costs (cost inst) scale potentials triples bound keeps.every found.0) in
    let by_numbers : IsAdjustedBound (nodes_of inst) (cost inst) (scale_in pot) potentials (multipliers_in pot) [] bound =
    subst₂ (λ s ts. IsAdjustedBound (nodes_of inst) (cost inst) s potentials ts [] bound) scale_in_is triples_are here in
    let by_certificate : IsBoundByNodes inst pot bound =
    record { potentials = potentials; potentials_are = potentials_are; of_tree = by_numbers } in
    let cycles : (nodes : List ℕ) → IsCycle (nodes_of inst) nodes → UsesEach (multipliers_in pot) nodes
    → bound ≤ℤ length_of (cost inst) nodes = λ nodes cycle used.
    law (nodes_of inst) (cost inst) scale potentials triples [] bound nodes some even scale_is count here cycle
    (subst (λ ts. UsesEach ts nodes) (sym triples_are) used) (λ k d lt. absurd (omega arith)) in (
      subst (λ k. IsBoundBy Potentials k inst pot bound) (sym kind) by_certificate,
      subst (λ k. BoundsSolutionsBy k inst bound) (sym kind) (λ nodes tour. cycles nodes tour.cycle
          (listed_used nodes (fixed_of inst) (multipliers_in pot)
          (subst (λ k. All (Uses (is_directed k) nodes) (fixed_of inst)) kind tour.fixed_used) listed)),
      fitting bound found.1,
    )

-- ---- duals

good_same : (n : ℕ) (a b : ℕ → ℕ → ℤ) (scale : ℤ) (rows columns : List ℤ) → Same a b → AreGood n a scale rows columns
    → AreGood n b scale rows columns
good_same n a b scale rows columns same good i j row column other =
    subst (λ c. (entry rows i +ℤ entry columns j) ≤ℤ (scale *ℤ c)) (same i j) (good i j row column other)

broken_same : (n : ℕ) (a b : ℕ → ℕ → ℤ) (scale : ℤ) (rows columns : List ℤ) (i j : ℕ) → Same a b
    → IsFirstBroken n a scale rows columns i j → IsFirstBroken n b scale rows columns i j
broken_same n a b scale rows columns i j same pair = record {
  row = pair.row;
  column = pair.column;
  other = pair.other;
  broken = subst (λ c. (scale *ℤ c) <ℤ (entry rows i +ℤ entry columns j)) (same i j) pair.broken;
  first = λ k l row column other before. subst (λ c. (entry rows k +ℤ entry columns l) ≤ℤ (scale *ℤ c)) (same k l)
      (pair.first k l row column other before);
}

-- duals that are those of the certificate
pub record AreOf (pot : Fields) (scale : ℤ) (rows columns : List ℤ) : Type 0 where
  pub scale_is : scale ≡ scale_in pot
  pub rows_are : pot.row_potentials ≡ Some rows
  pub columns_are : pot.column_potentials ≡ Some columns

-- the bound that a view's costs give is that of the certificate
pub assigned : (inst pot : Fields) (n : ℕ) (costs : ℕ → ℕ → ℤ) (scale : ℤ) (rows columns : List ℤ) (bound : ℤ) → DualsBoundCycles
    → inst.kind ≡ Some kinds.Atsp → 3 ≤ nodes_of inst → IsScale scale
    → AreOf pot scale rows columns → length rows ≡ nodes_of inst → length columns ≡ nodes_of inst → HasCosts inst n costs
    → AreGood n costs scale rows columns × IsDualBound scale rows columns bound → IsBoundSized bound
    → IsCertified Potentials inst pot bound
assigned inst pot n costs scale rows columns bound law kind some scaled are as_rows as_columns keeps found small =
    let nodes : nodes_of inst ≡ n = ap (λ o. unwrap_or o 0) keeps.count in
    let good : AreGood (nodes_of inst) (cost inst) scale rows columns =
    subst (λ m. AreGood m (cost inst) scale rows columns) (sym nodes)
    (good_same n costs (cost inst) scale rows columns keeps.every found.0) in
    let by_certificate : IsBoundByDuals inst pot bound = record {
      rows = rows;
      rows_are = are.rows_are;
      columns = columns;
      columns_are = are.columns_are;
      good = subst (λ s. AreGood (nodes_of inst) (cost inst) s rows columns) are.scale_is good;
      of_duals = subst (λ s. IsDualBound s rows columns bound) are.scale_is found.1;
    } in (
      subst (λ k. IsBoundBy Potentials k inst pot bound) (sym kind) by_certificate,
      subst (λ k. BoundsSolutionsBy k inst bound) (sym kind) (λ cycle tour.
          law (nodes_of inst) (cost inst) scale rows columns bound cycle (omega (arith, some)) scaled as_rows as_columns
          good found.1 tour.cycle),
      fitting bound small,
    )

-- and so is the first pair that breaks them
pub broken_stands : (inst pot : Fields) (n : ℕ) (costs : ℕ → ℕ → ℤ) (scale : ℤ) (rows columns : List ℤ) (i j : ℕ)
    → inst.kind ≡ Some kinds.Atsp
    → AreOf pot scale rows columns → HasCosts inst n costs → IsFirstBroken n costs scale rows columns i j
    → AppliesToPotentials inst pot (DualInfeasible i j)
broken_stands inst pot n costs scale rows columns i j kind are keeps pair =
    let nodes : nodes_of inst ≡ n = ap (λ o. unwrap_or o 0) keeps.count in
    let here : IsFirstBroken (nodes_of inst) (cost inst) scale rows columns i j =
    subst (λ m. IsFirstBroken m (cost inst) scale rows columns i j) (sym nodes)
    (broken_same n costs (cost inst) scale rows columns i j keeps.every pair) in (
      kind,
      record {
        rows = rows;
        rows_are = are.rows_are;
        columns = columns;
        columns_are = are.columns_are;
        first = subst (λ s. IsFirstBroken (nodes_of inst) (cost inst) s rows columns i j) are.scale_is here;
      },
    )

-- ---- the potentials that a valid file lends are one for each node, and so are its duals

counted : {A : Type 0} (pot : Fields) (entries : List A) → pot.dimension ≡ Some (length entries) → length entries ≡ nodes_of pot
counted pot entries dimension = sym (ap (λ (o : Option ℕ). unwrap_or o 0) dimension)

-- ---- potentials of nodes

pub numbers_counted : (pot : Fields) (scale : ℤ) (numbers : List ℤ) (triples : List (ℕ × ℕ × ℤ))
    → HoldsNodeNumbers pot scale numbers triples → length numbers ≡ nodes_of pot
numbers_counted pot scale numbers triples held = counted pot numbers held.each_number.0

-- ---- duals

pub duals_are : (pot : Fields) (scale : ℤ) (rows columns : List ℤ) → HoldsDuals pot scale rows columns
    → AreOf pot scale rows columns
duals_are pot scale rows columns held = record {
  scale_is = held.scale_is;
  rows_are = held.rows_are;
  columns_are = held.columns_are;
}

pub rows_counted : (pot : Fields) (scale : ℤ) (rows columns : List ℤ) → HoldsDuals pot scale rows columns
    → length rows ≡ nodes_of pot
rows_counted pot scale rows columns held = counted pot rows held.each_row.0

pub columns_counted : (pot : Fields) (scale : ℤ) (rows columns : List ℤ) → HoldsDuals pot scale rows columns
    → length columns ≡ nodes_of pot
columns_counted pot scale rows columns held = counted pot columns held.each_column.0
