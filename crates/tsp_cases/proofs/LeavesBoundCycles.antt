-- The bound of a leaf, by a 1-tree or by rows, bounds every cycle of its case, and the least bound of all leaves every
-- cycle that keeps the given decisions. For the laws on leaves and trees in src/laws.rt. tsp_branch imports it, too.
use Rattle.tsp_cases.proofs.Prelude.{ℕ, Bool, true, false, List, [], ◌∷◌, map, ℤ, sym, subst, ◌≡◌, ◌≤ℤ◌, refl, arith, ap, ap₂, subst₂, get_or, Option, None, Some, ints, recursion_from_All, All-from_recursion, All-weaker, All, AllByRecursion, if◌then◌else◌, pos, negsuc, ◌*ℤ◌, ◌-ℤ◌, ◌+ℤ◌, IsNode, nodes_to, Laws, weight_even, least_tree_below, entries_of_links, scaled_length, one_if, adjusted_even, sum_zero, difference, adjusted_cycle, sum_int_by-le, scaled_up, pair_of, UsesEach, UsesNone, AdjustedBoundsBoundCycles, weight_between, adjusted, entry, IsScale, AreNeighbours, Uses, IsCycle, links, sum_int_by, length_of, crossing, weight_of}
use Rattle.std.proofs.Math.Path.{fun_ext}
use Rattle.tsp_format.proofs.Pairs.{all_nodes}
use Rattle.tsp_format.specs.Words.{IsSymmetric}
use Rattle.tsp_theory.proofs.Exchange.{crosses_turned}
use Rattle.tsp_cases.specs.CaseTrees.{crossings_of, least_of, combed, leaf_weight, LeafBoundsBoundCycles, UncombedBoundsAreAdjustedBounds, IsLeastFrom, HasNoLink, IsSumOfLeast, IsRowBound, SumsAreBelowCycles, RowLeafBoundsBoundCycles, AreMultiplied, IsLeafBound, NoLinkNoCycle, multiplied, AreLeafNumbers, IsFoundAt, AreCostsFor, CaseTreesBoundCycles, CaseTreesBoundTours, NoBoundNoTour, CaseTreeBoundsAreUnique}
use Rattle.tsp_cases.specs.Cases.{KeepsPair, KeepsDecision, KeepsAll, take_pairs, on_taken, on_avoided, DecidedBoundsBoundCycles, FixedBoundsBoundTours, LeafNumbers, leaves_of, cycles, BoundsKept}
use Rattle.tsp_cases.proofs.CaseLaws.{uses_or_not}
use Rattle.tsp_cases.proofs.Solutions.{least_found_bounds, one_found}
use Rattle.tsp_cases.specs.Families.{Comb, family_crossings, Family, IsFamily, CyclesCrossFamilies}
use Rattle.tsp_cases.specs.declared.decision.Decision.{Decision}

pub takes_each : (nodes : List ℕ) (number : ℤ) (decisions : List Decision) → KeepsAll false nodes decisions → UsesEach (on_taken number decisions) nodes
takes_each nodes number decisions keeps = All-from_recursion Used (on_taken number decisions) (each decisions (recursion_from_All (KeepsDecision false nodes) decisions keeps))
  where
    Used : ℕ × ℕ × ℤ → Type 0
    Used triple = AreNeighbours nodes (pair_of triple)

    one_more : (taken : Bool) (pair : ℕ × ℕ) (triples : List (ℕ × ℕ × ℤ)) → KeepsPair false nodes taken pair → AllByRecursion Used triples
        → AllByRecursion Used (if taken then ((pair.0, pair.1, number) ∷ triples) else triples)
    one_more true pair triples kept used = (kept, used)
    one_more false pair triples kept used = used

    each : (decisions : List Decision) → AllByRecursion (KeepsDecision false nodes) decisions → AllByRecursion Used (on_taken number decisions)
    each [] kept = tt
    each (d ∷ ds) kept = one_more d.taken d.pair (on_taken number ds) kept.0 (each ds kept.1)

pub takes_none : (nodes : List ℕ) (number : ℤ) (decisions : List Decision) → KeepsAll false nodes decisions → UsesNone (on_avoided number decisions) nodes
takes_none nodes number decisions keeps = All-from_recursion Unused (on_avoided number decisions) (each decisions (recursion_from_All (KeepsDecision false nodes) decisions keeps))
  where
    Unused : ℕ × ℕ × ℤ → Type 0
    Unused triple = AreNeighbours nodes (pair_of triple) → ⊥

    one_more : (taken : Bool) (pair : ℕ × ℕ) (triples : List (ℕ × ℕ × ℤ)) → KeepsPair false nodes taken pair → AllByRecursion Unused triples
        → AllByRecursion Unused (if taken then triples else ((pair.0, pair.1, number) ∷ triples))
    one_more true pair triples kept unused = unused
    one_more false pair triples kept unused = (kept, unused)

    each : (decisions : List Decision) → AllByRecursion (KeepsDecision false nodes) decisions → AllByRecursion Unused (on_avoided number decisions)
    each [] kept = tt
    each (d ∷ ds) kept = one_more d.taken d.pair (on_avoided number ds) kept.0 (each ds kept.1)

-- ---- the theorems of tsp_theory, for decisions

pub decided_bounds_bound_cycles : AdjustedBoundsBoundCycles → DecidedBoundsBoundCycles
decided_bounds_bound_cycles bounds n cost scale potentials number decisions bound nodes some even scale_in long is cycle keeps =
    bounds n cost scale potentials (on_taken number decisions) (on_avoided number decisions) bound nodes some even scale_in long is cycle
    (takes_each nodes number decisions keeps) (takes_none nodes number decisions keeps)

pub fixed_bounds_bound_tours : AdjustedBoundsBoundCycles → FixedBoundsBoundTours
fixed_bounds_bound_tours bounds problem scale potentials numbers bound some undirected even are scale_in long is nodes tour =
    let used : All (AreNeighbours nodes) (map pair_of numbers) =
    subst (λ pairs. All (AreNeighbours nodes) pairs) (sym are) (subst (λ d. All (Uses d nodes) problem.fixed) undirected tour.fixed_used) in
    bounds problem.nodes problem.cost scale potentials numbers [] bound nodes some even scale_in long is tour.cycle
    (All-from_recursion (λ triple. AreNeighbours nodes (pair_of triple)) numbers (each numbers (recursion_from_All (AreNeighbours nodes) (map pair_of numbers) used)))
    (All-from_recursion (λ triple. AreNeighbours nodes (pair_of triple) → ⊥) [] tt)
  where
    each : (triples : List (ℕ × ℕ × ℤ)) → AllByRecursion (AreNeighbours nodes) (map pair_of triples) → AllByRecursion (λ triple. AreNeighbours nodes (pair_of triple)) triples
    each [] used = tt
    each (triple ∷ triples) used = (used.0, each triples used.1)

-- a tour takes the fixed pairs
pub tours_keep_fixed : (directed : Bool) (nodes : List ℕ) (fixed : List (ℕ × ℕ)) → All (Uses directed nodes) fixed → KeepsAll directed nodes (take_pairs fixed)
tours_keep_fixed directed nodes fixed used = All-from_recursion (KeepsDecision directed nodes) (take_pairs fixed) (each fixed (recursion_from_All (Uses directed nodes) fixed used))
  where
    each : (pairs : List (ℕ × ℕ)) → AllByRecursion (Uses directed nodes) pairs → AllByRecursion (KeepsDecision directed nodes) (take_pairs pairs)
    each [] used = tt
    each (pair ∷ pairs) used = (used.0, each pairs used.1)

-- ---- the bound of a leaf by a minimum 1-tree, with weights lowered at crossings of families

-- ---- crossings are symmetric

teeth_even : (i j : ℕ) (teeth : List (ℕ → Bool)) → sum_int_by (λ tooth. crossing tooth i j) teeth ≡ sum_int_by (λ tooth. crossing tooth j i) teeth
teeth_even i j [] = refl
teeth_even i j (t ∷ ts) = ap₂ (λ a b. a +ℤ b) (ap one_if (crosses_turned t i j)) (teeth_even i j ts)

comb_even : (comb : Comb) (i j : ℕ) → family_crossings comb i j ≡ family_crossings comb j i
comb_even comb i j = ap₂ (λ a b. a +ℤ b) (ap one_if (crosses_turned comb.handle i j)) (teeth_even i j comb.teeth)

combs_even : (weighted : List (Family × ℤ)) (i j : ℕ) → crossings_of weighted i j ≡ crossings_of weighted j i
combs_even [] i j = refl
combs_even (c ∷ cs) i j = ap₂ (λ a b. a +ℤ b) (ap (λ z. c.1 *ℤ z) (comb_even c.0.sets i j)) (combs_even cs i j)

pub leaf_even : (scale : ℤ) (potentials : List ℤ) (taken avoided : List (ℕ × ℕ × ℤ)) (weighted : List (Family × ℤ)) (cost : ℕ → ℕ → ℤ) → IsSymmetric cost
    → (i j : ℕ) → leaf_weight scale potentials taken avoided weighted cost i j ≡ leaf_weight scale potentials taken avoided weighted cost j i
leaf_even scale potentials taken avoided weighted cost even i j =
    ap₂ (λ a b. a -ℤ b) (adjusted_even taken avoided (weight_between scale potentials cost) (weight_even scale potentials cost even) i j) (combs_even weighted i j)

-- ---- a cycle crosses each family as often as its number says, so it loses at least the sum given back

comb_of_cycle : (n : ℕ) (nodes : List ℕ) (family : Family) (multiplier : ℤ) → Laws → CyclesCrossFamilies → IsCycle n nodes → IsFamily n family → pos 0 ≤ℤ multiplier
    → (multiplier *ℤ pos family.numbers.least) ≤ℤ length_of (λ i j. multiplier *ℤ family_crossings family.sets i j) nodes
comb_of_cycle n nodes family (pos m) laws crossed cycle is some =
    let scaled = laws.scale m (family_crossings family.sets) nodes in
    let below = scaled_up m (pos family.numbers.least) (length_of (family_crossings family.sets) nodes) (crossed n family nodes is cycle) in
    omega (arith, ints, scaled, below)
comb_of_cycle n nodes family (negsuc m) laws crossed cycle is some = absurd (omega (arith, ints, some))

pub combs_of_cycle : (n : ℕ) (nodes : List ℕ) (weighted : List (Family × ℤ)) → Laws → CyclesCrossFamilies → IsCycle n nodes → AllByRecursion (λ c. IsFamily n c.0 × (pos 0 ≤ℤ c.1)) weighted
    → least_of weighted ≤ℤ length_of (crossings_of weighted) nodes
combs_of_cycle n nodes [] laws crossed cycle are = omega (arith, ints, sum_zero (links nodes))
combs_of_cycle n nodes (c ∷ cs) laws crossed cycle are =
    let first = comb_of_cycle n nodes c.0 c.1 laws crossed cycle are.0.0 are.0.1 in
    let split = laws.sum (λ i j. c.1 *ℤ family_crossings c.0.sets i j) (crossings_of cs) nodes in
    omega (arith, ints, first, split, combs_of_cycle n nodes cs laws crossed cycle are.1)

pub leaf_bounds_bound_cycles : Laws → CyclesCrossFamilies → LeafBoundsBoundCycles
leaf_bounds_bound_cycles laws crossed n cost scale potentials taken avoided weighted bound nodes some even scale_in long are is cycle used unused =
    let w = adjusted taken avoided (weight_between scale potentials cost) in
    let below = least_tree_below laws n (combed weighted w) is.tree nodes some (leaf_even scale potentials taken avoided weighted cost even) is.least cycle in
    let split = difference (λ (link : ℕ × ℕ). w link.0 link.1) (λ (link : ℕ × ℕ). crossings_of weighted link.0 link.1) (links nodes) in
    let own = adjusted_cycle n cost scale potentials taken avoided nodes laws some scale_in long cycle used unused in
    let less = combs_of_cycle n nodes weighted laws crossed cycle (recursion_from_All (λ c. IsFamily n c.0 × (pos 0 ≤ℤ c.1)) weighted are) in
    is.bound_is.least (length_of cost nodes) (omega (arith, ints, below, split, own, less))

-- ---- without families the bound is that of tsp_theory

uncombed_weight : (w : ℕ → ℕ → ℤ) (pairs : List (ℕ × ℕ)) → weight_of (combed [] w) pairs ≡ weight_of w pairs
uncombed_weight w [] = refl
uncombed_weight w (pair ∷ pairs) = let rest = uncombed_weight w pairs in omega (arith, ints, rest)

pub uncombed_bounds_are_adjusted_bounds : UncombedBoundsAreAdjustedBounds
uncombed_bounds_are_adjusted_bounds n cost scale potentials taken avoided bound is =
    let w = adjusted taken avoided (weight_between scale potentials cost) in
    let same = uncombed_weight w is.tree in
    record {
      tree = is.tree;
      least = record {
        tree = is.least.tree;
        least = λ others tree. subst₂ (λ a b. a ≤ℤ b) same (uncombed_weight w others) (is.least.least others tree);
      };
      bound_is = record {
        above = let own = is.bound_is.above in omega (arith, ints, own, same);
        least = λ other above. is.bound_is.least other (omega (arith, ints, above, same));
      };
    }

-- ---- the bound of a leaf by the least allowed link from each node

pub row_leaf_bounds_bound_cycles : Laws → CyclesCrossFamilies → SumsAreBelowCycles → RowLeafBoundsBoundCycles
row_leaf_bounds_bound_cycles laws crossed sums n cost scale potentials families decisions bound more scale_in long are is = λ nodes cycle keeps.
    let w = weight_between scale potentials cost in
    let below = sums n (combed families w) decisions is.sum nodes more is.least cycle keeps in
    let outer = difference (λ (link : ℕ × ℕ). w link.0 link.1) (λ (link : ℕ × ℕ). crossings_of families link.0 link.1) (links nodes) in
    let inner = laws.sum (λ i j. scale *ℤ cost i j) (λ i j. entry potentials i +ℤ entry potentials j) nodes in
    let whole = scaled_length scale cost nodes laws scale_in in
    let ends = entries_of_links n nodes potentials potentials laws long long cycle in
    let less = combs_of_cycle n nodes families laws crossed cycle (recursion_from_All (λ f. IsFamily n f.0 × (pos 0 ≤ℤ f.1)) families are) in
    is.bound_is.least (length_of cost nodes) (omega (arith, ints, below, outer, inner, whole, ends, less))

-- ---- a leaf has one bound, or none

sums_below : (n : ℕ) (f g : ℕ → ℤ) → ((i : ℕ) → IsNode n i → f i ≤ℤ g i) → sum_int_by f (nodes_to n) ≤ℤ sum_int_by g (nodes_to n)
sums_below n f g h = sum_int_by-le f g (nodes_to n) (recursion_from_All (λ i. f i ≤ℤ g i) (nodes_to n) (λ k d lt. h (get_or (nodes_to n) k d) (all_nodes n k d lt)))

least_at_most : (n : ℕ) (w : ℕ → ℕ → ℤ) (decisions : List Decision) (i : ℕ) (a b : ℤ) → IsLeastFrom n w decisions i a → IsLeastFrom n w decisions i b → a ≤ℤ b
least_at_most n w decisions i a b p q = let below = p.below q.to q.allowed in omega (arith, ints, below, q.reached)

sum_at_most : (n : ℕ) (w : ℕ → ℕ → ℤ) (decisions : List Decision) (a b : ℤ) → IsSumOfLeast n w decisions n a → IsSumOfLeast n w decisions n b → a ≤ℤ b
sum_at_most n w decisions a b p q =
    let below = sums_below n p.least q.least (λ i node. least_at_most n w decisions i (p.least i) (q.least i) (p.each i node) (q.each i node)) in
    omega (arith, ints, below, p.sum_is, q.sum_is)

bound_at_most : (n : ℕ) (w : ℕ → ℕ → ℤ) (decisions : List Decision) (scale given_back a b : ℤ) → IsRowBound n w decisions scale given_back a → IsRowBound n w decisions scale given_back b → a ≤ℤ b
bound_at_most n w decisions scale given_back a b p q =
    let below = sum_at_most n w decisions p.sum q.sum p.least q.least in
    p.bound_is.least b (let above = q.bound_is.above in omega (arith, ints, below, above))

pub one_bound : (n : ℕ) (w : ℕ → ℕ → ℤ) (decisions : List Decision) (scale given_back a b : ℤ) → IsRowBound n w decisions scale given_back a → IsRowBound n w decisions scale given_back b → a ≡ b
one_bound n w decisions scale given_back a b p q =
    let below = bound_at_most n w decisions scale given_back a b p q in
    let above = bound_at_most n w decisions scale given_back b a q p in
    omega (arith, ints, below, above)

-- a leaf that has a bound has a link from each node
pub has_no_bound : (n : ℕ) (w : ℕ → ℕ → ℤ) (decisions : List Decision) (scale given_back bound : ℤ) → HasNoLink n decisions → IsRowBound n w decisions scale given_back bound → ⊥
has_no_bound n w decisions scale given_back bound none is =
    let least = is.least.each none.from none.node in
    none.none least.to least.allowed

-- ---- equal weights have equal bounds

pub agreed_rows : (n : ℕ) (w v : ℕ → ℕ → ℤ) (decisions : List Decision) (scale given_back bound : ℤ) → ((i j : ℕ) → w i j ≡ v i j) → IsRowBound n w decisions scale given_back bound
    → IsRowBound n v decisions scale given_back bound
agreed_rows n w v decisions scale given_back bound agree is =
    let same : w ≡ v = fun_ext (λ i. fun_ext (agree i)) in
    subst (λ (f : ℕ → ℕ → ℤ). IsRowBound n f decisions scale given_back bound) same is

-- ---- the least bound of all leaves bounds each cycle that keeps the given decisions

families_with : (n : ℕ) (families : List Family) (multipliers : List ℤ) → AllByRecursion (IsFamily n) families → AllByRecursion (λ multiplier. pos 0 ≤ℤ multiplier) multipliers
    → AllByRecursion (λ f. IsFamily n f.0 × (pos 0 ≤ℤ f.1)) (multiplied families multipliers)
families_with n [] multipliers are signs = tt
families_with n (family ∷ families) [] are signs = tt
families_with n (family ∷ families) (multiplier ∷ multipliers) are signs = ((are.0, signs.0), families_with n families multipliers are.1 signs.1)

are_multiplied : (n : ℕ) (families : List Family) (multipliers : List ℤ) → All (IsFamily n) families → All (λ multiplier. pos 0 ≤ℤ multiplier) multipliers
    → AreMultiplied n (multiplied families multipliers)
are_multiplied n families multipliers are signs = All-from_recursion (λ f. IsFamily n f.0 × (pos 0 ≤ℤ f.1)) (multiplied families multipliers)
    (families_with n families multipliers (recursion_from_All (IsFamily n) families are) (recursion_from_All (λ multiplier. pos 0 ≤ℤ multiplier) multipliers signs))

-- the laws on the bound of one leaf
pub record LeafLaws : Type 0 where
  pub trees : LeafBoundsBoundCycles
  pub rows : RowLeafBoundsBoundCycles
  pub no_link : NoLinkNoCycle

-- a leaf's bound is one of its case, and a leaf without a bound has no cycle
leaf_bounds_case : (directed : Bool) (n : ℕ) (cost : ℕ → ℕ → ℤ) (scale number : ℤ) (families : List Family) (leaf : List Decision × LeafNumbers) (own : Option ℤ) → LeafLaws → AreCostsFor directed n cost
    → IsScale scale
    → All (IsFamily n) families → AreLeafNumbers n leaf.1 → IsFoundAt directed n cost scale number families leaf own → BoundsKept (cycles directed n cost) leaf.0 own
leaf_bounds_case false n cost scale number families leaf (Some own) laws costs_are scale_in are numbers is = λ nodes cycle keeps.
    laws.trees n cost scale leaf.1.potentials (on_taken number leaf.0) (on_avoided number leaf.0) (multiplied families leaf.1.multipliers) own nodes costs_are.0 costs_are.1 scale_in numbers.each_node
    (are_multiplied n families leaf.1.multipliers are numbers.signs) is cycle (takes_each nodes number leaf.0 keeps) (takes_none nodes number leaf.0 keeps)
leaf_bounds_case false n cost scale number families leaf None laws costs_are scale_in are numbers is = absurd is
leaf_bounds_case true n cost scale number families leaf (Some own) laws costs_are scale_in are numbers is =
    laws.rows n cost scale leaf.1.potentials (multiplied families leaf.1.multipliers) leaf.0 own costs_are scale_in numbers.each_node
    (are_multiplied n families leaf.1.multipliers are numbers.signs) is
leaf_bounds_case true n cost scale number families leaf None laws costs_are scale_in are numbers is = laws.no_link n leaf.0 costs_are is

pub case_trees_bound_cycles : LeafLaws → CaseTreesBoundCycles
case_trees_bound_cycles laws directed n cost scale number families given steps found costs_are scale_in certificate is =
    least_found_bounds (List ℕ) (cycles directed n cost) (uses_or_not directed) (IsFoundAt directed n cost scale number families) given steps found certificate.whole
    (All-weaker (λ leaf. AreLeafNumbers n leaf.1)
    (λ leaf. (own : Option ℤ) → IsFoundAt directed n cost scale number families leaf own → BoundsKept (cycles directed n cost) leaf.0 own)
    (λ leaf numbers own has. leaf_bounds_case directed n cost scale number families leaf own laws costs_are scale_in certificate.families_are numbers has)
    (leaves_of (given ∷ []) steps) certificate.numbers_are)
    is

pub certificates_bound_tours : CaseTreesBoundCycles → CaseTreesBoundTours
certificates_bound_tours bounds problem scale number families steps bound costs_are scale_in certificate is nodes tour =
    bounds problem.directed problem.nodes problem.cost scale number families (take_pairs problem.fixed) steps (Some bound) costs_are scale_in certificate is nodes tour.cycle
    (tours_keep_fixed problem.directed nodes problem.fixed tour.fixed_used)

pub no_bound_no_tour : CaseTreesBoundCycles → NoBoundNoTour
no_bound_no_tour bounds problem scale number families steps costs_are scale_in certificate is nodes tour =
    bounds problem.directed problem.nodes problem.cost scale number families (take_pairs problem.fixed) steps None costs_are scale_in certificate is nodes tour.cycle
    (tours_keep_fixed problem.directed nodes problem.fixed tour.fixed_used)

-- ---- a certificate has one bound, or none

-- two minimum 1-trees weigh the same
one_leaf_bound : (n : ℕ) (cost : ℕ → ℕ → ℤ) (scale : ℤ) (potentials : List ℤ) (taken avoided : List (ℕ × ℕ × ℤ)) (families : List (Family × ℤ)) (a b : ℤ)
    → IsLeafBound n cost scale potentials taken avoided families a → IsLeafBound n cost scale potentials taken avoided families b → a ≡ b
one_leaf_bound n cost scale potentials taken avoided families a b one other =
    let below = one.least.least other.tree other.least.tree in
    let above = other.least.least one.tree one.least.tree in
    let first = one.bound_is.least b (let own = other.bound_is.above in omega (arith, ints, own, below)) in
    let second = other.bound_is.least a (let own = one.bound_is.above in omega (arith, ints, own, above)) in
    omega (arith, ints, first, second)

pub case_tree_bounds_are_unique : CaseTreeBoundsAreUnique
case_tree_bounds_are_unique directed n cost scale number families given steps =
    one_found (IsFoundAt directed n cost scale number families) (one directed) (leaves_of (given ∷ []) steps)
  where
    one : (d : Bool) (leaf : List Decision × LeafNumbers) (x y : Option ℤ) → IsFoundAt d n cost scale number families leaf x
        → IsFoundAt d n cost scale number families leaf y → x ≡ y
    one false leaf (Some a) (Some b) p q =
        ap (λ (z : ℤ). Some z) (one_leaf_bound n cost scale leaf.1.potentials (on_taken number leaf.0) (on_avoided number leaf.0) (multiplied families leaf.1.multipliers) a b p q)
    one false leaf (Some a) None p q = absurd q
    one false leaf None y p q = absurd p
    one true leaf (Some a) (Some b) p q = ap (λ (z : ℤ). Some z) (one_bound n _ leaf.0 scale _ a b p q)
    one true leaf (Some a) None p none = absurd (has_no_bound n _ leaf.0 scale _ a none p)
    one true leaf None (Some b) none q = absurd (has_no_bound n _ leaf.0 scale _ b none q)
    one true leaf None None p q = refl
