-- How often a cycle crosses a comb or another family (docs/proof.md, "Combs"), and how large crossings times
-- multipliers are. For the laws on families in src/laws.rt. tsp_branch and tsp_routing import it, too.
use Rattle.tsp_cases.proofs.Prelude.{◌≡◌, ℕ, zero, suc, ◌*◌, ◌≤◌, ◌&&◌, Bool, true, false, not, cond, List, [], ◌∷◌, length, ℤ, ◌+ℤ◌, ◌≤ℤ◌, inl, inr, refl, arith, ap, ◌+◌, ap₂, sym, ◌∙◌, subst, get_or, map, FitsSigned, ◌<◌, ◌^◌, drop, to_z, of_z, drop-cons, add-one, cases_Bool, both_ways, and_right, and_from, and_parts, false_from_ne_true, ints, fits_signed_from_abs, to_z-of_z, recursion_from_All, w64, w128, AllPairs, AllByRecursion, All, pos, negsuc, ◌*ℤ◌, neg_ℤ, ◌-ℤ◌, IsNode, IsFromTo, Laws, has_node, sum_zero, one_if, none_or_one, evenly, twice, sum_below, size_of, scaled_up, scaled_sum, total, most_between, IsCycle, links, sum_int_by, length_of, crosses, crossing}
use Rattle.std.proofs.Math.IntN.{pred_ℤ-*ℤ, *ℤ-zero}
use Rattle.tsp_cases.specs.CaseTrees.{crossings_of, multiplied}
use Rattle.tsp_cases.specs.Crossings.{LeastLengthsAreUnique, MostCostsAreUnique, has}
use Rattle.tsp_cases.specs.Families.{IsTooth, AreApart, CyclesCrossCombs, Comb, family_crossings, IsLoneOrComb, IsFamily, least_crossings_of, CyclesCrossFamilies, NumbersAreUnique, comb_with, Family, family_with, families_with, sum_with, most_or_least}
use Rattle.tsp_cases.specs.ListedCases.{most_crossed}
use Rattle.tsp_cases.specs.declared.family.Crossings.{Crossings}
use Rattle.tsp_cases.specs.states.GoodFamilies.{IsSmall}
use Rattle.tsp_cases.specs.states.Sets.{summed_from, SetsTellCombs, SetsGiveLeaves, most_combed}

-- 1 if both nodes of a pair are in the tooth, and the pair crosses the handle, else 0
abbrev within : (ℕ → Bool) → (ℕ → Bool) → ℕ → ℕ → ℤ
within handle tooth i j = one_if ((tooth i && tooth j) && crosses handle (i, j))

-- ---- one tooth

abbrev inner : (ℕ → Bool) → (ℕ → Bool) → ℕ → Bool
inner handle tooth x = tooth x && handle x

abbrev outer : (ℕ → Bool) → (ℕ → Bool) → ℕ → Bool
outer handle tooth x = tooth x && not (handle x)

abbrev crossing_if : Bool → Bool → ℤ
crossing_if x y = one_if (cond x (not y) y)

of_link : (t u h k : Bool)
    → (crossing_if (t && h) (u && k) +ℤ crossing_if (t && not h) (u && not k)) ≤ℤ (crossing_if t u +ℤ (one_if ((t && u) && cond h (not k) k) +ℤ one_if ((t && u) && cond h (not k) k)))
of_link false false h k = omega (arith, ints)
of_link false true h true = omega (arith, ints)
of_link false true h false = omega (arith, ints)
of_link true false true k = omega (arith, ints)
of_link true false false k = omega (arith, ints)
of_link true true true true = omega (arith, ints)
of_link true true true false = omega (arith, ints)
of_link true true false true = omega (arith, ints)
of_link true true false false = omega (arith, ints)

-- a node of 1..n that is off the tooth
abbrev Leaves : ℕ → (ℕ → Bool) → Type 0
Leaves n tooth = (x : ℕ) × IsNode n x × (tooth x ≡ false)

of_tooth : (n : ℕ) (nodes : List ℕ) (handle tooth : ℕ → Bool) → Laws → IsCycle n nodes → IsTooth n handle tooth → Leaves n tooth
    → pos 3 ≤ℤ (length_of (crossing tooth) nodes +ℤ length_of (within handle tooth) nodes)
of_tooth n nodes handle tooth laws cycle t off =
    let in_nodes = has_node n nodes t.inside laws cycle t.inside_node in
    let out_nodes = has_node n nodes t.outside laws cycle t.outside_node in
    let in_outer : outer handle tooth t.inside ≡ false = and_right (tooth t.inside) (not (handle t.inside)) (ap not t.in_handle) in
    let out_outer : outer handle tooth t.outside ≡ true = and_from (tooth t.outside) (not (handle t.outside)) t.outside_tooth (ap not t.off_handle) in
    let one = twice (inner handle tooth) nodes t.inside t.outside in_nodes out_nodes
    (and_from (tooth t.inside) (handle t.inside) t.inside_tooth t.in_handle) (and_right (tooth t.outside) (handle t.outside) t.off_handle) in
    let two = twice (outer handle tooth) nodes t.outside t.inside out_nodes in_nodes out_outer in_outer in
    let all = twice tooth nodes t.inside off.0 in_nodes (has_node n nodes off.0 laws cycle off.1) t.inside_tooth off.2 in
    let below = sum_below (λ (link : ℕ × ℕ). crossing (inner handle tooth) link.0 link.1 +ℤ crossing (outer handle tooth) link.0 link.1)
    (λ (link : ℕ × ℕ). crossing tooth link.0 link.1 +ℤ (within handle tooth link.0 link.1 +ℤ within handle tooth link.0 link.1)) (links nodes)
    (λ link. of_link (tooth link.0) (tooth link.1) (handle link.0) (handle link.1)) in
    let left = laws.sum (crossing (inner handle tooth)) (crossing (outer handle tooth)) nodes in
    let right = laws.sum (crossing tooth) (λ i j. within handle tooth i j +ℤ within handle tooth i j) nodes in
    let double = laws.sum (within handle tooth) (within handle tooth) nodes in
    omega (arith, ints, one, two, all, below, left, right, double)

-- ---- all teeth

abbrev pub Apart : List (ℕ → Bool) → Type 0
Apart [] = Unit {0}
Apart (tooth ∷ teeth) = AllByRecursion (AreApart tooth) teeth × Apart teeth

pub apart_from_pairs : (teeth : List (ℕ → Bool)) → AllPairs AreApart teeth → Apart teeth
apart_from_pairs [] h = tt
apart_from_pairs (t ∷ ts) h = (
  recursion_from_All (AreApart t) ts (λ k d lt. h zero (suc k) d (omega arith) (omega arith)),
  apart_from_pairs ts (λ i j d below lt. h (suc i) (suc j) d (omega arith) (omega arith)),
)

-- both nodes of a pair are in one tooth at most
within_below : (handle : ℕ → Bool) (i j : ℕ) (teeth : List (ℕ → Bool)) → Apart teeth → sum_int_by (λ tooth. within handle tooth i j) teeth ≤ℤ crossing handle i j
within_below handle i j [] apart = (none_or_one (crosses handle (i, j))).0
within_below handle i j (t ∷ ts) apart = elim (cases_Bool (t i && t j)) [
  | inl both ↦ omega (arith, ints, ap (λ b. one_if (b && crosses handle (i, j))) both, none ts (and_parts (t i) (t j) both).0 apart.0)
  | inr other ↦ omega (arith, ints, ap (λ b. one_if (b && crosses handle (i, j))) other, within_below handle i j ts apart.1)
]
  where
    none : (others : List (ℕ → Bool)) → t i ≡ true → AllByRecursion (AreApart t) others → sum_int_by (λ tooth. within handle tooth i j) others ≡ pos 0
    none [] h k = refl
    none (o ∷ os) h k = omega (arith, ints, ap (λ b. one_if ((b && o j) && crosses handle (i, j))) (k.0 i h), none os h k.1)

teeth_crossed : (n : ℕ) (nodes : List ℕ) (handle : ℕ → Bool) (teeth : List (ℕ → Bool)) → Laws → IsCycle n nodes → AllByRecursion (IsTooth n handle) teeth → AllByRecursion (Leaves n) teeth
    → pos (3 * length teeth) ≤ℤ (length_of (λ i j. sum_int_by (λ tooth. crossing tooth i j) teeth) nodes +ℤ length_of (λ i j. sum_int_by (λ tooth. within handle tooth i j) teeth) nodes)
teeth_crossed n nodes handle [] laws cycle reach off = omega (arith, ints, sum_zero (links nodes))
teeth_crossed n nodes handle (t ∷ ts) laws cycle reach off =
    let one = of_tooth n nodes handle t laws cycle reach.0 off.0 in
    let rest = teeth_crossed n nodes handle ts laws cycle reach.1 off.1 in
    let first = laws.sum (crossing t) (λ i j. sum_int_by (λ tooth. crossing tooth i j) ts) nodes in
    let second = laws.sum (within handle t) (λ i j. sum_int_by (λ tooth. within handle tooth i j) ts) nodes in
    omega (arith, ints, one, rest, first, second)

teeth_evenly : (nodes : List ℕ) (teeth : List (ℕ → Bool)) → Laws → (half : ℤ) × (length_of (λ i j. sum_int_by (λ tooth. crossing tooth i j) teeth) nodes ≡ half +ℤ half)
teeth_evenly nodes [] laws = (pos 0, sum_zero (links nodes))
teeth_evenly nodes (t ∷ ts) laws =
    let one = evenly t nodes in
    let rest = teeth_evenly nodes ts laws in
    let split = laws.sum (crossing t) (λ i j. sum_int_by (λ tooth. crossing tooth i j) ts) nodes in
    (one.0 +ℤ rest.0, omega (arith, ints, one.1, rest.1, split))

-- a tooth leaves out the other teeth's nodes
teeth_leave : (n : ℕ) (handle : ℕ → Bool) (teeth : List (ℕ → Bool)) → 2 ≤ length teeth → AllByRecursion (IsTooth n handle) teeth → Apart teeth → AllByRecursion (Leaves n) teeth
teeth_leave n handle [] more reach apart = tt
teeth_leave n handle (t ∷ []) more reach apart = absurd (omega arith)
teeth_leave n handle (t ∷ u ∷ us) more reach apart =
    let first = reach.0 in
    let second = reach.1.0 in (
      (second.inside, second.inside_node, false_from_ne_true (t second.inside) (λ h. both_ways (u second.inside) (apart.0.0 second.inside h) second.inside_tooth)),
      others (u ∷ us) (first.inside) first.inside_node first.inside_tooth apart.0,
    )
  where
    others : (teeth : List (ℕ → Bool)) (x : ℕ) → IsNode n x → t x ≡ true → AllByRecursion (AreApart t) teeth → AllByRecursion (Leaves n) teeth
    others [] x node h apart = tt
    others (o ∷ os) x node h apart = ((x, node, apart.0 x h), others os x node h apart.1)

pub cycles_cross_combs : Laws → CyclesCrossCombs
cycles_cross_combs laws n comb nodes is cycle =
    let apart = apart_from_pairs comb.teeth is.apart in
    let reach = recursion_from_All (IsTooth n comb.handle) comb.teeth is.reach in
    let crossed = teeth_crossed n nodes comb.handle comb.teeth laws cycle reach (teeth_leave n comb.handle comb.teeth (omega (arith, is.odd, is.some)) reach apart) in
    let below = sum_below (λ (link : ℕ × ℕ). sum_int_by (λ tooth. within comb.handle tooth link.0 link.1) comb.teeth) (λ (link : ℕ × ℕ). crossing comb.handle link.0 link.1) (links nodes)
    (λ link. within_below comb.handle link.0 link.1 comb.teeth apart) in
    let split = laws.sum (crossing comb.handle) (λ i j. sum_int_by (λ tooth. crossing tooth i j) comb.teeth) nodes in
    let one = evenly comb.handle nodes in
    let all = teeth_evenly nodes comb.teeth laws in
    omega (arith, ints, crossed, below, split, one.1, all.1, is.odd)

-- ---- a cycle crosses a lone set at least twice, and a comb of k teeth 3k + 1 times

lone_crossed : (handle : ℕ → Bool) (teeth : List (ℕ → Bool)) (nodes : List ℕ) → Laws → teeth ≡ [] → pos 2 ≤ℤ length_of (crossing handle) nodes
    → pos (least_crossings_of (length teeth)) ≤ℤ length_of (λ i j. crossing handle i j +ℤ sum_int_by (λ tooth. crossing tooth i j) teeth) nodes
lone_crossed handle [] nodes laws none more =
    let split = laws.sum (crossing handle) (λ i j. pos 0) nodes in
    omega (arith, ints, split, sum_zero (links nodes))
lone_crossed handle (t ∷ ts) nodes laws none more = cc

least_of_some : (k m : ℕ) → k ≡ 2 * m + 1 → least_crossings_of k ≡ 3 * k + 1
least_of_some zero m odd = absurd (omega arith)
least_of_some (suc k) m odd = omega arith

known_crossed : (n : ℕ) (sets : Comb) (nodes : List ℕ) → Laws → CyclesCrossCombs → IsLoneOrComb n sets → IsCycle n nodes
    → pos (least_crossings_of (length sets.teeth)) ≤ℤ length_of (family_crossings sets) nodes
known_crossed n sets nodes laws crossed (inl lone) cycle =
    lone_crossed sets.handle sets.teeth nodes laws lone.alone (twice sets.handle nodes lone.inside lone.outside
    (has_node n nodes lone.inside laws cycle lone.inside_node) (has_node n nodes lone.outside laws cycle lone.outside_node) lone.has_inside lone.lacks_outside)
known_crossed n sets nodes laws crossed (inr comb) cycle =
    let least = crossed n sets nodes comb cycle in
    let count = least_of_some (length sets.teeth) comb.half comb.odd in
    omega (arith, ints, least, count)

pub cycles_cross_families : Laws → CyclesCrossCombs → CyclesCrossFamilies
cycles_cross_families laws crossed n family nodes (inl known) cycle =
    let least = known_crossed n family.sets nodes laws crossed known.kind cycle in
    omega (arith, ints, least, known.least_is)
cycles_cross_families laws crossed n family nodes (inr other) cycle = other.least_is.below nodes cycle

-- ---- a family has one pair of numbers

one_kind : LeastLengthsAreUnique → MostCostsAreUnique → (n : ℕ) (sets : Comb) (a b : Crossings) → IsFamily n (record { sets = sets; numbers = a }) → IsFamily n (record { sets = sets; numbers = b })
    → (a.least ≡ b.least) × (a.most ≡ b.most)
one_kind least most n sets a b (inl p) (inl q) = (p.least_is ∙ sym q.least_is, p.most_is ∙ sym q.most_is)
one_kind least most n sets a b (inl p) (inr q) = absurd (q.unknown p.kind)
one_kind least most n sets a b (inr p) (inl q) = absurd (p.unknown q.kind)
one_kind least most n sets a b (inr p) (inr q) =
    let same = least n (family_crossings sets) (pos a.least) (pos b.least) p.least_is q.least_is in
    let equal = most n (family_crossings sets) (pos a.most) (pos b.most) p.most_is q.most_is in
    (omega (arith, ints, same), omega (arith, ints, equal))

pub numbers_are_unique : LeastLengthsAreUnique → MostCostsAreUnique → NumbersAreUnique
numbers_are_unique least most n a b same p q =
    let both = one_kind least most n a.sets a.numbers b.numbers p (subst (λ (sets : Comb). IsFamily n (record { sets = sets; numbers = b.numbers })) (sym same) q) in
    ap₂ (λ (l m : ℕ). record { least = l; most = m }) both.0 both.1

-- ---- the crossings of two nodes, summed over the sets of all families at once, are those

abbrev crossed_sets : List (List ℕ) → ℕ → ℕ → ℤ
crossed_sets sets i j = sum_int_by (λ set. crossing (has set) i j) sets

teeth_crossed_by_sets : (teeth : List (List ℕ)) (i j : ℕ) → sum_int_by (λ tooth. crossing tooth i j) (map has teeth) ≡ crossed_sets teeth i j
teeth_crossed_by_sets [] i j = refl
teeth_crossed_by_sets (tooth ∷ teeth) i j = ap (λ z. crossing (has tooth) i j +ℤ z) (teeth_crossed_by_sets teeth i j)

comb_crossed : (sets : List (List ℕ)) (i j : ℕ) → family_crossings (comb_with sets) i j ≡ crossed_sets sets i j
comb_crossed [] i j = refl
comb_crossed (handle ∷ teeth) i j = ap (λ z. crossing (has handle) i j +ℤ z) (teeth_crossed_by_sets teeth i j)

-- ---- products of sums

pub neg_over_sum : (m : ℕ) (a b : ℤ) → negsuc m *ℤ (a +ℤ b) ≡ (negsuc m *ℤ a) +ℤ (negsuc m *ℤ b)
neg_over_sum zero a b =
    let one = pred_ℤ-*ℤ (pos 0) a in
    let two = pred_ℤ-*ℤ (pos 0) b in
    let sum = pred_ℤ-*ℤ (pos 0) (a +ℤ b) in
    omega (arith, ints, one, two, sum, scaled_sum 0 a b)
neg_over_sum (suc m) a b =
    let one = pred_ℤ-*ℤ (negsuc m) a in
    let two = pred_ℤ-*ℤ (negsuc m) b in
    let sum = pred_ℤ-*ℤ (negsuc m) (a +ℤ b) in
    omega (arith, ints, one, two, sum, neg_over_sum m a b)

pub over_sum : (m a b : ℤ) → m *ℤ (a +ℤ b) ≡ (m *ℤ a) +ℤ (m *ℤ b)
over_sum (pos m) a b = scaled_sum m a b
over_sum (negsuc m) a b = neg_over_sum m a b

-- the same for the sum over sets
over_sets : (m : ℤ) (g : List ℕ → ℤ) (sets : List (List ℕ)) → m *ℤ sum_int_by g sets ≡ sum_int_by (λ set. m *ℤ g set) sets
over_sets m g [] = *ℤ-zero m
over_sets m g (set ∷ sets) = over_sum m (g set) (sum_int_by g sets) ∙ ap (λ z. (m *ℤ g set) +ℤ z) (over_sets m g sets)

-- ---- family by family

-- the multipliers after the first one
pub later_summed : (number : ℤ → List ℕ → ℤ) (first : ℕ) (m : ℤ) (ms : List ℤ) (families : List (List (List ℕ)))
    → summed_from (suc first) number (m ∷ ms) families ≡ summed_from first number ms families
later_summed number first m ms [] = refl
later_summed number first m ms (sets ∷ families) = ap (λ z. sum_int_by (number (get_or ms first (pos 0))) sets +ℤ z) (later_summed number (suc first) m ms families)

pub sets_tell_combs : SetsTellCombs
sets_tell_combs [] ms [] i j many long = refl
sets_tell_combs [] ms (sets ∷ families) i j many long = absurd (omega (arith, many))
sets_tell_combs (own ∷ crossed) ms [] i j many long = absurd (omega (arith, many))
sets_tell_combs (own ∷ crossed) [] (sets ∷ families) i j many long = absurd (omega (arith, long))
sets_tell_combs (own ∷ crossed) (m ∷ ms) (sets ∷ families) i j many long =
    let here = ap (λ z. m *ℤ z) (comb_crossed sets i j) ∙ over_sets m (λ set. crossing (has set) i j) sets in
    let rest = sets_tell_combs crossed ms families i j (omega (arith, many)) (omega (arith, long)) in
    let later = later_summed (λ multiplier set. multiplier *ℤ crossing (has set) i j) 0 m ms families in
    ap₂ (λ a b. a +ℤ b) here (rest ∙ sym later)

pub sets_give_leaves : SetsGiveLeaves
sets_give_leaves scale crossed potentials ms taken avoided families cost i j many long = let same = sets_tell_combs crossed ms families i j many long in omega (arith, ints, same)

-- ---- how large crossings and multipliers make a weight at most

pub combed_size : (base crossed : ℤ) → IsFromTo (neg_ℤ (pos most_between)) (pos most_between) base → IsFromTo (pos 0) (pos most_crossed) crossed
    → IsFromTo (neg_ℤ (pos most_combed)) (pos most_combed) (base -ℤ crossed)
combed_size base crossed p q = (omega (arith, ints, p.0, q.1), omega (arith, ints, p.1, q.0))

pub combed_fits : (z : ℤ) → IsFromTo (neg_ℤ (pos most_combed)) (pos most_combed) z → FitsSigned w64 z
combed_fits z h = fits_signed_from_abs w64 z (let size = size_of most_combed z h in omega (arith, size))

-- ---- one comb

in_one : (x : ℕ) (teeth : List (ℕ → Bool)) → Apart teeth → sum_int_by (λ tooth. one_if (tooth x)) teeth ≤ℤ pos 1
in_one x [] apart = omega (arith, ints)
in_one x (t ∷ ts) apart = elim (cases_Bool (t x)) [
  | inl here ↦ omega (arith, ints, ap one_if here, in_none ts here apart.0)
  | inr other ↦ omega (arith, ints, ap one_if other, in_one x ts apart.1)
]
  where
    in_none : (others : List (ℕ → Bool)) → t x ≡ true → AllByRecursion (AreApart t) others → sum_int_by (λ tooth. one_if (tooth x)) others ≡ pos 0
    in_none [] h k = refl
    in_none (o ∷ os) h k = omega (arith, ints, ap one_if (k.0 x h), in_none os h k.1)

pub size_of_link : (a b : Bool) → one_if (cond a (not b) b) ≤ℤ (one_if a +ℤ one_if b)
size_of_link true true = omega (arith, ints)
size_of_link true false = omega (arith, ints)
size_of_link false true = omega (arith, ints)
size_of_link false false = omega (arith, ints)

teeth_crossed_few : (i j : ℕ) (teeth : List (ℕ → Bool)) → (pos 0 ≤ℤ sum_int_by (λ tooth. crossing tooth i j) teeth)
    × (sum_int_by (λ tooth. crossing tooth i j) teeth ≤ℤ (sum_int_by (λ tooth. one_if (tooth i)) teeth +ℤ sum_int_by (λ tooth. one_if (tooth j)) teeth))
teeth_crossed_few i j [] = (omega (arith, ints), omega (arith, ints))
teeth_crossed_few i j (t ∷ ts) =
    let rest = teeth_crossed_few i j ts in
    let own = none_or_one (cond (t i) (not (t j)) (t j)) in
    let link = size_of_link (t i) (t j) in
    (omega (arith, ints, rest.0, own.0), omega (arith, ints, rest.1, link))

-- no two teeth of a comb have a node in common
apart_teeth : (n : ℕ) (sets : Comb) → IsLoneOrComb n sets → Apart sets.teeth
apart_teeth n sets (inl lone) = subst Apart (sym lone.alone) tt
apart_teeth n sets (inr comb) = apart_from_pairs sets.teeth comb.apart

crossed_some : (sets : Comb) (i j : ℕ) → pos 0 ≤ℤ family_crossings sets i j
crossed_some sets i j =
    let teeth = teeth_crossed_few i j sets.teeth in
    let handle = none_or_one (cond (sets.handle i) (not (sets.handle j)) (sets.handle j)) in
    omega (arith, ints, teeth.0, handle.0)

comb_crossed_few : (n : ℕ) (sets : Comb) (i j : ℕ) → IsLoneOrComb n sets → family_crossings sets i j ≤ℤ pos 3
comb_crossed_few n sets i j is =
    let apart = apart_teeth n sets is in
    let teeth = teeth_crossed_few i j sets.teeth in
    let handle = none_or_one (cond (sets.handle i) (not (sets.handle j)) (sets.handle j)) in
    let one = in_one i sets.teeth apart in
    let two = in_one j sets.teeth apart in
    omega (arith, ints, teeth.1, handle.1, one, two)

family_crossed_few : (n : ℕ) (family : Family) (i j : ℕ) → IsNode n i → IsNode n j → IsFamily n family → family_crossings family.sets i j ≤ℤ pos family.numbers.most
family_crossed_few n family i j in_i in_j (inl known) = let few = comb_crossed_few n family.sets i j known.kind in omega (arith, ints, few, known.most_is)
family_crossed_few n family i j in_i in_j (inr other) = other.most_is.above i j in_i in_j

-- ---- all families

pub times_at_most : (multiplier crossed : ℤ) (most : ℕ) → pos 0 ≤ℤ multiplier → pos 0 ≤ℤ crossed → crossed ≤ℤ pos most → (pos 0 ≤ℤ (multiplier *ℤ crossed))
    × ((multiplier *ℤ crossed) ≤ℤ (multiplier *ℤ pos most))
times_at_most (negsuc m) crossed most some low high = absurd (omega (arith, ints, some))
times_at_most (pos m) crossed most some low high =
    let none = *ℤ-zero (pos m) in
    let least = scaled_up m (pos 0) crossed low in
    (omega (arith, ints, none, least), scaled_up m crossed (pos most) high)

pub families_crossed_few : (n : ℕ) (crossed : List Crossings) (families : List (List (List ℕ))) (multipliers : List ℤ) (i j : ℕ) → IsNode n i → IsNode n j → length crossed ≡ length families
    → AllByRecursion (IsFamily n) (families_with crossed families) → AllByRecursion (λ multiplier. pos 0 ≤ℤ multiplier) multipliers
    → (pos 0 ≤ℤ crossings_of (multiplied (families_with crossed families) multipliers) i j)
    × (crossings_of (multiplied (families_with crossed families) multipliers) i j ≤ℤ sum_with true crossed multipliers)
families_crossed_few n [] families ms i j in_i in_j many are signs = (omega (arith, ints), omega (arith, ints))
families_crossed_few n (own ∷ crossed) [] ms i j in_i in_j many are signs = absurd (omega (arith, many))
families_crossed_few n (own ∷ crossed) (sets ∷ families) [] i j in_i in_j many are signs = (omega (arith, ints), omega (arith, ints))
families_crossed_few n (own ∷ crossed) (sets ∷ families) (m ∷ ms) i j in_i in_j many are signs =
    let rest = families_crossed_few n crossed families ms i j in_i in_j (omega (arith, many)) are.1 signs.1 in
    let family : Family = family_with own sets in
    let one = times_at_most m (family_crossings family.sets i j) own.most signs.0 (crossed_some family.sets i j) (family_crossed_few n family i j in_i in_j are.0) in
    (omega (arith, ints, rest.0, one.0), omega (arith, ints, rest.1, one.1))

-- so that multipliers sum to no more than the crossings
pub multipliers_below : (crossed : List Crossings) (multipliers : List ℤ) → length multipliers ≡ length crossed → AllByRecursion (λ own. 1 ≤ own.most) crossed
    → AllByRecursion (λ multiplier. pos 0 ≤ℤ multiplier) multipliers → total multipliers ≤ℤ sum_with true crossed multipliers
multipliers_below [] [] long some signs = omega (arith, ints)
multipliers_below [] (m ∷ ms) long some signs = absurd (omega (arith, long))
multipliers_below (own ∷ crossed) [] long some signs = absurd (omega (arith, long))
multipliers_below (own ∷ crossed) (m ∷ ms) long some signs =
    let rest = multipliers_below crossed ms (omega (arith, long)) some.1 signs.1 in
    let one = once_at_most m own.most signs.0 some.0 in
    omega (arith, ints, rest, one)
  where
    once_at_most : (multiplier : ℤ) (most : ℕ) → pos 0 ≤ℤ multiplier → 1 ≤ most → multiplier ≤ℤ (multiplier *ℤ pos most)
    once_at_most (negsuc m) most low le = absurd (omega (arith, ints, low))
    once_at_most (pos m) most low le = let more = scaled_up m (pos 1) (pos most) (omega (arith, ints, le)) in omega (arith, ints, more)

-- ---- the sum of the least crossings of all families, each times its multiplier, in the order

pub sum_left : (is_most : Bool) (crossed : List Crossings) (ms : List ℤ) (index : ℕ) (default : Crossings) → index < length crossed → index < length ms
    → sum_with is_most (drop index crossed) (drop index ms)
    ≡ (get_or ms index (pos 0) *ℤ pos (most_or_least is_most (get_or crossed index default))) +ℤ sum_with is_most (drop (index + 1) crossed) (drop (index + 1) ms)
sum_left is_most crossed ms index default lt below =
    ap (λ cs. sum_with is_most cs (drop index ms)) (drop-cons crossed index default lt)
    ∙ ap (λ zs. sum_with is_most (get_or crossed index default ∷ drop (suc index) crossed) zs) (drop-cons ms index (pos 0) below)
    ∙ rw (add-one index) refl

pub number_small : (is_most : Bool) (own : Crossings) → IsSmall own → most_or_least is_most own < 2 ^ 34
number_small true own small = omega (arith, small.1)
number_small false own small = small.0

-- the sum with one family more
pub record AddsFamily (sum m : ℤ) (index r : ℕ) (a b : ℤ) : Type 0 where
  pub product : to_z w128 (of_z w128 (to_z w128 (of_z w128 a) *ℤ to_z w128 (of_z w128 b))) ≡ m *ℤ pos r
  pub size : IsFromTo (pos 0) (pos ((index + 1) * 2 ^ 94)) (sum +ℤ (m *ℤ pos r))
  pub fits : FitsSigned w128 (sum +ℤ (m *ℤ pos r))
  pub computed : to_z w128 (of_z w128 (sum +ℤ (m *ℤ pos r))) ≡ sum +ℤ (m *ℤ pos r)

pub adds_family : (sum m : ℤ) (index r : ℕ) (a b : ℤ) → IsFromTo (pos 0) (pos (index * 2 ^ 94)) sum → IsFromTo (pos 0) (pos most_crossed) m → index < 2 ^ 32 → r < 2 ^ 34
    → a ≡ m → b ≡ pos r → AddsFamily sum m index r a b
adds_family sum m index r a b so_far own few small a_is b_is =
    let times = times_at_most m (pos r) (2 ^ 34) own.0 (omega (arith, ints)) (omega (arith, ints, small)) in
    let first : to_z w128 (of_z w128 a) ≡ m = omega (arith, ints, own.0, own.1, a_is) in
    let second : to_z w128 (of_z w128 b) ≡ pos r = omega (arith, ints, small, b_is) in
    let whole : IsFromTo (pos 0) (pos ((index + 1) * 2 ^ 94)) (sum +ℤ (m *ℤ pos r)) =
    (omega (arith, ints, so_far.0, times.0), omega (arith, ints, so_far.1, times.1, own.1)) in
    let fits : FitsSigned w128 (sum +ℤ (m *ℤ pos r)) = fits_signed_from_abs w128 (sum +ℤ (m *ℤ pos r))
    (let most = size_of ((index + 1) * 2 ^ 94) (sum +ℤ (m *ℤ pos r)) (omega (arith, ints, whole.0), whole.1) in omega (arith, most, few)) in
    record {
      product = rw (first, second) (omega (arith, ints, times.0, times.1, own.1));
      size = whole;
      fits = fits;
      computed = to_z-of_z w128 (sum +ℤ (m *ℤ pos r)) fits;
    }

-- the sum that families give back is at most 2^34 times their multipliers
least_size : (crossed : List Crossings) (ms : List ℤ) → AllByRecursion IsSmall crossed → AllByRecursion (λ m. pos 0 ≤ℤ m) ms
    → (pos 0 ≤ℤ sum_with false crossed ms) × (sum_with false crossed ms ≤ℤ (pos (2 ^ 34) *ℤ total ms))
least_size [] [] small signs = (omega (arith, ints), omega (arith, ints))
least_size [] (m ∷ ms) small signs =
    let rest = least_size [] ms small signs.1 in
    (omega (arith, ints), omega (arith, ints, signs.0, rest.1))
least_size (own ∷ crossed) [] small signs = (omega (arith, ints), omega (arith, ints))
least_size (own ∷ crossed) (m ∷ ms) small signs =
    let rest = least_size crossed ms small.1 signs.1 in
    let few = small.0.0 in
    let times = times_at_most m (pos own.least) (2 ^ 34) signs.0 (omega (arith, ints)) (omega (arith, ints, few)) in
    (omega (arith, ints, rest.0, times.0), omega (arith, ints, rest.1, times.1))

pub least_fits : (crossed : List Crossings) (ms : List ℤ) (result : ℤ) → All IsSmall crossed → All (λ m. pos 0 ≤ℤ m) ms → total ms ≤ℤ pos most_crossed
    → result ≡ sum_with false crossed ms → IsFromTo (pos 0) (pos (2 ^ 95)) result
least_fits crossed ms result small signs sum is =
    let size = least_size crossed ms (recursion_from_All IsSmall crossed small) (recursion_from_All (λ m. pos 0 ≤ℤ m) ms signs) in
    (omega (arith, ints, size.0, is), omega (arith, ints, size.1, sum, is))
