-- The fields of `Families` (`lent_in`, `good_in`), for each node the sets that contain it (`IsSetTable`), and what
-- multipliers of sets do to the weight between two nodes (`set_weight`). `src/family.rt` and `src/sets.rt` promise
-- them. tsp_branch and tsp_routing state the weights of their leaves by `set_weight`, so a change to it reaches the
-- contract of every leaf.
use Rattle.tsp_cases.specs.Prelude.{Vec, All, ℕ, List, [], length, slice_index_or, suc, ℤ, pos, neg_ℤ, IsNode, IsFromTo, weight_between, most_between, adjusted, sum_int_by, crossing, IsMoved, int_wrap, w64, least_at, entry}
use Rattle.std.specs.Prelude.{◌<◌, ◌≡◌, ◌==◌, ◌+◌, ◌++◌, ◌≤◌, if◌then◌else◌, ◌∷◌, ◌+ℤ◌, ◌-ℤ◌, ◌*ℤ◌}
use Rattle.tsp_cases.specs.CaseTrees.{crossings_of, leaf_weight, multiplied}
use Rattle.tsp_cases.specs.Crossings.{families_in, has}
use Rattle.tsp_cases.specs.Families.{families_with}
use Rattle.tsp_cases.specs.Families as kinds
use Rattle.tsp_cases.specs.ListedCases.{most_crossed}
use Rattle.tsp_cases.specs.declared.family.Families.{Families}
use Rattle.tsp_cases.specs.declared.family.Crossings.{Crossings}
use Rattle.tsp_cases.specs.declared.sets.SetPlace.{SetPlace}

-- a place, of its two indexes
abbrev pub place_at : ℕ → ℕ → SetPlace
place_at family set = record { family = family; set = set }

-- these families have a set at the place
abbrev pub IsPlaceIn : List (List (List ℕ)) → SetPlace → Type 0
IsPlaceIn families place = (place.family < length families) × (place.set < length (slice_index_or families place.family []))

-- ---- the fields of `Families` (src/family.rt)

-- the sets of each family, as lists of nodes
abbrev pub lent_in : Families → List (List (List ℕ))
lent_in families = families_in families.lent.now

-- the families, each with its numbers
abbrev pub good_in : Families → List kinds.Family
good_in families = families_with families.crossed.items (lent_in families)

-- ---- for each node the places of the sets that have it

-- a number, as often as the node x is in a list of nodes
abbrev pub added : ℤ → List ℕ → ℕ → ℤ
added number nodes x = sum_int_by (λ node. if node == x then number else pos 0) nodes

-- a place, as often as the node x is in the set there
abbrev pub times : SetPlace → List ℕ → ℕ → List SetPlace
times place [] x = []
times place (node ∷ nodes) x = if node == x then (place ∷ times place nodes x) else times place nodes x

-- the places of the sets of one family that have the node x; the first set has the index `first`
abbrev pub places_in : ℕ → ℕ → List (List ℕ) → ℕ → List SetPlace
places_in family first [] x = []
places_in family first (set ∷ sets) x = times (place_at family first) set x ++ places_in family (suc first) sets x

-- the places of the sets of families that have the node x; the first family has the index `first`
abbrev pub places_with : ℕ → List (List (List ℕ)) → ℕ → List SetPlace
places_with first [] x = []
places_with first (sets ∷ families) x = places_in first 0 sets x ++ places_with (suc first) families x

-- lists of places by node, to each of which such places were added at its end
abbrev pub AreLengthened : (ℕ → List SetPlace) → List (Vec SetPlace) → List (Vec SetPlace) → Type 0
AreLengthened more old new = (length new ≡ length old) × ((x : ℕ) (a b : Vec SetPlace) → x < length old
    → (slice_index_or new x a).items ≡ (slice_index_or old x b).items ++ more x)

-- for each of 0..n the places of the sets that have it
pub record IsSetTable (n : ℕ) (families : List (List (List ℕ))) (lists : List (Vec SetPlace)) : Type 0 where
  pub count : length lists ≡ n + 1
  pub said : (x : ℕ) (default : Vec SetPlace) → x ≤ n → (slice_index_or lists x default).items ≡ places_with 0 families x

-- ---- the weight between two nodes under families

-- multipliers that a good leaf may have
abbrev pub AreSmallMultipliers : List ℤ → Type 0
AreSmallMultipliers multipliers = All (IsFromTo (pos 0) (pos most_crossed)) multipliers

-- differences between two such multipliers
abbrev pub AreSmallDifferences : List ℤ → Type 0
AreSmallDifferences differences = All (IsFromTo (neg_ℤ (pos most_crossed)) (pos most_crossed)) differences

-- the sum over the sets of families of numbers that depend on the multiplier of the family; `first` is the index of the
-- first family's multiplier
abbrev pub summed_from : ℕ → (ℤ → List ℕ → ℤ) → List ℤ → List (List (List ℕ)) → ℤ
summed_from first number multipliers [] = pos 0
summed_from first number multipliers (sets ∷ families) =
    sum_int_by (number (slice_index_or multipliers first (pos 0))) sets +ℤ summed_from (suc first) number multipliers families

-- the multipliers of the sets that have one of two nodes and not the other, added
abbrev pub set_crossings : List ℤ → List (List (List ℕ)) → ℕ → ℕ → ℤ
set_crossings multipliers families i j = summed_from 0
    (λ multiplier set. multiplier *ℤ crossing (has set) i j) multipliers families

-- the multipliers of the sets that have a node, added
abbrev pub multipliers_at : List ℤ → List (List (List ℕ)) → ℕ → ℤ
multipliers_at multipliers families x = summed_from 0 (λ multiplier set. added multiplier set x) multipliers families

-- the set at a place
abbrev pub set_in : List (List (List ℕ)) → SetPlace → List ℕ
set_in families place = slice_index_or (slice_index_or families place.family []) place.set []

-- twice the multiplier of the set at a place, if the set has the node x; otherwise 0
abbrev pub twice_in : List ℤ → List (List (List ℕ)) → SetPlace → ℕ → ℤ
twice_in multipliers families place x =
    added (pos 2 *ℤ slice_index_or multipliers place.family (pos 0)) (set_in families place) x

-- twice the multipliers of the sets at these places that have the node x, added
abbrev pub inside_both : List ℤ → List (List (List ℕ)) → List SetPlace → ℕ → ℤ
inside_both multipliers families places x = sum_int_by (λ place. twice_in multipliers families place x) places

-- the weight between two nodes: the cost times the scale and both potentials, less the multipliers of the sets that
-- they cross
abbrev pub set_weight : ℤ → List ℤ → List ℤ → List (List (List ℕ)) → (ℕ → ℕ → ℤ) → ℕ → ℕ → ℤ
set_weight scale potentials multipliers families cost i j =
    weight_between scale potentials cost i j -ℤ set_crossings multipliers families i j

-- what is left in 64 bits of the weight less the multipliers of the sets of each node, as if no set had both; without
-- the sets the weight is within its limits
abbrev pub IsApart : ℤ → List ℤ → List ℤ → List (List (List ℕ)) → (ℕ → ℕ → ℤ) → ℕ → ℕ → ℤ → Type 0
IsApart scale potentials multipliers families cost i j value =
    IsMoved (neg_ℤ (multipliers_at multipliers families i) +ℤ neg_ℤ (multipliers_at multipliers families j))
    (weight_between scale potentials cost i j) value
    × IsFromTo (neg_ℤ (pos most_between)) (pos most_between) (weight_between scale potentials cost i j)

-- the sets that two nodes of 1..n cross have small multipliers in all
abbrev pub AreFewCrossings : ℕ → List ℤ → List (List (List ℕ)) → Type 0
AreFewCrossings n multipliers families = (i j : ℕ) → IsNode n i → IsNode n j
    → IsFromTo (pos 0) (pos most_crossed) (set_crossings multipliers families i j)

-- how large a weight under families is at most
abbrev pub most_combed : ℕ
most_combed = 2000000000000000000

-- The crossings of the sets are those of the families.
abbrev pub SetsTellCombs : Type 0
SetsTellCombs = (crossed : List Crossings) (multipliers : List ℤ) (families : List (List (List ℕ))) (i j : ℕ)
    → length crossed ≡ length families → length multipliers ≡ length families
    → crossings_of (multiplied (families_with crossed families) multipliers) i j ≡ set_crossings multipliers families i j

-- So the weights by sets are, under taken and avoided pairs, those of a leaf.
abbrev pub SetsGiveLeaves : Type 0
SetsGiveLeaves = (scale : ℤ) (crossed : List Crossings) (potentials multipliers : List ℤ) (taken avoided : List (ℕ × ℕ × ℤ))
    (families : List (List (List ℕ))) (cost : ℕ → ℕ → ℤ) (i j : ℕ)
    → length crossed ≡ length families → length multipliers ≡ length families
    → adjusted taken avoided (set_weight scale potentials multipliers families cost) i j
    ≡ leaf_weight scale potentials taken avoided (multiplied (families_with crossed families) multipliers) cost i j

-- for each node what is left in 64 bits of its potential less the multipliers of its sets
abbrev pub AreMoved : ℕ → List ℤ → List ℤ → List (List (List ℕ)) → List ℤ → Type 0
AreMoved n potentials multipliers families moved = (x : ℕ) → IsNode n x → int_wrap w64 (least_at moved x)
    ≡ int_wrap w64 (entry potentials x +ℤ neg_ℤ (multipliers_at multipliers families x))
