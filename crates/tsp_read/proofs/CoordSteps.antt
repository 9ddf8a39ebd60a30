-- One more word in a section of coordinates: `PointList` in src/node_sections.rt takes a node (`node_taken`) or a
-- coordinate (`number_taken`), or the word is the first fault. GroupSteps.antt has what holds of any section by node.
use Rattle.tsp_read.proofs.Prelude.{◌≡◌, ℕ, ◌+◌, ◌-◌, ◌<◌, Bool, true, false, List, [], ◌∷◌, ◌++◌, length, map, set, refl, sym, ap, ap₂, subst, ◌∙◌, Option, None, Some, Ok, Err, arith, false≢true, ℤ, ◌==◌, nat_lt, replicate, decimal_of, whole_of, Point, NumberFault, Words, place_by, word_fault, point_in, space_point_in, coords_by_node, number_value, place_of_number, number, is_minus_one, Coordinate, Amount, wants_more, LineFault}
use Rattle.tsp_number.specs.Distances.{on_plane}
use Rattle.tsp_number.specs.declared.decimal.PlanePoint.{PlanePoint}
use Rattle.tsp_file.specs.Cost.{origin}
use Rattle.tsp_text.specs.declared.fault.LineFault.TheVariants as row
use Rattle.tsp_read.proofs.GroupSteps.{number_faulty, entry_taken}
use Rattle.tsp_read.proofs.GroupSteps as groups
use Rattle.tsp_read.specs.states.HeldParts.{shape_of_points}
use Rattle.tsp_read.specs.states.Parts.{AreReadAs, IsNewNode, PointsHold, SpacePointsHold, CoordsHold, NumbersHold}

-- the points as they are kept
abbrev pub plane_points : List PlanePoint → List Point
plane_points points = map (λ point. on_plane point.x point.y) points

-- the fault of a word at the next place
abbrev pub coord_fault : Bool → ℕ → Words → List ℕ → Option LineFault
coord_fault in_space n words word = word_fault n (place_by (shape_of_points in_space) n words) word

pub none_so_far : (in_space : Bool) (seen : List Bool) (entries : List Point) (n : ℕ) → seen ≡ replicate n false
    → entries ≡ replicate n origin
    → CoordsHold in_space seen entries n None None None n []
none_so_far false seen entries n unseen at_origin =
    groups.none_so_far 3 point_in origin (decimal_of ∷ []) (None ∷ []) seen entries n (omega arith) unseen at_origin tt
none_so_far true seen entries n unseen at_origin =
    groups.none_so_far 4 space_point_in origin (decimal_of ∷ decimal_of ∷ []) (None ∷ None ∷ []) seen entries n (omega arith) unseen at_origin tt

clean : (n : ℕ) (word : List ℕ) (z : ℤ) → decimal_of word ≡ Ok z → word_fault n Coordinate word ≡ None
clean n word z read = rw read refl

plane_read : (word : List ℕ) (v z : ℤ) → decimal_of word ≡ Ok z → (first : List ℕ) (rest : Words) → AreReadAs (decimal_of ∷ []) (Some v ∷ []) rest
    → ((length (first ∷ rest) + 1 == 3) ≡ true) × (point_in (first ∷ (rest ++ word ∷ [])) ≡ on_plane v z)
plane_read word v z read first [] kept = absurd kept
plane_read word v z read first (other ∷ []) kept = (refl, ap₂ (λ r s. on_plane (number r) (number s)) kept.0 read)
plane_read word v z read first (other ∷ more ∷ rest) kept = absurd kept.1

space_read : (word : List ℕ) (v w z : ℤ) → decimal_of word ≡ Ok z → (first : List ℕ) (rest : Words)
    → AreReadAs (decimal_of ∷ decimal_of ∷ []) (Some v ∷ Some w ∷ []) rest
    → ((length (first ∷ rest) + 1 == 4) ≡ true) × (let point : Point = record { x = v; y = w; z = z } in space_point_in (first ∷ (rest ++ word ∷ [])) ≡ point)
space_read word v w z read first [] kept = absurd kept
space_read word v w z read first (other ∷ []) kept = absurd kept.1
space_read word v w z read first (other ∷ more ∷ []) kept = (
  refl,
  let made : ℤ → ℤ → ℤ → Point = λ a b c. record { x = a; y = b; z = c } in
      ap₂ (λ r s. made (number r) (number s) (number (decimal_of word))) kept.0 kept.1.0 ∙ ap (λ r. made v w (number r)) read,
)
space_read word v w z read first (other ∷ more ∷ last ∷ rest) kept = absurd kept.1.1

module _ (seen : List Bool) (entries : List Point) (left : ℕ) (begun : Option ℕ) (x y : Option ℤ) (n : ℕ) (words : Words) where
  -- ---- words with a fault

  pub node_faulty : (in_space : Bool) → CoordsHold in_space seen entries left begun x y n words → (word : List ℕ) (fault : LineFault) → 0 < left → begun ≡ None
      → IsNewNode seen word (Err fault) → coord_fault in_space n words word ≡ Some fault
  node_faulty false h = groups.node_faulty Coordinate h
  node_faulty true h = groups.node_faulty Coordinate h

  pub coordinate_bad : (in_space : Bool) → CoordsHold in_space seen entries left begun x y n words → (word : List ℕ) (k : ℕ) (fault : NumberFault) → 0 < left
      → begun ≡ Some k → decimal_of word ≡ Err fault → coord_fault in_space n words word ≡ Some (row.Number fault)
  coordinate_bad false h word k fault some is read = groups.number_faulty Coordinate h word k (row.Number fault) some is (rw read refl)
  coordinate_bad true h word k fault some is read = groups.number_faulty Coordinate h word k (row.Number fault) some is (rw read refl)

  -- any word but a -1 past the groups
  pub one_too_many : (in_space : Bool) → CoordsHold in_space seen entries left begun x y n words → (word : List ℕ) → left ≡ 0 → is_minus_one word ≡ false
      → coord_fault in_space n words word ≡ Some row.Surplus
  one_too_many false h = groups.surplus Coordinate h
  one_too_many true h = groups.surplus Coordinate h

  -- ---- the part after the word

  pub node_taken : (in_space : Bool) → CoordsHold in_space seen entries left begun x y n words → (word : List ℕ) (k : ℕ) → 0 < left → begun ≡ None
      → IsNewNode seen word (Ok k)
      → (coord_fault in_space n words word ≡ None) × CoordsHold in_space seen entries left (Some k) x y n (words ++ word ∷ [])
  node_taken false h word k = groups.node_taken Coordinate h word k (omega arith) refl
  node_taken true h word k = groups.node_taken Coordinate h word k (omega arith) refl

  pub first_taken : (in_space : Bool) → CoordsHold in_space seen entries left begun x y n words → (word : List ℕ) (k : ℕ) (z : ℤ) → 0 < left → begun ≡ Some k
      → x ≡ None → decimal_of word ≡ Ok z
      → (coord_fault in_space n words word ≡ None) × CoordsHold in_space seen entries left begun (Some z) y n (words ++ word ∷ [])
  first_taken false h word k z some is also read =
      groups.number_kept Coordinate h decimal_of [] [] word k z (omega arith) refl some is (ap (λ (o : Option ℤ). o ∷ []) also) read (clean n word z read)
  first_taken true h word k z some is also read =
      groups.number_kept Coordinate h decimal_of [] (y ∷ []) word k z (omega arith) refl some is (ap (λ (o : Option ℤ). o ∷ y ∷ []) also) read (clean n word z read)

  -- the second coordinate of a point of the plane
  pub plane_taken : (in_space : Bool) → CoordsHold in_space seen entries left begun x y n words → (word : List ℕ) (k : ℕ) (v z : ℤ) → false ≡ in_space → 0 < left
      → begun ≡ Some k → x ≡ Some v → decimal_of word ≡ Ok z
      → (coord_fault in_space n words word ≡ None)
      × CoordsHold in_space (set seen (k - 1) true) (set entries (k - 1) (on_plane v z)) (left - 1) None None None n (words ++ word ∷ [])
  plane_taken false h word k v z kind some is also read =
      let held : PointsHold seen entries left begun (Some v) n words = subst (λ (o : Option ℤ). PointsHold seen entries left begun o n words) also h in
      groups.entry_taken Coordinate held (on_plane v z) (None ∷ []) word k (omega arith) tt (plane_read word v z read) some is (clean n word z read)
  plane_taken true h word k v z kind some is also read = absurd (false≢true kind)

  -- the second and the third of a point in space
  pub second_taken : (in_space : Bool) → CoordsHold in_space seen entries left begun x y n words → (word : List ℕ) (k : ℕ) (v z : ℤ) → true ≡ in_space → 0 < left
      → begun ≡ Some k → x ≡ Some v → y ≡ None → decimal_of word ≡ Ok z
      → (coord_fault in_space n words word ≡ None) × CoordsHold in_space seen entries left begun x (Some z) n (words ++ word ∷ [])
  second_taken false h word k v z kind some is also none read = absurd (false≢true (sym kind))
  second_taken true h word k v z kind some is also none read =
      let next = groups.number_kept Coordinate h decimal_of (v ∷ []) [] word k z (omega arith) refl some is (ap₂ (λ (o p : Option ℤ). o ∷ p ∷ []) also none) read (clean n word z read) in
      (next.0, subst (λ (o : Option ℤ). SpacePointsHold seen entries left begun o (Some z) n (words ++ word ∷ [])) (sym also) next.1)

  pub third_taken : (in_space : Bool) → CoordsHold in_space seen entries left begun x y n words → (word : List ℕ) (k : ℕ) (v w z : ℤ) → true ≡ in_space → 0 < left
      → begun ≡ Some k → x ≡ Some v → y ≡ Some w → decimal_of word ≡ Ok z
      → (coord_fault in_space n words word ≡ None)
      × CoordsHold in_space (set seen (k - 1) true) (set entries (k - 1) (record { x = v; y = w; z = z })) (left - 1) None None None n (words ++ word ∷ [])
  third_taken false h word k v w z kind some is also too read = absurd (false≢true (sym kind))
  third_taken true h word k v w z kind some is also too read =
      let first : SpacePointsHold seen entries left begun (Some v) y n words = subst (λ (o : Option ℤ). SpacePointsHold seen entries left begun o y n words) also h in
      let held : SpacePointsHold seen entries left begun (Some v) (Some w) n words = subst (λ (o : Option ℤ). SpacePointsHold seen entries left begun (Some v) o n words) too first in
      groups.entry_taken Coordinate held (record { x = v; y = w; z = z }) (None ∷ None ∷ []) word k (omega arith) tt (space_read word v w z read) some is (clean n word z read)

  -- a -1 may end the section
  pub end_taken : (in_space : Bool) → CoordsHold in_space seen entries left begun x y n words → (word : List ℕ) → left ≡ 0 → is_minus_one word ≡ true
      → (coord_fault in_space n words word ≡ None) × CoordsHold in_space seen entries left begun x y n (words ++ word ∷ [])
  end_taken false h = groups.end_taken Coordinate h
  end_taken true h = groups.end_taken Coordinate h

  -- ---- the end

  -- the points by node, and whether a group is still to come
  pub all_taken : (in_space : Bool) → CoordsHold in_space seen entries left begun x y n words
      → (entries ≡ coords_by_node in_space n words) × (nat_lt 0 left ≡ wants_more (place_by (shape_of_points in_space) n words))
  all_taken false h = (groups.finish Coordinate h, groups.to_come Coordinate h refl)
  all_taken true h = (groups.finish Coordinate h, groups.to_come Coordinate h refl)

-- ---- the number of a group of a by-node section with a whole number for each node

number_read : (low high : ℤ) (word : List ℕ) (z : ℤ) → whole_of word low high ≡ Ok z → (first : List ℕ) (rest : Words) → AreReadAs [] [] rest
    → ((length (first ∷ rest) + 1 == 2) ≡ true) × (number_value low high (first ∷ (rest ++ word ∷ [])) ≡ z)
number_read low high word z read first [] kept = (refl, ap number read)
number_read low high word z read first (other ∷ rest) kept = absurd kept

module _ {seen : List Bool} {entries : List ℤ} {left : ℕ} {begun : Option ℕ} {n : ℕ} {words : Words} (low high : ℤ) (h : NumbersHold seen entries left begun low high n words) where
  pub number_bad : (word : List ℕ) (k : ℕ) (fault : NumberFault) → 0 < left → begun ≡ Some k → whole_of word low high ≡ Err fault
      → word_fault n (place_of_number low high n words) word ≡ Some (row.Number fault)
  number_bad word k fault some is read = number_faulty (Amount low high) h word k (row.Number fault) some is (rw read refl)

  pub number_taken : (word : List ℕ) (k : ℕ) (z : ℤ) → 0 < left → begun ≡ Some k → whole_of word low high ≡ Ok z
      → (word_fault n (place_of_number low high n words) word ≡ None)
      × NumbersHold (set seen (k - 1) true) (set entries (k - 1) z) (left - 1) None low high n (words ++ word ∷ [])
  number_taken word k z some is read =
      entry_taken (Amount low high) h z [] word k (omega arith) tt (number_read low high word z read) some is (rw read refl)
