-- The words in which a section by node is written, a node and its value in each group (`entry_words`), are read back as
-- the values. Part of the proof of the law `canonical_texts_are_read_back`.
use Rattle.tsp_read.proofs.Prelude.{◌≡◌, ℕ, suc, zero, ◌+◌, ◌*◌, ◌^◌, ◌<◌, ◌≤◌, Bool, true, false, cond, List, [], ◌∷◌, ◌++◌, length, map, refl, sym, ap, ◌∙◌, arith, Some, None, Result, ap₂, Ok, and_from, and_parts, le-leb, lt-leb, or_from, ne_eqb, false_from_ne_true, Decides-int_eq, length_push, length-append, map_push, decimal, signed_decimal, list_all, list_any, flat_map, enumerate_from, range_with_len, int_eq, ℤ, pos, ◌==◌, nat_le, unwrap_or, unsigned_abs, ◌&&◌, result_err, whole_of, decimal_of, spelling, Point, NumberFault, most_coordinate, within_abs, is_from_to, is_node, is_within, is_point, Words, goes_on, all_groups, nodes_read, groups_append, begun_append, word_fault, groups_in, begun_in, word_at, node_groups, number_value, entry_of, by_node, place_in_group, place_by_node, nodes_of_groups, point_in, space_point_in, number, node, reads_as, Place, NodeAfter, Amount, PastGroups, Coordinate, wants_more}
use Rattle.std.proofs.lemmas.List.FromFn.{map-range_with_len_more}
use Rattle.tsp_format.specs.Nodes.{nodes_to}
use Rattle.tsp_read.proofs.GroupSteps.{le_times}
use Rattle.tsp_read.proofs.NumbersReadBack.{NumberLaws, node_back, signed_plain, no_rows, spelling_plain}
use Rattle.tsp_read.proofs.Onto.{AllTaken, taken-append}
use Rattle.tsp_read.proofs.Text.{is_plain_word}

-- ---- numbers apart

apart : (a b : ℕ) → a < b → int_eq (pos a) (pos b) ≡ false
apart a b less = false_from_ne_true (int_eq (pos a) (pos b)) (λ e.
    let z : (let x : ℤ = pos a in x ≡ pos b) = (Decides-int_eq (pos a) (pos b)).0 e in
    let same : a ≡ b = cc in
    absurd (omega arith))

apart_back : (a b : ℕ) → b < a → int_eq (pos a) (pos b) ≡ false
apart_back a b less = false_from_ne_true (int_eq (pos a) (pos b)) (λ e.
    let z : (let x : ℤ = pos a in x ≡ pos b) = (Decides-int_eq (pos a) (pos b)).0 e in
    let same : a ≡ b = cc in
    absurd (omega arith))

-- a node that none of a range is
pub new_node : (k a len : ℕ) → a + len ≤ k → list_any (λ z. int_eq (pos k) z) (map pos (range_with_len a len)) ≡ false
new_node k a zero room = refl
new_node k a (suc len) room =
    or_from (int_eq (pos k) (pos a)) (list_any (λ z. int_eq (pos k) z) (map pos (range_with_len (a + 1) len))) (apart_back k a (omega arith)) (new_node k (a + 1) len (omega arith))

-- ---- the list by node

abbrev pub tagged : {X : Type 0} → ℕ × X → ℤ × X
tagged entry = (pos entry.0, entry.1)

first_skipped : {X : Type 0} (missing : X) (a : ℕ) (x : X) (groups : List (ℤ × X)) (k len : ℕ) → a < k
    → map (λ i. unwrap_or (entry_of ((pos a, x) ∷ groups) (pos i)) missing) (range_with_len k len) ≡ map (λ i. unwrap_or (entry_of groups (pos i)) missing) (range_with_len k len)
first_skipped missing a x groups k zero less = refl
first_skipped {X} missing a x groups k (suc len) less =
    let rest = map (λ i. unwrap_or (entry_of ((pos a, x) ∷ groups) (pos i)) missing) (range_with_len (k + 1) len) in
    ap (λ b. unwrap_or (cond b (Some x) (entry_of groups (pos k))) missing ∷ rest) (apart a k less)
    ∙ ap (λ (xs : List X). unwrap_or (entry_of groups (pos k)) missing ∷ xs) (first_skipped missing a x groups (k + 1) len (omega arith))

entries_back : {X : Type 0} (missing : X) (k : ℕ) (xs : List X)
    → map (λ i. unwrap_or (entry_of (map tagged (enumerate_from k xs)) (pos i)) missing) (range_with_len k (length xs)) ≡ xs
entries_back missing k [] = refl
entries_back {X} missing k (x ∷ xs) =
    let groups : List (ℤ × X) = map tagged (enumerate_from (k + 1) xs) in
    let rest = map (λ i. unwrap_or (entry_of ((pos k, x) ∷ groups) (pos i)) missing) (range_with_len (k + 1) (length xs)) in
    ap (λ b. unwrap_or (cond b (Some x) (entry_of groups (pos k))) missing ∷ rest) ((Decides-int_eq (pos k) (pos k)).1 refl)
    ∙ ap (λ (ys : List X). x ∷ ys) (first_skipped missing k x groups (k + 1) (length xs) (omega arith) ∙ entries_back missing (k + 1) xs)

pub by_node_back : {X : Type 0} (missing : X) (n : ℕ) (xs : List X) (groups : List (ℤ × X)) → length xs ≡ n
    → groups ≡ map tagged (enumerate_from 1 xs) → by_node missing n groups ≡ xs
unfolding nodes_to
by_node_back {X} missing n xs groups count are =
    ap (λ (gs : List (ℤ × X)). by_node missing n gs) are
    ∙ ap (λ m. map (λ i. unwrap_or (entry_of (map tagged (enumerate_from 1 xs)) (pos i)) missing) (range_with_len 1 m)) (sym count) ∙ entries_back missing 1 xs

-- ---- words of values

abbrev pub entry_words : {X : Type 0} → (X → Words) → ℕ × X → Words
entry_words spell entry = decimal entry.0 ∷ spell entry.1

-- words without a fault at this place
abbrev pub AreClean : ℕ → Place → Words → Type 0
AreClean n place [] = Unit {0}
AreClean n place (word ∷ words) = (word_fault n place word ≡ None) × AreClean n place words

-- what the words of a value are, in a section of groups of this size
pub record AreSpelled {X : Type 0} (size : ℕ) (value : Words → X) (number_place : Place) (n : ℕ) (fits : X → Bool) (spell : X → Words) : Type 0 where
  pub some : (x : X) → 0 < length (spell x)
  pub sized : (x : X) → 1 + length (spell x) ≡ size
  pub one : (first : List ℕ) (x : X) → (groups_in size (first ∷ spell x) ≡ (first ∷ spell x) ∷ []) × (begun_in size (first ∷ spell x) ≡ [])
  pub clean : (x : X) → fits x ≡ true → AreClean n number_place (spell x)
  pub back : (first : List ℕ) (x : X) → fits x ≡ true → value (first ∷ spell x) ≡ x
  pub plain : (x : X) → fits x ≡ true → list_all is_plain_word (spell x) ≡ true

pub one_node : (n i : ℕ) → i + 1 ≤ n → is_node n (i + 1) ≡ true
one_node n i room = and_from (nat_le 1 (i + 1)) (nat_le (i + 1) n) (le-leb 1 (i + 1) (omega arith)) (le-leb (i + 1) n room)

module _ {X : Type 0} {size : ℕ} {value : Words → X} {number_place : Place} {n : ℕ} {fits : X → Bool} {spell : X → Words} (spelled : AreSpelled size value number_place n fits spell)
    (laws : NumberLaws) (few : n < 2 ^ 32) where
  place_here : (words begun : Words) → length words < size * n → begun_in size words ≡ begun
      → place_by_node size number_place (node_groups size value n words) n words ≡ place_in_group number_place (nodes_of_groups (node_groups size value n words)) begun
  place_here words begun room is = rw (lt-leb (size * n) (length words) room, is) refl

  -- the words of a value, in a group that has begun
  value_taken : (earlier : Words) (first : List ℕ) (rest words : Words) → begun_in size earlier ≡ first ∷ rest → length (first ∷ rest) + length words ≡ size
      → length earlier + length words ≤ size * n → AreClean n number_place words
      → AllTaken n (λ ws. place_by_node size number_place (node_groups size value n ws) n ws) earlier words
  value_taken earlier first rest [] begun whole room clean = tt
  value_taken earlier first rest (word ∷ []) begun whole room clean =
      (ap (λ p. word_fault n p word) (place_here earlier (first ∷ rest) (omega (arith, room)) begun) ∙ clean.0, tt)
  value_taken earlier first rest (word ∷ other ∷ words) begun whole room clean =
      let on : (length (first ∷ rest) + 1 == size) ≡ false = ne_eqb (length (first ∷ rest) + 1) size (λ e. absurd (omega (arith, e, whole))) in
      let next = (goes_on size earlier (first ∷ rest) word begun on).1 in (
        ap (λ p. word_fault n p word) (place_here earlier (first ∷ rest) (omega (arith, room)) begun) ∙ clean.0,
        value_taken (earlier ++ word ∷ []) first (rest ++ word ∷ []) (other ∷ words) next (omega (arith, length_push rest word, whole)) (omega (arith, length_push earlier word, room)) clean.1,
      )

  -- plan: by induction over the values: each node is a new one (`new_node`), and the words of its value are taken
  -- (`value_taken`)
  pub values_taken : (earlier : Words) (i : ℕ) (xs : List X) → begun_in size earlier ≡ []
      → map (λ group. number (node n (word_at group 0))) (groups_in size earlier) ≡ map pos (range_with_len 1 i) → length earlier ≡ size * i
      → i + length xs ≤ n → list_all fits xs ≡ true
      → AllTaken n (λ ws. place_by_node size number_place (node_groups size value n ws) n ws) earlier (flat_map (entry_words spell) (enumerate_from (i + 1) xs))
  values_taken earlier i [] whole nodes count room all = tt
  values_taken earlier i (x ∷ xs) whole nodes count room all =
      let both = and_parts (fits x) (list_all fits xs) all in
      let a = decimal (i + 1) in
      let words = a ∷ spell x in
      let is = one_node n i (omega arith) in
      let read = node_back laws n (i + 1) few is in
      let sized = spelled.sized x in
      let more = le_times size (i + 1) n (omega arith) in
      let short : length earlier < size * n = omega (arith, sized, count, more) in
      let place_is : place_by_node size number_place (node_groups size value n earlier) n earlier ≡ NodeAfter (map pos (range_with_len 1 i)) =
      place_here earlier [] short whole
      ∙ ap (λ nodes_so_far. NodeAfter nodes_so_far) (ap nodes_of_groups (all_groups size value n earlier (omega (arith, short))) ∙ nodes_read value n (groups_in size earlier) ∙ nodes) in
      let begun = (goes_on size earlier [] a whole (ne_eqb 1 size (λ e. absurd (omega (arith, e, sized, spelled.some x))))).1 in
      let f : Words → ℤ = λ group. number (node n (word_at group 0)) in
      let groups : groups_in size (earlier ++ words) ≡ groups_in size earlier ++ words ∷ [] =
      groups_append size earlier words whole ∙ ap (λ (gs : List Words). groups_in size earlier ++ gs) (spelled.one a x).0 in
      let nodes_more : map f (groups_in size (earlier ++ words)) ≡ map pos (range_with_len 1 (i + 1)) =
      ap (map f) groups ∙ map_push f (groups_in size earlier) words ∙ ap (λ (zs : List ℤ). zs ++ number (node n a) ∷ []) nodes
      ∙ ap (λ r. map pos (range_with_len 1 i) ++ number r ∷ []) read ∙ sym (map-range_with_len_more pos 1 i (i + 1) (omega arith)) in
      taken-append n (λ ws. place_by_node size number_place (node_groups size value n ws) n ws) earlier words (flat_map (entry_words spell) (enumerate_from (i + 1 + 1) xs)) (
        ap (λ p. word_fault n p a) place_is
            ∙ no_rows (result_err (node n a)) (list_any (λ e. reads_as e (node n a)) (map pos (range_with_len 1 i))) false false false (ap (λ (r : Result ℤ NumberFault). result_err r) read)
            (ap (λ (r : Result ℤ NumberFault). list_any (λ e. reads_as e r) (map pos (range_with_len 1 i))) read ∙ new_node (i + 1) 1 i (omega arith)) refl refl refl,
        value_taken (earlier ++ a ∷ []) a [] (spell x) begun sized (omega (arith, length_push earlier a, sized, count, more)) (spelled.clean x both.0),
      ) (values_taken (earlier ++ words) (i + 1) xs (begun_append size earlier words whole ∙ (spelled.one a x).1) nodes_more
      (omega (arith, length-append earlier words, sized, count)) (omega arith) both.1)

  values_read : (i : ℕ) (xs : List X) → i + length xs ≤ n → list_all fits xs ≡ true
      → map (λ group. (number (node n (word_at group 0)), value group)) (groups_in size (flat_map (entry_words spell) (enumerate_from (i + 1) xs))) ≡ map tagged (enumerate_from (i + 1) xs)
  values_read i [] room all = refl
  values_read i (x ∷ xs) room all =
      let both = and_parts (fits x) (list_all fits xs) all in
      let a = decimal (i + 1) in
      let f : Words → ℤ × X = λ group. (number (node n (word_at group 0)), value group) in
      let rest = flat_map (entry_words spell) (enumerate_from (i + 1 + 1) xs) in
      ap (map f) (groups_append size (a ∷ spell x) rest (spelled.one a x).1 ∙ ap (λ (gs : List Words). gs ++ groups_in size rest) (spelled.one a x).0)
      ∙ ap (λ (z : ℤ). (z, value (a ∷ spell x)) ∷ map f (groups_in size rest)) (ap number (node_back laws n (i + 1) few (one_node n i (omega arith))))
      ∙ ap (λ (y : X). (pos (i + 1), y) ∷ map f (groups_in size rest)) (spelled.back a x both.0)
      ∙ ap (λ (gs : List (ℤ × X)). (pos (i + 1), x) ∷ gs) (values_read (i + 1) xs (omega arith) both.1)

  count_of_words : (k : ℕ) (xs : List X) → length (flat_map (entry_words spell) (enumerate_from k xs)) ≡ size * length xs
  count_of_words k [] = omega arith
  count_of_words k (x ∷ xs) =
      omega (arith, length-append (decimal k ∷ spell x) (flat_map (entry_words spell) (enumerate_from (k + 1) xs)), count_of_words (k + 1) xs, spelled.sized x)

  pub values_back : (missing : X) (xs : List X) → length xs ≡ n → list_all fits xs ≡ true
      → by_node missing n (node_groups size value n (flat_map (entry_words spell) (enumerate_from 1 xs))) ≡ xs
  values_back missing xs count all =
      let words = flat_map (entry_words spell) (enumerate_from 1 xs) in
      by_node_back missing n xs (node_groups size value n words) count
      (all_groups size value n words (omega (arith, count_of_words 1 xs, le_times size (length xs) n (omega (arith, count)))) ∙ values_read 0 xs (omega arith) all)

  -- no group is left to come
  pub values_done : (xs : List X) → length xs ≡ n
      → (let words : Words = flat_map (entry_words spell) (enumerate_from 1 xs) in wants_more (place_by_node size number_place (node_groups size value n words) n words) ≡ false)
  values_done xs count =
      let words = flat_map (entry_words spell) (enumerate_from 1 xs) in
      ap (λ b. wants_more (cond b PastGroups (place_in_group number_place (nodes_of_groups (node_groups size value n words)) (begun_in size words))))
      (le-leb (size * n) (length words) (omega (arith, count_of_words 1 xs, le_times size n (length xs) (omega (arith, count)))))

-- ---- numbers

abbrev pub number_words : ℤ → Words
number_words z = signed_decimal z ∷ []

-- all numbers of the range can be written
abbrev pub AreSmall : ℤ → ℤ → Type 0
AreSmall low high = (z : ℤ) → is_from_to low high z ≡ true → unsigned_abs z < 2 ^ 63

pub numbers_spelled : NumberLaws → (low high : ℤ) → AreSmall low high → (n : ℕ)
    → AreSpelled 2 (number_value low high) (Amount low high) n (is_from_to low high) number_words
numbers_spelled laws low high small n = record {
  some = λ z. omega arith;
  sized = λ z. refl;
  one = λ first z. (refl, refl);
  clean = λ z inside. (
    no_rows (result_err (whole_of (signed_decimal z) low high)) false false false false
        (ap (λ (r : Result ℤ NumberFault). result_err r) (laws.whole_back z low high (small z inside) inside)) refl refl refl refl,
    tt,
  );
  back = λ first z inside. ap number (laws.whole_back z low high (small z inside) inside);
  plain = λ z inside. let fits = small z inside in and_from (is_plain_word (signed_decimal z)) true (signed_plain z (omega (arith, fits))) refl;
}

-- ---- points by node as they are written, of the plane and in space

abbrev pub point_words : Point → Words
point_words p = spelling p.x ∷ spelling p.y ∷ []

abbrev pub space_point_words : Point → Words
space_point_words p = spelling p.x ∷ spelling p.y ∷ spelling p.z ∷ []

-- ---- a coordinate

coordinate_back : NumberLaws → (z : ℤ) → is_within most_coordinate z ≡ true → decimal_of (spelling z) ≡ Ok z
coordinate_back laws z inside = laws.decimal_back z (within_abs most_coordinate z inside)

coordinate_clean : NumberLaws → (n : ℕ) (z : ℤ) → is_within most_coordinate z ≡ true → word_fault n Coordinate (spelling z) ≡ None
coordinate_clean laws n z inside =
    no_rows (result_err (decimal_of (spelling z))) false false false false (ap (λ (r : Result ℤ NumberFault). result_err r) (coordinate_back laws z inside)) refl refl refl refl

coordinate_plain : (z : ℤ) → is_within most_coordinate z ≡ true → is_plain_word (spelling z) ≡ true
coordinate_plain z inside =
    let small = within_abs most_coordinate z inside in
    spelling_plain z (omega (arith, small))

both_plain : (x y : ℤ) (more : Words) → is_within most_coordinate x ≡ true → is_within most_coordinate y ≡ true → list_all is_plain_word more ≡ true
    → list_all is_plain_word (spelling x ∷ spelling y ∷ more) ≡ true
both_plain x y more first second plain =
    and_from (is_plain_word (spelling x)) (list_all is_plain_word (spelling y ∷ more)) (coordinate_plain x first)
    (and_from (is_plain_word (spelling y)) (list_all is_plain_word more) (coordinate_plain y second) plain)

-- ---- points

record IsFlat (p : Point) : Type 0 where
  first : is_within most_coordinate p.x ≡ true
  second : is_within most_coordinate p.y ≡ true
  third : p.z ≡ pos 0

is_flat : (p : Point) → is_point false p ≡ true → IsFlat p
is_flat p fits =
    let flat = and_parts (is_within most_coordinate p.x && is_within most_coordinate p.y) (int_eq p.z (pos 0)) fits in
    let inside = and_parts (is_within most_coordinate p.x) (is_within most_coordinate p.y) flat.0 in
    record { first = inside.0; second = inside.1; third = (Decides-int_eq p.z (pos 0)).0 flat.1 }

record IsInSpace (p : Point) : Type 0 where
  first : is_within most_coordinate p.x ≡ true
  second : is_within most_coordinate p.y ≡ true
  third : is_within most_coordinate p.z ≡ true

is_in_space : (p : Point) → is_point true p ≡ true → IsInSpace p
is_in_space p fits =
    let all = and_parts (is_within most_coordinate p.x && is_within most_coordinate p.y) (is_within most_coordinate p.z) fits in
    let inside = and_parts (is_within most_coordinate p.x) (is_within most_coordinate p.y) all.0 in
    record { first = inside.0; second = inside.1; third = all.1 }

made : ℤ → ℤ → ℤ → Point
made a b c = record { x = a; y = b; z = c }

pub points_spelled : NumberLaws → (n : ℕ) → AreSpelled 3 point_in Coordinate n (is_point false) point_words
unfolding made
points_spelled laws n = record {
  some = λ p. omega arith;
  sized = λ p. refl;
  one = λ first p. (refl, refl);
  clean = λ p fits. let is = is_flat p fits in (coordinate_clean laws n p.x is.first, (coordinate_clean laws n p.y is.second, tt));
  back = λ first p fits.
      let is = is_flat p fits in
      ap₂ (λ a b. made a b (pos 0)) (ap number (coordinate_back laws p.x is.first)) (ap number (coordinate_back laws p.y is.second)) ∙ ap (made p.x p.y) (sym is.third);
  plain = λ p fits. let is = is_flat p fits in both_plain p.x p.y [] is.first is.second refl;
}

pub space_points_spelled : NumberLaws → (n : ℕ) → AreSpelled 4 space_point_in Coordinate n (is_point true) space_point_words
unfolding made
space_points_spelled laws n = record {
  some = λ p. omega arith;
  sized = λ p. refl;
  one = λ first p. (refl, refl);
  clean = λ p fits.
      let is = is_in_space p fits in
      (coordinate_clean laws n p.x is.first, (coordinate_clean laws n p.y is.second, (coordinate_clean laws n p.z is.third, tt)));
  back = λ first p fits.
      let is = is_in_space p fits in
      ap₂ (λ a b. made a b (number (decimal_of (spelling p.z)))) (ap number (coordinate_back laws p.x is.first)) (ap number (coordinate_back laws p.y is.second))
      ∙ ap (made p.x p.y) (ap number (coordinate_back laws p.z is.third));
  plain = λ p fits.
      let is = is_in_space p fits in
      both_plain p.x p.y (spelling p.z ∷ []) is.first is.second (and_from (is_plain_word (spelling p.z)) true (coordinate_plain p.z is.third) refl);
}
