-- How long numbers, lines and sections of a canonical text are at most; FieldLengths.antt adds them up. tsp_cost and
-- tsp_read import it, too.
use Rattle.tsp_file.proofs.Prelude.{◌≡◌, ◌≢◌, ◌∙◌, ℕ, refl, sym, ap, subst, ◌+◌, ◌*◌, ◌^◌, ◌<◌, ◌≤◌, Bool, true, false, List, ◌∷◌, ◌++◌, length, take, drop, map, arith, ℤ, length-append, and_parts, leb-true, false≢true, ints, take-append-drop, list_all-append, flat_map-map, sum_by-cons, decimal, signed_decimal, flat_map, list_all, enumerate_from, sum_by, pos, unsigned_abs, Some, Option, unwrap_or, [], ◌&&◌, nat_le, codes, Point, most_nodes, most_weight}
use Rattle.std.proofs.lemmas.Fmt.{length-decimal-le, length_signed_le}
use Rattle.std.specs.Int.Signed.{mag}
use Rattle.tsp_number.specs.Distances.{IsEuc2d, IsCeil2d, IsMan2d, IsMax2d, IsAtt, IsEuc3d, IsMan3d, IsMax3d, euc_2d_of, ceil_2d_of, man_2d_of, max_2d_of, att_of, euc_3d_of, man_3d_of, max_3d_of, IsDistance, IsDistanceInSpace}
use Rattle.tsp_format.specs.declared.kinds.WeightKind.{WeightKind}
use Rattle.tsp_format.specs.declared.kinds.WeightKind.TheVariants.{Explicit, Euc2d, Ceil2d, Man2d, Max2d, Att, Euc3d, Man3d, Max3d}
use Rattle.tsp_file.specs.ByInequalities.{IsDistanceBy}
use Rattle.tsp_file.specs.CanonicalText.{line_end, number_line, lines_by_node, ended_by_mark, node_list, pair_list, triple_list, weight_line, matrix_lines}
use Rattle.tsp_file.specs.Cost.{distance, cost_by, cost, point_of}
use Rattle.tsp_file.specs.Fields.{Fields}
use Rattle.tsp_file.specs.Validity.{is_from_to, is_within, is_node, is_node_list}

-- the laws of all eight distances
pub record DistanceLaws : Type 0 where
  pub euc : IsDistance IsEuc2d euc_2d_of
  pub ceil : IsDistance IsCeil2d ceil_2d_of
  pub man : IsDistance IsMan2d man_2d_of
  pub max : IsDistance IsMax2d max_2d_of
  pub att : IsDistance IsAtt att_of
  pub euc_in_space : IsDistanceInSpace IsEuc3d euc_3d_of
  pub man_in_space : IsDistanceInSpace IsMan3d man_3d_of
  pub max_in_space : IsDistanceInSpace IsMax3d max_3d_of

-- each distance is symmetric
pub distance_symmetric : DistanceLaws → (kind : WeightKind) (a b : Point) → distance kind a b ≡ distance kind b a
unfolding distance
distance_symmetric laws Explicit a b = refl
distance_symmetric laws Euc2d a b = ap pos (laws.euc.symmetric a b)
distance_symmetric laws Ceil2d a b = ap pos (laws.ceil.symmetric a b)
distance_symmetric laws Man2d a b = ap pos (laws.man.symmetric a b)
distance_symmetric laws Max2d a b = ap pos (laws.max.symmetric a b)
distance_symmetric laws Att a b = ap pos (laws.att.symmetric a b)
distance_symmetric laws Euc3d a b = ap pos (laws.euc_in_space.symmetric a b)
distance_symmetric laws Man3d a b = ap pos (laws.man_in_space.symmetric a b)
distance_symmetric laws Max3d a b = ap pos (laws.max_in_space.symmetric a b)

-- the distance has its inequalities
pub distance_defined : DistanceLaws → (kind : WeightKind) (a b : Point) → kind ≢ Explicit
    → IsDistanceBy kind a b (unsigned_abs (distance kind a b))
unfolding distance
distance_defined laws Explicit a b other = absurd (other refl)
distance_defined laws Euc2d a b other = laws.euc.defined a b
distance_defined laws Ceil2d a b other = laws.ceil.defined a b
distance_defined laws Man2d a b other = laws.man.defined a b
distance_defined laws Max2d a b other = laws.max.defined a b
distance_defined laws Att a b other = laws.att.defined a b
distance_defined laws Euc3d a b other = laws.euc_in_space.defined a b
distance_defined laws Man3d a b other = laws.man_in_space.defined a b
distance_defined laws Max3d a b other = laws.max_in_space.defined a b

-- and no other number has them
pub distance_unique : DistanceLaws → (kind : WeightKind) (a b : Point) (k : ℕ) → IsDistanceBy kind a b k
    → distance kind a b ≡ pos k
unfolding distance
distance_unique laws Explicit a b k is = absurd is
distance_unique laws Euc2d a b k is = ap pos (sym (laws.euc.unique a b k is))
distance_unique laws Ceil2d a b k is = ap pos (sym (laws.ceil.unique a b k is))
distance_unique laws Man2d a b k is = ap pos (sym (laws.man.unique a b k is))
distance_unique laws Max2d a b k is = ap pos (sym (laws.max.unique a b k is))
distance_unique laws Att a b k is = ap pos (sym (laws.att.unique a b k is))
distance_unique laws Euc3d a b k is = ap pos (sym (laws.euc_in_space.unique a b k is))
distance_unique laws Man3d a b k is = ap pos (sym (laws.man_in_space.unique a b k is))
distance_unique laws Max3d a b k is = ap pos (sym (laws.max_in_space.unique a b k is))

-- so is the cost of an instance
cost_of_points : (f : Fields) (kind : WeightKind) (i j : ℕ) → kind ≢ Explicit
    → cost_by (Some kind) f i j ≡ distance kind (point_of (unwrap_or f.coords []) i) (point_of (unwrap_or f.coords []) j)
cost_of_points f Explicit i j other = absurd (other refl)
cost_of_points f Euc2d i j other = refl
cost_of_points f Ceil2d i j other = refl
cost_of_points f Man2d i j other = refl
cost_of_points f Max2d i j other = refl
cost_of_points f Att i j other = refl
cost_of_points f Euc3d i j other = refl
cost_of_points f Man3d i j other = refl
cost_of_points f Max3d i j other = refl

cost_is : (f : Fields) (kind : WeightKind) (i j : ℕ) → f.weight_kind ≡ Some kind → kind ≢ Explicit
    → cost f i j ≡ distance kind (point_of (unwrap_or f.coords []) i) (point_of (unwrap_or f.coords []) j)
unfolding cost
cost_is f kind i j is other = ap (λ (k : Option WeightKind). cost_by k f i j) is ∙ cost_of_points f kind i j other

pub cost_defined : DistanceLaws → (f : Fields) (kind : WeightKind) (i j : ℕ) → f.weight_kind ≡ Some kind → kind ≢ Explicit
    → IsDistanceBy kind (point_of (unwrap_or f.coords []) i) (point_of (unwrap_or f.coords []) j) (unsigned_abs (cost f i j))
cost_defined laws f kind i j is other =
    let a : Point = point_of (unwrap_or f.coords []) i in
    let b : Point = point_of (unwrap_or f.coords []) j in
    subst (λ z. IsDistanceBy kind a b (unsigned_abs z)) (sym (cost_is f kind i j is other)) (distance_defined laws kind a b other)

pub cost_unique : DistanceLaws → (f : Fields) (kind : WeightKind) (i j k : ℕ) → f.weight_kind ≡ Some kind
    → IsDistanceBy kind (point_of (unwrap_or f.coords []) i) (point_of (unwrap_or f.coords []) j) k
    → cost f i j ≡ pos k
cost_unique laws f kind i j k is own =
    let a : Point = point_of (unwrap_or f.coords []) i in
    let b : Point = point_of (unwrap_or f.coords []) j in
    let other : kind ≢ Explicit = λ same. subst (λ (w : WeightKind). IsDistanceBy w a b k) same own in
    cost_is f kind i j is other ∙ distance_unique laws kind a b k own

-- ---- the lengths of numbers, of lines of numbers and of sections with these

-- from three tests that all pass to their statements
pub three_parts : (a b c : Bool) → (a && b && c) ≡ true → (a ≡ true) × (b ≡ true) × (c ≡ true)
three_parts true true true e = (refl, refl, refl)
three_parts true true false e = absurd (false≢true e)
three_parts true false c e = absurd (false≢true e)
three_parts false b c e = absurd (false≢true e)

-- ---- numbers

from_to_size : (low most : ℕ) (z : ℤ) → is_from_to (pos low) (pos most) z ≡ true → mag z ≤ most
from_to_size low most z fits = grind (arith, ints)

between_size : (low high : ℤ) (most : ℕ) (z : ℤ) → unsigned_abs low ≤ most → unsigned_abs high ≤ most
    → is_from_to low high z ≡ true → mag z ≤ most
between_size low high most z lower upper fits = grind (arith, ints)

within_size : (most : ℕ) (z : ℤ) → is_within most z ≡ true → mag z ≤ most
within_size most z fits = grind (arith, ints)

pub within_abs : (most : ℕ) (z : ℤ) → is_within most z ≡ true → unsigned_abs z ≤ most
within_abs most z fits = grind (arith, ints)

-- a number whose size is below 10^digits has this many digits at most, and maybe a sign
signed_short : (digits most : ℕ) (z : ℤ) → most + 1 < 10 ^ digits → most < 2 ^ 63 → mag z ≤ most
    → length (signed_decimal z) ≤ digits + 1
signed_short digits most z few small size = length_signed_le digits z (omega (arith, few, size)) (omega (arith, small, size))

pub positive_short : (digits low most : ℕ) (z : ℤ) → most + 1 < 10 ^ digits → most < 2 ^ 63
    → is_from_to (pos low) (pos most) z ≡ true → length (signed_decimal z) ≤ digits + 1
positive_short digits low most z few small fits = signed_short digits most z few small (from_to_size low most z fits)

-- a number between two of at most this size
pub between_short : (digits : ℕ) (low high : ℤ) (most : ℕ) (z : ℤ) → unsigned_abs low ≤ most → unsigned_abs high ≤ most
    → most + 1 < 10 ^ digits → most < 2 ^ 63 → is_from_to low high z ≡ true
    → length (signed_decimal z) ≤ digits + 1
between_short digits low high most z lower upper few small fits =
    signed_short digits most z few small (between_size low high most z lower upper fits)

pub within_short : (digits most : ℕ) (z : ℤ) → most + 1 < 10 ^ digits → most < 2 ^ 63 → is_within most z ≡ true
    → length (signed_decimal z) ≤ digits + 1
within_short digits most z few small fits = signed_short digits most z few small (within_size most z fits)

-- a number of at most 100,000
pub decimal_short : (n : ℕ) → n ≤ most_nodes → length (decimal n) ≤ 6
decimal_short n most = length-decimal-le 6 n (omega arith) (omega arith) (omega arith)

pub node_short : (n node : ℕ) → n ≤ most_nodes → is_node n node ≡ true → length (decimal node) ≤ 6
node_short n node most fits =
    let parts = and_parts (nat_le 1 node) (nat_le node n) fits in
    decimal_short node (omega (arith, most, leb-true node n parts.1))

-- ---- lists of texts

-- this many texts, each of at most k bytes
pub flat_short : {A : Type 0} (fits : A → Bool) (text : A → List ℕ) (k : ℕ) → ((x : A) → fits x ≡ true → length (text x) ≤ k)
    → (xs : List A) → list_all fits xs ≡ true
    → length (flat_map text xs) ≤ k * length xs
flat_short fits text k each [] all = omega arith
flat_short fits text k each (x ∷ xs) all =
    let parts = and_parts (fits x) (list_all fits xs) all in
    omega (arith, length-append (text x) (flat_map text xs), each x parts.0, flat_short fits text k each xs parts.1)

-- the same, if at most `most` of them are present
pub flat_short_of : {A : Type 0} (fits : A → Bool) (text : A → List ℕ) (k most : ℕ)
    → ((x : A) → fits x ≡ true → length (text x) ≤ k) → (xs : List A) → list_all fits xs ≡ true
    → length xs ≤ most → length (flat_map text xs) ≤ k * most
flat_short_of fits text k most each xs all few = grind (arith, flat_short fits text k each xs all)

-- one line for each node, with at most k bytes after the node
numbered_short : {A : Type 0} (fits : A → Bool) (numbers : A → List (List ℕ)) (k : ℕ)
    → ((x : A) → fits x ≡ true → length (number_line [] (numbers x)) ≤ k) → (start : ℕ) (xs : List A)
    → start + length xs ≤ most_nodes + 1 → list_all fits xs ≡ true
    → length (flat_map (λ (entry : ℕ × A). number_line (decimal entry.0) (numbers entry.1)) (enumerate_from start xs)) ≤ (6 + k)
    * length xs
numbered_short fits numbers k each start [] few all = omega arith
numbered_short {A} fits numbers k each start (x ∷ xs) few all =
    let line : ℕ × A → List ℕ = λ (entry : ℕ × A). number_line (decimal entry.0) (numbers entry.1) in
    let parts = and_parts (fits x) (list_all fits xs) all in
    let node = decimal_short start (omega arith) in
    let first = length-append (decimal start) (number_line [] (numbers x)) in
    let both = length-append (line (start, x)) (flat_map line (enumerate_from (start + 1) xs)) in
    let others = numbered_short fits numbers k each (start + 1) xs (omega arith) parts.1 in
    omega (arith, first, node, each x parts.0, both, others)

pub by_node_short : {A : Type 0} (fits : A → Bool) (numbers : A → List (List ℕ)) (k : ℕ)
    → ((x : A) → fits x ≡ true → length (number_line [] (numbers x)) ≤ k) → (xs : List A)
    → length xs ≤ most_nodes → list_all fits xs ≡ true → length (lines_by_node numbers xs) ≤ (6 + k) * most_nodes
by_node_short fits numbers k each xs few all =
    let all_lines = numbered_short fits numbers k each 1 xs (omega arith) all in
    grind (arith, all_lines, few)

-- ---- lists of numbers

-- lines of at most k bytes, and the line of the -1
ended_short : {A : Type 0} (fits : A → Bool) (line : A → List ℕ) (k : ℕ) → ((x : A) → fits x ≡ true → length (line x) ≤ k)
    → (xs : List A) → list_all fits xs ≡ true
    → length (ended_by_mark (flat_map line xs)) ≤ k * length xs + 3
ended_short fits line k each xs all =
    grind (arith, length-append (flat_map line xs) (codes "-1" ++ line_end), flat_short fits line k each xs all)

pub node_list_short : (fits : ℕ → Bool) → ((node : ℕ) → fits node ≡ true → length (decimal node) ≤ 6) → (nodes : List ℕ)
    → list_all fits nodes ≡ true
    → length (node_list nodes) ≤ 7 * length nodes + 3
node_list_short fits short nodes all =
    let line : ℕ → List ℕ = λ node. number_line (decimal node) [] in
    ended_short fits line 7 (λ node fit. omega (arith, length-append (decimal node) line_end, short node fit)) nodes all

pub line_of_two_short : (a b : List ℕ) → (length a ≤ 6) × (length b ≤ 6) → length (number_line a (b ∷ [])) ≤ 14
line_of_two_short a b short =
    omega (
      arith,
      length-append a (flat_map (λ (text : List ℕ). 32 ∷ text) (b ∷ []) ++ line_end),
      length-append (32 ∷ b) [],
      length-append ((32 ∷ b) ++ []) line_end,
      short.0,
      short.1,
    )

pub pair_list_short : (fits : ℕ × ℕ → Bool)
    → ((pair : ℕ × ℕ) → fits pair ≡ true → (length (decimal pair.0) ≤ 6) × (length (decimal pair.1) ≤ 6)) → (pairs : List (ℕ × ℕ))
    → list_all fits pairs ≡ true
    → length (pair_list pairs) ≤ 14 * length pairs + 3
pair_list_short fits short pairs all =
    let line : ℕ × ℕ → List ℕ = λ pair. number_line (decimal pair.0) (decimal pair.1 ∷ []) in
    ended_short fits line 14 (λ pair fit. line_of_two_short (decimal pair.0) (decimal pair.1) (short pair fit)) pairs all

line_of_three_short : (a b c : List ℕ) → (length a ≤ 6) × (length b ≤ 6) × (length c ≤ 17)
    → length (number_line a (b ∷ c ∷ [])) ≤ 32
line_of_three_short a b c short =
    let more : List ℕ = (32 ∷ c) ++ [] in
    omega (
      arith,
      length-append a (((32 ∷ b) ++ more) ++ line_end),
      length-append ((32 ∷ b) ++ more) line_end,
      length-append (32 ∷ b) more,
      length-append (32 ∷ c) [],
      short.0,
      short.1,
      short.2,
    )

pub triple_list_short : (fits : ℕ × ℕ × ℤ → Bool)
    → ((triple : ℕ × ℕ × ℤ) → fits triple ≡ true
    → (length (decimal triple.0) ≤ 6) × (length (decimal triple.1) ≤ 6) × (length (signed_decimal triple.2) ≤ 17))
    → (triples : List (ℕ × ℕ × ℤ)) → list_all fits triples ≡ true → length (triple_list triples) ≤ 32 * length triples + 3
triple_list_short fits short triples all =
    let line : ℕ × ℕ × ℤ → List ℕ = λ triple. number_line (decimal triple.0) (decimal triple.1 ∷ signed_decimal triple.2 ∷ []) in
    ended_short fits line 32
    (λ triple fit. line_of_three_short (decimal triple.0) (decimal triple.1) (signed_decimal triple.2) (short triple fit)) triples
    all

-- a tour has a node, so there are no more lines -1 than nodes
tour_short : (tour : List ℕ) → is_node_list tour ≡ true → length (node_list tour) ≤ 10 * length tour
tour_short tour fits =
    let parts = and_parts (nat_le 1 (length tour)) (list_all (is_node most_nodes) tour) fits in
    let some = leb-true 1 (length tour) parts.0 in
    omega (
      arith,
      some,
      node_list_short (is_node most_nodes) (λ node fit. node_short most_nodes node (omega arith) fit) tour
          parts.1,
    )

pub tours_short : (tours : List (List ℕ)) → list_all is_node_list tours ≡ true
    → length (flat_map node_list tours) ≤ 10 * sum_by length tours
tours_short [] all = omega arith
tours_short (tour ∷ tours) all =
    let parts = and_parts (is_node_list tour) (list_all is_node_list tours) all in
    let sum : sum_by length (tour ∷ tours) ≡ length tour + sum_by length tours = sum_by-cons length tour tours in
    omega (
      arith,
      length-append (node_list tour) (flat_map node_list tours),
      tour_short tour parts.0,
      tours_short tours parts.1,
      sum,
    )

-- ---- weights

-- each weight has at most 14 bytes, and one byte after it
weight_short : (weight : ℤ) → is_within most_weight weight ≡ true → length (signed_decimal weight) ≤ 14
weight_short weight fits = within_short 13 most_weight weight (omega arith) (omega arith) fits

weight_line_short : (weights : List ℤ) → list_all (is_within most_weight) weights ≡ true
    → length (weight_line weights) ≤ 15 * length weights
weight_line_short [] all = omega arith
weight_line_short (first ∷ rest) all =
    let word : ℤ → List ℕ = λ weight. 32 ∷ signed_decimal weight in
    let parts = and_parts (is_within most_weight first) (list_all (is_within most_weight) rest) all in
    let each : (weight : ℤ) → is_within most_weight weight ≡ true → length (word weight) ≤ 15 =
    λ weight fit. omega (arith, weight_short weight fit) in
    let words = flat_map-map (λ (text : List ℕ). 32 ∷ text) signed_decimal rest in
    let others = flat_short (is_within most_weight) word 15 each rest parts.1 in
    let more = length-append (flat_map (λ (text : List ℕ). 32 ∷ text) (map signed_decimal rest)) line_end in
    omega (
      arith,
      length-append (signed_decimal first)
          (flat_map (λ (text : List ℕ). 32 ∷ text) (map signed_decimal rest) ++ line_end),
      more,
      ap length words,
      others,
      weight_short first parts.0,
    )

pub matrix_lines_short : (lens : List ℕ) (weights : List ℤ) → list_all (is_within most_weight) weights ≡ true
    → length (matrix_lines lens weights) ≤ 15 * length weights
matrix_lines_short [] weights all = weight_line_short weights all
matrix_lines_short (len ∷ lens) weights all =
    let halves : list_all (is_within most_weight) (take len weights ++ drop len weights) ≡ true =
    subst (λ ws. list_all (is_within most_weight) ws ≡ true) (sym (take-append-drop len weights)) all in
    let parts = and_parts (list_all (is_within most_weight) (take len weights))
    (list_all (is_within most_weight) (drop len weights))
    (sym (list_all-append (is_within most_weight) (take len weights) (drop len weights)) ∙ halves) in
    let both : length weights ≡ length (take len weights) + length (drop len weights) =
    ap length (sym (take-append-drop len weights)) ∙ length-append (take len weights) (drop len weights) in
    let line = weight_line_short (take len weights) parts.0 in
    let others = matrix_lines_short lens (drop len weights) parts.1 in
    omega (arith, length-append (weight_line (take len weights)) (matrix_lines lens (drop len weights)), both, line, others)
