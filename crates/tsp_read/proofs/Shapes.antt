-- For each shape of section, written and read back: every word is taken at its place, and none is left to come. Part of
-- the proof of the law `canonical_texts_are_read_back`.
use Rattle.tsp_read.proofs.Prelude.{◌≡◌, ℕ, ◌+◌, ◌*◌, ◌^◌, ◌<◌, ◌≤◌, Bool, true, false, cond, List, [], ◌∷◌, ◌++◌, length, map, refl, ap, arith, Option, ℤ, pos, ◌&&◌, ◌||◌, ◌==◌, nat_le, nat_lt, unsigned_abs, codes, list_all, list_any, flat_map, enumerate_from, sum_by, decimal, signed_decimal, false≢true, and_parts, or_right, leb-true, ltb-true, eqb-true, le-ltb, ints, Point, Field, Shape, Numbers, Points, SpacePoints, Depots, Pairs, Weights, Tours, Triples, Families, Memories, SubsetRows, Steps, most_nodes, most_matrix_nodes, most_weight, most_depots, most_fixed, most_triples, most_tour_nodes, most_families, most_rows, Step, SubsetRow, Fields, numbers_in, points_in, if_there, is_by_node, is_point, is_within, is_from_to, is_node, is_pair_of, is_triple_of, are_depots, are_fixed, are_triples, fit_matrix, is_node_list, are_tours, are_family_lists, are_memory_lists, are_subset_rows, are_tree_steps, with_dimension, section_fits, section_text, lines_by_node, node_list, pair_list, triple_list, family_lines, family_list, row_list, case_tree_lines, coordinate_words, whole_number, line_lens, matrix_lines, optional, text_of_section, is_end, PastEnd, Weight, PastWeights, DepotAfter, weights_in, tours_in, whole_steps, numbers_by_node, points_by_node, space_points_by_node, depots_in, fixed_in, fixed_triples_in, whole_families, whole_memories, whole_rows, place_by, wants_more, needs_nodes, is_matrix}
use Rattle.tsp_file.specs.Cost.{origin}
use Rattle.tsp_read.proofs.Text.{WritesWords}
use Rattle.tsp_read.proofs.NumbersReadBack.{NumberLaws, end_ends, depots_taken, depots_back, weights_taken, weights_back, pair_words, pairs_listed, triple_words, triples_listed}
use Rattle.tsp_read.proofs.Onto.{AllTaken}
use Rattle.tsp_read.proofs.NumbersReadBack as listed
use Rattle.tsp_read.proofs.Groups as by_node
use Rattle.tsp_read.proofs.Groups.{AreSmall, entry_words, number_words, numbers_spelled, point_words, space_point_words, points_spelled, space_points_spelled}
use Rattle.tsp_read.proofs.Words.{tour_words, tours_taken, tours_back, values_written, node_lines_written, tour_lines_written, pair_lines_written, triple_lines_written, matrix_lines_written}
use Rattle.tsp_read.proofs.FamilyWords.{family_words, families_words, families_taken, families_back, families_done, families_written, steps_written}
use Rattle.tsp_read.proofs.MemoryBack.{memories_taken, memories_back, memories_done, memories_written, rows_words, rows_taken, rows_back, rows_done, rows_written}
use Rattle.tsp_read.proofs.TreeWords.{step_words, steps_taken, steps_back, steps_done}

-- ---- what a section of a shape has

abbrev pub Entries : Shape → Type 0
Entries (Numbers low high) = List ℤ
Entries Points = List Point
Entries SpacePoints = List Point
Entries Depots = List ℕ
Entries Pairs = List (ℕ × ℕ)
Entries Weights = List ℤ
Entries Tours = List (List ℕ)
Entries Triples = List (ℕ × ℕ × ℤ)
Entries Families = List (List (List ℕ))
Entries Memories = List (List ℕ)
Entries SubsetRows = List SubsetRow
Entries Steps = List Step

-- the entries of a field, if the file has it
abbrev pub entries_in : Fields → Field → (shape : Shape) → Option (Entries shape)
entries_in f field (Numbers low high) = numbers_in f field
entries_in f field Points = points_in f field
entries_in f field SpacePoints = points_in f field
entries_in f field Depots = f.depots
entries_in f field Pairs = f.fixed
entries_in f field Weights = f.weights
entries_in f field Tours = f.tours
entries_in f field Triples = f.fixed_potentials
entries_in f field Families = f.families
entries_in f field Memories = f.memories
entries_in f field SubsetRows = f.subset_rows
entries_in f field Steps = f.branches

-- whether the entries are valid in a file of n nodes
abbrev pub are_valid : (shape : Shape) → ℕ → Entries shape → Bool
are_valid (Numbers low high) n xs = is_by_node (is_from_to low high) n xs
are_valid Points n xs = is_by_node (is_point false) n xs
are_valid SpacePoints n xs = is_by_node (is_point true) n xs
are_valid Depots n xs = are_depots n xs
are_valid Pairs n xs = are_fixed n xs
are_valid Weights n xs = fit_matrix n xs
are_valid Tours n xs = are_tours xs
are_valid Triples n xs = are_triples n xs
are_valid Families n xs = are_family_lists n xs
are_valid Memories n xs = are_memory_lists n xs
are_valid SubsetRows n xs = are_subset_rows n xs
are_valid Steps n xs = are_tree_steps n xs

-- the lines of the entries; those of weights have these lengths
abbrev pub lines_for : List ℕ → (shape : Shape) → Entries shape → List ℕ
lines_for lens (Numbers low high) xs = lines_by_node whole_number xs
lines_for lens Points xs = lines_by_node (coordinate_words false) xs
lines_for lens SpacePoints xs = lines_by_node (coordinate_words true) xs
lines_for lens Depots xs = node_list xs
lines_for lens Pairs xs = pair_list xs
lines_for lens Weights xs = matrix_lines lens xs
lines_for lens Tours xs = flat_map node_list xs
lines_for lens Triples xs = triple_list xs
lines_for lens Families xs = family_list xs
lines_for lens Memories xs = family_lines xs
lines_for lens SubsetRows xs = row_list xs
lines_for lens Steps xs = case_tree_lines xs

-- the words of the lines
abbrev pub words_for : (shape : Shape) → Entries shape → List (List ℕ)
words_for (Numbers low high) xs = flat_map (entry_words number_words) (enumerate_from 1 xs)
words_for Points xs = flat_map (entry_words point_words) (enumerate_from 1 xs)
words_for SpacePoints xs = flat_map (entry_words space_point_words) (enumerate_from 1 xs)
words_for Depots xs = map decimal xs ++ codes "-1" ∷ []
words_for Pairs xs = flat_map pair_words xs ++ codes "-1" ∷ []
words_for Weights xs = map signed_decimal xs
words_for Tours xs = flat_map tour_words xs
words_for Triples xs = flat_map triple_words xs ++ codes "-1" ∷ []
words_for Families xs = families_words xs
words_for Memories xs = family_words xs
words_for SubsetRows xs = rows_words xs
words_for Steps xs = flat_map step_words xs

-- the entries that words give
abbrev pub read_for : (shape : Shape) → ℕ → List (List ℕ) → Entries shape
read_for (Numbers low high) n words = numbers_by_node low high n words
read_for Points n words = points_by_node n words
read_for SpacePoints n words = space_points_by_node n words
read_for Depots n words = depots_in n words
read_for Pairs n words = fixed_in n words
read_for Weights n words = weights_in words
read_for Tours n words = tours_in words
read_for Triples n words = fixed_triples_in n words
read_for Families n words = whole_families n words
read_for Memories n words = whole_memories n words
read_for SubsetRows n words = whole_rows n words
read_for Steps n words = whole_steps n words

-- the text and the condition of a section, over these
abbrev pub text_for : Fields → Field → (shape : Shape) → Option (Entries shape) → List ℕ
text_for f field shape xs =
    optional (λ entries. section_text field (lines_for (line_lens f.weight_format f.dimension) shape entries)) xs

pub text_by : (f : Fields) (field : Field) (shape : Shape)
    → text_of_section f field shape ≡ text_for f field shape (entries_in f field shape)
text_by f field (Numbers low high) = refl
text_by f field Points = refl
text_by f field SpacePoints = refl
text_by f field Depots = refl
text_by f field Pairs = refl
text_by f field Weights = refl
text_by f field Tours = refl
text_by f field Triples = refl
text_by f field Families = refl
text_by f field Memories = refl
text_by f field SubsetRows = refl
text_by f field Steps = refl

abbrev pub fit_for : Fields → (shape : Shape) → Entries shape → Bool
fit_for f shape xs = cond (needs_nodes shape) (with_dimension (are_valid shape) f.dimension xs) (are_valid shape 0 xs)

pub fits_by : (f : Fields) (field : Field) (shape : Shape)
    → section_fits f field shape ≡ if_there (fit_for f shape) (entries_in f field shape)
fits_by f field (Numbers low high) = refl
fits_by f field Points = refl
fits_by f field SpacePoints = refl
fits_by f field Depots = refl
fits_by f field Pairs = refl
fits_by f field Weights = refl
fits_by f field Tours = refl
fits_by f field Triples = refl
fits_by f field Families = refl
fits_by f field Memories = refl
fits_by f field SubsetRows = refl
fits_by f field Steps = refl

-- ---- ranges of numbers that can be written

abbrev pub is_writable : Shape → Bool
is_writable (Numbers low high) = nat_lt (unsigned_abs low) (2 ^ 63) && nat_lt (unsigned_abs high) (2 ^ 63)
is_writable shape = true

between : (low high z : ℤ) (most : ℕ) → unsigned_abs low < most → unsigned_abs high < most → is_from_to low high z ≡ true
    → unsigned_abs z < most
between low high z most lower upper inside = grind (arith, ints)

small_range : (low high : ℤ) → is_writable (Numbers low high) ≡ true → AreSmall low high
small_range low high writable z inside =
    let both = and_parts (nat_lt (unsigned_abs low) (2 ^ 63)) (nat_lt (unsigned_abs high) (2 ^ 63)) writable in
    between low high z (2 ^ 63) (ltb-true (unsigned_abs low) (2 ^ 63) both.0) (ltb-true (unsigned_abs high) (2 ^ 63) both.1) inside

-- ---- what the lines of each shape are

pub record IsBody (lens : List ℕ) (shape : Shape) (n : ℕ) (xs : Entries shape) : Type 0 where
  pub written : WritesWords (lines_for lens shape xs) (words_for shape xs)
  pub taken : AllTaken n (place_by shape n) [] (words_for shape xs)
  pub back : read_for shape n (words_for shape xs) ≡ xs
  pub done : wants_more (place_by shape n (words_for shape xs)) ≡ false
  pub few : is_matrix shape ≡ true → nat_lt most_matrix_nodes n ≡ false

few_nodes : (n : ℕ) → n ≤ most_nodes → n < 2 ^ 32
few_nodes n few = omega (arith, few)

-- the indices of nodes, families and rows
few_indices : (n : ℕ) → n ≤ most_nodes → n + most_families + most_rows < 2 ^ 32
few_indices n few = omega (arith, few)

depots_ended : NumberLaws → (n : ℕ) (nodes : List ℕ) → list_any (is_end n) (map decimal nodes ++ codes "-1" ∷ []) ≡ true
depots_ended laws n [] = ap (λ b. b || false) (end_ends laws n)
depots_ended laws n (k ∷ nodes) =
    or_right (is_end n (decimal k)) (list_any (is_end n) (map decimal nodes ++ codes "-1" ∷ [])) (depots_ended laws n nodes)

weights_done : (n : ℕ) (words : List (List ℕ)) → wants_more (place_by Weights n words) ≡ false
weights_done n words = either (nat_le (n * n) (length words))
  where
    either : (past : Bool) → wants_more (cond past PastWeights Weight) ≡ false
    either true = refl
    either false = refl

-- plan: by the shape: each has lemmas that its words are written, taken and read back
pub body : NumberLaws → (lens : List ℕ) (shape : Shape) → is_writable shape ≡ true → (n : ℕ)
    → (needs_nodes shape ≡ true → n ≤ most_nodes) → (xs : Entries shape) → are_valid shape n xs ≡ true
    → IsBody lens shape n xs
body laws lens (Numbers low high) writable n few xs fit =
    let both = and_parts (length xs == n) (list_all (is_from_to low high) xs) fit in
    let count = eqb-true (length xs) n both.0 in
    let most = few_nodes n (few refl) in
    let small = small_range low high writable in
    let spelled = numbers_spelled laws low high small n in
    record {
      written = values_written spelled most 0 xs (omega (arith, count)) both.1;
      taken = by_node.values_taken spelled laws most [] 0 xs refl refl refl (omega (arith, count)) both.1;
      back = by_node.values_back spelled laws most (pos 0) xs count both.1;
      done = by_node.values_done spelled laws most xs count;
      few = λ e. absurd (false≢true e);
    }
body laws lens Points writable n few xs fit =
    let both = and_parts (length xs == n) (list_all (is_point false) xs) fit in
    let count = eqb-true (length xs) n both.0 in
    let most = few_nodes n (few refl) in
    record {
      written = values_written (points_spelled laws n) most 0 xs (omega (arith, count)) both.1;
      taken = by_node.values_taken (points_spelled laws n) laws most [] 0 xs refl refl refl (omega (arith, count)) both.1;
      back = by_node.values_back (points_spelled laws n) laws most origin xs count both.1;
      done = by_node.values_done (points_spelled laws n) laws most xs count;
      few = λ e. absurd (false≢true e);
    }
body laws lens SpacePoints writable n few xs fit =
    let both = and_parts (length xs == n) (list_all (is_point true) xs) fit in
    let count = eqb-true (length xs) n both.0 in
    let most = few_nodes n (few refl) in
    record {
      written = values_written (space_points_spelled laws n) most 0 xs (omega (arith, count)) both.1;
      taken = by_node.values_taken (space_points_spelled laws n) laws most [] 0 xs refl refl refl (omega (arith, count)) both.1;
      back = by_node.values_back (space_points_spelled laws n) laws most origin xs count both.1;
      done = by_node.values_done (space_points_spelled laws n) laws most xs count;
      few = λ e. absurd (false≢true e);
    }
body laws lens Depots writable n few xs fit =
    let both = and_parts (nat_le (length xs) most_depots) (list_all (is_node n) xs) fit in
    let most = few_nodes n (few refl) in
    record {
      written = node_lines_written n most xs both.1;
      taken = depots_taken laws n most [] xs refl (omega (arith, leb-true (length xs) most_depots both.0)) both.1;
      back = depots_back laws n most xs both.1;
      done = ap (λ b. wants_more (cond b PastEnd (DepotAfter (length (map decimal xs ++ codes "-1" ∷ []))))) (depots_ended laws n xs);
      few = λ e. absurd (false≢true e);
    }
body laws lens Pairs writable n few xs fit =
    let both = and_parts (nat_le (length xs) most_fixed) (list_all (is_pair_of n) xs) fit in
    let most = few_nodes n (few refl) in
    record {
      written = pair_lines_written n most xs both.1;
      taken = listed.values_taken (pairs_listed laws n most) laws [] xs refl refl (omega (arith, leb-true (length xs) most_fixed both.0)) both.1;
      back = listed.values_back (pairs_listed laws n most) laws xs both.1;
      done = listed.values_done (pairs_listed laws n most) laws xs;
      few = λ e. absurd (false≢true e);
    }
body laws lens Weights writable n few xs fit =
    let both = and_parts (nat_le n most_matrix_nodes && nat_le (length xs) (n * n)) (list_all (is_within most_weight) xs) fit in
    let sizes = and_parts (nat_le n most_matrix_nodes) (nat_le (length xs) (n * n)) both.0 in
    record {
      written = matrix_lines_written lens xs both.1;
      taken = weights_taken laws n [] xs (omega (arith, leb-true (length xs) (n * n) sizes.1)) both.1;
      back = weights_back laws xs both.1;
      done = weights_done n (map signed_decimal xs);
      few = λ e. le-ltb most_matrix_nodes n (leb-true n most_matrix_nodes sizes.0);
    }
body laws lens Tours writable n few xs fit =
    let both = and_parts (list_all is_node_list xs) (nat_le (sum_by length xs) most_tour_nodes) fit in
    record {
      written = tour_lines_written xs both.0;
      taken = tours_taken laws n [] xs (omega (arith, leb-true (sum_by length xs) most_tour_nodes both.1)) both.0;
      back = tours_back laws xs both.0;
      done = refl;
      few = λ e. absurd (false≢true e);
    }
body laws lens Triples writable n few xs fit =
    let both = and_parts (nat_le (length xs) most_triples) (list_all (is_triple_of n) xs) fit in
    let most = few_nodes n (few refl) in
    record {
      written = triple_lines_written n most xs both.1;
      taken = listed.values_taken (triples_listed laws n most) laws [] xs refl refl (omega (arith, leb-true (length xs) most_triples both.0)) both.1;
      back = listed.values_back (triples_listed laws n most) laws xs both.1;
      done = listed.values_done (triples_listed laws n most) laws xs;
      few = λ e. absurd (false≢true e);
    }
body laws lens Families writable n few xs fit =
    let most = few_nodes n (few refl) in
    record {
      written = families_written n most xs fit;
      taken = families_taken laws n most xs fit;
      back = families_back laws n most xs fit;
      done = families_done laws n most xs fit;
      few = λ e. absurd (false≢true e);
    }
body laws lens Memories writable n few xs fit =
    let most = few_nodes n (few refl) in
    record {
      written = memories_written n most xs fit;
      taken = memories_taken laws n most xs fit;
      back = memories_back laws n most xs fit;
      done = memories_done laws n most xs fit;
      few = λ e. absurd (false≢true e);
    }
body laws lens SubsetRows writable n few xs fit =
    let most = few_nodes n (few refl) in
    record {
      written = rows_written n most xs fit;
      taken = rows_taken laws n most xs fit;
      back = rows_back laws n most xs fit;
      done = rows_done laws n most xs fit;
      few = λ e. absurd (false≢true e);
    }
body laws lens Steps writable n few xs fit =
    let most = few_indices n (few refl) in
    record {
      written = steps_written n most xs fit;
      taken = steps_taken laws n most xs fit;
      back = steps_back laws n most xs fit;
      done = steps_done laws n most xs fit;
      few = λ e. absurd (false≢true e);
    }
