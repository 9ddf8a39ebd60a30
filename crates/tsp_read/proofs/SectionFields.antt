-- Sections, written and read back, are complete and set their fields. Part of the proof of the law
-- `canonical_texts_are_read_back`.
use Rattle.tsp_read.proofs.Prelude.{◌≡◌, ℕ, ◌+◌, ◌≤◌, Bool, true, false, cond, List, [], ◌∷◌, length, refl, ap, subst, ◌∙◌, arith, Option, Some, None, Result, ◌^◌, ◌<◌, append_assoc, ◌++◌, sym, false≢true, and_parts, leb-true, and_left, and_right, true≢false, take_all, decimal, signed_decimal, list_all, prefix_len, find, filter, option_map, option_and_then, option_map_or, ℤ, pos, not, nat_le, nat_abs, is_some, unwrap_or, ◌&&◌, nat_lt, result_ok, whole_of, NumberFault, most_nodes, most_capacity, most_scale, most_load_unit, most_matrix_nodes, most_line_bytes, shape_of, is_section_field, is_blank, is_spatial, coord_kind_word, weight_kind_word, field_word, fields_in_order, Field, DimensionKey, CapacityKey, ScaleKey, LoadUnitKey, NodeCoordTypeKey, EdgeWeightTypeKey, CommentKey, OtherKey, NodeCoordPart, Known, Shape, Numbers, Points, SpacePoints, Depots, Pairs, Weights, Tours, Triples, Families, Memories, SubsetRows, Steps, line_lens, text_of_section, text_of_field, Fields, spatial, with_dimension, if_there, is_node, is_from_to, section_fits, fits, clean_more, same_field_is, has_line, value_at, read_as, dimension_in, named_at, coord_kind_named, weight_kind_named, spatial_after, same_field, is_open, values_at, others_in, open_section, words_of, place_by, place_in, may_repeat, row_of, first_word, Item, WordLine, Line, LineEnd, items_in, items_of, has_no_line_end, PastEnd, IsClean, needs_nodes, is_matrix, opening_rows, wants_more, is_incomplete, first_incomplete}
use Rattle.tsp_format.specs.declared.kinds.CoordKind.{CoordKind}
use Rattle.tsp_format.specs.declared.kinds.WeightKind.{WeightKind}
use Rattle.tsp_file.proofs.ValidFields.{dimensioned}
use Rattle.tsp_text.proofs.Sections.{by_section, section_of, opening, nodes_stay}
use Rattle.tsp_read.proofs.NumbersReadBack.{NumberLaws, decimal_plain, signed_plain, size_from}
use Rattle.tsp_read.proofs.Onto.{has_value, onto, value_kept, values_kept, others_kept, no_end_line, other_words, section_words, words_clean, AllTaken}
use Rattle.tsp_read.proofs.Shapes.{Entries, entries_in, are_valid, lines_for, words_for, text_for, text_by, fit_for, fits_by, is_writable, body}
use Rattle.tsp_read.proofs.Stages.{Ready, empty_line, value_of, if_written, words_written, Step, missing, section_line, Stage}
use Rattle.tsp_read.proofs.Text.{is_plain_word, unblank, Writes, line_written, both_written, number_words, are_numbers}
use Rattle.tsp_read.proofs.Words.{coord_kind_back, weight_kind_back}

-- ---- DIMENSION

prefix_all : (p : ℕ → Bool) (xs : List ℕ) → list_all p xs ≡ true → prefix_len p xs ≡ length xs
prefix_all p [] all = refl
prefix_all p (x ∷ xs) all =
    let both = and_parts (p x) (list_all p xs) all in
    ap (λ b. cond b (1 + prefix_len p xs) 0) both.0 ∙ omega (arith, prefix_all p xs both.1)

pub only_word : (word : List ℕ) → is_plain_word word ≡ true → first_word word ≡ word
only_word word plain =
    take_all (prefix_len (λ b. not (is_blank b)) word) word (omega (arith, prefix_all (λ b. not (is_blank b)) word (unblank word plain)))

pub dimension_back : NumberLaws → (n : ℕ) → is_node most_nodes n ≡ true
    → option_map nat_abs (option_and_then (λ value. option_and_then result_ok (read_as DimensionKey value)) (Some (decimal n))) ≡ Some n
dimension_back laws n is =
    let few = leb-true n most_nodes (and_parts (nat_le 1 n) (nat_le n most_nodes) is).1 in
    ap (λ (word : List ℕ). option_map nat_abs (result_ok (whole_of word (pos 1) (pos most_nodes)))) (only_word (decimal n) (decimal_plain n (omega arith)))
    ∙ ap (λ (r : Result ℤ NumberFault). option_map nat_abs (result_ok r)) (laws.whole_back (pos n) (pos 1) (pos most_nodes) (omega arith) is)

-- a section of a valid file has a number of nodes
pub record HasNodes {A : Type 0} (f : Fields) (fits : ℕ → A → Bool) (x : A) (earlier : List Item) : Type 0 where
  pub n : ℕ
  pub dimension : f.dimension ≡ Some n
  pub fitting : fits n x ≡ true
  pub few : n ≤ most_nodes
  pub nodes : dimension_in earlier ≡ n
  pub known : has_line DimensionKey earlier ≡ true

pub has_nodes : {A : Type 0} → NumberLaws → (f : Fields) (fits : ℕ → A → Bool) (x : A) (earlier : List Item)
    → value_at DimensionKey earlier ≡ option_map decimal f.dimension
    → if_there (is_node most_nodes) f.dimension ≡ true → with_dimension fits f.dimension x ≡ true → HasNodes f fits x earlier
has_nodes laws f fits x earlier written one e =
    let found = dimensioned fits f.dimension x e in
    let n = found.0 in
    let dimension : f.dimension ≡ Some n = found.1 in
    let is : is_node most_nodes n ≡ true = subst (λ (o : Option ℕ). if_there (is_node most_nodes) o ≡ true) dimension one in
    let value : value_at DimensionKey earlier ≡ Some (decimal n) = written ∙ ap (option_map decimal) dimension in
    record {
      n = n;
      dimension = dimension;
      fitting = found.2;
      few = leb-true n most_nodes (and_parts (nat_le 1 n) (nat_le n most_nodes) is).1;
      nodes = ap (λ (v : Option (List ℕ)). unwrap_or (option_map nat_abs (option_and_then (λ value. option_and_then result_ok (read_as DimensionKey value)) v)) 0) value
          ∙ ap (λ (o : Option ℕ). unwrap_or o 0) (dimension_back laws n is);
      known = has_value DimensionKey earlier ∙ ap (λ (v : Option (List ℕ)). is_some v) value;
    }

pub no_line_yet : (f : Fields) (field : Field) (earlier : List Item) → Ready f field earlier → may_repeat field ≡ false
    → has_line field earlier ≡ false
no_line_yet f field earlier ready once = has_value field earlier ∙ ap (λ (v : Option (List ℕ)). is_some v) (ready.unseen once)

-- ---- the value of a keyword is read back as it is written

-- ---- one value from the line of its field

pub named_back : {V : Type 0} (text : V → List ℕ) (by_word : List ℕ → Option V)
    → ((v : V) → by_word (first_word (text v)) ≡ Some v) → (o : Option V)
    → option_and_then (λ value. by_word (first_word value)) (option_map text o) ≡ o
named_back text by_word back None = refl
named_back text by_word back (Some v) = back v

pub dimension_whole : NumberLaws → (o : Option ℕ) → if_there (is_node most_nodes) o ≡ true
    → option_map nat_abs (option_and_then (λ value. option_and_then result_ok (read_as DimensionKey value)) (option_map decimal o)) ≡ o
dimension_whole laws None is = refl
dimension_whole laws (Some n) is = dimension_back laws n is

number_from : NumberLaws → (most : ℕ) (z : ℤ) → is_from_to (pos 1) (pos most) z ≡ true → most < 2 ^ 63
    → result_ok (whole_of (first_word (signed_decimal z)) (pos 1) (pos most)) ≡ Some z
number_from laws most z is few =
    let small = size_from 1 most z is in
    ap (λ (word : List ℕ). result_ok (whole_of word (pos 1) (pos most))) (only_word (signed_decimal z) (signed_plain z (omega arith)))
    ∙ ap (λ (r : Result ℤ NumberFault). result_ok r) (laws.whole_back z (pos 1) (pos most) (omega arith) is)

pub capacity_whole : NumberLaws → (o : Option ℤ) → if_there (is_from_to (pos 1) (pos most_capacity)) o ≡ true
    → option_and_then (λ value. option_and_then result_ok (read_as CapacityKey value)) (option_map signed_decimal o) ≡ o
capacity_whole laws None is = refl
capacity_whole laws (Some z) is = number_from laws most_capacity z is (omega arith)

pub scale_whole : NumberLaws → (o : Option ℤ) → if_there (is_from_to (pos 1) (pos most_scale)) o ≡ true
    → option_and_then (λ value. option_and_then result_ok (read_as ScaleKey value)) (option_map signed_decimal o) ≡ o
scale_whole laws None is = refl
scale_whole laws (Some z) is = number_from laws most_scale z is (omega arith)

pub load_unit_whole : NumberLaws → (o : Option ℤ) → if_there (is_from_to (pos 1) (pos most_load_unit)) o ≡ true
    → option_and_then (λ value. option_and_then result_ok (read_as LoadUnitKey value)) (option_map signed_decimal o) ≡ o
load_unit_whole laws None is = refl
load_unit_whole laws (Some z) is = number_from laws most_load_unit z is (omega arith)

-- ---- a canonical text is spatial if its file is

pub space_written : (f : Fields) (items : List Item) → value_at NodeCoordTypeKey items ≡ option_map coord_kind_word f.coord_kind
    → value_at EdgeWeightTypeKey items ≡ option_map weight_kind_word f.weight_kind → spatial_after items ≡ spatial f
space_written f items coords weights =
    let coord_kind : named_at coord_kind_named NodeCoordTypeKey items ≡ f.coord_kind =
    ap (λ v. option_and_then (λ value. coord_kind_named (first_word value)) v) coords ∙ named_back coord_kind_word coord_kind_named coord_kind_back f.coord_kind in
    let weight_kind : named_at weight_kind_named EdgeWeightTypeKey items ≡ f.weight_kind =
    ap (λ v. option_and_then (λ value. weight_kind_named (first_word value)) v) weights ∙ named_back weight_kind_word weight_kind_named weight_kind_back f.weight_kind in
    ap (λ (o : Option CoordKind). is_spatial o (named_at weight_kind_named EdgeWeightTypeKey items)) coord_kind
    ∙ ap (λ (o : Option WeightKind). is_spatial f.coord_kind o) weight_kind

-- ---- the line and the words of a section, as they are written

-- ---- what is said of a section by its field, by its shape

-- its text, its condition, the value of its line, whether its numbers can be written, the bytes and item of its line
abbrev ByShape : Fields → Field → Type 0
ByShape f g = (text_of_field f g ≡ option_map_or (text_of_section f g) (shape_of (spatial f) g) [])
    × (fits f g ≡ option_map_or (section_fits f g) (shape_of (spatial f) g) true)
    × (value_of f g ≡ option_map_or (λ shape. empty_line (is_some (entries_in f g shape))) (shape_of (spatial f) g) None)
    × (option_map_or is_writable (shape_of (spatial f) g) true ≡ true)
    × (has_no_line_end (field_word g) ≡ true) × (items_in (field_word g) ≡ Line (Known g) (section_line g) ∷ [])

-- it is none of the keywords that differ from it, and its line has no value and is no long one
abbrev IsPlain : Field → Type 0
IsPlain g =
    (may_repeat g ≡ false) × (same_field CommentKey g ≡ false) × (same_field OtherKey g ≡ false) × (same_field DimensionKey g ≡ false)
    × ((section_line g).value ≡ []) × (nat_lt most_line_bytes (section_line g).size ≡ false)

-- points of nodes in space as in the plane
entries_there : (f : Fields) (in_space : Bool)
    → empty_line (is_some f.coords) ≡ empty_line (is_some (entries_in f NodeCoordPart (cond in_space SpacePoints Points)))
entries_there f true = refl
entries_there f false = refl

points_writable : (in_space : Bool) → is_writable (cond in_space SpacePoints Points) ≡ true
points_writable true = refl
points_writable false = refl

by_shape : (f : Fields) (field : Field) → is_section_field field ≡ true → ByShape f field
by_shape f = by_section (ByShape f)
    (refl, refl, entries_there f (spatial f), points_writable (spatial f), refl, refl) (refl, refl, refl, refl, refl, refl) (refl, refl, refl, refl, refl, refl) (refl, refl, refl, refl, refl, refl)
    (refl, refl, refl, refl, refl, refl) (refl, refl, refl, refl, refl, refl) (refl, refl, refl, refl, refl, refl) (refl, refl, refl, refl, refl, refl)
    (refl, refl, refl, refl, refl, refl) (refl, refl, refl, refl, refl, refl) (refl, refl, refl, refl, refl, refl) (refl, refl, refl, refl, refl, refl)
    (refl, refl, refl, refl, refl, refl) (refl, refl, refl, refl, refl, refl) (refl, refl, refl, refl, refl, refl)

is_plain : (field : Field) → is_section_field field ≡ true → IsPlain field
is_plain = by_section IsPlain
    (refl, refl, refl, refl, refl, refl) (refl, refl, refl, refl, refl, refl) (refl, refl, refl, refl, refl, refl) (refl, refl, refl, refl, refl, refl)
    (refl, refl, refl, refl, refl, refl) (refl, refl, refl, refl, refl, refl) (refl, refl, refl, refl, refl, refl) (refl, refl, refl, refl, refl, refl)
    (refl, refl, refl, refl, refl, refl) (refl, refl, refl, refl, refl, refl) (refl, refl, refl, refl, refl, refl) (refl, refl, refl, refl, refl, refl)
    (refl, refl, refl, refl, refl, refl) (refl, refl, refl, refl, refl, refl) (refl, refl, refl, refl, refl, refl)

-- the facts of a section with these entries, or without any
pub record IsSection (f : Fields) (field : Field) (shape : Shape) (entries : Option (Entries shape)) : Type 0 where
  pub shape_is : shape_of (spatial f) field ≡ Some shape
  pub part : is_section_field field ≡ true
  pub text_is : text_of_field f field ≡ text_for f field shape entries
  pub fit : if_there (fit_for f shape) entries ≡ true
  pub value_is : value_of f field ≡ empty_line (is_some entries)
  pub words_are : words_written f field ≡ if_written (words_for shape) entries
  pub writable : is_writable shape ≡ true
  pub once : may_repeat field ≡ false

pub is_section : (f : Fields) → ((g : Field) → fits f g ≡ true) → (field : Field) (shape : Shape)
    → shape_of (spatial f) field ≡ Some shape → IsSection f field shape (entries_in f field shape)
is_section f valid field shape e =
    let part : is_section_field field ≡ true = section_of (spatial f) field shape e in
    let facts = by_shape f field part in
    record {
      shape_is = e;
      part = part;
      text_is = facts.0 ∙ ap (λ (o : Option Shape). option_map_or (text_of_section f field) o []) e ∙ text_by f field shape;
      fit = sym (facts.1 ∙ ap (λ (o : Option Shape). option_map_or (section_fits f field) o true) e ∙ fits_by f field shape) ∙ valid field;
      value_is = facts.2 ∙ ap (λ (o : Option Shape). option_map_or (λ s. empty_line (is_some (entries_in f field s))) o None) e;
      words_are = ap (λ (o : Option Shape). option_map_or (λ s. if_written (words_for s) (entries_in f field s)) o []) e;
      writable = ap (λ (o : Option Shape). option_map_or is_writable o true) (sym e) ∙ facts.3;
      once = (is_plain field part).0;
    }

-- ---- the number of nodes

-- the entries are those of a file with as many nodes as the items say
pub record AreRight (shape : Shape) (xs : Entries shape) (items : List Item) : Type 0 where
  pub valid : are_valid shape (dimension_in items) xs ≡ true
  pub few : needs_nodes shape ≡ true → dimension_in items ≤ most_nodes
  pub known : needs_nodes shape ≡ true → has_line DimensionKey items ≡ true

counted : NumberLaws → (f : Fields) (shape : Shape) (xs : Entries shape) (items : List Item)
    → value_at DimensionKey items ≡ option_map decimal f.dimension → fits f DimensionKey ≡ true
    → with_dimension (are_valid shape) f.dimension xs ≡ true → AreRight shape xs items
counted laws f shape xs items written one fit =
    let h = has_nodes laws f (are_valid shape) xs items written one fit in
    record {
      valid = ap (λ n. are_valid shape n xs) h.nodes ∙ h.fitting;
      few = λ e. subst (λ (n : ℕ). n ≤ most_nodes) (sym h.nodes) h.few;
      known = λ e. h.known;
    }

pub are_right : NumberLaws → (f : Fields) (shape : Shape) (xs : Entries shape) (items : List Item)
    → value_at DimensionKey items ≡ option_map decimal f.dimension → fits f DimensionKey ≡ true
    → fit_for f shape xs ≡ true → AreRight shape xs items
are_right laws f (Numbers low high) xs items written one fit = counted laws f (Numbers low high) xs items written one fit
are_right laws f Points xs items written one fit = counted laws f Points xs items written one fit
are_right laws f SpacePoints xs items written one fit = counted laws f SpacePoints xs items written one fit
are_right laws f Depots xs items written one fit = counted laws f Depots xs items written one fit
are_right laws f Pairs xs items written one fit = counted laws f Pairs xs items written one fit
are_right laws f Weights xs items written one fit = counted laws f Weights xs items written one fit
are_right laws f Tours xs items written one fit =
    record { valid = fit; few = λ e. absurd (false≢true e); known = λ e. absurd (false≢true e) }
are_right laws f Triples xs items written one fit = counted laws f Triples xs items written one fit
are_right laws f Families xs items written one fit = counted laws f Families xs items written one fit
are_right laws f Memories xs items written one fit = counted laws f Memories xs items written one fit
are_right laws f SubsetRows xs items written one fit = counted laws f SubsetRows xs items written one fit
are_right laws f Steps xs items written one fit = counted laws f Steps xs items written one fit

-- ---- the step

both_false : (a b : Bool) → (a ≡ true → b ≡ false) → (a && b) ≡ false
both_false true b h = h refl
both_false false b h = refl

-- no row applies to a section's line
section_row : (in_space : Bool) (field : Field) (shape : Shape) (earlier : List Item) → shape_of in_space field ≡ Some shape
    → is_section_field field ≡ true → has_line field earlier ≡ false
    → (needs_nodes shape ≡ true → has_line DimensionKey earlier ≡ true)
    → (is_matrix shape ≡ true → nat_lt most_matrix_nodes (dimension_in earlier) ≡ false)
    → row_of earlier (Line (Known field) (section_line field)) ≡ None
section_row in_space field shape earlier e part unseen known few =
    let plain = is_plain field part in
    let early = both_false (needs_nodes shape) (not (has_line DimensionKey earlier)) (λ needs. ap not (known needs)) in
    let many = both_false (is_matrix shape) (nat_lt most_matrix_nodes (dimension_in earlier)) few in
    opening in_space earlier (section_line field) plain.5 field part
    ∙ ap (λ (o : Option Shape). option_map_or (λ s. opening_rows s (has_line field earlier) (section_line field).value (has_line DimensionKey earlier) (dimension_in earlier)) o None) e
    ∙ rw (unseen, plain.4, early, many) refl

-- the words that its lines add
section_adds_words : (f : Fields) (field : Field) (words : List (List ℕ)) (items start earlier : List Item)
    → are_numbers items ≡ true → number_words items ≡ words → open_section start ≡ Some field
    → ((g : Field) → words_of g start ≡ words_of g earlier) → words_of field earlier ≡ [] → words_written f field ≡ words
    → (g : Field) → words_of g (onto items start) ≡ cond (same_field g field) (words_written f field) (words_of g earlier)
section_adds_words f field words items start earlier numbers are opened same none is g = by_case (same_field g field) refl
  where
    by_case : (b : Bool) → same_field g field ≡ b → words_of g (onto items start) ≡ cond (same_field g field) (words_written f field) (words_of g earlier)
    by_case true e =
        ap (λ (h : Field). words_of h (onto items start)) (same_field_is g field e) ∙ section_words field items start numbers opened
        ∙ ap (λ (ws : List (List ℕ)). ws ++ number_words items) (same field ∙ none) ∙ are ∙ sym is ∙ sym (ap (λ b. cond b (words_written f field) (words_of g earlier)) e)
    by_case false e =
        other_words g items start numbers (ap (is_open g) opened ∙ e) ∙ same g ∙ sym (ap (λ b. cond b (words_written f field) (words_of g earlier)) e)

-- plan: a missing section writes nothing (`missing`); else the line opens it, and `body` takes its words
step_of : NumberLaws → (f : Fields) (field : Field) (shape : Shape) (entries : Option (Entries shape)) (earlier : List Item)
    → fits f DimensionKey ≡ true → IsSection f field shape entries
    → Ready f field earlier → Step f (text_of_field f) field earlier
step_of laws f field shape None earlier one is ready =
    let plain = is_plain field is.part in
    missing f (text_of_field f) field earlier ready is.text_is is.once is.value_is is.words_are plain.1 plain.2
step_of laws f field shape (Some xs) earlier one is ready =
    let plain = is_plain field is.part in
    let facts = by_shape f field is.part in
    let right = are_right laws f shape xs earlier (ready.dimension is.part) one is.fit in
    let n = dimension_in earlier in
    let lens = line_lens f.weight_format f.dimension in
    let lines = body laws lens shape is.writable n right.few xs right.valid in
    let text = lines_for lens shape xs in
    let line = section_line field in
    let opening_items : List Item = Line (Known field) line ∷ LineEnd ∷ [] in
    let opens : Writes (field_word field ++ 10 ∷ []) opening_items =
    λ rest. line_written (field_word field) facts.4 rest ∙ ap (λ (items : List Item). (items ++ LineEnd ∷ []) ++ items_of rest) facts.5 in
    let start = LineEnd ∷ Line (Known field) line ∷ earlier in
    let items = lines.written.items in
    let numbers = lines.written.numbers in
    let row = section_row (spatial f) field shape earlier is.shape_is is.part (no_line_yet f field earlier ready is.once) right.known lines.few in
    let clean : IsClean start = clean_more (Line (Known field) line ∷ earlier) LineEnd (clean_more earlier (Line (Known field) line) ready.clean row) refl in
    let opened : open_section start ≡ Some field = ap (λ b. cond b (Some field) None) is.part in
    let space : spatial_after start ≡ spatial f = (nodes_stay earlier line field is.part).1 ∙ space_written f earlier (ready.coords is.part) (ready.weights is.part) in
    let taken : AllTaken n (place_in (spatial f) field n) [] (words_for shape xs) =
    subst (λ (o : Option Shape). AllTaken n (λ words. option_map_or (λ s. place_by s n words) o PastEnd) [] (words_for shape xs)) (sym is.shape_is) lines.taken in
    let taken_after : AllTaken n (place_in (spatial_after start) field n) (words_of field earlier) (number_words items) =
    subst (λ (b : Bool). AllTaken n (place_in b field n) (words_of field earlier) (number_words items)) (sym space)
    (subst (λ (ws : List (List ℕ)). AllTaken n (place_in (spatial f) field n) ws (number_words items)) (sym ready.no_words)
    (subst (λ (ws : List (List ℕ)). AllTaken n (place_in (spatial f) field n) [] ws) (sym lines.written.words_are) taken)) in
    record {
      items = opening_items ++ items;
      written = λ rest. ap (λ (t : List ℕ). items_of (t ++ rest)) (is.text_is ∙ sym (append_assoc (field_word field) (10 ∷ []) text))
          ∙ both_written (field_word field ++ 10 ∷ []) text opening_items items opens lines.written.written rest;
      no_end = no_end_line items numbers;
      adds = record {
        clean = words_clean field n items start numbers clean opened (nodes_after field line earlier plain.3) taken_after;
        values = λ g again. value_kept g items start numbers
            ∙ ap (λ (v : Option (List ℕ)). cond (same_field g field) v (value_at g earlier)) (ap (λ (v : List ℕ). Some v) plain.4 ∙ sym is.value_is);
        words = section_adds_words f field (words_for shape xs) items start earlier numbers lines.written.words_are opened (λ g. refl) ready.no_words is.words_are;
        comments = values_kept CommentKey items start numbers ∙ ap (λ b. cond b (values_at CommentKey earlier ++ line.value ∷ []) (values_at CommentKey earlier)) plain.1
            ∙ sym (ap (λ b. cond b f.comments (values_at CommentKey earlier)) plain.1);
        others = others_kept items start numbers ∙ sym (ap (λ b. cond b f.others (others_in earlier)) plain.2);
      };
    }
  where
    nodes_after : (field : Field) (line : WordLine) (earlier : List Item) → same_field DimensionKey field ≡ false → dimension_in (LineEnd ∷ Line (Known field) line ∷ earlier) ≡ dimension_in earlier
    nodes_after field line earlier other = rw other refl

pub section_step : NumberLaws → (f : Fields) → ((g : Field) → fits f g ≡ true) → (field : Field) (shape : Shape)
    → shape_of (spatial f) field ≡ Some shape → (earlier : List Item) → Ready f field earlier
    → Step f (text_of_field f) field earlier
section_step laws f valid field shape e earlier ready =
    step_of laws f field shape (entries_in f field shape) earlier (valid DimensionKey) (is_section f valid field shape e) ready

-- ---- at the end of a valid file's text no section is incomplete

-- a section that is present has all its words
part_done : NumberLaws → (f : Fields) (items : List Item) → Stage f [] items → fits f DimensionKey ≡ true
    → (field : Field) (shape : Shape) (o : Option (Entries shape)) → IsSection f field shape o
    → is_incomplete items field ≡ false
part_done laws f items stage one field shape None is =
    let has : has_line field items ≡ false = has_value field items ∙ ap (λ (v : Option (List ℕ)). is_some v) (stage.values field is.once ∙ is.value_is) in
    and_left (has_line field items) (wants_more (place_in (spatial_after items) field (dimension_in items) (words_of field items))) has
part_done laws f items stage one field shape (Some xs) is =
    let right = are_right laws f shape xs items (stage.values DimensionKey refl) one is.fit in
    let space = space_written f items (stage.values NodeCoordTypeKey refl) (stage.values EdgeWeightTypeKey refl) in
    and_right (has_line field items) (wants_more (place_in (spatial_after items) field (dimension_in items) (words_of field items)))
    (ap (λ (words : List (List ℕ)). wants_more (place_in (spatial_after items) field (dimension_in items) words)) (stage.words field ∙ is.words_are)
    ∙ ap (λ (b : Bool). wants_more (place_in b field (dimension_in items) (words_for shape xs))) space
    ∙ ap (λ (o : Option Shape). wants_more (option_map_or (λ s. place_by s (dimension_in items) (words_for shape xs)) o PastEnd)) is.shape_is
    ∙ (body laws [] shape is.writable (dimension_in items) right.few xs right.valid).done)

-- a search of some fields that finds none
one_less : (chosen : Bool) (test : Field → Bool) (field : Field) (others : List Field) → (chosen ≡ true → test field ≡ false)
    → find test others ≡ None
    → find test (cond chosen (field ∷ others) others) ≡ None
one_less true test field others fails rest = ap (λ b. cond b (Some field) (find test others)) (fails refl) ∙ rest
one_less false test field others fails rest = rest

none_found : (test chosen : Field → Bool) → ((field : Field) → chosen field ≡ true → test field ≡ false) → (fields : List Field)
    → find test (filter chosen fields) ≡ None
none_found test chosen fails [] = refl
none_found test chosen fails (field ∷ fields) =
    one_less (chosen field) test field (filter chosen fields) (fails field) (none_found test chosen fails fields)

-- a section has a shape in a spatial file as in another
in_space_too : (in_space : Bool) (field : Field) → is_section_field field ≡ true → is_some (shape_of in_space field) ≡ true
in_space_too in_space =
    by_section (λ g. is_some (shape_of in_space g) ≡ true) refl refl refl refl refl refl refl refl refl refl refl refl refl refl refl

pub none_incomplete : NumberLaws → (f : Fields) (items : List Item) → ((g : Field) → fits f g ≡ true) → Stage f [] items
    → first_incomplete items ≡ None
none_incomplete laws f items valid stage = none_found (is_incomplete items) is_section_field each fields_in_order
  where
    by_shape : (field : Field) (o : Option Shape) → shape_of (spatial f) field ≡ o → is_some o ≡ true → is_incomplete items field ≡ false
    by_shape field None e there = absurd (true≢false (sym there))
    by_shape field (Some shape) e there = part_done laws f items stage (valid DimensionKey) field shape (entries_in f field shape) (is_section f valid field shape e)

    each : (field : Field) → is_section_field field ≡ true → is_incomplete items field ≡ false
    each field section = by_shape field (shape_of (spatial f) field) refl (in_space_too (spatial f) field section)
