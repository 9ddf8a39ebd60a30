-- The last part of `canonical_texts_are_read_back`: the lines of keywords are read back, field by field, and with the
-- sections they are the file.
use Rattle.tsp_read.proofs.Prelude.{◌≡◌, ℕ, ◌-◌, ◌^◌, ◌<◌, ◌≤◌, Bool, true, false, cond, List, [], ◌∷◌, ◌++◌, length, refl, sym, ap, ◌∙◌, arith, Option, Some, None, Result, reverse, take, append-nil, false≢true, true≢false, and_parts, leb-true, not-true, false_from_ne_true, le-ltb, reverse-append, none-some, decimal, signed_decimal, list_all, option_map, option_and_then, option_or, ℤ, pos, nat_le, nat_lt, slice_index, unsigned_abs, is_some, nat_abs, ◌&&◌, not, codes, result_err, result_ok, whole_of, NumberFault, keyword_of, most_nodes, most_capacity, most_scale, most_load_unit, most_line_bytes, most_kept_bytes, most_comments, most_others, shape_of, most_file_bytes, is_blank, field_word, kind_word, weight_kind_word, weight_format_word, coord_kind_word, display_kind_word, fields_in_order, Field, NameKey, TypeKey, CommentKey, OtherKey, DimensionKey, CapacityKey, ScaleKey, LoadUnitKey, EdgeWeightTypeKey, EdgeWeightFormatKey, NodeCoordTypeKey, DisplayDataTypeKey, NodeCoordPart, DisplayDataPart, DemandPart, DepotPart, FixedEdgesPart, EdgeWeightPart, TourPart, NodePotentialPart, RowPotentialPart, ColumnPotentialPart, FixedEdgePotentialPart, FamilyPart, MemoryPart, SubsetRowPart, BranchPart, Known, Eof, Shape, Points, SpacePoints, Depots, Pairs, Weights, Tours, Triples, Families, Memories, SubsetRows, Steps, keyword_line, optional, text_of_field, text_of, Fields, spatial, if_there, is_kept, is_from_to, is_node, is_other, fits, bad_field, clean_more, same_field_is, same_field, value_at, values_at, others_in, words_of, has_line, kind_named, weight_kind_named, weight_format_named, coord_kind_named, display_kind_named, read_as, dimension_in, may_repeat, row_of, when, first_row, coords_by_node, is_not_empty, first_word, Item, Line, LineEnd, word_line_of, items_of, settled_items, to_end_line, has_end_line, spelled, fault_in, IsClean, first_incomplete, fault_at_end, is_too_long, part, fault, ParsesTo, ReadFault}
use Rattle.tsp_file.proofs.FieldLengths.{all_fit}
use Rattle.tsp_file.specs.Rules.{standing_of, end_fault, fault_of}
use Rattle.tsp_file.specs.declared.rules.DraftFault.TheVariants.{BadField, Rule}
use Rattle.tsp_file.specs.declared.rules.EndFault.{EndFault}
use Rattle.tsp_text.specs.declared.fault.ReadFault.TheVariants as faults
use Rattle.tsp_read.proofs.NumbersReadBack.{NumberLaws, signed_plain, short_signed, size_from}
use Rattle.tsp_read.proofs.Onto.{has_value, IsWhole, IsKeyword, written_line, value_text, text_length, kept, name_row, dimension_row, capacity_row, scale_row, load_unit_row, no_comment, comments_run, others_run, onto, onto_reversed, ended_at}
use Rattle.tsp_read.proofs.SectionFields.{only_word, no_line_yet, section_step, space_written, IsSection, is_section, are_right, named_back, dimension_whole, capacity_whole, scale_whole, load_unit_whole, none_incomplete}
use Rattle.tsp_read.proofs.Shapes.{Entries, entries_in, read_for, body}
use Rattle.tsp_read.proofs.Stages.{value_of, words_written, Ready, Step, kept_blank, missing, key_line, Stage, all_fields, fields_ordered, first_stage}
use Rattle.tsp_read.proofs.Text.{is_plain, is_plain_word, no_blank, one_line_word}
use Rattle.tsp_read.proofs.Words.{kind_row, kind_whole, weight_kind_row, weight_kind_whole, weight_format_row, weight_format_whole, coord_kind_row, coord_kind_whole, display_kind_row, display_kind_whole, kind_back, weight_kind_back, weight_format_back, coord_kind_back, display_kind_back}

-- ---- values of number bytes

last_passes : (p : ℕ → Bool) (b : ℕ) (bytes : List ℕ) → list_all p (b ∷ bytes) ≡ true
    → p (slice_index (b ∷ bytes) (length bytes)) ≡ true
last_passes p b [] all = (and_parts (p b) true all).0
last_passes p b (c ∷ bytes) all = last_passes p c bytes (and_parts (p b) (list_all p (c ∷ bytes)) all).1

filled_byte : (b : ℕ) → is_plain b ≡ true → is_blank b ≡ false
filled_byte b plain = not-true (is_blank b) (no_blank b plain)

plain_whole : (word : List ℕ) → is_plain_word word ≡ true → IsWhole word
plain_whole [] plain = absurd (false≢true plain)
plain_whole (b ∷ bytes) plain =
    let last : length (b ∷ bytes) - 1 ≡ length bytes = omega arith in
    record {
      one_line = one_line_word (b ∷ bytes) plain;
      begins_filled = filled_byte b (and_parts (is_plain b) (list_all is_plain bytes) plain).0;
      ends_filled = ap (λ n. is_blank (slice_index (b ∷ bytes) n)) last ∙ filled_byte (slice_index (b ∷ bytes) (length bytes)) (last_passes is_plain b bytes plain);
    }

-- the facts of a keyword's line whose value is a number of its range
record NumberLine (keyword : List ℕ) (low high z : ℤ) : Type 0 where
  whole : IsWhole (signed_decimal z)
  short : nat_lt most_line_bytes (length (value_text keyword (signed_decimal z))) ≡ false
  filled : is_not_empty (signed_decimal z) ≡ true
  read : result_err (whole_of (first_word (signed_decimal z)) low high) ≡ None

line_of_number : NumberLaws → (keyword : List ℕ) → length keyword ≤ 100 → (low high z : ℤ) → unsigned_abs z < 2 ^ 63
    → is_from_to low high z ≡ true → NumberLine keyword low high z
line_of_number laws keyword few low high z small inside =
    let plain = signed_plain z (omega (arith, small)) in
    record {
      whole = plain_whole (signed_decimal z) plain;
      short = text_length keyword (signed_decimal z) most_kept_bytes (omega (arith, short_signed z small, few)) (omega arith);
      filled = (and_parts (is_not_empty (signed_decimal z)) (list_all is_plain (signed_decimal z)) plain).0;
      read = ap (λ (word : List ℕ). result_err (whole_of word low high)) (only_word (signed_decimal z) plain)
          ∙ ap (λ (r : Result ℤ NumberFault). result_err r) (laws.whole_back z low high small inside);
    }

-- ---- the line of a keyword

-- a field with at most one line, that of its keyword
record IsKey (f : Fields) (field : Field) : Type 0 where
  known : keyword_of (field_word field) ≡ Known field
  keyword : IsKeyword (field_word field)
  once : may_repeat field ≡ false
  no_words : words_written f field ≡ []
  no_comment : same_field CommentKey field ≡ false
  no_other : same_field OtherKey field ≡ false

line_step : {A : Type 0} (f : Fields) (field : Field) (text : A → List ℕ) (o : Option A) (earlier : List Item)
    → text_of_field f field ≡ optional (λ x. keyword_line field (text x)) o → value_of f field ≡ option_map text o
    → IsKey f field → (fits : A → Bool) → if_there fits o ≡ true
    → ((x : A) → fits x ≡ true → IsWhole (text x) × (row_of earlier (Line (Known field) (written_line (field_word field) (text x))) ≡ None))
    → Ready f field earlier → Step f (text_of_field f) field earlier
line_step f field text None earlier text_is value_is key fits fit each ready =
    missing f (text_of_field f) field earlier ready text_is key.once value_is key.no_words key.no_comment key.no_other
line_step f field text (Some x) earlier text_is value_is key fits fit each ready =
    let line = each x fit in
    key_line f (text_of_field f) field (text x) earlier ready text_is key.known key.keyword line.0 value_is key.no_words key.no_comment key.no_other line.1

same_option : {A : Type 0} (o : Option A) → o ≡ option_map (λ x. x) o
same_option None = refl
same_option (Some x) = refl

-- a test that each value passes
any : {A : Type 0} (o : Option A) → if_there (λ x. true) o ≡ true
any None = refl
any (Some x) = refl

pub name_step : (f : Fields) (earlier : List Item) → fits f NameKey ≡ true → Ready f NameKey earlier
    → Step f (text_of_field f) NameKey earlier
name_step f earlier fit ready =
    line_step f NameKey (λ value. value) f.name earlier refl (same_option f.name)
    (record { known = refl; keyword = record { letter_first = refl; bytes = refl }; once = refl; no_words = refl; no_comment = refl; no_other = refl })
    (is_kept (field_word NameKey)) fit
    (λ value e. let k = kept (field_word NameKey) value e in (k.whole, name_row earlier value (no_line_yet f NameKey earlier ready refl) k)) ready

pub kind_step : (f : Fields) (earlier : List Item) → Ready f TypeKey earlier → Step f (text_of_field f) TypeKey earlier
kind_step f earlier ready =
    line_step f TypeKey kind_word f.kind earlier refl refl
    (record { known = refl; keyword = record { letter_first = refl; bytes = refl }; once = refl; no_words = refl; no_comment = refl; no_other = refl })
    (λ x. true) (any f.kind) (λ x e. (kind_whole x, kind_row earlier x (no_line_yet f TypeKey earlier ready refl))) ready

pub weight_kind_step : (f : Fields) (earlier : List Item) → Ready f EdgeWeightTypeKey earlier
    → Step f (text_of_field f) EdgeWeightTypeKey earlier
weight_kind_step f earlier ready =
    line_step f EdgeWeightTypeKey weight_kind_word f.weight_kind earlier refl refl
    (record { known = refl; keyword = record { letter_first = refl; bytes = refl }; once = refl; no_words = refl; no_comment = refl; no_other = refl })
    (λ x. true) (any f.weight_kind) (λ x e. (
      weight_kind_whole x,
      weight_kind_row earlier x (no_line_yet f EdgeWeightTypeKey earlier ready refl)
          (has_value NodeCoordPart earlier ∙ ap (λ (v : Option (List ℕ)). is_some v) (ready.no_points refl)),
    )) ready

pub weight_format_step : (f : Fields) (earlier : List Item) → Ready f EdgeWeightFormatKey earlier
    → Step f (text_of_field f) EdgeWeightFormatKey earlier
weight_format_step f earlier ready =
    line_step f EdgeWeightFormatKey weight_format_word f.weight_format earlier refl refl
    (record { known = refl; keyword = record { letter_first = refl; bytes = refl }; once = refl; no_words = refl; no_comment = refl; no_other = refl })
    (λ x. true) (any f.weight_format) (λ x e. (weight_format_whole x, weight_format_row earlier x (no_line_yet f EdgeWeightFormatKey earlier ready refl))) ready

pub coord_kind_step : (f : Fields) (earlier : List Item) → Ready f NodeCoordTypeKey earlier
    → Step f (text_of_field f) NodeCoordTypeKey earlier
coord_kind_step f earlier ready =
    line_step f NodeCoordTypeKey coord_kind_word f.coord_kind earlier refl refl
    (record { known = refl; keyword = record { letter_first = refl; bytes = refl }; once = refl; no_words = refl; no_comment = refl; no_other = refl })
    (λ x. true) (any f.coord_kind) (λ x e. (
      coord_kind_whole x,
      coord_kind_row earlier x (no_line_yet f NodeCoordTypeKey earlier ready refl)
          (has_value NodeCoordPart earlier ∙ ap (λ (v : Option (List ℕ)). is_some v) (ready.no_points refl)),
    )) ready

pub display_kind_step : (f : Fields) (earlier : List Item) → Ready f DisplayDataTypeKey earlier
    → Step f (text_of_field f) DisplayDataTypeKey earlier
display_kind_step f earlier ready =
    line_step f DisplayDataTypeKey display_kind_word f.display_kind earlier refl refl
    (record { known = refl; keyword = record { letter_first = refl; bytes = refl }; once = refl; no_words = refl; no_comment = refl; no_other = refl })
    (λ x. true) (any f.display_kind) (λ x e. (display_kind_whole x, display_kind_row earlier x (no_line_yet f DisplayDataTypeKey earlier ready refl))) ready

pub dimension_step : NumberLaws → (f : Fields) (earlier : List Item) → fits f DimensionKey ≡ true → Ready f DimensionKey earlier
    → Step f (text_of_field f) DimensionKey earlier
dimension_step laws f earlier fit ready =
    line_step f DimensionKey decimal f.dimension earlier refl refl
    (record { known = refl; keyword = record { letter_first = refl; bytes = refl }; once = refl; no_words = refl; no_comment = refl; no_other = refl })
    (is_node most_nodes) fit
    (λ n is. let few = leb-true n most_nodes (and_parts (nat_le 1 n) (nat_le n most_nodes) is).1 in
    let line = line_of_number laws (field_word DimensionKey) (omega arith) (pos 1) (pos most_nodes) (pos n) (omega arith) is in
    (line.whole, dimension_row earlier (written_line (field_word DimensionKey) (decimal n)) (no_line_yet f DimensionKey earlier ready refl) line.short line.filled line.read)) ready

pub capacity_step : NumberLaws → (f : Fields) (earlier : List Item) → fits f CapacityKey ≡ true → Ready f CapacityKey earlier
    → Step f (text_of_field f) CapacityKey earlier
capacity_step laws f earlier fit ready =
    line_step f CapacityKey signed_decimal f.capacity earlier refl refl
    (record { known = refl; keyword = record { letter_first = refl; bytes = refl }; once = refl; no_words = refl; no_comment = refl; no_other = refl })
    (is_from_to (pos 1) (pos most_capacity)) fit
    (λ z is. let few = size_from 1 most_capacity z is in
    let line = line_of_number laws (field_word CapacityKey) (omega arith) (pos 1) (pos most_capacity) z (omega arith) is in
    (line.whole, capacity_row earlier (written_line (field_word CapacityKey) (signed_decimal z)) (no_line_yet f CapacityKey earlier ready refl) line.short line.filled line.read)) ready

pub scale_step : NumberLaws → (f : Fields) (earlier : List Item) → fits f ScaleKey ≡ true → Ready f ScaleKey earlier
    → Step f (text_of_field f) ScaleKey earlier
scale_step laws f earlier fit ready =
    line_step f ScaleKey signed_decimal f.scale earlier refl refl
    (record { known = refl; keyword = record { letter_first = refl; bytes = refl }; once = refl; no_words = refl; no_comment = refl; no_other = refl })
    (is_from_to (pos 1) (pos most_scale)) fit
    (λ z is. let few = size_from 1 most_scale z is in
    let line = line_of_number laws (field_word ScaleKey) (omega arith) (pos 1) (pos most_scale) z (omega arith) is in
    (line.whole, scale_row earlier (written_line (field_word ScaleKey) (signed_decimal z)) (no_line_yet f ScaleKey earlier ready refl) line.short line.filled line.read)) ready

pub load_unit_step : NumberLaws → (f : Fields) (earlier : List Item) → fits f LoadUnitKey ≡ true → Ready f LoadUnitKey earlier
    → Step f (text_of_field f) LoadUnitKey earlier
load_unit_step laws f earlier fit ready =
    line_step f LoadUnitKey signed_decimal f.load_unit earlier refl refl
    (record { known = refl; keyword = record { letter_first = refl; bytes = refl }; once = refl; no_words = refl; no_comment = refl; no_other = refl })
    (is_from_to (pos 1) (pos most_load_unit)) fit
    (λ z is. let few = size_from 1 most_load_unit z is in
    let line = line_of_number laws (field_word LoadUnitKey) (omega arith) (pos 1) (pos most_load_unit) z (omega arith) is in
    (line.whole, load_unit_row earlier (written_line (field_word LoadUnitKey) (signed_decimal z)) (no_line_yet f LoadUnitKey earlier ready refl) line.short line.filled line.read)) ready

-- ---- lines that may repeat

pub comment_step : (f : Fields) (earlier : List Item) → fits f CommentKey ≡ true → Ready f CommentKey earlier
    → Step f (text_of_field f) CommentKey earlier
comment_step f earlier fit ready =
    let both = and_parts (nat_le (length f.comments) most_comments) (list_all (is_kept (field_word CommentKey)) f.comments) fit in
    let few = leb-true (length f.comments) most_comments both.0 in
    let none : values_at CommentKey earlier ≡ [] = ready.no_comments refl in
    let count : length (values_at CommentKey earlier) ≡ 0 = ap (λ (values : List (List ℕ)). length values) none in
    let run = comments_run f.comments earlier ready.clean (omega (arith, count, few)) both.1 in
    record {
      items = run.items;
      written = run.written;
      no_end = run.no_end;
      adds = record {
        clean = run.clean;
        values = λ g once. run.values g once ∙ sym (ap (λ b. cond b None (value_at g earlier)) (no_comment g once));
        words = λ g. run.words g ∙ kept_blank (same_field g CommentKey) [] (words_of g earlier) (λ same. ap (λ (h : Field). words_of h earlier) (same_field_is g CommentKey same) ∙ ready.no_words);
        comments = run.comments_are ∙ ap (λ (values : List (List ℕ)). values ++ f.comments) none;
        others = run.others;
      };
    }

no_other : (g : Field) → may_repeat g ≡ false → same_field g OtherKey ≡ false
no_other g once =
    false_from_ne_true (same_field g OtherKey) (λ e. true≢false (sym (ap may_repeat (same_field_is g OtherKey e)) ∙ once))

pub other_step : (f : Fields) (earlier : List Item) → fits f OtherKey ≡ true → Ready f OtherKey earlier
    → Step f (text_of_field f) OtherKey earlier
other_step f earlier fit ready =
    let both = and_parts (nat_le (length f.others) most_others) (list_all is_other f.others) fit in
    let few = leb-true (length f.others) most_others both.0 in
    let none : others_in earlier ≡ [] = ready.no_others refl in
    let count : length (others_in earlier) ≡ 0 = ap (λ (others : List (List ℕ × List ℕ)). length others) none in
    let run = others_run f.others earlier ready.clean (omega (arith, count, few)) both.1 in
    record {
      items = run.items;
      written = run.written;
      no_end = run.no_end;
      adds = record {
        clean = run.clean;
        values = λ g once. run.values g ∙ sym (ap (λ b. cond b None (value_at g earlier)) (no_other g once));
        words = λ g. run.words g ∙ kept_blank (same_field g OtherKey) [] (words_of g earlier) (λ same. ap (λ (h : Field). words_of h earlier) (same_field_is g OtherKey same) ∙ ready.no_words);
        comments = run.comments;
        others = run.others_are ∙ ap (λ (others : List (List ℕ × List ℕ)). others ++ f.others) none;
      };
    }

-- ---- the text of each field of a valid file, read after the texts of the fields before it

-- plan: by the field: each keyword has its step, and each section `section_step`
pub field_step : NumberLaws → (f : Fields) → ((g : Field) → fits f g ≡ true) → (field : Field) (earlier : List Item)
    → Ready f field earlier → Step f (text_of_field f) field earlier
field_step laws f valid NameKey earlier ready = name_step f earlier (valid NameKey) ready
field_step laws f valid TypeKey earlier ready = kind_step f earlier ready
field_step laws f valid CommentKey earlier ready = comment_step f earlier (valid CommentKey) ready
field_step laws f valid OtherKey earlier ready = other_step f earlier (valid OtherKey) ready
field_step laws f valid DimensionKey earlier ready = dimension_step laws f earlier (valid DimensionKey) ready
field_step laws f valid CapacityKey earlier ready = capacity_step laws f earlier (valid CapacityKey) ready
field_step laws f valid ScaleKey earlier ready = scale_step laws f earlier (valid ScaleKey) ready
field_step laws f valid LoadUnitKey earlier ready = load_unit_step laws f earlier (valid LoadUnitKey) ready
field_step laws f valid EdgeWeightTypeKey earlier ready = weight_kind_step f earlier ready
field_step laws f valid EdgeWeightFormatKey earlier ready = weight_format_step f earlier ready
field_step laws f valid NodeCoordTypeKey earlier ready = coord_kind_step f earlier ready
field_step laws f valid DisplayDataTypeKey earlier ready = display_kind_step f earlier ready
field_step laws f valid NodeCoordPart earlier ready =
    section_step laws f valid NodeCoordPart (cond (spatial f) SpacePoints Points) refl earlier ready
field_step laws f valid DisplayDataPart earlier ready = section_step laws f valid DisplayDataPart Points refl earlier ready
field_step laws f valid DemandPart earlier ready = section_step laws f valid DemandPart _ refl earlier ready
field_step laws f valid DepotPart earlier ready = section_step laws f valid DepotPart Depots refl earlier ready
field_step laws f valid FixedEdgesPart earlier ready = section_step laws f valid FixedEdgesPart Pairs refl earlier ready
field_step laws f valid EdgeWeightPart earlier ready = section_step laws f valid EdgeWeightPart Weights refl earlier ready
field_step laws f valid TourPart earlier ready = section_step laws f valid TourPart Tours refl earlier ready
field_step laws f valid NodePotentialPart earlier ready = section_step laws f valid NodePotentialPart _ refl earlier ready
field_step laws f valid RowPotentialPart earlier ready = section_step laws f valid RowPotentialPart _ refl earlier ready
field_step laws f valid ColumnPotentialPart earlier ready = section_step laws f valid ColumnPotentialPart _ refl earlier ready
field_step laws f valid FixedEdgePotentialPart earlier ready =
    section_step laws f valid FixedEdgePotentialPart Triples refl earlier ready
field_step laws f valid FamilyPart earlier ready = section_step laws f valid FamilyPart Families refl earlier ready
field_step laws f valid MemoryPart earlier ready = section_step laws f valid MemoryPart Memories refl earlier ready
field_step laws f valid SubsetRowPart earlier ready = section_step laws f valid SubsetRowPart SubsetRows refl earlier ready
field_step laws f valid BranchPart earlier ready = section_step laws f valid BranchPart Steps refl earlier ready

-- ---- what the items of a whole text say of each keyword and each section is in the file

-- what the words of a section give is what the file holds
section_is : NumberLaws → (f : Fields) (items : List Item) → Stage f [] items → fits f DimensionKey ≡ true
    → (field : Field) (shape : Shape) (o : Option (Entries shape)) → IsSection f field shape o
    → cond (has_line field items) (Some (read_for shape (dimension_in items) (words_of field items))) None ≡ o
section_is laws f items stage one field shape None is =
    let has : has_line field items ≡ false = has_value field items ∙ ap (λ (v : Option (List ℕ)). is_some v) (stage.values field is.once ∙ is.value_is) in
    ap (λ b. cond b (Some (read_for shape (dimension_in items) (words_of field items))) None) has
section_is laws f items stage one field shape (Some xs) is =
    let has : has_line field items ≡ true = has_value field items ∙ ap (λ (v : Option (List ℕ)). is_some v) (stage.values field is.once ∙ is.value_is) in
    let right = are_right laws f shape xs items (stage.values DimensionKey refl) one is.fit in
    ap (λ b. cond b (Some (read_for shape (dimension_in items) (words_of field items))) None) has
    ∙ ap (λ (words : List (List ℕ)). Some (read_for shape (dimension_in items) words)) (stage.words field ∙ is.words_are)
    ∙ ap (λ (entries : Entries shape). Some entries) (body laws [] shape is.writable (dimension_in items) right.few xs right.valid).back

-- what the line of a keyword with a word names is what the file holds
named_is : {V : Type 0} (f : Fields) (items : List Item) → Stage f [] items → (field : Field) → may_repeat field ≡ false
    → (text : V → List ℕ) (by_word : List ℕ → Option V)
    → ((v : V) → by_word (first_word (text v)) ≡ Some v) → (o : Option V) → value_of f field ≡ option_map text o
    → option_and_then (λ value. by_word (first_word value)) (value_at field items) ≡ o
named_is f items stage field once text by_word back o is =
    ap (λ (v : Option (List ℕ)). option_and_then (λ value. by_word (first_word value)) v) (stage.values field once ∙ is) ∙ named_back text by_word back o

-- the number of a keyword's line, by its value
abbrev number_from : Field → Option (List ℕ) → Option ℤ
number_from field v = option_and_then (λ value. option_and_then result_ok (read_as field value)) v

-- the points of nodes, in space or in the plane
points_read : (f : Fields) (items : List Item) (in_space : Bool)
    → ((shape : Shape) → Some (cond in_space SpacePoints Points) ≡ Some shape
    → cond (has_line NodeCoordPart items) (Some (read_for shape (dimension_in items) (words_of NodeCoordPart items))) None ≡ entries_in f NodeCoordPart shape)
    → cond (has_line NodeCoordPart items) (Some (coords_by_node in_space (dimension_in items) (words_of NodeCoordPart items))) None ≡ f.coords
points_read f items true read = read SpacePoints refl
points_read f items false read = read Points refl

-- the items of a whole text parse to its file
-- plan: field by field: the words of keywords are read back (`named_is`), and the entries of sections (`section_is`)
pub spelled_is : NumberLaws → (f : Fields) (items : List Item) → ((g : Field) → fits f g ≡ true) → Stage f [] items
    → spelled items ≡ f
spelled_is laws f items valid stage =
    let one = valid DimensionKey in
    let read : (field : Field) (shape : Shape) → shape_of (spatial f) field ≡ Some shape
    → cond (has_line field items) (Some (read_for shape (dimension_in items) (words_of field items))) None ≡ entries_in f field shape =
    λ field shape e. section_is laws f items stage one field shape (entries_in f field shape) (is_section f valid field shape e) in
    let space = space_written f items (stage.values NodeCoordTypeKey refl) (stage.values EdgeWeightTypeKey refl) in
    let coords_read : (in_space : Bool) → spatial f ≡ in_space
    → cond (has_line NodeCoordPart items) (Some (coords_by_node in_space (dimension_in items) (words_of NodeCoordPart items))) None ≡ f.coords =
    λ in_space e. points_read f items in_space (λ shape is. read NodeCoordPart shape (ap (λ b. Some (cond b SpacePoints Points)) e ∙ is)) in
    λ i. record {
      name = stage.values NameKey refl i;
      kind = named_is f items stage TypeKey refl kind_word kind_named kind_back f.kind refl i;
      comments = stage.comments i;
      others = stage.others i;
      dimension = (ap (λ (v : Option (List ℕ)). option_map nat_abs (number_from DimensionKey v)) (stage.values DimensionKey refl) ∙ dimension_whole laws f.dimension one) i;
      capacity = (ap (λ (v : Option (List ℕ)). number_from CapacityKey v) (stage.values CapacityKey refl) ∙ capacity_whole laws f.capacity (valid CapacityKey)) i;
      scale = (ap (λ (v : Option (List ℕ)). number_from ScaleKey v) (stage.values ScaleKey refl) ∙ scale_whole laws f.scale (valid ScaleKey)) i;
      load_unit = (ap (λ (v : Option (List ℕ)). number_from LoadUnitKey v) (stage.values LoadUnitKey refl) ∙ load_unit_whole laws f.load_unit (valid LoadUnitKey)) i;
      weight_kind = named_is f items stage EdgeWeightTypeKey refl weight_kind_word weight_kind_named weight_kind_back f.weight_kind refl i;
      weight_format = named_is f items stage EdgeWeightFormatKey refl weight_format_word weight_format_named weight_format_back f.weight_format refl i;
      coord_kind = named_is f items stage NodeCoordTypeKey refl coord_kind_word coord_kind_named coord_kind_back f.coord_kind refl i;
      display_kind = named_is f items stage DisplayDataTypeKey refl display_kind_word display_kind_named display_kind_back f.display_kind refl i;
      coords = (ap (λ (b : Bool). cond (has_line NodeCoordPart items) (Some (coords_by_node b (dimension_in items) (words_of NodeCoordPart items))) None) space
          ∙ coords_read (spatial f) refl) i;
      display = read DisplayDataPart Points refl i;
      demands = read DemandPart _ refl i;
      depots = read DepotPart Depots refl i;
      fixed = read FixedEdgesPart Pairs refl i;
      weights = read EdgeWeightPart Weights refl i;
      tours = read TourPart Tours refl i;
      node_potentials = read NodePotentialPart _ refl i;
      row_potentials = read RowPotentialPart _ refl i;
      column_potentials = read ColumnPotentialPart _ refl i;
      fixed_potentials = read FixedEdgePotentialPart Triples refl i;
      families = read FamilyPart Families refl i;
      memories = read MemoryPart Memories refl i;
      subset_rows = read SubsetRowPart SubsetRows refl i;
      branches = read BranchPart Steps refl i;
    }

-- ---- the whole canonical text of a valid file

-- ---- the end line

-- the line EOF, as it is written
abbrev end_line : Item
end_line = Line Eof (word_line_of (codes "EOF"))

end_written : items_of (codes "EOF" ++ 10 ∷ []) ≡ end_line ∷ LineEnd ∷ []
end_written = refl

-- it says nothing of any field
ended_stage : (f : Fields) (earlier : List Item) → Stage f [] earlier → Stage f [] (end_line ∷ earlier)
ended_stage f earlier stage = record {
  clean = clean_more earlier end_line stage.clean refl;
  values = λ g once. stage.values g once;
  words = λ g. stage.words g;
  comments = stage.comments;
  others = stage.others;
}

-- ---- the items of a text that ends so

part_is : (bytes : List ℕ) (items : List Item) → is_too_long bytes ≡ false → items_of bytes ≡ items ++ end_line ∷ LineEnd ∷ []
    → has_end_line items ≡ false → part bytes ≡ end_line ∷ onto items []
part_is bytes items short items_are no_end =
    ap (λ b. reverse (to_end_line (cond b (settled_items (take most_file_bytes bytes)) (items_of bytes)))) short
    ∙ ap (λ (all : List Item). reverse (to_end_line all)) items_are
    ∙ ap (λ (all : List Item). reverse all) (ended_at items end_line (LineEnd ∷ []) no_end refl)
    ∙ reverse-append items (end_line ∷ [])
    ∙ sym (ap (λ (all : List Item). end_line ∷ all) (onto_reversed items [] ∙ append-nil (reverse items)))

spelled_by : (bytes : List ℕ) (f : Fields) (items : List Item) → is_too_long bytes ≡ false → part bytes ≡ items → IsClean items
    → fault_at_end items ≡ None → spelled items ≡ f → ParsesTo bytes f
spelled_by bytes f items short part_are clean at_end spelled_are = record {
  no_fault = ap (λ (all : List Item). first_row (fault_in all ∷ when (is_too_long bytes && not (has_end_line all)) faults.TooLong
      ∷ option_map (λ fault. faults.End fault) (fault_at_end all) ∷ [])) part_are
      ∙ ap (λ b. first_row (fault_in items ∷ when (b && not (has_end_line items)) faults.TooLong ∷ option_map (λ fault. faults.End fault) (fault_at_end items) ∷ [])) short
      ∙ ap (λ (found : Option ReadFault). first_row (found ∷ None ∷ option_map (λ fault. faults.End fault) (fault_at_end items) ∷ [])) clean
      ∙ ap (λ (found : Option EndFault). first_row (None ∷ None ∷ option_map (λ fault. faults.End fault) found ∷ [])) at_end;
  fields = sym (ap spelled part_are ∙ spelled_are);
}

-- ---- no rule is broken

no_rule : (bad : Option Field) (rule : Option EndFault)
    → option_or (option_map (λ field. BadField field) bad) (option_map (λ fault. Rule fault) rule) ≡ None → rule ≡ None
no_rule bad None none = refl
no_rule None (Some fault) none = absurd (none-some (Rule fault) (sym none))
no_rule (Some field) (Some fault) none = absurd (none-some (BadField field) (sym none))

no_end_fault : (f : Fields) (items : List Item) → fault_of f ≡ None → spelled items ≡ f → first_incomplete items ≡ None
    → fault_at_end items ≡ None
no_end_fault f items valid spelled_are complete =
    ap (λ (g : Fields). end_fault (standing_of g) (first_incomplete items)) spelled_are
    ∙ ap (λ (found : Option Field). end_fault (standing_of f) found) complete
    ∙ no_rule (bad_field f) (end_fault (standing_of f) None) valid

-- ---- the law

pub text_spelled : NumberLaws → (f : Fields) → fault_of f ≡ None → length (text_of f) < 750000000 → ParsesTo (text_of f) f
text_spelled laws f valid few =
    let each = all_fit f valid in
    let whole = all_fields f (text_of_field f) (field_step laws f each) fields_in_order fields_ordered [] (first_stage f) in
    let short : is_too_long (text_of f) ≡ false = le-ltb most_file_bytes (length (text_of f)) (omega (arith, few)) in
    let items_are : items_of (text_of f) ≡ whole.items ++ end_line ∷ LineEnd ∷ [] =
    whole.written (codes "EOF" ++ 10 ∷ []) ∙ ap (λ (items : List Item). whole.items ++ items) end_written in
    let items = end_line ∷ onto whole.items [] in
    let stage = ended_stage f (onto whole.items []) whole.stage in
    let spelled_are = spelled_is laws f items each stage in
    spelled_by (text_of f) f items short (part_is (text_of f) whole.items short items_are whole.no_end) stage.clean
    (no_end_fault f items valid spelled_are (none_incomplete laws f items each stage)) spelled_are
