-- A canonical text, field by field: what the items so far say of each field. Part of the proof of the law
-- `canonical_texts_are_read_back`.
use Rattle.tsp_read.proofs.Prelude.{◌≡◌, ℕ, Bool, true, false, cond, List, [], ◌∷◌, ◌++◌, refl, sym, ap, subst, ◌∙◌, Option, Some, None, and_parts, or_parts, or_from, not-true, true≢false, none-some, decimal, signed_decimal, find, list_any, flat_map, option_map, option_map_or, not, ◌&&◌, ◌||◌, shape_of, is_section_field, keyword_of, kind_word, weight_kind_word, weight_format_word, coord_kind_word, display_kind_word, fields_in_order, field_found, field_word, Field, NameKey, TypeKey, CommentKey, OtherKey, DimensionKey, CapacityKey, ScaleKey, LoadUnitKey, EdgeWeightTypeKey, EdgeWeightFormatKey, NodeCoordTypeKey, DisplayDataTypeKey, NodeCoordPart, Known, keyword_line, Fields, spatial, stands_in, clean_more, same_field_is, same_self, same_field, value_at, values_at, others_in, words_of, may_repeat, row_of, Item, has_end_line, is_end_line, WordLine, Line, LineEnd, word_line_of, items_of, IsClean}
use Rattle.tsp_format.proofs.Basics.{or_right_from}
use Rattle.tsp_read.proofs.Onto.{onto, onto-append, IsWhole, IsKeyword, written_line, value_written}
use Rattle.tsp_read.proofs.Shapes.{entries_in, words_for}
use Rattle.tsp_read.proofs.Text.{Writes, nothing_written, both_written}

-- ---- the text of a field

-- the empty value of a line that is present
abbrev pub empty_line : Bool → Option (List ℕ)
empty_line there = cond there (Some []) None

-- the value of the field's line; a section's line has an empty one; comments and unknown keywords have none
abbrev pub value_of : Fields → Field → Option (List ℕ)
value_of f NameKey = f.name
value_of f TypeKey = option_map kind_word f.kind
value_of f CommentKey = None
value_of f OtherKey = None
value_of f DimensionKey = option_map decimal f.dimension
value_of f CapacityKey = option_map signed_decimal f.capacity
value_of f ScaleKey = option_map signed_decimal f.scale
value_of f LoadUnitKey = option_map signed_decimal f.load_unit
value_of f EdgeWeightTypeKey = option_map weight_kind_word f.weight_kind
value_of f EdgeWeightFormatKey = option_map weight_format_word f.weight_format
value_of f NodeCoordTypeKey = option_map coord_kind_word f.coord_kind
value_of f DisplayDataTypeKey = option_map display_kind_word f.display_kind
value_of f field = empty_line (stands_in f field)

abbrev pub if_written : {A : Type 0} → (A → List (List ℕ)) → Option A → List (List ℕ)
if_written words None = []
if_written words (Some value) = words value

-- the words of the field's section
abbrev pub words_written : Fields → Field → List (List ℕ)
words_written f field =
    option_map_or (λ shape. if_written (words_for shape) (entries_in f field shape)) (shape_of (spatial f) field) []

-- ---- stages

-- the field's text is still to come
abbrev pub is_left : Field → List Field → Bool
is_left field left = list_any (same_field field) left

-- the items say what the file says, but of the fields that are left, of which they say nothing
pub record Stage (f : Fields) (left : List Field) (earlier : List Item) : Type 0 where
  pub clean : IsClean earlier
  pub values : (g : Field) → may_repeat g ≡ false → value_at g earlier ≡ cond (is_left g left) None (value_of f g)
  pub words : (g : Field) → words_of g earlier ≡ cond (is_left g left) [] (words_written f g)
  pub comments : values_at CommentKey earlier ≡ cond (is_left CommentKey left) [] f.comments
  pub others : others_in earlier ≡ cond (is_left OtherKey left) [] f.others

-- the facts before the text of a field
pub record Ready (f : Fields) (field : Field) (earlier : List Item) : Type 0 where
  pub clean : IsClean earlier
  pub unseen : may_repeat field ≡ false → value_at field earlier ≡ None
  pub no_words : words_of field earlier ≡ []
  pub no_comments : same_field CommentKey field ≡ true → values_at CommentKey earlier ≡ []
  pub no_others : same_field OtherKey field ≡ true → others_in earlier ≡ []
  pub dimension : is_section_field field ≡ true → value_at DimensionKey earlier ≡ option_map decimal f.dimension
  pub coords : is_section_field field ≡ true → value_at NodeCoordTypeKey earlier ≡ option_map coord_kind_word f.coord_kind
  pub weights : is_section_field field ≡ true → value_at EdgeWeightTypeKey earlier ≡ option_map weight_kind_word f.weight_kind
  pub no_points : is_section_field field ≡ false → value_at NodeCoordPart earlier ≡ None

-- what the items of the field's text add
pub record Adds (f : Fields) (field : Field) (earlier later : List Item) : Type 0 where
  pub clean : IsClean later
  pub values : (g : Field) → may_repeat g ≡ false → value_at g later ≡ cond (same_field g field) (value_of f field) (value_at g earlier)
  pub words : (g : Field) → words_of g later ≡ cond (same_field g field) (words_written f field) (words_of g earlier)
  pub comments : values_at CommentKey later ≡ cond (same_field CommentKey field) f.comments (values_at CommentKey earlier)
  pub others : others_in later ≡ cond (same_field OtherKey field) f.others (others_in earlier)

-- one thing that the items say of a field g, once a field's text has come
carried : {X : Type 0} (blank : X) (whole : Field → X) (field : Field) (left : List Field) (g : Field) (old new : X)
    → is_left field left ≡ false
    → old ≡ cond (same_field g field || is_left g left) blank (whole g) → new ≡ cond (same_field g field) (whole field) old
    → new ≡ cond (is_left g left) blank (whole g)
carried {X} blank whole field left g old new gone was is = by_case (same_field g field) refl
  where
    by_case : (b : Bool) → same_field g field ≡ b → new ≡ cond (is_left g left) blank (whole g)
    by_case true e =
        is ∙ ap (λ t. cond t (whole field) old) e
        ∙ subst (λ (h : Field). whole field ≡ cond (is_left h left) blank (whole h)) (sym (same_field_is g field e)) (sym (ap (λ t. cond t blank (whole field)) gone))
    by_case false e = is ∙ ap (λ t. cond t (whole field) old) e ∙ was ∙ ap (λ t. cond (t || is_left g left) blank (whole g)) e

next_stage : (f : Fields) (field : Field) (left : List Field) (earlier later : List Item) → is_left field left ≡ false
    → Stage f (field ∷ left) earlier
    → Adds f field earlier later → Stage f left later
next_stage f field left earlier later gone stage adds = record {
  clean = adds.clean;
  values = λ g once. carried None (value_of f) field left g (value_at g earlier) (value_at g later) gone (stage.values g once) (adds.values g once);
  words = λ g. carried [] (words_written f) field left g (words_of g earlier) (words_of g later) gone (stage.words g) (adds.words g);
  comments = carried [] (λ g. f.comments) field left CommentKey (values_at CommentKey earlier) (values_at CommentKey later) gone stage.comments adds.comments;
  others = carried [] (λ g. f.others) field left OtherKey (others_in earlier) (others_in later) gone stage.others adds.others;
}

-- ---- one field after the other

-- keywords that say how the words of sections are read
abbrev keys_left : List Field → Bool
keys_left left = is_left DimensionKey left || is_left NodeCoordTypeKey left || is_left EdgeWeightTypeKey left

-- sections come after those keywords, and the points of nodes after all keywords
abbrev is_in_place : Field → List Field → Bool
is_in_place field left = not (is_section_field field && keys_left left) && (is_section_field field || is_left NodeCoordPart left)

-- no field is twice in the list, and each is in its place
abbrev pub is_ordered : List Field → Bool
is_ordered [] = true
is_ordered (field ∷ left) = not (is_left field left) && is_in_place field (field ∷ left) && is_ordered left

none_late : (section late : Bool) → not (section && late) ≡ true → section ≡ true → late ≡ false
none_late true late e s = not-true late e
none_late false late e s = absurd (true≢false (sym s))

here : {X : Type 0} (g field : Field) (left : List Field) (blank whole : X) → same_field g field ≡ true
    → cond (is_left g (field ∷ left)) blank whole ≡ blank
here g field left blank whole e = ap (λ b. cond (b || is_left g left) blank whole) e

-- the text of a keyword that isn't left
came : (f : Fields) (key : Field) (left : List Field) (earlier : List Item) → may_repeat key ≡ false → is_left key left ≡ false
    → Stage f left earlier
    → value_at key earlier ≡ value_of f key
came f key left earlier once late stage = stage.values key once ∙ ap (λ b. cond b None (value_of f key)) late

-- none of those keywords is left at a section
none_left : (field : Field) (left : List Field) → is_in_place field left ≡ true → is_section_field field ≡ true
    → (is_left DimensionKey left ≡ false) × (is_left NodeCoordTypeKey left ≡ false) × (is_left EdgeWeightTypeKey left ≡ false)
none_left field left placed section =
    let sections = and_parts (not (is_section_field field && keys_left left)) (is_section_field field || is_left NodeCoordPart left) placed in
    let late = none_late (is_section_field field) (keys_left left) sections.0 section in
    let two = or_parts (is_left DimensionKey left || is_left NodeCoordTypeKey left) (is_left EdgeWeightTypeKey left) late in
    let one = or_parts (is_left DimensionKey left) (is_left NodeCoordTypeKey left) two.0 in
    (one.0, one.1, two.1)

-- plan: what is still to come isn't written yet, and what the field depends on has come (`came`, `points_late`)
pub ready : (f : Fields) (field : Field) (left : List Field) (earlier : List Item) → is_in_place field (field ∷ left) ≡ true
    → Stage f (field ∷ left) earlier → Ready f field earlier
ready f field left earlier placed stage = record {
  clean = stage.clean;
  unseen = λ once. stage.values field once ∙ here field field left None (value_of f field) (same_self field);
  no_words = stage.words field ∙ here field field left [] (words_written f field) (same_self field);
  no_comments = λ same. stage.comments ∙ here CommentKey field left [] f.comments same;
  no_others = λ same. stage.others ∙ here OtherKey field left [] f.others same;
  dimension = λ section. came f DimensionKey (field ∷ left) earlier refl (none_left field (field ∷ left) placed section).0 stage;
  coords = λ section. came f NodeCoordTypeKey (field ∷ left) earlier refl (none_left field (field ∷ left) placed section).1 stage;
  weights = λ section. came f EdgeWeightTypeKey (field ∷ left) earlier refl (none_left field (field ∷ left) placed section).2 stage;
  no_points = λ keyword. stage.values NodeCoordPart refl ∙ ap (λ b. cond b None (value_of f NodeCoordPart))
      (or_right_from (is_section_field field) (is_left NodeCoordPart (field ∷ left))
      (and_parts (not (is_section_field field && keys_left (field ∷ left))) (is_section_field field || is_left NodeCoordPart (field ∷ left)) placed).1 keyword);
}

-- the items of a field's text, after these
pub record Step (f : Fields) (text : Field → List ℕ) (field : Field) (earlier : List Item) : Type 0 where
  pub items : List Item
  pub written : Writes (text field) items
  pub no_end : has_end_line items ≡ false
  pub adds : Adds f field earlier (onto items earlier)

pub record Whole (f : Fields) (text : Field → List ℕ) (fields : List Field) (earlier : List Item) : Type 0 where
  pub items : List Item
  pub written : Writes (flat_map text fields) items
  pub no_end : has_end_line items ≡ false
  pub stage : Stage f [] (onto items earlier)

no_end_of_both : (xs ys : List Item) → has_end_line xs ≡ false → has_end_line ys ≡ false → has_end_line (xs ++ ys) ≡ false
no_end_of_both [] ys first second = second
no_end_of_both (x ∷ xs) ys first second =
    let both = or_parts (is_end_line x) (has_end_line xs) first in
    or_from (is_end_line x) (has_end_line (xs ++ ys)) both.0 (no_end_of_both xs ys both.1 second)

pub all_fields : (f : Fields) (text : Field → List ℕ)
    → ((field : Field) (earlier : List Item) → Ready f field earlier → Step f text field earlier)
    → (fields : List Field) → is_ordered fields ≡ true → (earlier : List Item) → Stage f fields earlier
    → Whole f text fields earlier
all_fields f text each [] ordered earlier stage = record { items = []; written = nothing_written; no_end = refl; stage = stage }
all_fields f text each (field ∷ left) ordered earlier stage =
    let both = and_parts (not (is_left field left) && is_in_place field (field ∷ left)) (is_ordered left) ordered in
    let first = and_parts (not (is_left field left)) (is_in_place field (field ∷ left)) both.0 in
    let step = each field earlier (ready f field left earlier first.1 stage) in
    let rest = all_fields f text each left both.1 (onto step.items earlier) (next_stage f field left earlier (onto step.items earlier) (not-true (is_left field left) first.0) stage step.adds) in
    record {
      items = step.items ++ rest.items;
      written = both_written (text field) (flat_map text left) step.items rest.items step.written rest.written;
      no_end = no_end_of_both step.items rest.items step.no_end rest.no_end;
      stage = subst (λ (items : List Item). Stage f [] items) (sym (onto-append step.items rest.items earlier)) rest.stage;
    }

one_passes : {A : Type 0} (passes later : Bool) (x first : A) (rest : Option A) → cond passes (Some first) rest ≡ Some x
    → (rest ≡ Some x → later ≡ true) → (passes || later) ≡ true
one_passes true later x first rest e more = refl
one_passes false later x first rest e more = more e

any_found : {A : Type 0} (test : A → Bool) (xs : List A) (x : A) → find test xs ≡ Some x → list_any test xs ≡ true
any_found test [] x e = absurd (none-some x e)
any_found test (y ∷ ys) x e = one_passes (test y) (list_any test ys) x y (find test ys) e (any_found test ys x)

-- before the first field's text, all are left
all_left : (g : Field) → is_left g fields_in_order ≡ true
all_left g = any_found (same_field g) fields_in_order g (field_found g)

pub first_stage : (f : Fields) → Stage f fields_in_order []
first_stage f = record {
  clean = refl;
  values = λ g once. sym (ap (λ b. cond b None (value_of f g)) (all_left g));
  words = λ g. sym (ap (λ b. cond b [] (words_written f g)) (all_left g));
  comments = refl;
  others = refl;
}

pub fields_ordered : is_ordered fields_in_order ≡ true
fields_ordered = refl

-- ---- the text of one field: a field that is missing, a keyword's line

-- ---- a field that is missing

pub kept_blank : {X : Type 0} (b : Bool) (blank old : X) → (b ≡ true → old ≡ blank) → old ≡ cond b blank old
kept_blank true blank old e = e refl
kept_blank false blank old e = refl

pub missing : (f : Fields) (text : Field → List ℕ) (field : Field) (earlier : List Item) → Ready f field earlier → text field ≡ []
    → may_repeat field ≡ false → value_of f field ≡ None
    → words_written f field ≡ [] → same_field CommentKey field ≡ false → same_field OtherKey field ≡ false
    → Step f text field earlier
missing f text field earlier known nothing once no_value no_word no_comment no_other = record {
  items = [];
  written = λ rest. ap (λ (t : List ℕ). items_of (t ++ rest)) nothing;
  no_end = refl;
  adds = record {
    clean = known.clean;
    values = λ g again. kept_blank (same_field g field) (value_of f field) (value_at g earlier)
        (λ same. ap (λ (h : Field). value_at h earlier) (same_field_is g field same) ∙ known.unseen once ∙ sym no_value);
    words = λ g. kept_blank (same_field g field) (words_written f field) (words_of g earlier)
        (λ same. ap (λ (h : Field). words_of h earlier) (same_field_is g field same) ∙ known.no_words ∙ sym no_word);
    comments = sym (ap (λ b. cond b f.comments (values_at CommentKey earlier)) no_comment);
    others = sym (ap (λ b. cond b f.others (others_in earlier)) no_other);
  };
}

-- ---- a keyword's line

-- the words of no section but an open one
pub key_line : (f : Fields) (text : Field → List ℕ) (field : Field) (value : List ℕ) (earlier : List Item) → Ready f field earlier
    → text field ≡ keyword_line field value → keyword_of (field_word field) ≡ Known field → IsKeyword (field_word field)
    → IsWhole value
    → value_of f field ≡ Some value → words_written f field ≡ [] → same_field CommentKey field ≡ false
    → same_field OtherKey field ≡ false
    → row_of earlier (Line (Known field) (written_line (field_word field) value)) ≡ None → Step f text field earlier
key_line f text field value earlier known text_is key_is key whole value_is no_word no_comment no_other row =
    let line = written_line (field_word field) value in
    record {
      items = Line (Known field) line ∷ LineEnd ∷ [];
      written = λ rest. ap (λ (t : List ℕ). items_of (t ++ rest)) text_is ∙ value_written (field_word field) value key whole rest ∙ ap (λ k. Line k line ∷ LineEnd ∷ items_of rest) key_is;
      no_end = refl;
      adds = record {
        clean = clean_more (Line (Known field) line ∷ earlier) LineEnd (clean_more earlier (Line (Known field) line) known.clean row) refl;
        values = λ g again. ap (λ (v : Option (List ℕ)). cond (same_field g field) v (value_at g earlier)) (sym value_is);
        words = λ g. kept_blank (same_field g field) (words_written f field) (words_of g earlier)
            (λ same. ap (λ (h : Field). words_of h earlier) (same_field_is g field same) ∙ known.no_words ∙ sym no_word);
        comments = ap (λ b. cond b (values_at CommentKey earlier ++ value ∷ []) (values_at CommentKey earlier)) no_comment
            ∙ sym (ap (λ b. cond b f.comments (values_at CommentKey earlier)) no_comment);
        others = sym (ap (λ b. cond b f.others (others_in earlier)) no_other);
      };
    }

-- ---- a section

abbrev pub section_line : Field → WordLine
section_line field = word_line_of (field_word field)
