-- A run of plain numbers read in one pass leaves what its words would leave one by one, for src/plain_numbers.rt.
use Rattle.tsp_read.proofs.Prelude.{◌≡◌, ℕ, ◌+◌, ◌<◌, ◌≤◌, Bool, true, false, List, [], ◌∷◌, ◌++◌, length, take, drop, refl, sym, ap, subst, ◌∙◌, arith, inl, inr, Ok, ℤ, pos, ◌*ℤ◌, take-append-drop, Result, Err, IfErr, Option, None, Some, true≢false, le-ltb, or_right, nat_tests, not, ◌&&◌, ◌||◌, ◌⊎◌, unsigned_abs, unit, most_count, plus, minus, point, lower_e, upper_e, IsSign, IsFraction, IsExponent, Numeral, SpellsNumeral, ReadsWhole, ReadsDecimal, whole_of, decimal_of, most_word_bytes, is_blank, is_letter, Numbers, start_filled, place_by, place_of_number, ends_line, is_not_empty, without_start, Item, NumberWord, LineEnd, IsWhole, Place}
use Rattle.std.proofs.lemmas.Str.Parse.{digit_from_value}
use Rattle.std.specs.Str.Parse.{AllDigits}
use Rattle.tsp_number.proofs.WordLaws.{whole_once, whole_of-reads, decimal_once, decimal_of-reads}
use Rattle.tsp_number.specs.states.Digits.{BeginsWithNumber}
use Rattle.tsp_read.proofs.BegunSteps.{settled_filled}
use Rattle.tsp_read.proofs.IntakeSteps.{read_further, line_ends}
use Rattle.tsp_read.proofs.LeftSteps.{FreeOf, left_blank, left_end, before_on, from_on}
use Rattle.tsp_read.proofs.Onwards.{at_before, at_from, word_follows}
use Rattle.tsp_read.proofs.TextSteps.{word_answer, kept_answer}
use Rattle.tsp_read.specs.declared.node_sections.NumberList.{NumberList}
use Rattle.tsp_read.specs.declared.node_sections.PointList.{PointList}
use Rattle.tsp_read.specs.declared.items.Intake.{Intake}
use Rattle.tsp_read.specs.declared.step_fault.StepFault.{StepFault}
use Rattle.tsp_read.specs.declared.step_fault.StepFault.TheVariants as steps
use Rattle.tsp_read.specs.declared.section_builder.SectionBuilder.{SectionBuilder}
use Rattle.tsp_read.specs.declared.section_builder.SectionBuilder.TheVariants as parts
use Rattle.tsp_read.specs.declared.reading.OpenSection.{OpenSection}
use Rattle.tsp_read.specs.declared.reading.Reading.{Reading}
use Rattle.tsp_read.specs.declared.plain_numbers.Count.{Count}
use Rattle.tsp_read.specs.states.HeldParts.{HoldsNumbers, HoldsPoints, shape_of_points, shape_by, HoldsPart, HoldsShape, TakesRead, KeepsWords}
use Rattle.tsp_read.specs.states.Left.{items_left, ends_word, up_to_first, from}
use Rattle.tsp_read.specs.states.Onward.{is_over_long, GivesNext, IsReadTo}
use Rattle.tsp_read.specs.states.Parts.{Takes, are_in_space}
use Rattle.tsp_read.specs.states.PlainNumbers.{front_word, LeavesEnd, counted, in_run, RunsTo, StepsTo}

-- ---- a list in which none passes, and one behind it that does

free_cut : (p : ℕ → Bool) (w : List ℕ) (x : ℕ) (rest : List ℕ) → FreeOf p w → p x ≡ true
    → (up_to_first p (w ++ x ∷ rest) ≡ w) × (from p (w ++ x ∷ rest) ≡ x ∷ rest)
free_cut p [] x rest free e = (at_before p x rest e, at_from p x rest e)
free_cut p (y ∷ w) x rest free e =
    let h = free_cut p w x rest free.1 e in
    (before_on p y (w ++ x ∷ rest) free.0 ∙ ap (λ (ys : List ℕ). y ∷ ys) h.0, from_on p y (w ++ x ∷ rest) free.0 ∙ h.1)

free_join : (p : ℕ → Bool) (xs ys : List ℕ) → FreeOf p xs → FreeOf p ys → FreeOf p (xs ++ ys)
free_join p [] ys a b = b
free_join p (x ∷ xs) ys a b = (a.0, free_join p xs ys a.1 b)

-- ---- a number word has no blank and no byte 10 in it

digit_inside : (c : ℕ) → 48 ≤ c → c ≤ 57 → ends_word c ≡ false
digit_inside c low high = grind (arith, nat_tests)

free_digits : (ds : List ℕ) → AllDigits 10 ds → FreeOf ends_word ds
free_digits [] all = tt
free_digits (c ∷ ds) all =
    let range = digit_from_value c all.0 in
    (digit_inside c (omega (arith, range)) (omega (arith, range)), free_digits ds all.1)

free_sign : (sign : List ℕ) (negative : Bool) → IsSign sign negative → FreeOf ends_word sign
free_sign sign negative (inl is) = subst (FreeOf ends_word) (sym is.0) tt
free_sign sign negative (inr (inl is)) = subst (FreeOf ends_word) (sym is.0) (refl, tt)
free_sign sign negative (inr (inr is)) = subst (FreeOf ends_word) (sym is.0) (refl, tt)

free_fraction : (text digits : List ℕ) → IsFraction text digits → AllDigits 10 digits → FreeOf ends_word text
free_fraction text digits (inl is) all = subst (FreeOf ends_word) (sym is) (refl, free_digits digits all)
free_fraction text digits (inr is) all = subst (FreeOf ends_word) (sym is.0) tt

mark_inside : (mark : ℕ) → (mark ≡ lower_e) ⊎ (mark ≡ upper_e) → ends_word mark ≡ false
mark_inside mark (inl is) = ap ends_word is
mark_inside mark (inr is) = ap ends_word is

free_exponent : (text : List ℕ) (exponent : ℤ) → IsExponent text exponent → FreeOf ends_word text
free_exponent text exponent (inl none) = subst (FreeOf ends_word) (sym none.0) tt
free_exponent text exponent (inr h) =
    subst (FreeOf ends_word) (sym h.text_is)
    (mark_inside h.mark h.is_mark, free_join ends_word h.sign h.digits (free_sign h.sign h.negative h.is_sign) (free_digits h.digits h.all_digits))

free_word : (word : List ℕ) (n : Numeral) → SpellsNumeral word n → FreeOf ends_word word
free_word word n h =
    subst (FreeOf ends_word) (sym h.text_is)
    (free_join ends_word h.sign (n.whole ++ (h.fraction_text ++ h.exponent_text)) (free_sign h.sign n.negative h.is_sign)
    (free_join ends_word n.whole (h.fraction_text ++ h.exponent_text) (free_digits n.whole h.whole_digits)
    (free_join ends_word h.fraction_text h.exponent_text (free_fraction h.fraction_text n.fraction h.is_fraction h.fraction_digits)
    (free_exponent h.exponent_text n.exponent h.is_exponent))))

-- ---- and begins with no letter

pub record StartsNumber (word : List ℕ) : Type 0 where
  pub first : ℕ
  pub others : List ℕ
  pub parts : word ≡ first ∷ others
  pub no_letter : is_letter first ≡ false

starts_here : (word : List ℕ) (first : ℕ) (others : List ℕ) → word ≡ first ∷ others → is_letter first ≡ false → StartsNumber word
starts_here word first others parts no_letter = record { first = first; others = others; parts = parts; no_letter = no_letter }

no_letter_digit : (c : ℕ) → 48 ≤ c → c ≤ 57 → is_letter c ≡ false
no_letter_digit c low high = grind (arith, nat_tests)

starts_fraction : (text digits rest : List ℕ) → IsFraction text digits → 0 < length digits → StartsNumber (text ++ rest)
starts_fraction text digits rest (inl is) some =
    starts_here (text ++ rest) point (digits ++ rest) (ap (λ (xs : List ℕ). xs ++ rest) is) refl
starts_fraction text digits rest (inr is) some =
    absurd (let none : length digits ≡ 0 = ap length is.1 in omega (arith, none, some))

starts_digits : (whole text fraction rest : List ℕ) → AllDigits 10 whole → IsFraction text fraction
    → 0 < length whole + length fraction → StartsNumber (whole ++ (text ++ rest))
starts_digits [] text fraction rest all is some = starts_fraction text fraction rest is (omega (arith, some))
starts_digits (c ∷ whole) text fraction rest all is some =
    let range = digit_from_value c all.0 in
    starts_here (c ∷ (whole ++ (text ++ rest))) c (whole ++ (text ++ rest)) refl (no_letter_digit c (omega (arith, range)) (omega (arith, range)))

starts_sign : (sign rest : List ℕ) (negative : Bool) → IsSign sign negative → StartsNumber rest → StartsNumber (sign ++ rest)
starts_sign sign rest negative (inl is) h = subst (λ (xs : List ℕ). StartsNumber (xs ++ rest)) (sym is.0) h
starts_sign sign rest negative (inr (inl is)) h =
    starts_here (sign ++ rest) plus rest (ap (λ (xs : List ℕ). xs ++ rest) is.0) refl
starts_sign sign rest negative (inr (inr is)) h =
    starts_here (sign ++ rest) minus rest (ap (λ (xs : List ℕ). xs ++ rest) is.0) refl

starts_word : (word : List ℕ) (n : Numeral) → SpellsNumeral word n → StartsNumber word
starts_word word n h =
    subst StartsNumber (sym h.text_is)
    (starts_sign h.sign (n.whole ++ (h.fraction_text ++ h.exponent_text)) n.negative h.is_sign
    (starts_digits n.whole h.fraction_text n.fraction h.exponent_text h.whole_digits h.is_fraction h.some_digit))

-- ---- the word at the beginning of a text

-- the filled part begins with a number, and its word's end is behind it
pub record EndsNumber (text filled : List ℕ) (count : ℕ) (k : ℤ) (rest left : List ℕ) : Type 0 where
  pub filled_is : filled ≡ without_start text
  pub number : BeginsWithNumber filled count k
  pub rest_is : rest ≡ drop count filled
  pub leaves : LeavesEnd rest left

-- the byte that ends the word
record EndsBy (rest left : List ℕ) : Type 0 where
  end : ℕ
  later : List ℕ
  parts : rest ≡ end ∷ later
  ends : ends_word end ≡ true
  left_is : (goes_on : Bool) (more : List ℕ) → items_left goes_on true (rest ++ more) ≡ items_left goes_on true (left ++ more)

blank_ends : (b : ℕ) → is_blank b ≡ true → ends_word b ≡ true
blank_ends b e = ap (λ c. c || ends_line b) e

ends_by : (rest left : List ℕ) → LeavesEnd rest left → EndsBy rest left
ends_by [] left h = absurd h
ends_by (b ∷ later) left (inl h) = record {
  end = b;
  later = later;
  parts = refl;
  ends = blank_ends b h.0;
  left_is = λ goes_on more. left_blank goes_on true b (later ++ more) h.0 ∙ ap (λ (xs : List ℕ). items_left goes_on true (xs ++ more)) (sym h.1);
}
ends_by (b ∷ later) left (inr h) = record {
  end = b;
  later = later;
  parts = refl;
  ends = or_right (is_blank b) (ends_line b) h.0;
  left_is = λ goes_on more. ap (λ (xs : List ℕ). items_left goes_on true (xs ++ more)) (sym h.1);
}

whole_parts : (filled : List ℕ) (count : ℕ) (rest : List ℕ) → rest ≡ drop count filled → filled ≡ take count filled ++ rest
whole_parts filled count rest e = sym (take-append-drop count filled) ∙ ap (λ (xs : List ℕ). take count filled ++ xs) (sym e)

cut_at_end : (text filled : List ℕ) (count : ℕ) (k : ℤ) (rest left : List ℕ) → EndsNumber text filled count k rest left
    → (up_to_first ends_word filled ≡ take count filled) × (from ends_word filled ≡ rest)
cut_at_end text filled count k rest left h =
    let word : List ℕ = take count filled in
    let by = ends_by rest left h.leaves in
    let all : filled ≡ word ++ by.end ∷ by.later = whole_parts filled count rest h.rest_is ∙ ap (λ (xs : List ℕ). word ++ xs) by.parts in
    let cut = free_cut ends_word word by.end by.later (free_word word h.number.stands.numeral h.number.stands.spelled) by.ends in
    (ap (up_to_first ends_word) all ∙ cut.0, ap (from ends_word) all ∙ cut.1 ∙ sym by.parts)

front_is : (text filled : List ℕ) (count : ℕ) (k : ℤ) (rest left : List ℕ) → EndsNumber text filled count k rest left
    → front_word text ≡ take count filled
front_is text filled count k rest left h =
    ap (up_to_first ends_word) (sym h.filled_is) ∙ (cut_at_end text filled count k rest left h).0

no_line : (inside letter : Bool) → letter ≡ false → (not inside && letter) ≡ false
no_line true letter e = refl
no_line false letter e = e

no_blank : (b : Bool) (c : ℕ) → is_blank c ≡ b → ends_word c ≡ false → b ≡ false
no_blank true c blank e = absurd (true≢false (sym (blank_ends c blank) ∙ e))
no_blank false c blank e = refl

-- no blank is before it if the text begins with it
pub begins_filled : (text : List ℕ) (count : ℕ) (k : ℤ) → BeginsWithNumber text count k → text ≡ without_start text
begins_filled text count k number =
    let spelled = number.stands.spelled in
    let start = starts_word (take count text) number.stands.numeral spelled in
    let free : FreeOf ends_word (start.first ∷ start.others) = subst (FreeOf ends_word) start.parts (free_word (take count text) number.stands.numeral spelled) in
    let blank : is_blank start.first ≡ false = no_blank (is_blank start.first) start.first refl free.0 in
    let parts : text ≡ start.first ∷ (start.others ++ drop count text) = whole_parts text count (drop count text) refl ∙ ap (λ (xs : List ℕ). xs ++ drop count text) start.parts in
    parts ∙ sym (start_filled start.first (start.others ++ drop count text) blank) ∙ ap without_start (sym parts)

-- the number word is the next item
pub front_gives : (text filled : List ℕ) (count : ℕ) (k : ℤ) (rest left : List ℕ) → EndsNumber text filled count k rest left
    → (inside : Bool) → GivesNext inside text (NumberWord (front_word text)) true left
front_gives text filled count k rest left h inside goes_on more =
    let word : List ℕ = take count filled in
    let by = ends_by rest left h.leaves in
    let spelled = h.number.stands.spelled in
    let start = starts_word word h.number.stands.numeral spelled in
    let free : FreeOf ends_word (start.first ∷ start.others) = subst (FreeOf ends_word) start.parts (free_word word h.number.stands.numeral spelled) in
    let parts : filled ≡ start.first ∷ (start.others ++ rest) = whole_parts filled count rest h.rest_is ∙ ap (λ (xs : List ℕ). xs ++ rest) start.parts in
    let not_ten : start.first ≡ 10 → ⊥ = λ ten. true≢false (sym (ap ends_word ten) ∙ free.0) in
    let short : is_over_long (NumberWord word) ≡ false = le-ltb most_word_bytes (length word) h.number.short in
    word_follows inside true text filled start.first (start.others ++ rest) (front_word text) rest h.filled_is parts not_ten (no_line inside (is_letter start.first) start.no_letter)
    (ap (up_to_first ends_word) (sym h.filled_is)) (sym (cut_at_end text filled count k rest left h).1)
    (settled_filled most_word_bytes true (front_word text) rest (ap is_not_empty by.parts)) refl
    (ap (λ (xs : List ℕ). is_over_long (NumberWord xs)) (front_is text filled count k rest left h) ∙ short) goes_on more
    ∙ ap (λ (items : List Item). NumberWord (front_word text) ∷ items) (by.left_is goes_on more)

-- the word is read as that whole number
pub front_reads : (text filled : List ℕ) (count : ℕ) (z : ℤ) (rest left : List ℕ)
    → EndsNumber text filled count (z *ℤ pos unit) rest left → IsWhole (front_word text) z
front_reads text filled count z rest left h low high above below =
    let word : List ℕ = take count filled in
    let reads : ReadsWhole word low high (Ok z) = (h.number.short, h.number.stands, above, below) in
    ap (λ (w : List ℕ). whole_of w low high) (front_is text filled count (z *ℤ pos unit) rest left h) ∙ sym (whole_once _ _ _ _ _ reads (whole_of-reads word low high))

-- the word is read as that decimal
pub front_reads_decimal : (text filled : List ℕ) (count : ℕ) (k : ℤ) (rest left : List ℕ)
    → EndsNumber text filled count k rest left → unsigned_abs k ≤ most_count
    → decimal_of (front_word text) ≡ Ok k
front_reads_decimal text filled count k rest left h small =
    let word : List ℕ = take count filled in
    let reads : ReadsDecimal word (Ok k) = (h.number.short, h.number.stands, small) in
    ap (λ (w : List ℕ). decimal_of w) (front_is text filled count k rest left h) ∙ sym (decimal_once _ _ _ reads (decimal_of-reads word))

-- ---- a line's end at the beginning of a text

pub end_gives : (inside : Bool) (text rest : List ℕ) → text ≡ 10 ∷ rest → GivesNext inside text LineEnd false rest
end_gives inside text rest parts goes_on more =
    ap (λ (xs : List ℕ). items_left goes_on inside (xs ++ more)) parts ∙ left_end goes_on inside (rest ++ more)

-- ---- a statement on the list of a section, after it took a word, may be weakened

pub takes_also : (n : ℕ) (place : Place) (word : List ℕ) (A B : Type 0) (r : Result (Unit {0}) StepFault) → (A → B)
    → Takes n place word A r → Takes n place word B r
takes_also n place word A B (Ok done) f h = (h.0, f h.1)
takes_also n place word A B (Err (steps.Memory refused)) f h = tt
takes_also n place word A B (Err (steps.Fault fault)) f h = h

-- ---- a `SectionBuilder` takes a word, or refuses it, as the list of its section does

-- how a part takes a word
abbrev pub PartTakes : SectionBuilder → SectionBuilder → ℕ → List (List ℕ) → List ℕ → Result (Unit {0}) StepFault → Type 0
PartTakes old new n words word r =
    Takes n (place_by (shape_by old) n words) word (HoldsShape (shape_by old) new n (words ++ word ∷ [])) r

-- a part of the same shape takes a word as its list does
pub as_list : (old part after : SectionBuilder) (n : ℕ) (words : List (List ℕ)) (word : List ℕ) (r : Result (Unit {0}) StepFault)
    → old ≡ part → shape_by after ≡ shape_by part
    → (HoldsPart part n words → Takes n (place_by (shape_by part) n words) word (HoldsPart after n (words ++ word ∷ [])) r)
    → HoldsPart old n words → PartTakes old after n words word r
as_list old part after n words word r is same step h =
    let P : SectionBuilder → Type 0 = λ p. HoldsPart p n words in
    let Q : SectionBuilder → Type 0 = λ p. PartTakes p after n words word r in
    subst Q (sym is) (takes_also n (place_by (shape_by part) n words) word (HoldsPart after n (words ++ word ∷ []))
    (HoldsShape (shape_by part) after n (words ++ word ∷ [])) r (λ held. (same, held)) (step (subst P is h)))

-- and what it refuses leaves it as it is
pub kept_list : (old part after : SectionBuilder) (r : Result (Unit {0}) StepFault) → old ≡ part → shape_by after ≡ shape_by part
    → IfErr r (λ fault. (n : ℕ) (words : List (List ℕ)) → HoldsPart part n words → HoldsPart after n words)
    → IfErr r (λ fault. (n : ℕ) (words : List (List ℕ)) → HoldsPart old n words → HoldsShape (shape_by old) after n words)
kept_list old part after (Ok done) is same kept = tt
kept_list old part after (Err fault) is same kept = λ n words h. (same ∙ ap shape_by (sym is), kept n words (subst (λ p. HoldsPart p n words) is h))

-- a list of numbers keeps its range
kept_range : (low high : ℤ) (after : NumberList) (n : ℕ) (words : List (List ℕ)) → HoldsNumbers after low high n words
    → HoldsShape (Numbers low high) (parts.Numbers after) n words
kept_range low high after n words h =
    let P : ℤ → Type 0 = λ z. HoldsNumbers after z high n words in
    let Q : ℤ → Type 0 = λ z. HoldsNumbers after after.low z n words in
    (ap (λ z. Numbers z after.high) h.from ∙ ap (λ z. Numbers low z) h.to, subst Q (sym h.to) (subst P (sym h.from) h))

pub numbers : (old : SectionBuilder) (part after : NumberList) (n : ℕ) (words : List (List ℕ)) (word : List ℕ) (r : Result (Unit {0}) StepFault)
    → old ≡ parts.Numbers part
    → ((low high : ℤ) (n : ℕ) (words : List (List ℕ)) → HoldsNumbers part low high n words
    → Takes n (place_of_number low high n words) word (HoldsNumbers after low high n (words ++ word ∷ [])) r)
    → HoldsPart old n words → PartTakes old (parts.Numbers after) n words word r
numbers old part after n words word r is step h =
    let P : SectionBuilder → Type 0 = λ p. HoldsPart p n words in
    let Q : SectionBuilder → Type 0 = λ p. PartTakes p (parts.Numbers after) n words word r in
    subst Q (sym is) (takes_also n (place_of_number part.low part.high n words) word
    (HoldsNumbers after part.low part.high n (words ++ word ∷ []))
    (HoldsShape (Numbers part.low part.high) (parts.Numbers after) n (words ++ word ∷ [])) r
    (kept_range part.low part.high after n (words ++ word ∷ [])) (step part.low part.high n words (subst P is h)))

-- a list of points keeps their kind
kept_kind : (in_space : Bool) (after : PointList) (n : ℕ) (words : List (List ℕ)) → HoldsPoints after in_space n words
    → HoldsShape (shape_of_points in_space) (parts.Points after) n words
kept_kind in_space after n words h =
    (ap shape_of_points h.kind, subst (λ b. HoldsPoints after b n words) (sym h.kind) h)

pub points : (old : SectionBuilder) (part after : PointList) (n : ℕ) (words : List (List ℕ)) (word : List ℕ) (r : Result (Unit {0}) StepFault)
    → old ≡ parts.Points part
    → ((in_space : Bool) (n : ℕ) (words : List (List ℕ)) → HoldsPoints part in_space n words
    → Takes n (place_by (shape_of_points in_space) n words) word (HoldsPoints after in_space n (words ++ word ∷ [])) r)
    → HoldsPart old n words → PartTakes old (parts.Points after) n words word r
points old part after n words word r is step h =
    let P : SectionBuilder → Type 0 = λ p. HoldsPart p n words in
    let Q : SectionBuilder → Type 0 = λ p. PartTakes p (parts.Points after) n words word r in
    let kind : Bool = are_in_space part.entries in
    subst Q (sym is) (takes_also n (place_by (shape_of_points kind) n words) word (HoldsPoints after kind n (words ++ word ∷ []))
    (HoldsShape (shape_of_points kind) (parts.Points after) n (words ++ word ∷ [])) r
    (kept_kind kind after n (words ++ word ∷ [])) (step kind n words (subst P is h)))

-- ---- a run of plain numbers and line ends leaves what taking them item by item does

-- a run of one word, which the part takes
pub word_runs : (old new : SectionBuilder) (before after : Count) (text rest word : List ℕ) → TakesRead old new word
    → ((inside : Bool) → GivesNext inside text (NumberWord word) true rest)
    → after.line ≡ before.line → after.words ≡ before.words + 1 → after.inside ≡ true → length rest < length text
    → RunsTo old before text new after rest
word_runs old new before after text rest word takes gives line words inside shorter = record {
  read = λ draft incomplete field bytes h.
      let was : Intake = in_run draft incomplete field old before in
      let is : Intake = in_run draft incomplete field new after in
      read_further was is bytes text rest (NumberWord word) true false refl h
      (λ earlier stands. (
        record {
          holds = word_answer was.reading is.reading (record { field = field; part = old }) (record { field = field; part = new }) word (Ok tt) earlier
              refl refl refl refl refl takes stands.holds;
          line_is = line ∙ stands.line_is;
          words_are = words ∙ ap (λ n. n + 1) stands.words_are;
        },
        refl,
      )) inside (λ short. gives before.inside);
  line = omega (arith, line, shorter);
  words = omega (arith, words, shorter);
  shorter = omega (arith, shorter);
}

-- a run of no words: a part that holds what it held
pub keeps_run : (old new : SectionBuilder) (count : Count) (text : List ℕ) → KeepsWords old new → RunsTo old count text new count text
keeps_run old new count text keeps = record {
  read = λ draft incomplete field bytes h.
      let was : Intake = in_run draft incomplete field old count in
      let is : Intake = in_run draft incomplete field new count in
      record {
        earlier = h.earlier;
        stands = record {
          holds = kept_answer was.reading is.reading (record { field = field; part = old }) (record { field = field; part = new }) h.earlier refl refl refl refl refl
              keeps h.stands.holds;
          line_is = h.stands.line_is;
          words_are = h.stands.words_are;
        };
        going = h.going;
        parts = h.parts;
      };
  line = omega arith;
  words = omega arith;
  shorter = omega arith;
}

pub same_run : (part : SectionBuilder) (count : Count) (text : List ℕ) → RunsTo part count text part count text
same_run part count text =
    record { read = λ draft incomplete field bytes h. h; line = omega arith; words = omega arith; shorter = omega arith }

-- a run of one line's end
pub line_runs : (part : SectionBuilder) (before after : Count) (text rest : List ℕ) → text ≡ 10 ∷ rest → after.line ≡ before.line + 1
    → after.words ≡ 0 → after.inside ≡ false
    → RunsTo part before text part after rest
line_runs part before after text rest parts line words inside =
    let size : length text ≡ length rest + 1 = ap length parts ∙ omega arith in
    record {
      read = λ draft incomplete field bytes h.
          let was : Intake = in_run draft incomplete field part before in
          let is : Intake = in_run draft incomplete field part after in
          read_further was is bytes text rest LineEnd false false refl h
          (λ earlier stands. (
            record {
              holds = line_ends was.reading earlier stands.holds;
              line_is = line ∙ ap (λ n. n + 1) stands.line_is;
              words_are = words;
            },
            refl,
          )) inside (λ short. end_gives before.inside text rest parts);
      line = omega (arith, line, size);
      words = omega (arith, words, size);
      shorter = omega (arith, size);
    }

-- one run after another
pub run_then : (old mid new : SectionBuilder) (before between after : Count) (text middle rest : List ℕ)
    → RunsTo old before text mid between middle
    → RunsTo mid between middle new after rest → RunsTo old before text new after rest
run_then old mid new before between after text middle rest first then = record {
  read = λ draft incomplete field bytes h. then.read draft incomplete field bytes (first.read draft incomplete field bytes h);
  line = omega (arith, first.line, then.line);
  words = omega (arith, first.words, then.words);
  shorter = omega (arith, first.shorter, then.shorter);
}

-- a step after a try that took nothing
pub step_then : (old mid new : SectionBuilder) (before between after : Count) (text : List ℕ) (found : Option (List ℕ))
    → RunsTo old before text mid between text
    → StepsTo mid between text new after found → StepsTo old before text new after found
step_then old mid new before between after text None first then =
    run_then old mid new before between after text text text first then
step_then old mid new before between after text (Some rest) first then =
    (run_then old mid new before between after text text rest first then.0, then.1)

-- a text whose open section is this one
pub opened_run : (reading : Reading) (section : OpenSection) (count : Count) (bytes text : List ℕ) → reading.opened ≡ Some section
    → IsReadTo (counted reading count) bytes text
    → IsReadTo (in_run reading.draft reading.incomplete section.field section.part count) bytes text
opened_run reading section count bytes text is h =
    let P : Option OpenSection → Type 0 = λ opened. IsReadTo (counted (record { draft = reading.draft; incomplete = reading.incomplete; opened = opened }) count) bytes text in
    subst P is h
