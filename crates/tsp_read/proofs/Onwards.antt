-- The next item of a text that comes in pieces, whatever bytes follow (`next_item` in src/items.rt).
use Rattle.tsp_read.proofs.Prelude.{◌≡◌, ℕ, ◌≤◌, Bool, true, false, List, [], ◌∷◌, ◌++◌, length, refl, sym, ap, subst, ◌∙◌, arith, append-nil, Option, None, Some, Ok, cond, append_assoc, ◌+◌, ◌<◌, take, drop, ne_eqb, lt-ltb, or_parts, or_from, reverse-append, reverse-reverse, nil_from_length, position_or_len, option_map, reverse, IfSome, not, ◌||◌, ◌&&◌, ◌==◌, nat_lt, most_word_bytes, most_line_bytes, is_blank, is_letter, fault_stays, start_blank, start_filled, when, first_row, is_not_empty, without_start, Item, is_end_line, has_end_line, to_end_line, ends_line, NumberWord, LineEnd, line_item, fault_in, IsClean, fault_at_end, is_too_long, part, fault, ReadFault}
use Rattle.tsp_file.specs.declared.rules.EndFault.{EndFault}
use Rattle.tsp_text.specs.declared.fault.ReadFault.TheVariants as faults
use Rattle.tsp_read.proofs.LeftSteps.{left_blank, left_start, Filled, start_is_filled, left_none, left_end, line_taken, line_not_taken, word_taken, word_not_taken, before_on, from_on}
use Rattle.tsp_read.specs.declared.items.Begun.{Begun}
use Rattle.tsp_read.specs.declared.items.Intake.{Intake}
use Rattle.tsp_read.specs.declared.items.Token.{Token}
use Rattle.tsp_read.specs.declared.items.Token.TheVariants.{Line, Word}
use Rattle.tsp_read.specs.declared.reading.Reading.{Reading}
use Rattle.tsp_read.specs.states.Left.{items_left, ends_word, up_to_first, from, is_settled, token_at, ends_token, most_bytes, token_item}
use Rattle.tsp_read.specs.states.Onward.{IsReadTo, HasEnded, ReadsOn, HasBegun, kept, IsFedTo, IsJoinedTo, IsPaused, Walked, is_over_long, GivesNext}

-- ---- blanks at the start

over_by : (goes_on inside : Bool) (b : ℕ) (bytes more : List ℕ) (k : Bool) → is_blank b ≡ k
    → items_left goes_on inside (without_start bytes ++ more) ≡ items_left goes_on inside (bytes ++ more)
    → items_left goes_on inside (without_start (b ∷ bytes) ++ more) ≡ items_left goes_on inside (b ∷ (bytes ++ more))
over_by goes_on inside b bytes more true e rest =
    ap (λ (xs : List ℕ). items_left goes_on inside (xs ++ more)) (start_blank b bytes e) ∙ rest ∙ sym (left_blank goes_on inside b (bytes ++ more) e)
over_by goes_on inside b bytes more false e rest =
    ap (λ (xs : List ℕ). items_left goes_on inside (xs ++ more)) (start_filled b bytes e)

over_blanks : (goes_on inside : Bool) (bytes more : List ℕ)
    → items_left goes_on inside (without_start bytes ++ more) ≡ items_left goes_on inside (bytes ++ more)
over_blanks goes_on inside [] more = refl
over_blanks goes_on inside (b ∷ bytes) more =
    over_by goes_on inside b bytes more (is_blank b) refl (over_blanks goes_on inside bytes more)

shorter_by : (b : ℕ) (bytes : List ℕ) (k : Bool) → is_blank b ≡ k → length (without_start bytes) ≤ length bytes
    → length (without_start (b ∷ bytes)) ≤ length (b ∷ bytes)
shorter_by b bytes true e rest =
    subst (λ (xs : List ℕ). length xs ≤ length (b ∷ bytes)) (sym (start_blank b bytes e)) (omega (arith, rest))
shorter_by b bytes false e rest =
    subst (λ (xs : List ℕ). length xs ≤ length (b ∷ bytes)) (sym (start_filled b bytes e)) (omega arith)

pub start_shorter : (bytes : List ℕ) → length (without_start bytes) ≤ length bytes
start_shorter [] = omega arith
start_shorter (b ∷ bytes) = shorter_by b bytes (is_blank b) refl (start_shorter bytes)

read_over : (intake : Intake) (bytes rest : List ℕ) → IsReadTo intake bytes rest → IsReadTo intake bytes (without_start rest)
read_over intake bytes rest h = record {
  earlier = h.earlier;
  stands = h.stands;
  going = h.going;
  parts = λ goes_on more. h.parts goes_on more ∙ ap (λ (xs : List Item). reverse h.earlier ++ xs) (sym (over_blanks goes_on intake.inside rest more));
}

-- ---- a piece was read

-- all of it is kept
pub paused_joined : (intake : Intake) (begun : Begun) (bytes rest : List ℕ) → IsJoinedTo intake begun bytes rest → rest ≡ []
    → IsPaused intake begun bytes
paused_joined intake begun bytes rest h none = record {
  fed = subst (λ (xs : List ℕ). IsFedTo intake begun bytes xs) none h.fed;
  unsettled = h.unsettled (ap is_not_empty none);
}

-- what has begun was taken
pub joined_read : (intake : Intake) (begun : Begun) (bytes rest : List ℕ) → IsJoinedTo intake begun bytes rest
    → is_not_empty rest ≡ true → IsReadTo intake bytes rest
joined_read intake begun bytes rest h some =
    subst (λ (xs : List ℕ). IsReadTo intake bytes (xs ++ rest)) (h.none_kept some) h.fed.read

-- what is left is kept
pub paused_kept : (intake : Intake) (begun : Begun) (bytes left : List ℕ) → IsReadTo intake bytes left
    → items_left true intake.inside left ≡ []
    → HasBegun intake.inside begun.token begun.bytes.items → kept begun ≡ without_start left → IsPaused intake begun bytes
paused_kept intake begun bytes left read none begins same = record {
  fed = record {
    read = subst (λ (xs : List ℕ). IsReadTo intake bytes xs) (sym (append-nil (kept begun) ∙ same)) (read_over intake bytes left read);
    begins = begins;
  };
  unsettled = ap (items_left true intake.inside) same ∙ left_start true intake.inside left ∙ none;
}

-- ---- the answer of a step

pub to_the_end : {X : Type 0} (bytes : List ℕ) (reading : Reading) (P : X → Type 0) (left : Option X) → left ≡ None
    → ReadsOn bytes reading P (Ok left) → HasEnded reading bytes
to_the_end {X} bytes reading P left e h = subst (λ (o : Option X). ReadsOn bytes reading P (Ok o)) e h

pub to_a_place : {X : Type 0} (bytes : List ℕ) (reading : Reading) (P : X → Type 0) (left : Option X) (x : X) → left ≡ Some x
    → ReadsOn bytes reading P (Ok left) → P x
to_a_place {X} bytes reading P left x e h = subst (λ (o : Option X). ReadsOn bytes reading P (Ok o)) e h

pub of_some : {X : Type 0} (P : X → Type 0) (left : Option X) (x : X) → left ≡ Some x → IfSome left P → P x
of_some {X} P left x e h = subst (λ (o : Option X). IfSome o P) e h

-- ---- a walk over the items of a text up to the end line: where it begins, one item more

-- ---- items with no end line

to_end_on : (items more : List Item) → has_end_line items ≡ false → to_end_line (items ++ more) ≡ items ++ to_end_line more
to_end_on [] more e = refl
to_end_on (item ∷ items) more e =
    let both = or_parts (is_end_line item) (has_end_line items) e in
    ap (λ b. item ∷ cond b [] (to_end_line (items ++ more))) both.0
    ∙ ap (λ xs. item ∷ xs) (to_end_on items more both.1)

none_more : (items : List Item) (item : Item) → has_end_line items ≡ false → is_end_line item ≡ false
    → has_end_line (items ++ item ∷ []) ≡ false
none_more [] item e f = or_from (is_end_line item) false f refl
none_more (first ∷ items) item e f =
    let both = or_parts (is_end_line first) (has_end_line items) e in
    or_from (is_end_line first) (has_end_line (items ++ item ∷ [])) both.0 (none_more items item both.1 f)

pub on_end : (item : Item) (items : List Item) → reverse (item ∷ items) ≡ reverse items ++ item ∷ []
on_end item items = reverse-append (item ∷ []) items

none_reversed : (items : List Item) → has_end_line items ≡ false → has_end_line (reverse items) ≡ false
none_reversed [] e = refl
none_reversed (item ∷ items) e =
    let both = or_parts (is_end_line item) (has_end_line items) e in
    ap has_end_line (on_end item items) ∙ none_more (reverse items) item (none_reversed items both.1) both.0

-- ---- the walk

pub walked_more : (items earlier later : List Item) (item : Item) → Walked items earlier (item ∷ later) → is_end_line item ≡ false
    → Walked items (item ∷ earlier) later
walked_more items earlier later item h e = record {
  parts = h.parts ∙ sym (append_assoc (reverse earlier) (item ∷ []) later) ∙ ap (λ xs. xs ++ later) (sym (on_end item earlier));
  going = or_from (is_end_line item) (has_end_line earlier) e h.going;
}

-- what counts, with what is left
counts : (items earlier later : List Item) → Walked items earlier later → to_end_line items ≡ reverse earlier ++ to_end_line later
counts items earlier later h = ap to_end_line h.parts ∙ to_end_on (reverse earlier) later (none_reversed earlier h.going)

-- nothing is left
pub walked_all : (items earlier : List Item) → Walked items earlier [] → reverse (to_end_line items) ≡ earlier
walked_all items earlier h = ap reverse (counts items earlier [] h ∙ append-nil (reverse earlier)) ∙ reverse-reverse earlier

turned : (earlier more : List Item) (item : Item) → reverse (reverse earlier ++ item ∷ more) ≡ reverse more ++ item ∷ earlier
turned earlier more item =
    reverse-append (reverse earlier) (item ∷ more)
    ∙ ap (λ xs. reverse (item ∷ more) ++ xs) (reverse-reverse earlier)
    ∙ ap (λ xs. xs ++ earlier) (on_end item more)
    ∙ append_assoc (reverse more) (item ∷ []) earlier

-- the next item is an end line
pub walked_to_end : (items earlier later : List Item) (item : Item) → Walked items earlier (item ∷ later)
    → is_end_line item ≡ true → reverse (to_end_line items) ≡ item ∷ earlier
walked_to_end items earlier later item h e =
    ap reverse (counts items earlier (item ∷ later) h ∙ ap (λ b. reverse earlier ++ item ∷ cond b [] (to_end_line later)) e)
    ∙ turned earlier [] item

-- ---- the first fault stays

-- with the next item comes the first fault
pub walked_found : (items earlier later : List Item) (item : Item) (found : ReadFault) → Walked items earlier (item ∷ later)
    → fault_in (item ∷ earlier) ≡ Some found
    → fault_in (reverse (to_end_line items)) ≡ Some found
walked_found items earlier later item found h e =
    let more = cond (is_end_line item) [] (to_end_line later) in
    ap (λ xs. fault_in (reverse xs)) (counts items earlier (item ∷ later) h)
    ∙ ap fault_in (turned earlier more item)
    ∙ fault_stays (reverse more) (item ∷ earlier) found e

-- ---- a whole text

abbrev rows : Option ReadFault → Bool → Option EndFault → Option ReadFault
rows line long end = first_row (line ∷ when long faults.TooLong ∷ option_map (λ fault. faults.End fault) end ∷ [])

pub line_fault : (bytes : List ℕ) (found : ReadFault) → fault_in (part bytes) ≡ Some found → fault bytes ≡ Some found
line_fault bytes found e =
    ap (λ line. rows line (is_too_long bytes && not (has_end_line (part bytes))) (fault_at_end (part bytes))) e

pub end_fault_is : (bytes : List ℕ) (found : Option EndFault) → IsClean (part bytes)
    → (is_too_long bytes && not (has_end_line (part bytes))) ≡ false → fault_at_end (part bytes) ≡ found
    → fault bytes ≡ option_map (λ fault. faults.End fault) found
end_fault_is bytes None clean short e =
    ap (λ line. rows line (is_too_long bytes && not (has_end_line (part bytes))) (fault_at_end (part bytes))) clean
    ∙ ap (λ b. rows None b (fault_at_end (part bytes))) short
    ∙ ap (rows None false) e
end_fault_is bytes (Some found) clean short e =
    ap (λ line. rows line (is_too_long bytes && not (has_end_line (part bytes))) (fault_at_end (part bytes))) clean
    ∙ ap (λ b. rows None b (fault_at_end (part bytes))) short
    ∙ ap (rows None false) e

-- ---- the next item of a text, by the first byte that is no blank

-- ---- the next item, by the text's first byte that isn't blank

at_start : (goes_on inside : Bool) (text filled : List ℕ) → filled ≡ without_start text
    → items_left goes_on inside text ≡ items_left goes_on inside filled
at_start goes_on inside text filled e = sym (left_start goes_on inside text) ∙ ap (items_left goes_on inside) (sym e)

pub filled_first : (text : List ℕ) (first : ℕ) (after : List ℕ) → first ∷ after ≡ without_start text → is_blank first ≡ false
filled_first text first after e = subst Filled (sym e) (start_is_filled text)

pub none_next : (goes_on inside : Bool) (text filled : List ℕ) → filled ≡ without_start text → length filled ≡ 0
    → items_left goes_on inside text ≡ []
none_next goes_on inside text filled e short =
    at_start goes_on inside text filled e ∙ ap (items_left goes_on inside) (nil_from_length filled short) ∙ left_none goes_on inside

pub end_next : (goes_on inside : Bool) (text filled : List ℕ) (first : ℕ) (after : List ℕ) → filled ≡ without_start text
    → filled ≡ first ∷ after → first ≡ 10
    → items_left goes_on inside text ≡ LineEnd ∷ items_left goes_on false after
end_next goes_on inside text filled first after e parts ten =
    at_start goes_on inside text filled e
    ∙ ap (items_left goes_on inside) (parts ∙ ap (λ b. b ∷ after) ten)
    ∙ left_end goes_on inside after

-- a line's first item is a word line
record BeginsLine (inside : Bool) (first : ℕ) : Type 0 where
  outside : inside ≡ false
  letter : is_letter first ≡ true

begins_line : (inside : Bool) (first : ℕ) → (not inside && is_letter first) ≡ true → BeginsLine inside first
begins_line true first e = absurd cc
begins_line false first e = record { outside = refl; letter = e }

line_next : (goes_on inside : Bool) (text filled : List ℕ) (first : ℕ) (after line rest : List ℕ) → filled ≡ without_start text
    → filled ≡ first ∷ after → (first ≡ 10 → ⊥)
    → (not inside && is_letter first) ≡ true → line ≡ up_to_first ends_line filled → rest ≡ from ends_line filled
    → is_settled most_line_bytes goes_on line rest ≡ true
    → items_left goes_on inside text ≡ line_item line ∷ items_left goes_on true rest
line_next goes_on inside text filled first after line rest e parts more begins l r settled =
    let b = begins_line inside first begins in
    at_start goes_on inside text filled e
    ∙ ap (items_left goes_on inside) parts
    ∙ ap (λ i. items_left goes_on i (first ∷ after)) b.outside
    ∙ line_taken goes_on first after line rest b.letter (ne_eqb first 10 more) (l ∙ ap (up_to_first ends_line) parts) (r ∙ ap (from ends_line) parts) settled

line_missing_next : (goes_on inside : Bool) (text filled : List ℕ) (first : ℕ) (after : List ℕ) → filled ≡ without_start text
    → filled ≡ first ∷ after → (first ≡ 10 → ⊥)
    → (not inside && is_letter first) ≡ true
    → is_settled most_line_bytes goes_on (up_to_first ends_line filled) (from ends_line filled) ≡ false
    → items_left goes_on inside text ≡ []
line_missing_next goes_on inside text filled first after e parts more begins settled =
    let b = begins_line inside first begins in
    at_start goes_on inside text filled e
    ∙ ap (items_left goes_on inside) parts
    ∙ ap (λ i. items_left goes_on i (first ∷ after)) b.outside
    ∙ line_not_taken goes_on first after b.letter (ne_eqb first 10 more)
    (ap (λ xs. is_settled most_line_bytes goes_on (up_to_first ends_line xs) (from ends_line xs)) (sym parts) ∙ settled)

pub word_next : (goes_on inside : Bool) (text filled : List ℕ) (first : ℕ) (after word rest : List ℕ)
    → filled ≡ without_start text → filled ≡ first ∷ after → (first ≡ 10 → ⊥)
    → (not inside && is_letter first) ≡ false → word ≡ up_to_first ends_word filled → rest ≡ from ends_word filled
    → is_settled most_word_bytes goes_on word rest ≡ true
    → items_left goes_on inside text ≡ NumberWord word ∷ items_left goes_on true rest
word_next goes_on inside text filled first after word rest e parts more begins w r settled =
    at_start goes_on inside text filled e
    ∙ ap (items_left goes_on inside) parts
    ∙ word_taken goes_on inside first after word rest (filled_first text first after (sym parts ∙ e)) (ne_eqb first 10 more) begins
    (w ∙ ap (up_to_first ends_word) parts) (r ∙ ap (from ends_word) parts) settled

word_missing_next : (goes_on inside : Bool) (text filled : List ℕ) (first : ℕ) (after : List ℕ) → filled ≡ without_start text
    → filled ≡ first ∷ after → (first ≡ 10 → ⊥)
    → (not inside && is_letter first) ≡ false
    → is_settled most_word_bytes goes_on (up_to_first ends_word filled) (from ends_word filled) ≡ false
    → items_left goes_on inside text ≡ []
word_missing_next goes_on inside text filled first after e parts more begins settled =
    at_start goes_on inside text filled e
    ∙ ap (items_left goes_on inside) parts
    ∙ word_not_taken goes_on inside first after (filled_first text first after (sym parts ∙ e)) (ne_eqb first 10 more) begins
    (ap (λ xs. is_settled most_word_bytes goes_on (up_to_first ends_word xs) (from ends_word xs)) (sym parts) ∙ settled)

-- ---- a line or a word

pub line_begins : (letter : Bool) → Line ≡ cond letter Line Word → letter ≡ true
line_begins true is = refl
line_begins false is = absurd cc

pub word_begins : (letter : Bool) → Word ≡ cond letter Line Word → letter ≡ false
word_begins true is = absurd cc
word_begins false is = refl

-- the first byte of a line or a word doesn't end it
pub goes_on_past : (inside : Bool) (first : ℕ) (token : Token) → is_blank first ≡ false → (first == 10) ≡ false
    → token ≡ token_at inside first → ends_token token first ≡ false
goes_on_past inside first Line filled more is = more
goes_on_past inside first Word filled more is = rw filled more

pub token_next : (goes_on inside : Bool) (text filled : List ℕ) (first : ℕ) (after : List ℕ) (token : Token) (piece rest : List ℕ)
    → filled ≡ without_start text → filled ≡ first ∷ after → (first ≡ 10 → ⊥) → token ≡ token_at inside first
    → piece ≡ up_to_first (ends_token token) filled → rest ≡ from (ends_token token) filled
    → is_settled (most_bytes token) goes_on piece rest ≡ true
    → items_left goes_on inside text ≡ token_item token piece ∷ items_left goes_on true rest
token_next goes_on inside text filled first after Line piece rest e parts more is p r settled =
    line_next goes_on inside text filled first after piece rest e parts more
    (line_begins (not inside && is_letter first) is) p r settled
token_next goes_on inside text filled first after Word piece rest e parts more is p r settled =
    word_next goes_on inside text filled first after piece rest e parts more
    (word_begins (not inside && is_letter first) is) p r settled

pub token_missing_next : (goes_on inside : Bool) (text filled : List ℕ) (first : ℕ) (after : List ℕ) (token : Token)
    → filled ≡ without_start text → filled ≡ first ∷ after → (first ≡ 10 → ⊥) → token ≡ token_at inside first
    → is_settled (most_bytes token) goes_on (up_to_first (ends_token token) filled) (from (ends_token token) filled) ≡ false
    → items_left goes_on inside text ≡ []
token_missing_next goes_on inside text filled first after Line e parts more is settled =
    line_missing_next goes_on inside text filled first after e parts more
    (line_begins (not inside && is_letter first) is) settled
token_missing_next goes_on inside text filled first after Word e parts more is settled =
    word_missing_next goes_on inside text filled first after e parts more
    (word_begins (not inside && is_letter first) is) settled

-- ---- the next item of a text is the same when more bytes follow the text

-- ---- before and from the first place that passes, if there is one

abbrev pub CutsAlike : (ℕ → Bool) → List ℕ → List ℕ → Type 0
CutsAlike p xs more = (up_to_first p (xs ++ more) ≡ up_to_first p xs) × (from p (xs ++ more) ≡ from p xs ++ more)

pub at_before : (p : ℕ → Bool) (x : ℕ) (xs : List ℕ) → p x ≡ true → up_to_first p (x ∷ xs) ≡ []
at_before p x xs e = ap (λ b. take (cond (not b) (1 + position_or_len p xs) 0) (x ∷ xs)) e

pub at_from : (p : ℕ → Bool) (x : ℕ) (xs : List ℕ) → p x ≡ true → from p (x ∷ xs) ≡ x ∷ xs
at_from p x xs e = ap (λ b. drop (cond (not b) (1 + position_or_len p xs) 0) (x ∷ xs)) e

cuts_by : (p : ℕ → Bool) (x : ℕ) (xs more : List ℕ) (b : Bool) → p x ≡ b → (is_not_empty (from p xs) ≡ true → CutsAlike p xs more)
    → is_not_empty (from p (x ∷ xs)) ≡ true → CutsAlike p (x ∷ xs) more
cuts_by p x xs more true e rest filled =
    (at_before p x (xs ++ more) e ∙ sym (at_before p x xs e), at_from p x (xs ++ more) e ∙ ap (λ (ys : List ℕ). ys ++ more) (sym (at_from p x xs e)))
cuts_by p x xs more false e rest filled =
    let h = rest (ap is_not_empty (sym (from_on p x xs e)) ∙ filled) in (
      before_on p x (xs ++ more) e ∙ ap (λ (ys : List ℕ). x ∷ ys) h.0 ∙ sym (before_on p x xs e),
      from_on p x (xs ++ more) e ∙ h.1 ∙ ap (λ (ys : List ℕ). ys ++ more) (sym (from_on p x xs e)),
    )

-- more at the end doesn't move the first place
pub cuts_alike : (p : ℕ → Bool) (xs more : List ℕ) → is_not_empty (from p xs) ≡ true → CutsAlike p xs more
cuts_alike p [] more filled = absurd cc
cuts_alike p (x ∷ xs) more filled = cuts_by p x xs more (p x) refl (cuts_alike p xs more) filled

-- ---- the first byte that isn't blank

starts_by : (b : ℕ) (bytes more : List ℕ) (first : ℕ) (after : List ℕ) (k : Bool) → is_blank b ≡ k
    → (without_start bytes ≡ first ∷ after → without_start (bytes ++ more) ≡ first ∷ (after ++ more))
    → without_start (b ∷ bytes) ≡ first ∷ after → without_start (b ∷ (bytes ++ more)) ≡ first ∷ (after ++ more)
starts_by b bytes more first after true e rest h = start_blank b (bytes ++ more) e ∙ rest (sym (start_blank b bytes e) ∙ h)
starts_by b bytes more first after false e rest h =
    start_filled b (bytes ++ more) e ∙ ap (λ (ys : List ℕ). ys ++ more) (sym (start_filled b bytes e) ∙ h)

pub starts_alike : (bytes more : List ℕ) (first : ℕ) (after : List ℕ) → without_start bytes ≡ first ∷ after
    → without_start (bytes ++ more) ≡ first ∷ (after ++ more)
starts_alike [] more first after h = absurd cc
starts_alike (b ∷ bytes) more first after h =
    starts_by b bytes more first after (is_blank b) refl (starts_alike bytes more first after) h

-- ---- the next item

filled_settled : (most : ℕ) (goes_on : Bool) (piece rest more : List ℕ) → is_not_empty rest ≡ true
    → is_settled most goes_on piece (rest ++ more) ≡ true
filled_settled most goes_on piece [] more e = absurd cc
filled_settled most goes_on piece (x ∷ rest) more e = refl

-- a piece that is settled, and isn't too long, is followed by something
not_long : (most : ℕ) (piece rest : List ℕ) (long : Bool) → (is_not_empty rest || false || long) ≡ true → long ≡ false
    → is_not_empty rest ≡ true
not_long most piece (x ∷ rest) long e short = refl
not_long most piece [] true e short = absurd cc
not_long most piece [] false e short = absurd cc

pub end_follows : (inside : Bool) (text filled : List ℕ) (first : ℕ) (after : List ℕ) → filled ≡ without_start text
    → filled ≡ first ∷ after → first ≡ 10
    → GivesNext inside text LineEnd false after
end_follows inside text filled first after e parts ten goes_on more =
    end_next goes_on inside (text ++ more) (first ∷ (after ++ more)) first (after ++ more) (sym (starts_alike text more first after (sym e ∙ parts))) refl ten

-- a line or a word that isn't too long, whatever follows it
pub token_follows : (inside goes : Bool) (text filled : List ℕ) (first : ℕ) (after : List ℕ) (token : Token) (piece rest : List ℕ)
    → filled ≡ without_start text → filled ≡ first ∷ after → (first ≡ 10 → ⊥) → token ≡ token_at inside first
    → piece ≡ up_to_first (ends_token token) filled → rest ≡ from (ends_token token) filled
    → is_settled (most_bytes token) goes piece rest ≡ true
    → goes ≡ true → nat_lt (most_bytes token) (length piece) ≡ false → GivesNext inside text (token_item token piece) true rest
token_follows inside true text filled first after token piece rest e parts more_ is p r settled goes_is short goes_on more =
    let tail : is_not_empty rest ≡ true = not_long (most_bytes token) piece rest _ settled short in
    let cut = cuts_alike (ends_token token) filled more (ap is_not_empty (sym r) ∙ tail) in
    let longer = ap (λ (ys : List ℕ). ys ++ more) parts in
    token_next goes_on inside (text ++ more) (filled ++ more) first (after ++ more) token piece (rest ++ more)
    (longer ∙ sym (starts_alike text more first after (sym e ∙ parts))) longer more_ is
    (p ∙ sym cut.0) (ap (λ (ys : List ℕ). ys ++ more) r ∙ sym cut.1)
    (filled_settled (most_bytes token) goes_on piece rest more tail)
token_follows inside false text filled first after token piece rest e parts more_ is p r settled goes_is short goes_on more =
    absurd cc

-- it isn't too long if its item isn't
pub token_short : (token : Token) (piece : List ℕ) → is_over_long (token_item token piece) ≡ false
    → nat_lt (most_bytes token) (length piece) ≡ false
token_short Line piece short = short
token_short Word piece short = short

pub token_long : (token : Token) (piece : List ℕ) → most_bytes token < length piece → is_over_long (token_item token piece) ≡ true
token_long Line piece long = lt-ltb most_line_bytes (length piece) long
token_long Word piece long = lt-ltb most_word_bytes (length piece) long

-- a number word, as a run takes it
pub word_follows : (inside goes : Bool) (text filled : List ℕ) (first : ℕ) (after word rest : List ℕ)
    → filled ≡ without_start text → filled ≡ first ∷ after → (first ≡ 10 → ⊥) → (not inside && is_letter first) ≡ false
    → word ≡ up_to_first ends_word filled → rest ≡ from ends_word filled → is_settled most_word_bytes goes word rest ≡ true
    → goes ≡ true
    → is_over_long (NumberWord word) ≡ false → GivesNext inside text (NumberWord word) true rest
word_follows inside goes text filled first after word rest e parts more_ begins w r settled goes_is short =
    token_follows inside goes text filled first after Word word rest e parts more_ (ap (λ (b : Bool). cond b Line Word) (sym begins))
    w r settled goes_is short
