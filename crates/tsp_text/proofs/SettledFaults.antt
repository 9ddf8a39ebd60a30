-- The first fault of a text, once settled, is that of every longer text, and every text has one answer: the main laws
-- of src/laws.rt. tsp_read imports it, too.
use Rattle.tsp_text.proofs.Prelude.{◌≡◌, List, ◌∷◌, None, ap, ◌∙◌, [], ◌++◌, refl, sym, Option, Some, ◌≢◌, ℕ, Bool, true, false, Result, Ok, Err, ◌+◌, ◌-◌, cond, length, reverse, subst, arith, inl, inr, append_assoc, take, true≢false, false≢true, ltb-true, ltb-false, lt-leb, append-nil, reverse-append, take_all, take-append-le, list_any-append, option_or, option_map, ◌&&◌, ◌||◌, not, nat_lt, codes, ℤ, pos, negsuc, neg_ℤ, if◌then◌else◌, most_word_bytes, most_weight, most_nodes, most_families, most_rows, most_file_bytes, Field}
use Rattle.std.proofs.Math.Seq.{take-append-add}
use Rattle.std.proofs.lemmas.Option.{none-some, same_Some}
use Rattle.std.proofs.lemmas.Slice.Eq.{bytes_eq-Decides}
use Rattle.tsp_number.specs.NumberWord.{numeral_in, whole_from, whole_of, decimal_from, decimal_of}
use Rattle.tsp_number.specs.declared.number_word.NumberFault.TheVariants.{LongWord}
use Rattle.tsp_file.specs.Fields.{Fields}
use Rattle.tsp_file.specs.declared.rules.EndFault.{EndFault}
use Rattle.tsp_text.proofs.SettledItems.{AreLong, Stay, longer, items_stay, items_settled}
use Rattle.tsp_text.proofs.ValidRows.{clean_parts, rows_of_word, long_line}
use Rattle.tsp_text.specs.Earlier.{open_section, words_of, spatial_after, place_in, dimension_in}
use Rattle.tsp_text.specs.FaultRows.{row_of, when, first_row, word_fault}
use Rattle.tsp_text.specs.Items.{Item, Line, NumberWord, LineEnd, items_of, settled_items, is_end_line, has_end_line, to_end_line}
use Rattle.tsp_text.specs.SectionWords.{is_minus_one, Place, NodeAfter, Coordinate, Amount, PastGroups, DepotAfter, FirstAfter, SecondOf, PastEnd, Weight, PastWeights, TourNode, SetNode, StepAfter, IndexAfter}
use Rattle.tsp_text.specs.ParsesTo.{fault_here, IsClean, fault_in, IsFirstFault, NoneHasRow, spelled, fault_at_end, part, fault, ParsesTo, IsAnswer, HasOneAnswer, is_of_text, is_too_long, settled_part, settled_fault}
use Rattle.tsp_text.specs.declared.fault.LineFault.{LineFault}
use Rattle.tsp_text.specs.declared.fault.LineFault.TheVariants as row
use Rattle.tsp_text.specs.declared.fault.ReadFault.{ReadFault}
use Rattle.tsp_text.specs.declared.fault.ReadFault.TheVariants as faults

pub clean_more : (earlier : List Item) (item : Item) → IsClean earlier → row_of earlier item ≡ None → IsClean (item ∷ earlier)
clean_more earlier item clean row =
    ap (λ found. option_or found (option_map (fault_here earlier item) (row_of earlier item))) clean
    ∙ ap (λ found. option_map (fault_here earlier item) found) row

-- ---- the first fault of items is that of the first item to which a row applies

-- an item with a row, if there was no fault
pub found_here : (earlier : List Item) (item : Item) (fault : LineFault) → IsClean earlier → row_of earlier item ≡ Some fault
    → fault_in (item ∷ earlier) ≡ Some (fault_here earlier item fault)
found_here earlier item fault clean row =
    ap (λ found. option_or found (option_map (fault_here earlier item) (row_of earlier item))) clean
    ∙ ap (λ found. option_map (fault_here earlier item) found) row

-- a fault stays the first, whatever follows
pub fault_stays : (later earlier : List Item) (found : ReadFault) → fault_in earlier ≡ Some found
    → fault_in (later ++ earlier) ≡ Some found
fault_stays [] earlier found e = e
fault_stays (item ∷ later) earlier found e =
    ap (λ o. option_or o (option_map (fault_here (later ++ earlier) item) (row_of (later ++ earlier) item))) (fault_stays later earlier found e)

pub first_found : (items : List Item) (found : ReadFault) → IsFirstFault items found → fault_in items ≡ Some found
first_found items found h =
    ap fault_in h.parts
    ∙ fault_stays h.later (h.item ∷ h.earlier) found (found_here h.earlier h.item h.fault h.clean h.row ∙ ap (λ x. Some x) (sym h.here))

-- plan: by whether an earlier item has a fault, which is the first then; else the row of this item decides
first_step : (item : Item) (earlier : List Item) (found : ReadFault) (before : Option ReadFault) (row : Option LineFault)
    → fault_in earlier ≡ before → row_of earlier item ≡ row
    → ((other : ReadFault) → fault_in earlier ≡ Some other → IsFirstFault earlier other)
    → option_or before (option_map (fault_here earlier item) row) ≡ Some found → IsFirstFault (item ∷ earlier) found
first_step item earlier found (Some other) row e f before_is h =
    let first = before_is other e in
    record {
      later = item ∷ first.later;
      item = first.item;
      earlier = first.earlier;
      fault = first.fault;
      parts = ap (λ (xs : List Item). item ∷ xs) first.parts;
      clean = first.clean;
      row = first.row;
      here = sym (same_Some other found h) ∙ first.here;
    }
first_step item earlier found None (Some fault) e f before_is h = record {
  later = [];
  item = item;
  earlier = earlier;
  fault = fault;
  parts = refl;
  clean = e;
  row = f;
  here = sym (same_Some (fault_here earlier item fault) found h);
}
first_step item earlier found None None e f before_is h = absurd (none-some found h)

pub found_first : (items : List Item) (found : ReadFault) → fault_in items ≡ Some found → IsFirstFault items found
found_first [] found e = absurd (none-some found e)
found_first (item ∷ earlier) found e =
    first_step item earlier found (fault_in earlier) (row_of earlier item) refl refl (λ other h. found_first earlier other h) e

-- ---- without a fault

clean_before : (later earlier : List Item) → IsClean (later ++ earlier) → IsClean earlier
clean_before [] earlier clean = clean
clean_before (item ∷ later) earlier clean = clean_before later earlier (clean_parts (later ++ earlier) item clean).0

pub none_has_row : (items : List Item) → IsClean items → NoneHasRow items
none_has_row items clean later item earlier parts =
    (clean_parts earlier item (clean_before later (item ∷ earlier) (ap fault_in (sym parts) ∙ clean))).1

pub clean_items : (items : List Item) → NoneHasRow items → IsClean items
clean_items [] none = refl
clean_items (item ∷ items) none =
    clean_more items item
    (clean_items items (λ later other earlier parts. none (item ∷ later) other earlier (ap (λ (xs : List Item). item ∷ xs) parts)))
    (none [] item items refl)

-- ---- every text has exactly one answer

only_file : (bytes : List ℕ) (other : Result Fields ReadFault) → fault bytes ≡ None → IsAnswer bytes other
    → other ≡ Ok (spelled (part bytes))
only_file bytes (Ok file) none h = ap (λ f. Ok f) h.fields
only_file bytes (Err found) none h = absurd (none-some found (sym none ∙ h))

only_fault : (bytes : List ℕ) (found : ReadFault) (other : Result Fields ReadFault) → fault bytes ≡ Some found
    → IsAnswer bytes other → other ≡ Err found
only_fault bytes found (Ok file) e h = absurd (none-some found (sym h.no_fault ∙ e))
only_fault bytes found (Err other) e h = ap (λ f. Err f) (same_Some other found (sym h ∙ e))

answer_of : (bytes : List ℕ) (found : Option ReadFault) → fault bytes ≡ found → HasOneAnswer bytes
answer_of bytes None e = (Ok (spelled (part bytes)), record { no_fault = e; fields = refl }, λ other h. only_file bytes other e h)
answer_of bytes (Some found) e = (Err found, e, λ other h. only_fault bytes found other e h)

pub one_answer : (bytes : List ℕ) → HasOneAnswer bytes
one_answer bytes = answer_of bytes (fault bytes) refl

pub never_both : (bytes : List ℕ) (file : Fields) (found : ReadFault) → ParsesTo bytes file → fault bytes ≢ Some found
never_both bytes file found parses_to e = none-some found (sym parses_to.no_fault ∙ e)

pub one_file : (bytes : List ℕ) (file other : Fields) → ParsesTo bytes file → ParsesTo bytes other → file ≡ other
one_file bytes file other parses_to also = parses_to.fields ∙ sym also.fields

-- ---- the fault lies in the text

item_fault : (item : Item) (earlier : List Item) (found : ReadFault) (before : Option ReadFault) (row : Option LineFault)
    → ((other : ReadFault) → before ≡ Some other → is_of_text other ≡ true)
    → option_or before (option_map (fault_here earlier item) row) ≡ Some found → is_of_text found ≡ true
item_fault item earlier found (Some other) row before_is e = before_is found e
item_fault item earlier found None (Some fault) before_is e =
    ap is_of_text (sym (same_Some (fault_here earlier item fault) found e))
item_fault item earlier found None None before_is e = absurd (none-some found e)

items_fault : (items : List Item) (found : ReadFault) → fault_in items ≡ Some found → is_of_text found ≡ true
items_fault [] found e = absurd (none-some found e)
items_fault (item ∷ earlier) found e =
    item_fault item earlier found (fault_in earlier) (row_of earlier item) (λ other h. items_fault earlier other h) e

rows_fault : (found : ReadFault) (before : Option ReadFault) (long : Bool) (ended : Option EndFault)
    → ((other : ReadFault) → before ≡ Some other → is_of_text other ≡ true)
    → first_row (before ∷ when long faults.TooLong ∷ option_map (λ fault. faults.End fault) ended ∷ []) ≡ Some found
    → is_of_text found ≡ true
rows_fault found (Some other) long ended before_is e = before_is found e
rows_fault found None true ended before_is e = ap is_of_text (sym (same_Some faults.TooLong found e))
rows_fault found None false (Some fault) before_is e = ap is_of_text (sym (same_Some (faults.End fault) found e))
rows_fault found None false None before_is e = absurd (none-some found e)

pub fault_of_text : (bytes : List ℕ) (found : ReadFault) → fault bytes ≡ Some found → is_of_text found ≡ true
fault_of_text bytes found e =
    rows_fault found (fault_in (part bytes)) _ (fault_at_end (part bytes)) (λ other h. items_fault (part bytes) other h) e

-- ---- a settled fault stays the fault of every longer text, and a settled end line its end

-- ---- a word that is too long has the same row whatever its bytes are

abbrev IsLong : List ℕ → Type 0
IsLong word = nat_lt most_word_bytes (length word) ≡ true

whole_long : (word : List ℕ) (low high : ℤ) → IsLong word → whole_of word low high ≡ Err LongWord
unfolding whole_of
whole_long word low high long =
    ap (λ (b : Bool). if b then whole_from low high (numeral_in word) else Err LongWord) (lt-leb (length word) 64 (ltb-true 64 (length word) long))

decimal_long : (word : List ℕ) → IsLong word → decimal_of word ≡ Err LongWord
unfolding decimal_of
decimal_long word long =
    ap (λ (b : Bool). if b then decimal_from (numeral_in word) else Err LongWord) (lt-leb (length word) 64 (ltb-true 64 (length word) long))

minus_long : (word : List ℕ) → IsLong word → is_minus_one word ≡ false
minus_long word long = by_case (is_minus_one word) refl
  where
    by_case : (b : Bool) → is_minus_one word ≡ b → b ≡ false
    by_case true e = absurd (false≢true (subst IsLong ((bytes_eq-Decides word (codes "-1")).0 e) long))
    by_case false e = refl

pub long_row : Place → LineFault
long_row (NodeAfter nodes) = row.Number LongWord
long_row Coordinate = row.Number LongWord
long_row (Amount low high) = row.Number LongWord
long_row PastGroups = row.Surplus
long_row (DepotAfter count) = row.Number LongWord
long_row (FirstAfter count) = row.Number LongWord
long_row (SecondOf first) = row.Number LongWord
long_row PastEnd = row.AfterEnd
long_row Weight = row.Number LongWord
long_row PastWeights = row.Surplus
long_row (TourNode count) = row.Number LongWord
long_row (SetNode begun families count) = row.Number LongWord
long_row (StepAfter branches) = row.Number LongWord
long_row (IndexAfter count) = row.Number LongWord

pub long_fault : (n : ℕ) (place : Place) (word : List ℕ) → IsLong word → word_fault n place word ≡ Some (long_row place)
unfolding long_row
long_fault n (NodeAfter nodes) word long = rw (whole_long word (pos 1) (pos n) long) refl
long_fault n Coordinate word long = rw (decimal_long word long) refl
long_fault n (Amount low high) word long = rw (whole_long word low high long) refl
long_fault n PastGroups word long = rw (minus_long word long) refl
long_fault n (DepotAfter count) word long = rw (whole_long word (negsuc 0) (pos n) long) refl
long_fault n (FirstAfter count) word long = rw (whole_long word (negsuc 0) (pos n) long) refl
long_fault n (SecondOf first) word long = rw (whole_long word (pos 1) (pos n) long) refl
long_fault n PastEnd word long = rw (minus_long word long) refl
long_fault n Weight word long = rw (whole_long word (neg_ℤ (pos most_weight)) (pos most_weight) long) refl
long_fault n PastWeights word long = refl
long_fault n (TourNode count) word long = rw (whole_long word (negsuc 0) (pos most_nodes) long) refl
long_fault n (SetNode begun families count) word long = rw (whole_long word (negsuc 0) (pos n) long) refl
long_fault n (StepAfter branches) word long = rw (whole_long word (pos 0) (pos (n + most_families)) long) refl
long_fault n (IndexAfter count) word long = rw (whole_long word (negsuc 0) (pos (n + most_families + most_rows)) long) refl

same_word_row : (earlier : List Item) (word next : List ℕ) (opened : Option Field) → IsLong word → IsLong next
    → open_section earlier ≡ opened
    → row_of earlier (NumberWord word) ≡ row_of earlier (NumberWord next)
same_word_row earlier word next None long also e = rw e refl
same_word_row earlier word next (Some f) long also e =
    let n = dimension_in earlier in
    let place = place_in (spatial_after earlier) f n (words_of f earlier) in
    rows_of_word earlier word f e ∙ long_fault n place word long ∙ sym (rows_of_word earlier next f e ∙ long_fault n place next also)

pub same_fault : (earlier : List Item) (x y : Item) → AreLong x y → fault_in (x ∷ earlier) ≡ fault_in (y ∷ earlier)
same_fault earlier (Line key line) (Line other next) h =
    ap (λ (r : Option LineFault). option_or (fault_in earlier) (option_map (fault_here earlier (Line key line)) r)) (long_line key line earlier h.0 ∙ sym (long_line other next earlier h.1))
same_fault earlier (Line key line) (NumberWord word) h = absurd h
same_fault earlier (Line key line) LineEnd h = absurd h
same_fault earlier (NumberWord word) (Line key line) h = absurd h
same_fault earlier (NumberWord word) (NumberWord next) h =
    ap (λ (r : Option LineFault). option_or (fault_in earlier) (option_map (fault_here earlier (NumberWord word)) r)) (same_word_row earlier word next (open_section earlier) h.0 h.1 refl)
same_fault earlier (NumberWord word) LineEnd h = absurd h
same_fault earlier LineEnd y h = absurd h

-- ---- the fault of items that stay

turned : (x : Item) (xs earlier : List Item) → reverse (x ∷ xs) ++ earlier ≡ reverse xs ++ (x ∷ earlier)
turned x xs earlier =
    ap (λ (zs : List Item). zs ++ earlier) (reverse-append (x ∷ []) xs) ∙ append_assoc (reverse xs) (x ∷ []) earlier

alone_by : (b : Bool) (x : Item) (earlier : List Item) → reverse (x ∷ cond b [] []) ++ earlier ≡ x ∷ earlier
alone_by true x earlier = refl
alone_by false x earlier = refl

alone : (x : Item) (xs earlier : List Item) → xs ≡ [] → reverse (to_end_line (x ∷ xs)) ++ earlier ≡ x ∷ earlier
alone x xs earlier e = ap (λ (zs : List Item). reverse (to_end_line (x ∷ zs)) ++ earlier) e ∙ alone_by (is_end_line x) x earlier

fault_step : (b : Bool) (x : Item) (xs ys earlier : List Item) (found : ReadFault)
    → (fault_in (reverse xs ++ (x ∷ earlier)) ≡ Some found → fault_in (reverse ys ++ (x ∷ earlier)) ≡ Some found)
    → fault_in (reverse (x ∷ cond b [] xs) ++ earlier) ≡ Some found
    → fault_in (reverse (x ∷ cond b [] ys) ++ earlier) ≡ Some found
fault_step true x xs ys earlier found after e = e
fault_step false x xs ys earlier found after e =
    ap fault_in (turned x ys earlier) ∙ after (ap fault_in (sym (turned x xs earlier)) ∙ e)

fault_after : (xs ys earlier : List Item) (found : ReadFault) → Stay xs ys
    → fault_in (reverse (to_end_line xs) ++ earlier) ≡ Some found → fault_in (reverse (to_end_line ys) ++ earlier) ≡ Some found
fault_after [] ys earlier found h e = fault_stays (reverse (to_end_line ys)) earlier found e
fault_after (x ∷ xs) [] earlier found h e = absurd h
fault_after (x ∷ xs) (y ∷ ys) earlier found (inl h) e =
    subst (λ (z : Item). fault_in (reverse (to_end_line (z ∷ ys)) ++ earlier) ≡ Some found) h.0
    (fault_step (is_end_line x) x (to_end_line xs) (to_end_line ys) earlier found (fault_after xs ys (x ∷ earlier) found h.1) e)
fault_after (x ∷ xs) (y ∷ ys) earlier found (inr h) e =
    let rest = cond (is_end_line y) [] (to_end_line ys) in
    ap fault_in (turned y rest earlier)
    ∙ fault_stays (reverse rest) (y ∷ earlier) found (sym (same_fault earlier x y h.0) ∙ ap fault_in (sym (alone x xs earlier h.1)) ∙ e)

fault_of_items : (xs ys : List Item) (found : ReadFault) → Stay xs ys → fault_in (reverse (to_end_line xs)) ≡ Some found
    → fault_in (reverse (to_end_line ys)) ≡ Some found
fault_of_items xs ys found h e =
    ap fault_in (sym (append-nil (reverse (to_end_line ys)))) ∙ fault_after xs ys [] found h (ap fault_in (append-nil (reverse (to_end_line xs))) ∙ e)

-- ---- the end line of items that stay

no_long_end : (earlier : List Item) (x y : Item) → AreLong x y → IsClean (x ∷ earlier) → has_end_line (x ∷ []) ≡ true → ⊥
no_long_end earlier (Line key line) (Line other next) h clean ended =
    none-some row.LongLine (sym (clean_parts earlier (Line key line) clean).1 ∙ long_line key line earlier h.0)
no_long_end earlier (Line key line) (NumberWord word) h clean ended = h
no_long_end earlier (Line key line) LineEnd h clean ended = h
no_long_end earlier (NumberWord word) y h clean ended = false≢true ended
no_long_end earlier LineEnd y h clean ended = h

end_step : (b : Bool) (x : Item) (xs ys earlier : List Item)
    → (IsClean (reverse (to_end_line xs) ++ (x ∷ earlier)) → has_end_line xs ≡ true → to_end_line ys ≡ to_end_line xs)
    → IsClean (reverse (x ∷ cond b [] (to_end_line xs)) ++ earlier) → (b || has_end_line xs) ≡ true
    → x ∷ cond b [] (to_end_line ys) ≡ x ∷ cond b [] (to_end_line xs)
end_step true x xs ys earlier after clean ended = refl
end_step false x xs ys earlier after clean ended =
    ap (λ (zs : List Item). x ∷ zs) (after (ap fault_in (sym (turned x (to_end_line xs) earlier)) ∙ clean) ended)

end_after : (xs ys earlier : List Item) → Stay xs ys → IsClean (reverse (to_end_line xs) ++ earlier) → has_end_line xs ≡ true
    → to_end_line ys ≡ to_end_line xs
end_after [] ys earlier h clean ended = absurd (false≢true ended)
end_after (x ∷ xs) [] earlier h clean ended = absurd h
end_after (x ∷ xs) (y ∷ ys) earlier (inl h) clean ended =
    subst (λ (z : Item). to_end_line (z ∷ ys) ≡ to_end_line (x ∷ xs)) h.0 (end_step (is_end_line x) x xs ys earlier (end_after xs ys (x ∷ earlier) h.1) clean ended)
end_after (x ∷ xs) (y ∷ ys) earlier (inr h) clean ended =
    absurd (no_long_end earlier x y h.0 (ap fault_in (sym (alone x xs earlier h.1)) ∙ clean) (subst (λ (zs : List Item). has_end_line (x ∷ zs) ≡ true) h.1 ended))

end_of_items : (xs ys : List Item) → Stay xs ys → IsClean (reverse (to_end_line xs)) → has_end_line xs ≡ true
    → to_end_line ys ≡ to_end_line xs
end_of_items xs ys h clean ended = end_after xs ys [] h (ap fault_in (append-nil (reverse (to_end_line xs))) ∙ clean) ended

or_turned : (a b : Bool) → (a || (b || false)) ≡ (b || a)
or_turned true true = refl
or_turned true false = refl
or_turned false true = refl
or_turned false false = refl

ends_turned : (items : List Item) → has_end_line (reverse items) ≡ has_end_line items
ends_turned [] = refl
ends_turned (x ∷ items) =
    ap has_end_line (reverse-append (x ∷ []) items) ∙ list_any-append is_end_line (reverse items) (x ∷ [])
    ∙ or_turned (has_end_line (reverse items)) (is_end_line x) ∙ ap (λ (b : Bool). is_end_line x || b) (ends_turned items)

ends_step : (b : Bool) (xs ys : List Item) → has_end_line xs ≡ has_end_line ys
    → (b || has_end_line (cond b [] xs)) ≡ (b || has_end_line ys)
ends_step true xs ys e = refl
ends_step false xs ys e = e

ends_kept : (items : List Item) → has_end_line (to_end_line items) ≡ has_end_line items
ends_kept [] = refl
ends_kept (x ∷ items) = ends_step (is_end_line x) (to_end_line items) items (ends_kept items)

-- ---- the bytes that a file may have

take_front : (size : ℕ) (bytes more : List ℕ) → nat_lt size (length bytes) ≡ true → take size (bytes ++ more) ≡ take size bytes
take_front size bytes more e = take-append-le size bytes more (omega (arith, ltb-true size (length bytes) e))

take_whole : (size : ℕ) (bytes : List ℕ) → nat_lt size (length bytes) ≡ false → take size bytes ≡ bytes
take_whole size bytes e = take_all size bytes (ltb-false size (length bytes) e)

take_over : (size : ℕ) (bytes more : List ℕ) → nat_lt size (length bytes) ≡ false
    → take size (bytes ++ more) ≡ bytes ++ take (size - length bytes) more
take_over size bytes more e =
    let room : length bytes + (size - length bytes) ≡ size = omega (arith, ltb-false size (length bytes) e) in
    ap (λ (n : ℕ). take n (bytes ++ more)) (sym room) ∙ take-append-add bytes more (size - length bytes)

pub part_long : (bytes : List ℕ) → is_too_long bytes ≡ true → part bytes ≡ settled_part bytes
part_long bytes e =
    ap (λ (b : Bool). reverse (to_end_line (cond b (settled_items (take most_file_bytes bytes)) (items_of bytes)))) e

pub part_short : (bytes : List ℕ) → is_too_long bytes ≡ false → part bytes ≡ reverse (to_end_line (items_of bytes))
part_short bytes e =
    ap (λ (b : Bool). reverse (to_end_line (cond b (settled_items (take most_file_bytes bytes)) (items_of bytes)))) e

settled_long : (bytes more : List ℕ) → is_too_long bytes ≡ true → settled_part (bytes ++ more) ≡ settled_part bytes
settled_long bytes more e =
    ap (λ (bs : List ℕ). reverse (to_end_line (settled_items bs))) (take_front most_file_bytes bytes more e)

settled_short : (bytes : List ℕ) → is_too_long bytes ≡ false → settled_part bytes ≡ reverse (to_end_line (settled_items bytes))
settled_short bytes e = ap (λ (bs : List ℕ). reverse (to_end_line (settled_items bs))) (take_whole most_file_bytes bytes e)

abbrev room_for : List ℕ → ℕ
room_for bytes = most_file_bytes - length bytes

settled_over : (bytes more : List ℕ) → is_too_long bytes ≡ false
    → settled_part (bytes ++ more) ≡ reverse (to_end_line (settled_items (bytes ++ take (room_for bytes) more)))
settled_over bytes more e =
    ap (λ (bs : List ℕ). reverse (to_end_line (settled_items bs))) (take_over most_file_bytes bytes more e)

-- ---- faults of texts

first_wins : (o : Option ReadFault) (rest : List (Option ReadFault)) (found : ReadFault) → o ≡ Some found
    → first_row (o ∷ rest) ≡ Some found
first_wins o rest found e = ap (λ (p : Option ReadFault). first_row (p ∷ rest)) e

more_rows : (o : Option ReadFault) (b : Bool) (rest : Option ReadFault) (found : ReadFault)
    → first_row (o ∷ when b faults.TooLong ∷ []) ≡ Some found
    → first_row (o ∷ when b faults.TooLong ∷ rest ∷ []) ≡ Some found
more_rows (Some other) b rest found e = e
more_rows None true rest found e = e
more_rows None false rest found e = absurd (none-some found e)

only_first : (o : Option ReadFault) (b c : Bool) (found : ReadFault) → b ≡ false
    → first_row (o ∷ when (b && c) faults.TooLong ∷ []) ≡ Some found → o ≡ Some found
only_first (Some other) b c found e h = h
only_first None true c found e h = absurd (true≢false e)
only_first None false c found e h = absurd (none-some found h)

-- in a text that isn't too long only an item has a settled fault
short_fault : (bytes : List ℕ) (found : ReadFault) → is_too_long bytes ≡ false → settled_fault bytes ≡ Some found
    → fault_in (reverse (to_end_line (settled_items bytes))) ≡ Some found
short_fault bytes found e h =
    ap fault_in (sym (settled_short bytes e)) ∙ only_first (fault_in (settled_part bytes)) (is_too_long bytes) (not (has_end_line (settled_part bytes))) found e h

over_fault : (bytes more : List ℕ) (found : ReadFault) → is_too_long bytes ≡ false → settled_fault bytes ≡ Some found
    → fault_in (settled_part (bytes ++ more)) ≡ Some found
over_fault bytes more found e h =
    ap fault_in (settled_over bytes more e)
    ∙ fault_of_items (settled_items bytes) (settled_items (bytes ++ take (room_for bytes) more)) found (items_settled bytes (take (room_for bytes) more)) (short_fault bytes found e h)

part_fault : (bytes more : List ℕ) (found : ReadFault) (b : Bool) → is_too_long (bytes ++ more) ≡ b → is_too_long bytes ≡ false
    → settled_fault bytes ≡ Some found → fault_in (part (bytes ++ more)) ≡ Some found
part_fault bytes more found true t e h = ap fault_in (part_long (bytes ++ more) t) ∙ over_fault bytes more found e h
part_fault bytes more found false t e h =
    ap fault_in (part_short (bytes ++ more) t) ∙ fault_of_items (settled_items bytes) (items_of (bytes ++ more)) found (items_stay bytes more) (short_fault bytes found e h)

-- the same with more bytes, if there are too many already
long_fault_kept : (bytes more : List ℕ) (found : ReadFault) → is_too_long bytes ≡ true → settled_fault bytes ≡ Some found
    → first_row (fault_in (settled_part bytes) ∷ when (is_too_long (bytes ++ more) && not (has_end_line (settled_part bytes))) faults.TooLong ∷ []) ≡ Some found
long_fault_kept bytes more found e h =
    subst (λ (b : Bool). first_row (fault_in (settled_part bytes) ∷ when (b && not (has_end_line (settled_part bytes))) faults.TooLong ∷ []) ≡ Some found)
    (e ∙ sym (longer most_file_bytes bytes more e)) h

fault_kept_by : (bytes more : List ℕ) (found : ReadFault) (b : Bool) → is_too_long bytes ≡ b → settled_fault bytes ≡ Some found
    → fault (bytes ++ more) ≡ Some found
fault_kept_by bytes more found true e h =
    subst (λ (items : List Item). first_row (fault_in items ∷ when (is_too_long (bytes ++ more) && not (has_end_line items)) faults.TooLong
    ∷ option_map (λ fault. faults.End fault) (fault_at_end items) ∷ []) ≡ Some found)
    (sym (part_long (bytes ++ more) (longer most_file_bytes bytes more e) ∙ settled_long bytes more e))
    (more_rows (fault_in (settled_part bytes)) (is_too_long (bytes ++ more) && not (has_end_line (settled_part bytes)))
    (option_map (λ fault. faults.End fault) (fault_at_end (settled_part bytes))) found
    (long_fault_kept bytes more found e h))
fault_kept_by bytes more found false e h =
    first_wins (fault_in (part (bytes ++ more)))
    (when (is_too_long (bytes ++ more) && not (has_end_line (part (bytes ++ more)))) faults.TooLong ∷ option_map (λ fault. faults.End fault) (fault_at_end (part (bytes ++ more))) ∷ []) found
    (part_fault bytes more found (is_too_long (bytes ++ more)) refl e h)

pub fault_kept : (bytes more : List ℕ) (found : ReadFault) → settled_fault bytes ≡ Some found → fault (bytes ++ more) ≡ Some found
fault_kept bytes more found h = fault_kept_by bytes more found (is_too_long bytes) refl h

settled_kept_by : (bytes more : List ℕ) (found : ReadFault) (b : Bool) → is_too_long bytes ≡ b → settled_fault bytes ≡ Some found
    → settled_fault (bytes ++ more) ≡ Some found
settled_kept_by bytes more found true e h =
    subst (λ (items : List Item). first_row (fault_in items ∷ when (is_too_long (bytes ++ more) && not (has_end_line items)) faults.TooLong ∷ []) ≡ Some found)
    (sym (settled_long bytes more e)) (long_fault_kept bytes more found e h)
settled_kept_by bytes more found false e h =
    first_wins (fault_in (settled_part (bytes ++ more))) (when (is_too_long (bytes ++ more) && not (has_end_line (settled_part (bytes ++ more)))) faults.TooLong ∷ []) found
    (over_fault bytes more found e h)

pub settled_kept : (bytes more : List ℕ) (found : ReadFault) → settled_fault bytes ≡ Some found
    → settled_fault (bytes ++ more) ≡ Some found
settled_kept bytes more found h = settled_kept_by bytes more found (is_too_long bytes) refl h

-- ---- a settled end line

short_end : (bytes : List ℕ) (ys : List Item) → is_too_long bytes ≡ false → IsClean (settled_part bytes)
    → has_end_line (settled_part bytes) ≡ true → Stay (settled_items bytes) ys
    → reverse (to_end_line ys) ≡ settled_part bytes
short_end bytes ys e clean ended stay =
    let whole = settled_short bytes e in
    let has : has_end_line (settled_items bytes) ≡ true =
    sym (ends_kept (settled_items bytes)) ∙ sym (ends_turned (to_end_line (settled_items bytes))) ∙ ap has_end_line (sym whole) ∙ ended in
    ap reverse (end_of_items (settled_items bytes) ys stay (ap fault_in (sym whole) ∙ clean) has) ∙ sym whole

part_kept_by : (bytes more : List ℕ) (b c : Bool) → is_too_long bytes ≡ b → is_too_long (bytes ++ more) ≡ c
    → IsClean (settled_part bytes) → has_end_line (settled_part bytes) ≡ true
    → part (bytes ++ more) ≡ settled_part bytes
part_kept_by bytes more true c e t clean ended =
    part_long (bytes ++ more) (longer most_file_bytes bytes more e) ∙ settled_long bytes more e
part_kept_by bytes more false true e t clean ended =
    part_long (bytes ++ more) t ∙ settled_over bytes more e
    ∙ short_end bytes (settled_items (bytes ++ take (room_for bytes) more)) e clean ended (items_settled bytes (take (room_for bytes) more))
part_kept_by bytes more false false e t clean ended =
    part_short (bytes ++ more) t ∙ short_end bytes (items_of (bytes ++ more)) e clean ended (items_stay bytes more)

pub part_kept : (bytes more : List ℕ) → IsClean (settled_part bytes) → has_end_line (settled_part bytes) ≡ true
    → part (bytes ++ more) ≡ settled_part bytes
part_kept bytes more clean ended = part_kept_by bytes more (is_too_long bytes) (is_too_long (bytes ++ more)) refl refl clean ended

ended_stays_by : (bytes more : List ℕ) (b : Bool) → is_too_long bytes ≡ b → IsClean (settled_part bytes)
    → has_end_line (settled_part bytes) ≡ true
    → settled_part (bytes ++ more) ≡ settled_part bytes
ended_stays_by bytes more true e clean ended = settled_long bytes more e
ended_stays_by bytes more false e clean ended =
    settled_over bytes more e ∙ short_end bytes (settled_items (bytes ++ take (room_for bytes) more)) e clean ended (items_settled bytes (take (room_for bytes) more))

pub ended_stays : (bytes more : List ℕ) → IsClean (settled_part bytes) → has_end_line (settled_part bytes) ≡ true
    → settled_part (bytes ++ more) ≡ settled_part bytes
ended_stays bytes more clean ended = ended_stays_by bytes more (is_too_long bytes) refl clean ended

only_last : (o last : Option ReadFault) (b c : Bool) → o ≡ None → c ≡ true
    → first_row (o ∷ when (b && not c) faults.TooLong ∷ last ∷ []) ≡ last
only_last (Some other) last b c e t = absurd (none-some other (sym e))
only_last None last b false e t = absurd (false≢true t)
only_last None None true true e t = refl
only_last None None false true e t = refl
only_last None (Some found) true true e t = refl
only_last None (Some found) false true e t = refl

ended_fault : (bytes : List ℕ) (items : List Item) → part bytes ≡ items → IsClean items → has_end_line items ≡ true
    → fault bytes ≡ option_map (λ fault. faults.End fault) (fault_at_end items)
ended_fault bytes items e clean ended =
    ap (λ (xs : List Item). first_row (fault_in xs ∷ when (is_too_long bytes && not (has_end_line xs)) faults.TooLong ∷ option_map (λ fault. faults.End fault) (fault_at_end xs) ∷ [])) e
    ∙ only_last (fault_in items) (option_map (λ fault. faults.End fault) (fault_at_end items)) (is_too_long bytes) (has_end_line items) clean ended

pub ended_kept : (bytes more : List ℕ) → IsClean (settled_part bytes) → has_end_line (settled_part bytes) ≡ true
    → fault (bytes ++ more) ≡ fault bytes
ended_kept bytes more clean ended =
    let here : part bytes ≡ settled_part bytes = subst (λ (bs : List ℕ). part bs ≡ settled_part bytes) (append-nil bytes) (part_kept bytes [] clean ended) in
    ended_fault (bytes ++ more) (settled_part bytes) (part_kept bytes more clean ended) clean ended ∙ sym (ended_fault bytes (settled_part bytes) here clean ended)
