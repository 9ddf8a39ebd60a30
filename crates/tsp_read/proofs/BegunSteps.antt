-- A line or word that begins in one piece of a text and ends in a later one (`Begun`, src/items.rt). Crates above
-- import it, too.
use Rattle.tsp_read.proofs.Prelude.{◌≡◌, ap, Result, Ok, Err, ℕ, ◌+◌, ◌<◌, ◌≤◌, Bool, true, false, List, [], ◌∷◌, ◌++◌, length, refl, sym, subst, ◌∙◌, arith, append-nil, append_assoc, length-append, true≢false, false≢true, ltb-false, lt-ltb, le-ltb, or_parts, not, ◌&&◌, ◌||◌, nat_lt, ◌↔◌, ◌==◌, IsOk, OnOk, IsErrAnd, nil_from_test, most_line_bytes, is_blank, is_letter, start_filled, ends_line, is_not_empty, without_start, Item, LineEnd, ReadFault}
use Rattle.tsp_read.proofs.IntakeSteps.{read_further, read_to_end, read_to_fault}
use Rattle.tsp_read.proofs.LeftSteps.{letter_filled, left_none, before_on, from_on}
use Rattle.tsp_read.proofs.Onwards.{end_next, line_begins, token_next, token_missing_next, at_from, cuts_alike}
use Rattle.tsp_read.specs.declared.items.Begun.{Begun}
use Rattle.tsp_read.specs.declared.items.Intake.{Intake}
use Rattle.tsp_read.specs.declared.items.Token.{Token}
use Rattle.tsp_read.specs.declared.items.Token.TheVariants.{Line, Word}
use Rattle.tsp_read.specs.states.Left.{items_left, ends_word, up_to_first, from, is_settled, token_at, ends_token, most_bytes, token_item}
use Rattle.tsp_read.specs.states.Onward.{GivesNext, HasTakenItems, TakesNext, IsReadTo, HasEnded, IsStoppedBy, HasBegunToken, HasBegun, kept, IsFedTo, IsJoinedTo}

-- the error that it was given
pub propagated : {T E : Type 0} (r : Result T E) (e : E) → IsErrAnd r (λ y. y ≡ e) → r ≡ Err e
propagated (Ok x) e h = absurd h
propagated (Err y) e h = ap (λ z. Err z) h

-- ---- a line or a word that the end of a piece cuts: its bytes are kept

-- ---- a list in which none passes, and more behind it

abbrev GoesInto : (ℕ → Bool) → List ℕ → List ℕ → Type 0
GoesInto p xs more = (up_to_first p (xs ++ more) ≡ xs ++ up_to_first p more) × (from p (xs ++ more) ≡ from p more)

into_by : (p : ℕ → Bool) (x : ℕ) (xs more : List ℕ) (b : Bool) → p x ≡ b → (from p xs ≡ [] → GoesInto p xs more)
    → from p (x ∷ xs) ≡ [] → GoesInto p (x ∷ xs) more
into_by p x xs more true e rest none = absurd (let f : x ∷ xs ≡ [] = sym (at_from p x xs e) ∙ none in cc)
into_by p x xs more false e rest none =
    let h = rest (sym (from_on p x xs e) ∙ none) in
    (before_on p x (xs ++ more) e ∙ ap (λ (ys : List ℕ). x ∷ ys) h.0, from_on p x (xs ++ more) e ∙ h.1)

goes_into : (p : ℕ → Bool) (xs more : List ℕ) → from p xs ≡ [] → GoesInto p xs more
goes_into p [] more none = (refl, refl)
goes_into p (x ∷ xs) more none = into_by p x xs more (p x) refl (goes_into p xs more) none

whole : (p : ℕ → Bool) (xs : List ℕ) → from p xs ≡ [] → up_to_first p xs ≡ xs
whole p xs none = ap (up_to_first p) (sym (append-nil xs)) ∙ (goes_into p xs [] none).0 ∙ append-nil xs

first_fails : (p : ℕ → Bool) (x : ℕ) (xs : List ℕ) → from p (x ∷ xs) ≡ [] → p x ≡ false
first_fails p x xs none = by_case (p x) refl
  where
    by_case : (b : Bool) → p x ≡ b → p x ≡ false
    by_case true e = absurd (let f : x ∷ xs ≡ [] = sym (at_from p x xs e) ∙ none in cc)
    by_case false e = e

-- ---- what the code tells of what is left

pub filled_rest : (xs : List ℕ) → (length xs == 0) ≡ false → is_not_empty xs ≡ true
filled_rest [] e = absurd (true≢false e)
filled_rest (x ∷ xs) e = refl

-- ---- the first byte

and_second : (a b : Bool) → (a && b) ≡ true → b ≡ true
and_second true b e = e
and_second false b e = absurd cc

not_ten : (token : Token) (b : ℕ) → ends_token token b ≡ false → b ≡ 10 → ⊥
not_ten Line b e ten = true≢false (sym (ap ends_line ten) ∙ e)
not_ten Word b e ten = true≢false (sym (ap ends_word ten) ∙ e)

not_blank : (inside : Bool) (token : Token) (b : ℕ) → token ≡ token_at inside b → ends_token token b ≡ false → is_blank b ≡ false
not_blank inside Line b is e =
    letter_filled b (and_second (not inside) (is_letter b) (line_begins (not inside && is_letter b) is))
not_blank inside Word b is e = (or_parts (is_blank b) (ends_line b) e).0

open_still : (token : Token) (xs : List ℕ) → from (ends_token token) xs ≡ [] → length xs ≤ most_bytes token
    → is_settled (most_bytes token) true (up_to_first (ends_token token) xs) (from (ends_token token) xs) ≡ false
open_still token xs none short =
    ap (λ (ys : List ℕ). is_settled (most_bytes token) true (up_to_first (ends_token token) xs) ys) none
    ∙ ap (λ (ys : List ℕ). nat_lt (most_bytes token) (length ys)) (whole (ends_token token) xs none) ∙ le-ltb (most_bytes token) (length xs) short

-- ---- what has begun is the next item, once its end has come, or it is too long

-- the first byte of what has begun ends nothing
first_open : (inside : Bool) (token : Token) (bytes : List ℕ) (h : HasBegunToken inside token bytes) → ends_token token h.first ≡ false
first_open inside token bytes h = first_fails (ends_token token) h.first h.others (ap (from (ends_token token)) (sym h.parts) ∙ h.no_end)

-- and no blank goes before it
starts_at : (inside : Bool) (token : Token) (bytes more : List ℕ) (h : HasBegunToken inside token bytes)
    → bytes ++ more ≡ without_start (bytes ++ more)
starts_at inside token bytes more h =
    let parts : bytes ++ more ≡ h.first ∷ (h.others ++ more) = ap (λ (xs : List ℕ). xs ++ more) h.parts in
    let filled = not_blank inside token h.first h.token_is (first_open inside token bytes h) in
    parts ∙ sym (ap without_start parts ∙ start_filled h.first (h.others ++ more) filled)

-- with the next piece, what has begun is an item, once that is settled
abbrev pub Joins : Token → Bool → List ℕ → Type 0
Joins token inside begun = (goes_on : Bool) (piece : List ℕ)
    → is_settled (most_bytes token) goes_on (begun ++ up_to_first (ends_token token) piece) (from (ends_token token) piece) ≡ true
    → items_left goes_on inside (begun ++ piece)
    ≡ token_item token (begun ++ up_to_first (ends_token token) piece) ∷ items_left goes_on true (from (ends_token token) piece)

pub token_joins : (inside : Bool) (token : Token) (begun : List ℕ) → HasBegunToken inside token begun → Joins token inside begun
token_joins inside token begun h goes_on piece settled =
    let cut = goes_into (ends_token token) begun piece h.no_end in
    token_next goes_on inside (begun ++ piece) (begun ++ piece) h.first (h.others ++ piece) token
    (begun ++ up_to_first (ends_token token) piece) (from (ends_token token) piece) (starts_at inside token begun piece h)
    (ap (λ (xs : List ℕ). xs ++ piece) h.parts) (not_ten token h.first (first_open inside token begun h)) h.token_is
    (sym cut.0) (sym cut.1) settled

pub settled_filled : (most : ℕ) (goes_on : Bool) (piece rest : List ℕ) → is_not_empty rest ≡ true
    → is_settled most goes_on piece rest ≡ true
settled_filled most goes_on piece [] e = absurd cc
settled_filled most goes_on piece (x ∷ rest) e = refl

pub settled_long : (most : ℕ) (goes_on : Bool) (piece rest : List ℕ) → most < length piece
    → is_settled most goes_on piece rest ≡ true
settled_long most goes_on piece rest long =
    by_two (is_not_empty rest) (not goes_on) (nat_lt most (length piece)) (lt-ltb most (length piece) long)
  where
    by_two : (a b c : Bool) → c ≡ true → (a || b || c) ≡ true
    by_two true b c e = refl
    by_two false true c e = refl
    by_two false false c e = e

-- the same, whatever follows its end
pub joined_gives : (token : Token) (inside : Bool) (begun piece : List ℕ) → Joins token inside begun
    → is_not_empty (from (ends_token token) piece) ≡ true
    → GivesNext inside (begun ++ piece) (token_item token (begun ++ up_to_first (ends_token token) piece)) true (from (ends_token token) piece)
joined_gives token inside begun piece joins ended goes_on more =
    let cut = cuts_alike (ends_token token) piece more ended in
    let tail : is_not_empty (from (ends_token token) (piece ++ more)) ≡ true = ap is_not_empty cut.1 ∙ filled_more (from (ends_token token) piece) ended in
    ap (items_left goes_on inside) (append_assoc begun piece more)
    ∙ joins goes_on (piece ++ more) (settled_filled (most_bytes token) goes_on (begun ++ up_to_first (ends_token token) (piece ++ more))
    (from (ends_token token) (piece ++ more)) tail)
    ∙ ap (λ (xs : List ℕ). token_item token (begun ++ xs) ∷ items_left goes_on true (from (ends_token token) (piece ++ more))) cut.0
    ∙ ap (λ (xs : List ℕ). token_item token (begun ++ up_to_first (ends_token token) piece) ∷ items_left goes_on true xs) cut.1
  where
    filled_more : (xs : List ℕ) → is_not_empty xs ≡ true → is_not_empty (xs ++ more) ≡ true
    filled_more [] e = absurd cc
    filled_more (x ∷ xs) e = refl

-- ---- the kept bytes

on_ok : {E : Type 0} (r : Result (Unit {0}) E) (P : Type 0) → IsOk r → OnOk r P → P
on_ok (Ok done) P is h = h
on_ok (Err e) P is h = absurd (false≢true is)

pub begun_token : (inside : Bool) (token : Token) (bytes filled : List ℕ) → bytes ≡ filled → HasBegunToken inside token filled
    → HasBegun inside token bytes
begun_token inside token bytes filled same h =
    subst (λ (xs : List ℕ). HasBegun inside token xs) (sym (same ∙ h.parts))
    (subst (λ (xs : List ℕ). HasBegunToken inside token xs) h.parts h)

-- what is not settled has no end and isn't too long
unsettled : (most : ℕ) (a b : Bool) → (a || false || b) ≡ false → (a ≡ false) × (b ≡ false)
unsettled most true b e = absurd cc
unsettled most false b e = (refl, e)

not_filled : (xs : List ℕ) → is_not_empty xs ≡ false → xs ≡ []
not_filled [] e = refl
not_filled (x ∷ xs) e = absurd cc

pub record IsOpen (token : Token) (filled : List ℕ) : Type 0 where
  pub no_end : from (ends_token token) filled ≡ []
  pub short : length filled ≤ most_bytes token

open_by : (token : Token) (filled : List ℕ)
    → is_settled (most_bytes token) true (up_to_first (ends_token token) filled) (from (ends_token token) filled) ≡ false
    → IsOpen token filled
open_by token filled e =
    let piece = up_to_first (ends_token token) filled in
    let both = unsettled (most_bytes token) (is_not_empty (from (ends_token token) filled)) (nat_lt (most_bytes token) (length piece)) e in
    let none = not_filled (from (ends_token token) filled) both.0 in
    record {
      no_end = none;
      short = subst (λ (xs : List ℕ). length xs ≤ most_bytes token) (whole (ends_token token) filled none)
          (ltb-false (most_bytes token) (length piece) both.1);
    }

pub open_token : (inside : Bool) (text filled : List ℕ) (first : ℕ) (after : List ℕ) (token : Token) → filled ≡ without_start text
    → filled ≡ first ∷ after → token ≡ token_at inside first → items_left true inside text ≡ [] → IsOpen token filled
open_token inside text filled first after token e parts is none =
    open_by token filled (by_case (is_settled (most_bytes token) true (up_to_first (ends_token token) filled) (from (ends_token token) filled)) refl)
  where
    no_ten : first ≡ 10 → ⊥
    no_ten ten =
        let next = end_next true inside text filled first after e parts ten in
        let f : LineEnd ∷ items_left true false after ≡ [] = sym next ∙ none in absurd cc

    by_case : (b : Bool) → is_settled (most_bytes token) true (up_to_first (ends_token token) filled) (from (ends_token token) filled) ≡ b
        → is_settled (most_bytes token) true (up_to_first (ends_token token) filled) (from (ends_token token) filled) ≡ false
    by_case true s =
        let next = token_next true inside text filled first after token (up_to_first (ends_token token) filled) (from (ends_token token) filled)
        e parts no_ten is refl refl s in
        let f : token_item token (up_to_first (ends_token token) filled) ∷ items_left true true (from (ends_token token) filled) ≡ [] =
        sym next ∙ none in
        absurd cc
    by_case false s = s

-- ---- the buffer, which has capacity for a line

pub most_within : (token : Token) (n : ℕ) → n ≤ most_bytes token → n ≤ most_line_bytes
most_within Line n few = few
most_within Word n few = omega (arith, few)

-- what is put into it is in it
pub has_taken : {E : Type 0} (r : Result (Unit {0}) E) (token : Token) (old new piece : List ℕ)
    → (IsOk r ↔ (length old + length piece ≤ most_line_bytes)) → OnOk r (new ≡ old ++ piece)
    → length old + length piece ≤ most_bytes token → new ≡ old ++ piece
has_taken r token old new piece fits taken short =
    on_ok r (new ≡ old ++ piece) (fits.1 (most_within token (length old + length piece) short)) taken

-- ---- what has begun goes on

pub token_here : (inside : Bool) (token : Token) (bytes : List ℕ) → (length bytes == 0) ≡ false → HasBegun inside token bytes
    → HasBegunToken inside token bytes
token_here inside token [] some h = absurd (true≢false some)
token_here inside token (b ∷ bytes) some h = h

-- the item has a fault, or memory was refused
pub joined_fault : (token : Token) (old new : Intake) (begun piece bytes text : List ℕ) (found : ReadFault)
    → text ≡ begun ++ up_to_first (ends_token token) piece
    → is_settled (most_bytes token) true (begun ++ up_to_first (ends_token token) piece) (from (ends_token token) piece) ≡ true
    → Joins token old.inside begun → IsReadTo old bytes (begun ++ piece)
    → ((earlier : List Item) → HasTakenItems old earlier → TakesNext earlier (token_item token text) new (Err found))
    → IsStoppedBy bytes found
joined_fault token old new begun piece bytes text found same settled joins read taken =
    read_to_fault old new bytes (begun ++ piece) (token_item token (begun ++ up_to_first (ends_token token) piece))
    (items_left true true (from (ends_token token) piece)) found read (joins true piece settled)
    (subst (λ (t : List ℕ). (earlier : List Item) → HasTakenItems old earlier → TakesNext earlier (token_item token t) new (Err found))
    same taken)

-- the item is an end line
pub joined_end : (token : Token) (old new : Intake) (begun piece bytes text : List ℕ) (ended : Bool) → ended ≡ true
    → text ≡ begun ++ up_to_first (ends_token token) piece → is_not_empty (from (ends_token token) piece) ≡ true
    → Joins token old.inside begun → IsReadTo old bytes (begun ++ piece)
    → ((earlier : List Item) → HasTakenItems old earlier → TakesNext earlier (token_item token text) new (Ok ended))
    → HasEnded new.reading bytes
joined_end token old new begun piece bytes text ended is_end same tail joins read taken =
    read_to_end old new bytes (begun ++ piece) (token_item token (begun ++ up_to_first (ends_token token) piece))
    (items_left true true (from (ends_token token) piece)) ended is_end read
    (joins true piece (settled_filled (most_bytes token) true (begun ++ up_to_first (ends_token token) piece) (from (ends_token token) piece) tail))
    (subst (λ (t : List ℕ). (earlier : List Item) → HasTakenItems old earlier → TakesNext earlier (token_item token t) new (Ok ended))
    same taken)

-- the item is taken, and what follows it is left
pub joined_more : (token : Token) (old new : Intake) (begun piece bytes text : List ℕ) (ended : Bool) → ended ≡ false
    → text ≡ begun ++ up_to_first (ends_token token) piece → is_not_empty (from (ends_token token) piece) ≡ true
    → Joins token old.inside begun → IsReadTo old bytes (begun ++ piece) → new.inside ≡ true
    → ((earlier : List Item) → HasTakenItems old earlier → TakesNext earlier (token_item token text) new (Ok ended))
    → IsReadTo new bytes (from (ends_token token) piece)
joined_more token old new begun piece bytes text ended goes same tail joins read inside taken =
    read_further old new bytes (begun ++ piece) (from (ends_token token) piece) (token_item token (begun ++ up_to_first (ends_token token) piece))
    true ended goes read
    (subst (λ (t : List ℕ). (earlier : List Item) → HasTakenItems old earlier → TakesNext earlier (token_item token t) new (Ok ended))
    same taken)
    inside (λ short. joined_gives token old.inside begun piece joins tail)

-- the item has no end yet, and isn't too long
token_goes_on : (inside : Bool) (token : Token) (begun : List ℕ) → HasBegunToken inside token begun
    → length begun ≤ most_bytes token → items_left true inside begun ≡ []
token_goes_on inside token begun h short =
    let starts : begun ≡ without_start begun =
    subst (λ (xs : List ℕ). xs ≡ without_start xs) (append-nil begun) (starts_at inside token begun [] h) in
    token_missing_next true inside begun begun h.first h.others token starts h.parts
    (not_ten token h.first (first_open inside token begun h)) h.token_is (open_still token begun h.no_end short)

-- no bytes are kept
pub fed_none : (intake : Intake) (begun : Begun) (bytes rest : List ℕ) → begun.bytes.items ≡ [] → IsReadTo intake bytes rest
    → IsJoinedTo intake begun bytes rest
fed_none intake begun bytes rest none read = record {
  fed = record {
    read = subst (λ (xs : List ℕ). IsReadTo intake bytes (xs ++ rest)) (sym none) read;
    begins = subst (λ (xs : List ℕ). HasBegun intake.inside begun.token xs) (sym none) tt;
  };
  none_kept = λ some. none;
  unsettled = λ left. ap (items_left true intake.inside) none ∙ left_none true intake.inside;
}

pub joined_none : (intake : Intake) (begun : Begun) (bytes piece : List ℕ) → IsFedTo intake begun bytes piece
    → (length begun.bytes.items == 0) ≡ true → IsJoinedTo intake begun bytes piece
joined_none intake begun bytes piece h none =
    let empty = nil_from_test begun.bytes.items none in
    fed_none intake begun bytes piece empty (subst (λ (xs : List ℕ). IsReadTo intake bytes (xs ++ piece)) empty h.read)

no_rest : (rest : List ℕ) (P : Type 0) → rest ≡ [] → is_not_empty rest ≡ true → P
no_rest rest P none some = absurd (false≢true (sym (ap is_not_empty none) ∙ some))

-- the whole piece is kept, after the bytes from before
longer : (inside : Bool) (token : Token) (begun piece : List ℕ) → HasBegunToken inside token begun → from (ends_token token) piece ≡ []
    → HasBegunToken inside token (begun ++ piece)
longer inside token begun piece h none = record {
  first = h.first;
  others = h.others ++ piece;
  parts = ap (λ (xs : List ℕ). xs ++ piece) h.parts;
  token_is = h.token_is;
  no_end = (goes_into (ends_token token) begun piece h.no_end).1 ∙ none;
}

pub fed_longer : (intake : Intake) (old new : Begun) (bytes piece rest : List ℕ) → IsFedTo intake old bytes piece
    → (length old.bytes.items == 0) ≡ false → new.token ≡ old.token
    → new.bytes.items ≡ old.bytes.items ++ up_to_first (ends_token old.token) piece → rest ≡ from (ends_token old.token) piece → rest ≡ []
    → length old.bytes.items + length (up_to_first (ends_token old.token) piece) ≤ most_bytes old.token
    → IsJoinedTo intake new bytes rest
fed_longer intake old new bytes piece rest h some same_token added r none short =
    let begun : List ℕ = old.bytes.items in
    let here = token_here intake.inside old.token begun some h.begins in
    let all = whole (ends_token old.token) piece (sym r ∙ none) in
    let same : new.bytes.items ≡ begun ++ piece = added ∙ ap (λ (xs : List ℕ). begun ++ xs) all in
    let more = longer intake.inside old.token begun piece here (sym r ∙ none) in
    let few_enough : length (begun ++ piece) ≤ most_bytes old.token =
    subst (λ (n : ℕ). n ≤ most_bytes old.token)
    (ap (λ (xs : List ℕ). length begun + length xs) all ∙ sym (length-append begun piece)) short in
    record {
      fed = record {
        read = subst (λ (xs : List ℕ). IsReadTo intake bytes xs)
            (sym (ap (λ (xs : List ℕ). kept new ++ xs) none ∙ append-nil (kept new) ∙ same)) h.read;
        begins = subst (λ (token : Token). HasBegun intake.inside token new.bytes.items) (sym same_token)
            (begun_token intake.inside old.token new.bytes.items (begun ++ piece) same more);
      };
      none_kept = no_rest rest (kept new ≡ []) none;
      unsettled = λ _. ap (items_left true intake.inside) same
          ∙ token_goes_on intake.inside old.token (begun ++ piece) more few_enough;
    }
