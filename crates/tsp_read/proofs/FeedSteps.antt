-- One piece more of a text, and its last line and word, for src/feed.rt and `take_last` in src/items.rt.
use Rattle.tsp_read.proofs.Prelude.{◌≡◌, ℕ, ◌+◌, ◌-◌, ◌≤◌, ◌<◌, Bool, true, false, List, [], ◌∷◌, ◌++◌, length, take, reverse, refl, sym, ap, subst, ◌∙◌, arith, Option, Some, None, Result, Ok, Err, append-nil, append_assoc, length-append, drop, take-append-drop, true≢false, false≢true, lt-ltb, le-ltb, and_parts, take_all, reverse-append, list_all-append, none-some, list_all, not, ◌&&◌, ◌==◌, ◌||◌, is_some, nil_from_test, most_file_bytes, Fields, settled_kept, ended_stays, part_long, part_short, part_kept, fault_kept, open_section, when, first_row, is_not_empty, Item, settled_items, has_end_line, AreCut, Line, NumberWord, LineEnd, items_of, is_end_line, to_end_line, fault_in, IsClean, is_too_long, settled_part, settled_fault, part, fault, ReadFault}
use Rattle.std.proofs.Math.Bool.{and-false}
use Rattle.std.proofs.Math.Logic.{∥∥₁_map}
use Rattle.std.proofs.Math.Seq.{take-append-add}
use Rattle.tsp_text.proofs.ValidCuts.{part_cut}
use Rattle.tsp_text.specs.declared.fault.ReadFault.TheVariants as faults
use Rattle.tsp_read.proofs.BegunSteps.{token_here, token_joins, filled_rest}
use Rattle.tsp_read.proofs.IntakeSteps.{walked_so_far, bare_ends, read_parts, not_bare}
use Rattle.tsp_read.proofs.LeftSteps.{all_items, all_settled, left_none}
use Rattle.tsp_read.proofs.Onwards.{walked_all, walked_more, walked_to_end, walked_found, line_fault, end_fault_is}
use Rattle.tsp_read.specs.Reads.{IsGoing, IsEnded, HasSettled, HasTakenBy, HasTaken, refusal, Feeds, ComesTo, SpellsWhole, EndsReading, Reads, Completes}
use Rattle.tsp_read.specs.declared.feed.Feed.{Feed}
use Rattle.tsp_read.specs.declared.feed.Stage.{Stage}
use Rattle.tsp_read.specs.declared.feed.Stage.TheVariants.{Going, Ended, Refused}
use Rattle.tsp_read.specs.declared.items.Begun.{Begun}
use Rattle.tsp_read.specs.declared.items.Intake.{Intake}
use Rattle.tsp_read.specs.declared.reading.OpenSection.{OpenSection}
use Rattle.tsp_read.specs.declared.reading.Reading.{Reading}
use Rattle.tsp_read.specs.states.Holds.{Holds, OpenHolds, IsReadFrom}
use Rattle.tsp_read.specs.states.Left.{items_left, ends_word, up_to_first, from, is_settled, ends_token, most_bytes, token_item}
use Rattle.tsp_read.specs.states.Onward.{Walked, is_bare, IsReadTo, settled_so_far, HasEnded, kept, IsFedTo, IsPaused, FeedsOn, HasBytes, stage_after, outcome_of, is_line_end, HasTakenItems, TakesNext, TakesAll}

-- ---- the same with a piece more

read_longer : (intake : Intake) (bytes rest piece : List ℕ) → IsReadTo intake bytes rest
    → IsReadTo intake (bytes ++ piece) (rest ++ piece)
read_longer intake bytes rest piece h = record {
  earlier = h.earlier;
  stands = h.stands;
  going = h.going;
  parts = λ goes_on more.
      ap (items_left goes_on false) (append_assoc bytes piece more) ∙ h.parts goes_on (piece ++ more)
      ∙ ap (λ (xs : List ℕ). reverse h.earlier ++ items_left goes_on intake.inside xs) (sym (append_assoc rest piece more));
}

pub fed_longer : (intake : Intake) (begun : Begun) (bytes piece : List ℕ) → IsPaused intake begun bytes
    → IsFedTo intake begun (bytes ++ piece) piece
fed_longer intake begun bytes piece h = record {
  read =
      subst (λ (xs : List ℕ). IsReadTo intake (bytes ++ piece) (xs ++ piece)) (append-nil (kept begun)) (read_longer intake bytes (kept begun ++ []) piece h.fed.read);
  begins = h.fed.begins;
}

-- ---- all that is settled was taken

record AreSettled (intake : Intake) (bytes : List ℕ) : Type 0 where
  pub holds : Holds intake.reading (settled_so_far bytes)
  pub going : has_end_line (settled_so_far bytes) ≡ false

paused_items : (intake : Intake) (begun : Begun) (bytes : List ℕ) → IsPaused intake begun bytes → AreSettled intake bytes
paused_items intake begun bytes h =
    let none : items_left true intake.inside (kept begun ++ []) ≡ [] = ap (items_left true intake.inside) (append-nil (kept begun)) ∙ h.unsettled in
    let walked = subst (λ (xs : List Item). Walked (settled_items bytes) h.fed.read.earlier xs) none (walked_so_far intake bytes (kept begun ++ []) h.fed.read) in
    let all : settled_so_far bytes ≡ h.fed.read.earlier = walked_all (settled_items bytes) h.fed.read.earlier walked in
    record {
      holds = subst (λ (xs : List Item). Holds intake.reading xs) (sym all) h.fed.read.stands.holds;
      going = ap has_end_line all ∙ h.fed.read.going;
    }

-- ---- the settled fault, by the items

abbrev rows : Option ReadFault → Bool → Option ReadFault
rows line long = first_row (line ∷ when long faults.TooLong ∷ [])

pub settled_line : (bytes : List ℕ) (found : ReadFault) → fault_in (settled_part bytes) ≡ Some found
    → settled_fault bytes ≡ Some found
settled_line bytes found e = ap (λ line. rows line (is_too_long bytes && not (has_end_line (settled_part bytes)))) e

settled_none : (bytes : List ℕ) → IsClean (settled_part bytes)
    → (is_too_long bytes && not (has_end_line (settled_part bytes))) ≡ false → settled_fault bytes ≡ None
settled_none bytes clean short =
    ap (λ line. rows line (is_too_long bytes && not (has_end_line (settled_part bytes)))) clean ∙ ap (rows None) short

settled_long : (bytes : List ℕ) → IsClean (settled_part bytes)
    → (is_too_long bytes && not (has_end_line (settled_part bytes))) ≡ true → settled_fault bytes ≡ Some faults.TooLong
settled_long bytes clean long =
    ap (λ line. rows line (is_too_long bytes && not (has_end_line (settled_part bytes)))) clean ∙ ap (rows None) long

pub ended_none : (reading : Reading) (bytes : List ℕ) → IsEnded reading bytes → settled_fault bytes ≡ None
ended_none reading bytes h =
    settled_none bytes h.holds.clean (ap (λ b. is_too_long bytes && not b) h.ended ∙ and-false (is_too_long bytes))

part_of_short : (bytes : List ℕ) → length bytes ≤ most_file_bytes → settled_part bytes ≡ settled_so_far bytes
part_of_short bytes short = ap settled_so_far (take_all most_file_bytes bytes short)

pub going_none : (feed : Feed) (bytes : List ℕ) → IsGoing feed bytes → settled_fault bytes ≡ None
going_none feed bytes h =
    let all = paused_items feed.intake feed.begun bytes h.paused in
    let same = part_of_short bytes h.short in
    settled_none bytes (ap fault_in same ∙ all.holds.clean) (ap (λ b. b && not (has_end_line (settled_part bytes))) (le-ltb most_file_bytes (length bytes) h.short))

pub going_on : (feed : Feed) (bytes : List ℕ) → IsGoing feed bytes → has_end_line (settled_part bytes) ≡ false
going_on feed bytes h = ap has_end_line (part_of_short bytes h.short) ∙ (paused_items feed.intake feed.begun bytes h.paused).going

-- ---- the bytes that a file may have

record Fits (whole seen over : List ℕ) : Type 0 where
  parts : whole ≡ seen ++ over
  short : length seen ≤ most_file_bytes
  full : is_not_empty over ≡ true → length seen ≡ most_file_bytes

front_of : (seen over : List ℕ) → length seen ≤ most_file_bytes → (is_not_empty over ≡ true → length seen ≡ most_file_bytes)
    → take most_file_bytes (seen ++ over) ≡ seen
front_of seen [] short full = ap (take most_file_bytes) (append-nil seen) ∙ take_all most_file_bytes seen short
front_of seen (b ∷ over) short full =
    ap (λ (n : ℕ). take n (seen ++ b ∷ over)) (sym (full refl) ∙ plus_none (length seen)) ∙ take-append-add seen (b ∷ over) 0 ∙ append-nil seen
  where
    plus_none : (n : ℕ) → n ≡ n + 0
    plus_none n = omega arith

seen_part : (whole seen over : List ℕ) → Fits whole seen over → settled_part whole ≡ settled_so_far seen
seen_part whole seen over h = ap settled_so_far (ap (take most_file_bytes) h.parts ∙ front_of seen over h.short h.full)

fits : (bytes piece front over : List ℕ) (count : ℕ) → count ≡ length bytes → length bytes ≤ most_file_bytes
    → piece ≡ front ++ over → length front ≤ most_file_bytes - count
    → (is_not_empty over ≡ true → length front ≡ most_file_bytes - count) → Fits (bytes ++ piece) (bytes ++ front) over
fits bytes piece front over count e room parts few full = record {
  parts = ap (λ (xs : List ℕ). bytes ++ xs) parts ∙ sym (append_assoc bytes front over);
  short = omega (arith, length-append bytes front, e, room, few);
  full = λ some. omega (arith, length-append bytes front, e, room, full some);
}

bare_front : (whole seen over : List ℕ) → whole ≡ seen ++ over → is_bare seen ≡ false → is_bare whole ≡ false
bare_front whole seen over parts e = ap is_bare parts ∙ list_all-append ends_word seen over ∙ ap (λ b. b && is_bare over) e

is_long : (whole seen over : List ℕ) → Fits whole seen over → is_not_empty over ≡ true → is_too_long whole ≡ true
is_long whole seen [] h some = absurd (false≢true some)
is_long whole seen (b ∷ over) h some =
    lt-ltb most_file_bytes (length whole) (subst (λ (xs : List ℕ). most_file_bytes < length xs) (sym h.parts) (omega (arith, length-append seen (b ∷ over), h.full refl)))

-- ---- the stage after a piece

-- plan: by what was read and whether that was all: each case is the stage that `stage_after` names
comes_by : (all : Bool) (read : Result Bool ReadFault) (new : Feed) (whole seen over : List ℕ) → Fits whole seen over
    → all ≡ (length over == 0) → new.count ≡ length seen
    → FeedsOn seen new.intake new.begun read → ComesTo (stage_after all read) new whole
comes_by true (Ok true) new whole seen over h e count f = record {
  holds = subst (λ (xs : List Item). Holds new.intake.reading xs) (sym (seen_part whole seen over h)) f.holds;
  ended = ap has_end_line (seen_part whole seen over h) ∙ f.ended;
}
comes_by false (Ok true) new whole seen over h e count f = record {
  holds = subst (λ (xs : List Item). Holds new.intake.reading xs) (sym (seen_part whole seen over h)) f.holds;
  ended = ap has_end_line (seen_part whole seen over h) ∙ f.ended;
}
comes_by true (Ok false) new whole seen over h e count f =
    let same : whole ≡ seen = h.parts ∙ ap (λ (xs : List ℕ). seen ++ xs) (nil_from_test over (sym e)) ∙ append-nil seen in
    record {
      count = count ∙ ap length (sym same);
      short = subst (λ (xs : List ℕ). length xs ≤ most_file_bytes) (sym same) h.short;
      paused = subst (λ (xs : List ℕ). IsPaused new.intake new.begun xs) (sym same) f;
    }
comes_by false (Ok false) new whole seen over h e count f =
    let all = paused_items new.intake new.begun seen f in
    let same = seen_part whole seen over h in
    let going : has_end_line (settled_part whole) ≡ false = ap has_end_line same ∙ all.going in
    settled_long whole (ap fault_in same ∙ all.holds.clean)
    (ap (λ b. b && not (has_end_line (settled_part whole))) (is_long whole seen over h (filled_rest over (sym e))) ∙ ap not going)
comes_by true (Err (faults.Line line word found)) new whole seen over h e count f =
    settled_line whole (faults.Line line word found) (ap fault_in (seen_part whole seen over h) ∙ f)
comes_by false (Err (faults.Line line word found)) new whole seen over h e count f =
    settled_line whole (faults.Line line word found) (ap fault_in (seen_part whole seen over h) ∙ f)
comes_by true (Err (faults.End found)) new whole seen over h e count f = f
comes_by false (Err (faults.End found)) new whole seen over h e count f = f
comes_by true (Err faults.OutOfMemory) new whole seen over h e count f = bare_front whole seen over h.parts f
comes_by false (Err faults.OutOfMemory) new whole seen over h e count f = bare_front whole seen over h.parts f
comes_by true (Err faults.Device) new whole seen over h e count f = f
comes_by false (Err faults.Device) new whole seen over h e count f = f
comes_by true (Err faults.TooLong) new whole seen over h e count f = absurd f
comes_by false (Err faults.TooLong) new whole seen over h e count f = absurd f

pub comes_to : (all : Bool) (read : Result Bool ReadFault) (old new : Feed) (bytes piece front over : List ℕ) (stage : Stage)
    → stage ≡ stage_after all read → IsGoing old bytes
    → piece ≡ front ++ over → length front ≤ most_file_bytes - old.count
    → (is_not_empty over ≡ true → length front ≡ most_file_bytes - old.count) → all ≡ (length over == 0)
    → new.count ≡ old.count + length front → FeedsOn (bytes ++ front) new.intake new.begun read
    → ComesTo stage new (bytes ++ piece)
comes_to all read old new bytes piece front over stage is h parts few full e count f =
    subst (λ (s : Stage). ComesTo s new (bytes ++ piece)) (sym is)
    (comes_by all read new (bytes ++ piece) (bytes ++ front) over (fits bytes piece front over old.count h.count h.short parts few full) e
    (count ∙ ap (λ (n : ℕ). n + length front) h.count ∙ sym (length-append bytes front)) f)

-- ---- that there are such bytes

has_ended : (intake : Intake) (seen : List ℕ) → length seen ≤ most_file_bytes → HasEnded intake.reading seen
    → (bytes : List ℕ) × Holds intake.reading (settled_part bytes) × (has_end_line (settled_part bytes) ≡ true)
has_ended intake seen short f =
    (seen, subst (λ (xs : List Item). Holds intake.reading xs) (sym (part_of_short seen short)) f.holds, ap has_end_line (part_of_short seen short) ∙ f.ended)

pub goes_on : (all : Bool) (read : Result Bool ReadFault) (intake : Intake) (begun : Begun) (seen : List ℕ) (count : ℕ)
    → length seen ≤ most_file_bytes → count ≡ length seen
    → FeedsOn seen intake begun read → HasBytes (stage_after all read) intake begun count
goes_on true (Ok true) intake begun seen count short is f = has_ended intake seen short f
goes_on false (Ok true) intake begun seen count short is f = has_ended intake seen short f
goes_on true (Ok false) intake begun seen count short is f = (seen, is, short, f)
goes_on false (Ok false) intake begun seen count short is f = tt
goes_on true (Err found) intake begun seen count short is f = tt
goes_on false (Err found) intake begun seen count short is f = tt

bytes_at : (feed : Feed) (stage : Stage) → feed.stage ≡ stage → ∥ HasBytes stage feed.intake feed.begun feed.count ∥₁
bytes_at feed stage e = subst (λ (s : Stage). ∥ HasBytes s feed.intake feed.begun feed.count ∥₁) e feed.read

pub going_bytes : (feed : Feed) → feed.stage ≡ Going → ∥ ((bytes : List ℕ) × IsGoing feed bytes) ∥₁
going_bytes feed e =
    ∥∥₁_map (bytes_at feed Going e) (λ there. (there.0, record { count = there.1; short = there.2; paused = there.3 }))

pub ended_bytes : (feed : Feed) → feed.stage ≡ Ended → ∥ ((bytes : List ℕ) × IsEnded feed.intake.reading bytes) ∥₁
ended_bytes feed e = ∥∥₁_map (bytes_at feed Ended e) (λ there. (there.0, record { holds = there.1; ended = there.2 }))

-- ---- the answers

settled_more : (found : ReadFault) (bytes piece : List ℕ) → HasSettled found bytes → HasSettled found (bytes ++ piece)
settled_more (faults.Line line word found) bytes piece h = settled_kept bytes piece (faults.Line line word found) h
settled_more (faults.End found) bytes piece h = h
settled_more faults.OutOfMemory bytes piece h = h
settled_more faults.Device bytes piece h = h
settled_more faults.TooLong bytes piece h = settled_kept bytes piece faults.TooLong h

pub taken_at : (feed : Feed) (bytes : List ℕ) (stage : Stage) → feed.stage ≡ stage → HasTaken feed bytes
    → HasTakenBy stage feed bytes
taken_at feed bytes stage e h = subst (λ (s : Stage). HasTakenBy s feed bytes) e h

pub taken_from : (feed : Feed) (bytes : List ℕ) (stage : Stage) → feed.stage ≡ stage → HasTakenBy stage feed bytes
    → HasTaken feed bytes
taken_from feed bytes stage e h = subst (λ (s : Stage). HasTakenBy s feed bytes) (sym e) h

refused_answer : (found : ReadFault) (feed : Feed) (bytes : List ℕ) → HasTaken feed bytes → HasSettled found bytes
    → Feeds bytes feed (Err found)
refused_answer (faults.Line line word found) feed bytes taken h = (taken, h)
refused_answer (faults.End found) feed bytes taken h = h
refused_answer faults.OutOfMemory feed bytes taken h = absurd h
refused_answer faults.Device feed bytes taken h = h
refused_answer faults.TooLong feed bytes taken h = (taken, h)

-- a refusal stays
pub feeds_refused : (feed : Feed) (bytes piece : List ℕ) (found : ReadFault) → feed.stage ≡ Refused found → HasTaken feed bytes
    → Feeds (bytes ++ piece) feed (Err found)
feeds_refused feed bytes piece found e h =
    let settled = settled_more found bytes piece (taken_at feed bytes (Refused found) e h) in
    refused_answer found feed (bytes ++ piece) (taken_from feed (bytes ++ piece) (Refused found) e settled) settled

has_fault : (found : ReadFault) (bytes : List ℕ) → HasSettled found bytes → settled_fault bytes ≡ None → ⊥
has_fault (faults.Line line word found) bytes h none = none-some (faults.Line line word found) (sym none ∙ h)
has_fault (faults.End found) bytes h none = h
has_fault faults.OutOfMemory bytes h none = h
has_fault faults.Device bytes h none = h
has_fault faults.TooLong bytes h none = none-some faults.TooLong (sym none ∙ h)

pub not_refused : (feed : Feed) (bytes : List ℕ) (found : ReadFault) → feed.stage ≡ Refused found → HasTaken feed bytes
    → settled_fault bytes ≡ None → ⊥
not_refused feed bytes found e h none = has_fault found bytes (taken_at feed bytes (Refused found) e h) none

-- after an end line nothing is looked at
ended_more : (reading : Reading) (bytes piece : List ℕ) → IsEnded reading bytes → IsEnded reading (bytes ++ piece)
ended_more reading bytes piece h =
    let same = ended_stays bytes piece h.holds.clean h.ended in
    record { holds = subst (λ (xs : List Item). Holds reading xs) (sym same) h.holds; ended = ap has_end_line same ∙ h.ended }

pub feeds_ended : (feed : Feed) (bytes piece : List ℕ) → feed.stage ≡ Ended → HasTaken feed bytes
    → Feeds (bytes ++ piece) feed (Ok tt)
feeds_ended feed bytes piece e h =
    let more = ended_more feed.intake.reading bytes piece (taken_at feed bytes Ended e h) in
    (taken_from feed (bytes ++ piece) Ended e more, ended_none feed.intake.reading (bytes ++ piece) more)

-- a text that goes on
comes_answer : (stage : Stage) (feed : Feed) (bytes : List ℕ) → feed.stage ≡ stage → ComesTo stage feed bytes
    → Feeds bytes feed (outcome_of stage)
comes_answer Going feed bytes e h = (taken_from feed bytes Going e h, going_none feed bytes h)
comes_answer Ended feed bytes e h = (taken_from feed bytes Ended e h, ended_none feed.intake.reading bytes h)
comes_answer (Refused (faults.Line line word found)) feed bytes e h =
    (taken_from feed bytes (Refused (faults.Line line word found)) e h, h)
comes_answer (Refused (faults.End found)) feed bytes e h = h
comes_answer (Refused faults.OutOfMemory) feed bytes e h = h
comes_answer (Refused faults.Device) feed bytes e h = h
comes_answer (Refused faults.TooLong) feed bytes e h = (taken_from feed bytes (Refused faults.TooLong) e h, h)

pub feeds_going : (old new : Feed) (bytes piece : List ℕ) (result : Result (Unit {0}) ReadFault) → old.stage ≡ Going
    → result ≡ outcome_of new.stage
    → (IsGoing old bytes → ComesTo new.stage new (bytes ++ piece)) → HasTaken old bytes → Feeds (bytes ++ piece) new result
feeds_going old new bytes piece result e is comes h =
    subst (λ (r : Result (Unit {0}) ReadFault). Feeds (bytes ++ piece) new r) (sym is)
    (comes_answer new.stage new (bytes ++ piece) refl (comes (taken_at old bytes Going e h)))

pub still_going : (feed : Feed) (bytes : List ℕ) → feed.stage ≡ Going → HasTaken feed bytes
    → has_end_line (settled_part bytes) ≡ true → ⊥
still_going feed bytes e h ended = true≢false (sym ended ∙ going_on feed bytes (taken_at feed bytes Going e h))

-- ---- the end of a text that came in pieces: its last item is taken

-- ---- the last item

walked_last : (items earlier : List Item) (item : Item) → Walked items earlier (item ∷ [])
    → reverse (to_end_line items) ≡ item ∷ earlier
walked_last items earlier item h = by_case (is_end_line item) refl
  where
    by_case : (b : Bool) → is_end_line item ≡ b → reverse (to_end_line items) ≡ item ∷ earlier
    by_case true e = walked_to_end items earlier [] item h e
    by_case false e = walked_all items (item ∷ earlier) (walked_more items earlier [] item h e)

walked_whole : (intake : Intake) (bytes rest : List ℕ) (h : IsReadTo intake bytes rest)
    → Walked (items_of bytes) h.earlier (items_left false intake.inside rest)
walked_whole intake bytes rest h =
    record { parts = sym (all_items bytes) ∙ read_parts intake bytes rest h false; going = h.going }

or_none : (a b : Bool) → b ≡ false → (a || b) ≡ a
or_none true b e = refl
or_none false b e = e

-- what is left is one item
takes_last : (old new : Intake) (bytes rest : List ℕ) (item : Item) (result : Result Bool ReadFault) → IsReadTo old bytes rest
    → items_left false old.inside rest ≡ item ∷ []
    → ((earlier : List Item) → HasTakenItems old earlier → TakesNext earlier item new result) → TakesAll bytes new.reading result
takes_last old new bytes rest item (Ok ended) h next taken =
    let got = taken h.earlier h.stands in
    let walked = subst (λ (xs : List Item). Walked (items_of bytes) h.earlier xs) next (walked_whole old bytes rest h) in
    let all = walked_last (items_of bytes) h.earlier item walked in (
      subst (λ (xs : List Item). Holds new.reading xs) (sym all) got.0.holds,
      got.1 ∙ sym (ap has_end_line all ∙ or_none (is_end_line item) (has_end_line h.earlier) h.going),
    )
takes_last old new bytes rest item (Err (faults.Line line word found)) h next taken =
    let walked = subst (λ (xs : List Item). Walked (items_of bytes) h.earlier xs) next (walked_whole old bytes rest h) in
    walked_found (items_of bytes) h.earlier [] item (faults.Line line word found) walked (taken h.earlier h.stands)
takes_last old new bytes rest item (Err (faults.End found)) h next taken = taken h.earlier h.stands
takes_last old new bytes rest item (Err faults.OutOfMemory) h next taken =
    not_bare old bytes rest false item [] h next (taken h.earlier h.stands)
takes_last old new bytes rest item (Err faults.Device) h next taken = taken h.earlier h.stands
takes_last old new bytes rest item (Err faults.TooLong) h next taken = taken h.earlier h.stands

settled_at_end : (most : ℕ) (piece rest : List ℕ) → is_settled most false piece rest ≡ true
settled_at_end most piece [] = refl
settled_at_end most piece (b ∷ rest) = refl

-- what has begun is that item
pub last_token : (old new : Intake) (begun : Begun) (bytes text : List ℕ) (result : Result Bool ReadFault)
    → IsPaused old begun bytes
    → (length begun.bytes.items == 0) ≡ false → text ≡ begun.bytes.items
    → ((earlier : List Item) → HasTakenItems old earlier → TakesNext earlier (token_item begun.token text) new result)
    → TakesAll bytes new.reading result
last_token old new begun bytes text result h some same taken =
    let token = begun.token in
    let bare : List ℕ = begun.bytes.items in
    let joins = token_joins old.inside token bare (token_here old.inside token bare some h.fed.begins) in
    let front : up_to_first (ends_token token) [] ≡ [] = none_before (ends_token token) in
    let tail : from (ends_token token) [] ≡ [] = none_from (ends_token token) in
    takes_last old new bytes (bare ++ []) (token_item token bare) result h.fed.read
    (joins false [] (settled_at_end (most_bytes token) (bare ++ up_to_first (ends_token token) []) (from (ends_token token) []))
    ∙ ap (λ (xs : List ℕ). token_item token (bare ++ xs) ∷ items_left false true (from (ends_token token) [])) front
    ∙ ap (λ (xs : List ℕ). token_item token xs ∷ items_left false true (from (ends_token token) [])) (append-nil bare)
    ∙ ap (λ (xs : List ℕ). token_item token bare ∷ items_left false true xs) tail
    ∙ ap (λ (xs : List Item). token_item token bare ∷ xs) (left_none false true))
    (subst (λ (t : List ℕ). (earlier : List Item) → HasTakenItems old earlier → TakesNext earlier (token_item token t) new result) same taken)
  where
    none_before : (p : ℕ → Bool) → up_to_first p [] ≡ []
    none_before p = refl

    none_from : (p : ℕ → Bool) → from p [] ≡ []
    none_from p = refl

-- nothing has begun
pub last_none : (intake : Intake) (begun : Begun) (bytes : List ℕ) → IsPaused intake begun bytes
    → (length begun.bytes.items == 0) ≡ true
    → TakesAll bytes intake.reading (Ok false)
last_none intake begun bytes h empty =
    let none : kept begun ++ [] ≡ [] = append-nil (kept begun) ∙ nil_from_test begun.bytes.items empty in
    let left : items_left false intake.inside (kept begun ++ []) ≡ [] =
    ap (items_left false intake.inside) none ∙ left_none false intake.inside in
    let walked = subst (λ (xs : List Item). Walked (items_of bytes) h.fed.read.earlier xs) left
    (walked_whole intake bytes (kept begun ++ []) h.fed.read) in
    let all = walked_all (items_of bytes) h.fed.read.earlier walked in
    (subst (λ (xs : List Item). Holds intake.reading xs) (sym all) h.fed.read.stands.holds, sym (ap has_end_line all ∙ h.fed.read.going))

-- ---- the answer for the whole text

whole_by : (bytes : List ℕ) (reading : Reading) (result : Result Fields ReadFault) → Holds reading (part bytes)
    → (is_too_long bytes && not (has_end_line (part bytes))) ≡ false
    → ((earlier : List Item) → Holds reading earlier → AreCut earlier → Completes earlier result) → Reads bytes result
whole_by bytes reading (Ok file) h short finish =
    let got = finish (part bytes) h (part_cut bytes) in
    record { no_fault = end_fault_is bytes None got.0 short got.1; fields = got.2 }
whole_by bytes reading (Err (faults.Line line word found)) h short finish = absurd (finish (part bytes) h (part_cut bytes))
whole_by bytes reading (Err (faults.End found)) h short finish =
    let got = finish (part bytes) h (part_cut bytes) in
    end_fault_is bytes (Some found) got.0 short got.1
whole_by bytes reading (Err faults.OutOfMemory) h short finish = tt
whole_by bytes reading (Err faults.Device) h short finish = finish (part bytes) h (part_cut bytes)
whole_by bytes reading (Err faults.TooLong) h short finish = absurd (finish (part bytes) h (part_cut bytes))

pub whole_answer : (bytes : List ℕ) (reading : Reading) (result : Result Fields ReadFault) → SpellsWhole reading bytes
    → ((earlier : List Item) → Holds reading earlier → AreCut earlier → Completes earlier result) → Reads bytes result
whole_answer bytes reading result h finish = whole_by bytes reading result h.holds h.short finish

-- blanks and line ends open no section
ends_close : (items : List Item) → list_all is_line_end items ≡ true → open_section items ≡ None
ends_close [] all = refl
ends_close (Line key line ∷ items) all = absurd (false≢true all)
ends_close (NumberWord word ∷ items) all = absurd (false≢true all)
ends_close (LineEnd ∷ items) all = ends_close items all

and_true : (b : Bool) → (b && true) ≡ b
and_true true = refl
and_true false = refl

ends_turned : (items : List Item) → list_all is_line_end items ≡ true → list_all is_line_end (reverse items) ≡ true
ends_turned [] all = refl
ends_turned (item ∷ items) all =
    let both = and_parts (is_line_end item) (list_all is_line_end items) all in
    ap (list_all is_line_end) (reverse-append (item ∷ []) items) ∙ list_all-append is_line_end (reverse items) (item ∷ [])
    ∙ ap (λ b. b && (is_line_end item && true)) (ends_turned items both.1) ∙ and_true (is_line_end item) ∙ both.0

ends_front : (items : List Item) → list_all is_line_end items ≡ true → list_all is_line_end (to_end_line items) ≡ true
ends_front [] all = refl
ends_front (Line key line ∷ items) all = absurd (false≢true all)
ends_front (NumberWord word ∷ items) all = absurd (false≢true all)
ends_front (LineEnd ∷ items) all = ends_front items all

bare_part : (bytes : List ℕ) (goes_on : Bool) → is_bare bytes ≡ true
    → open_section (reverse (to_end_line (items_left goes_on false bytes))) ≡ None
bare_part bytes goes_on bare =
    let items = items_left goes_on false bytes in
    ends_close (reverse (to_end_line items)) (ends_turned (to_end_line items) (ends_front items (bare_ends goes_on false bytes bare)))

bare_take : (n : ℕ) (bytes : List ℕ) → is_bare bytes ≡ true → is_bare (take n bytes) ≡ true
bare_take n bytes bare =
    let parts : is_bare (take n bytes ++ drop n bytes) ≡ true = ap is_bare (take-append-drop n bytes) ∙ bare in
    (and_parts (is_bare (take n bytes)) (is_bare (drop n bytes)) (sym (list_all-append ends_word (take n bytes) (drop n bytes)) ∙ parts)).0

part_closed : (bytes : List ℕ) (long : Bool) → is_too_long bytes ≡ long → is_bare bytes ≡ true → open_section (part bytes) ≡ None
part_closed bytes true e bare =
    ap open_section (part_long bytes e ∙ ap (λ (xs : List Item). reverse (to_end_line xs)) (sym (all_settled (take most_file_bytes bytes))))
    ∙ bare_part (take most_file_bytes bytes) true (bare_take most_file_bytes bytes bare)
part_closed bytes false e bare =
    ap open_section (part_short bytes e ∙ ap (λ (xs : List Item). reverse (to_end_line xs)) (sym (all_items bytes))) ∙ bare_part bytes false bare

stands_open : (opened : Option OpenSection) (items : List Item) → OpenHolds opened items → is_some opened ≡ true
    → open_section items ≡ None → ⊥
stands_open None items h some none = false≢true some
stands_open (Some p) items h some none = none-some p.field (sym none ∙ h.0)

-- if a section was open, there was more than blanks and line ends
pub open_not_bare : (bytes : List ℕ) (reading : Reading) → SpellsWhole reading bytes → is_some reading.opened ≡ true
    → is_bare bytes ≡ false
open_not_bare bytes reading h some = by_case (is_bare bytes) refl
  where
    by_case : (b : Bool) → is_bare bytes ≡ b → is_bare bytes ≡ false
    by_case true e = absurd (stands_open reading.opened (part bytes) h.holds.part some (part_closed bytes (is_too_long bytes) refl e))
    by_case false e = e

-- ---- what a feed returns at the end

pub ended_whole : (feed : Feed) (bytes : List ℕ) → feed.stage ≡ Ended → HasTaken feed bytes
    → SpellsWhole feed.intake.reading bytes
ended_whole feed bytes e taken =
    let h : IsEnded feed.intake.reading bytes = taken_at feed bytes Ended e taken in
    let same : part bytes ≡ settled_part bytes = ap part (sym (append-nil bytes)) ∙ part_kept bytes [] h.holds.clean h.ended in
    record {
      holds = subst (λ (xs : List Item). Holds feed.intake.reading xs) (sym same) h.holds;
      short = ap (λ b. is_too_long bytes && not b) (ap has_end_line same ∙ h.ended) ∙ and-false (is_too_long bytes);
    }

short_text : (feed : Feed) (bytes : List ℕ) → IsGoing feed bytes → is_too_long bytes ≡ false
short_text feed bytes h = le-ltb most_file_bytes (length bytes) h.short

pub taken_whole : (feed : Feed) (bytes : List ℕ) (reading : Reading) (ended : Bool) → feed.stage ≡ Going → HasTaken feed bytes
    → (IsPaused feed.intake feed.begun bytes → TakesAll bytes reading (Ok ended)) → SpellsWhole reading bytes
taken_whole feed bytes reading ended e taken last =
    let h : IsGoing feed bytes = taken_at feed bytes Going e taken in
    let short = short_text feed bytes h in
    record {
      holds = subst (λ (xs : List Item). Holds reading xs) (sym (part_short bytes short)) (last h.paused).0;
      short = ap (λ b. b && not (has_end_line (part bytes))) short;
    }

last_fault : (bytes : List ℕ) (reading : Reading) (found : ReadFault) → is_too_long bytes ≡ false
    → TakesAll bytes reading (Err found) → Reads bytes (Err found)
last_fault bytes reading (faults.Line line word found) short h =
    line_fault bytes (faults.Line line word found) (ap fault_in (part_short bytes short) ∙ h)
last_fault bytes reading (faults.End found) short h = absurd h
last_fault bytes reading faults.OutOfMemory short h = tt
last_fault bytes reading faults.Device short h = h
last_fault bytes reading faults.TooLong short h = absurd h

pub taken_fault : (feed : Feed) (bytes : List ℕ) (reading : Reading) (found : ReadFault) → feed.stage ≡ Going
    → HasTaken feed bytes
    → (IsPaused feed.intake feed.begun bytes → TakesAll bytes reading (Err found)) → EndsReading bytes (Err found)
taken_fault feed bytes reading found e taken last =
    let h : IsGoing feed bytes = taken_at feed bytes Going e taken in
    (last_fault bytes reading found (short_text feed bytes h) (last h.paused), λ same. subst (λ (f : ReadFault). TakesAll bytes reading (Err f)) same (last h.paused))

pub settled_reads : (found : ReadFault) (bytes : List ℕ) → HasSettled found bytes → Reads bytes (Err found)
settled_reads (faults.Line line word found) bytes h =
    ap fault (sym (append-nil bytes)) ∙ fault_kept bytes [] (faults.Line line word found) h
settled_reads (faults.End found) bytes h = absurd h
settled_reads faults.OutOfMemory bytes h = tt
settled_reads faults.Device bytes h = h
settled_reads faults.TooLong bytes h = ap fault (sym (append-nil bytes)) ∙ fault_kept bytes [] faults.TooLong h

pub refused_fault : (feed : Feed) (bytes : List ℕ) (found : ReadFault) → feed.stage ≡ Refused found → HasTaken feed bytes
    → EndsReading bytes (Err found)
refused_fault feed bytes found e taken =
    let h = taken_at feed bytes (Refused found) e taken in
    (settled_reads found bytes h, λ same. absurd (subst (λ (f : ReadFault). HasSettled f bytes) same h))

-- ---- that a reading comes from a text

whole_read : (bytes : List ℕ) (reading : Reading) → SpellsWhole reading bytes
    → (earlier : List Item) × Holds reading earlier × AreCut earlier
whole_read bytes reading h = (part bytes, h.holds, part_cut bytes)

pub going_read : (feed : Feed) (reading : Reading) (ended : Bool) → feed.stage ≡ Going
    → ((bytes : List ℕ) → IsPaused feed.intake feed.begun bytes → TakesAll bytes reading (Ok ended)) → IsReadFrom reading
going_read feed reading ended e last =
    ∥∥₁_map (going_bytes feed e) (λ there. whole_read there.0 reading (taken_whole feed there.0 reading ended e (taken_from feed there.0 Going e there.1) (last there.0)))

pub ended_read : (feed : Feed) → feed.stage ≡ Ended → IsReadFrom feed.intake.reading
ended_read feed e =
    ∥∥₁_map (ended_bytes feed e) (λ there. whole_read there.0 feed.intake.reading (ended_whole feed there.0 e (taken_from feed there.0 Ended e there.1)))
