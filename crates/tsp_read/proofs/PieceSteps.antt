-- Pieces asked of a reader: each is needed, and together they give the file or the fault, for src/api.rt. tsp_judge and
-- tsp_solution import it, too.
use Rattle.tsp_read.proofs.Prelude.{◌≡◌, ℕ, ◌+◌, ◌-◌, ◌≤◌, ◌<◌, Bool, true, false, List, [], ◌∷◌, ◌++◌, length, take, drop, take-append-drop, refl, sym, ap, subst, ◌∙◌, arith, Option, Some, None, Ok, Err, append-nil, length-append, ◌||◌, suc, Result, inl, inr, true≢false, false≢true, or_parts, take-append-le, none-some, ◌⊎◌, IfSome, not, ◌&&◌, is_err, watched, has_failed, most_file_bytes, Fields, fault_kept, settled_kept, ended_stays, part_kept, ended_kept, when, first_row, has_end_line, fault_in, IsClean, is_too_long, settled_part, settled_fault, fault, spelled, part, ParsesTo, ReadFault}
use Rattle.std.proofs.KnownBytes.{Consumes-nil, Consumes-trans, Consumes-kept}
use Rattle.std.specs.Io.KnownBytes.{Consumes, Keeps, IsAtEnd}
use Rattle.std.specs.declared.io.Error.{Error}
use Rattle.tsp_io.specs.Streams.{ReadTrace, Gave, IsSound, GaveAll, TakesAtMost}
use Rattle.tsp_io.specs.declared.watched.Watched.{Watched}
use Rattle.tsp_text.specs.declared.fault.ReadFault.TheVariants as faults
use Rattle.tsp_read.proofs.FeedSteps.{taken_at, going_on, not_refused, settled_reads}
use Rattle.tsp_read.specs.Reads.{most_taken, StopsAt, IsGoing, HasTaken, Feeds, IsTimely, HasCause, may_go_on, IsFedFrom, HasReads, IsReadOn, Reads, ReadsFrom, IsEnded, ReadsInTime}
use Rattle.tsp_read.specs.declared.feed.Feed.{Feed}
use Rattle.tsp_read.specs.declared.feed.Stage.{Stage}
use Rattle.tsp_read.specs.declared.feed.Stage.TheVariants.{Going, Ended, Refused}
use Rattle.tsp_read.specs.states.Onward.{is_bare}

-- the gathered bytes: these were read and fed, without a settled fault
pub record Gathered (known left : Option (List ℕ)) (feed : Feed) (taken : ℕ) : Type 0 where
  pub given : List ℕ
  pub gave : Consumes known left given
  pub held : HasTaken feed given
  pub no_fault : settled_fault given ≡ None
  pub counted : length given ≡ taken
  pub timely : IsTimely given

-- ---- the bytes before the last piece

-- neither a fault nor an end line of a prefix of bytes that have none
front_clean : (front more : List ℕ) → settled_fault (front ++ more) ≡ None → settled_fault front ≡ None
front_clean front more none = by_fault (settled_fault front) refl
  where
    by_fault : (o : Option ReadFault) → settled_fault front ≡ o → settled_fault front ≡ None
    by_fault None e = e
    by_fault (Some found) e = absurd (none-some found (sym none ∙ settled_kept front more found e))

first_none : (o : Option ReadFault) (rest : List (Option ReadFault)) → first_row (o ∷ rest) ≡ None → o ≡ None
first_none None rest e = refl
first_none (Some found) rest e = absurd (none-some found (sym e))

clean_of : (bytes : List ℕ) → settled_fault bytes ≡ None → IsClean (settled_part bytes)
clean_of bytes none =
    first_none (fault_in (settled_part bytes)) (when (is_too_long bytes && not (has_end_line (settled_part bytes))) faults.TooLong ∷ []) none

front_going : (front more : List ℕ) → settled_fault (front ++ more) ≡ None → has_end_line (settled_part (front ++ more)) ≡ false
    → has_end_line (settled_part front) ≡ false
front_going front more none going = by_case (has_end_line (settled_part front)) refl
  where
    by_case : (b : Bool) → has_end_line (settled_part front) ≡ b → has_end_line (settled_part front) ≡ false
    by_case false e = e
    by_case true e =
        let same = ended_stays front more (clean_of front (front_clean front more none)) e in
        absurd (true≢false (sym e ∙ sym (ap has_end_line same) ∙ going))

timely_front : (given whole : List ℕ) (k : ℕ) → take k whole ≡ take k given → settled_fault given ≡ None
    → has_end_line (settled_part given) ≡ false
    → (settled_fault (take k whole) ≡ None) × (has_end_line (settled_part (take k whole)) ≡ false)
timely_front given whole k e none going =
    let parts : take k given ++ drop k given ≡ given = take-append-drop k given in (
      ap settled_fault e ∙ front_clean (take k given) (drop k given) (ap settled_fault parts ∙ none),
      ap (λ (xs : List ℕ). has_end_line (settled_part xs)) e
          ∙ front_going (take k given) (drop k given) (ap settled_fault parts ∙ none) (ap (λ (xs : List ℕ). has_end_line (settled_part xs)) parts ∙ going),
    )

timely_more : (given piece : List ℕ) → settled_fault given ≡ None → has_end_line (settled_part given) ≡ false
    → length piece ≤ 4096 → IsTimely (given ++ piece)
timely_more given piece none going few =
    let k = length (given ++ piece) - 4096 in
    let low : k ≤ length given = omega (arith, length-append given piece, few) in
    let both = timely_front given (given ++ piece) k (take-append-le k given piece low) none going in
    record { no_fault = both.0; no_end = both.1 }

pub timely_start : IsTimely []
timely_start = record { no_fault = refl; no_end = refl }

pub gathered_start : (known : Option (List ℕ)) (feed : Feed) → HasTaken feed [] → Gathered known known feed 0
gathered_start known feed held =
    record { given = []; gave = Consumes-nil known; held = held; no_fault = refl; counted = refl; timely = timely_start }

-- ---- a piece more

going_bytes : (feed : Feed) (bytes : List ℕ) (stage : Stage) → feed.stage ≡ stage → may_go_on stage ≡ true → HasTaken feed bytes
    → IsGoing feed bytes
going_bytes feed bytes Going e going h = taken_at feed bytes Going e h
going_bytes feed bytes Ended e going h = absurd (false≢true going)
going_bytes feed bytes (Refused found) e going h = absurd (false≢true going)

pub timely_next : (known left : Option (List ℕ)) (feed : Feed) (taken : ℕ) (piece : List ℕ) (g : Gathered known left feed taken)
    → may_go_on feed.stage ≡ true → length piece ≤ 4096
    → IsTimely (g.given ++ piece)
timely_next known left feed taken piece g going few =
    timely_more g.given piece g.no_fault (going_on feed g.given (going_bytes feed g.given feed.stage refl going g.held)) few

pub gathered_more : (known left next : Option (List ℕ)) (old new : Feed) (taken count : ℕ) (piece : List ℕ)
    → Gathered known left old taken → may_go_on old.stage ≡ true → length piece ≤ 4096
    → Consumes left next piece → length piece ≡ count
    → ((bytes : List ℕ) → HasTaken old bytes → Feeds (bytes ++ piece) new (Ok tt)) → Gathered known next new (taken + count)
gathered_more known left next old new taken count piece g going few gave size feeds =
    let fed = feeds g.given g.held in
    record {
      given = g.given ++ piece;
      gave = Consumes-trans known left next g.given piece g.gave gave;
      held = fed.0;
      no_fault = fed.1;
      counted = length-append g.given piece ∙ ap (λ (n : ℕ). n + length piece) g.counted ∙ ap (λ (n : ℕ). taken + n) size;
      timely = timely_next known left old taken piece g going few;
    }

-- ---- a fault of a piece

rest_fault : (known left : Option (List ℕ)) (given : List ℕ) (found : ReadFault) → Consumes known left given
    → settled_fault given ≡ Some found
    → IfSome known (λ bytes. fault bytes ≡ Some found)
rest_fault None left given found gave e = tt
rest_fault (Some rest) None given found gave e = absurd gave
rest_fault (Some rest) (Some more) given found gave e = ap fault gave ∙ fault_kept given more found e

whole_fault : (read_trace : ReadTrace) (found : ReadFault) → Gave read_trace → IsSound read_trace → settled_fault read_trace.given ≡ Some found
    → GaveAll read_trace (λ bytes. fault bytes ≡ Some found)
whole_fault read_trace found gave sound e =
    (gave, sound, ap fault (sym (append-nil read_trace.given)) ∙ fault_kept read_trace.given [] found e, rest_fault read_trace.known read_trace.left read_trace.given found gave e)

stops_by : (read_trace : ReadTrace) (feed : Feed) (found : ReadFault) → Gave read_trace → IsSound read_trace → Feeds read_trace.given feed (Err found)
    → StopsAt found read_trace
stops_by read_trace feed (faults.Line line word found) gave sound h = whole_fault read_trace (faults.Line line word found) gave sound h.1
stops_by read_trace feed (faults.End found) gave sound h = absurd h
stops_by read_trace feed faults.OutOfMemory gave sound h = (gave, sound)
stops_by read_trace feed faults.Device gave sound h = absurd h
stops_by read_trace feed faults.TooLong gave sound h = whole_fault read_trace faults.TooLong gave sound h.1

memory_caused : (bytes : List ℕ) (feed : Feed) (found : ReadFault) → found ≡ faults.OutOfMemory → Feeds bytes feed (Err found)
    → is_bare bytes ≡ false
memory_caused bytes feed found wants h = subst (λ (f : ReadFault). Feeds bytes feed (Err f)) wants h

pub piece_stops : (read_trace : List ℕ → ReadTrace) (known left next : Option (List ℕ)) (old new : Feed) (taken : ℕ) (piece : List ℕ) (found : ReadFault)
    → ((given : List ℕ) → (read_trace given).given ≡ given)
    → ((given : List ℕ) → Consumes known next given → Gave (read_trace given)) → ((given : List ℕ) → IsSound (read_trace given))
    → taken ≤ most_file_bytes → Gathered known left old taken → may_go_on old.stage ≡ true → length piece ≤ 4096
    → Consumes left next piece → ((bytes : List ℕ) → HasTaken old bytes → Feeds (bytes ++ piece) new (Err found))
    → TakesAtMost most_taken read_trace (λ whole. StopsAt found whole × IsTimely whole.given × HasCause found whole.given)
piece_stops read_trace known left next old new taken piece found same gives sound room g going few gave feeds =
    let given = g.given ++ piece in (
      given,
      omega (arith, length-append g.given piece, g.counted, room, few),
      (
        stops_by (read_trace given) new found (gives given (Consumes-trans known left next g.given piece g.gave gave)) (sound given)
            (subst (λ (xs : List ℕ). Feeds xs new (Err found)) (sym (same given)) (feeds g.given g.held)),
        subst IsTimely (sym (same given)) (timely_next known left old taken piece g going few),
        λ wants. memory_caused (read_trace given).given new found wants (subst (λ (xs : List ℕ). Feeds xs new (Err found)) (sym (same given)) (feeds g.given g.held)),
      ),
    )

-- ---- the end

past_limit : (feed : Feed) (bytes : List ℕ) (stage : Stage) → feed.stage ≡ stage → HasTaken feed bytes
    → most_file_bytes < length bytes → may_go_on stage ≡ false
past_limit feed bytes Going e h long = let g : IsGoing feed bytes = taken_at feed bytes Going e h in absurd (omega (arith, g.short, long))
past_limit feed bytes Ended e h long = refl
past_limit feed bytes (Refused found) e h long = refl

pub not_going : (known left : Option (List ℕ)) (feed : Feed) (taken : ℕ) → Gathered known left feed taken
    → most_file_bytes < taken → may_go_on feed.stage ≡ false
not_going known left feed taken g long =
    past_limit feed g.given feed.stage refl g.held (subst (λ (n : ℕ). most_file_bytes < n) (sym g.counted) long)

pub fed_from : (read_trace : List ℕ → ReadTrace) (known left : Option (List ℕ)) (feed : Feed) (taken : ℕ)
    → ((given : List ℕ) → (read_trace given).given ≡ given)
    → ((given : List ℕ) → Consumes known left given → Gave (read_trace given)) → ((given : List ℕ) → IsSound (read_trace given))
    → taken ≤ most_taken → Gathered known left feed taken
    → ((given : List ℕ) → IsAtEnd (read_trace given).left ⊎ (may_go_on feed.stage ≡ false))
    → TakesAtMost most_taken read_trace (λ whole. IsFedFrom whole feed)
fed_from read_trace known left feed taken same gives sound room g over =
    let e = same g.given in (
      g.given,
      omega (arith, g.counted, room),
      record {
        gave = gives g.given g.gave;
        sound = sound g.given;
        held = subst (λ (xs : List ℕ). HasTaken feed xs) (sym e) g.held;
        no_fault = ap settled_fault e ∙ g.no_fault;
        timely = subst IsTimely (sym e) g.timely;
        over = over g.given;
      },
    )

-- nothing more was given
pub gathered_none : (known left next : Option (List ℕ)) (feed : Feed) (taken : ℕ) → Gathered known left feed taken
    → Consumes left next [] → Gathered known next feed taken
gathered_none known left next feed taken g gave = record {
  given = g.given;
  gave = subst (λ (xs : List ℕ). Consumes known next xs) (append-nil g.given) (Consumes-trans known left next g.given [] g.gave gave);
  held = g.held;
  no_fault = g.no_fault;
  counted = g.counted;
  timely = g.timely;
}

pub gathered_kept : (known left next : Option (List ℕ)) (feed : Feed) (taken : ℕ) → Gathered known left feed taken
    → Keeps left next → Gathered known next feed taken
gathered_kept known left next feed taken g kept = record {
  given = g.given;
  gave = Consumes-kept known left next g.given g.gave kept;
  held = g.held;
  no_fault = g.no_fault;
  counted = g.counted;
  timely = g.timely;
}

-- ---- reads of a reader that remembers its failure, one after the other: none, and one more

or_false : (b : Bool) → b ≡ (b || false)
or_false true = refl
or_false false = refl

-- without a read nothing changes
pub read_none : {R : Type 0} (gives : R → List ℕ → Result ℕ Error → List ℕ → R → Type 0) (reader : Watched R) → IsReadOn gives reader reader
read_none gives reader = (0, false, (refl, refl), or_false (has_failed reader))

-- one more read of a reader that hasn't failed
pub read_more : {R : Type 0} (gives : R → List ℕ → Result ℕ Error → List ℕ → R → Type 0) (old between new : Watched R)
    (room filled : List ℕ) (answer : Result ℕ Error) → IsReadOn gives old between → has_failed between ≡ false
    → gives (watched between) room answer filled (watched new) → has_failed new ≡ (has_failed between || is_err answer)
    → IsReadOn gives old new
read_more gives old between new room filled answer on sound given failed =
    let both = or_parts (has_failed old) on.1 (sym on.3 ∙ sound) in (
      suc on.0,
      is_err answer,
      (
        watched between,
        subst (λ (b : Bool). HasReads gives on.0 (watched old) (watched between) b) both.1 on.2,
        (room, filled, answer, given, refl),
      ),
      failed ∙ ap (λ b. b || is_err answer) (sound ∙ sym both.0),
    )

-- ---- the answer of a reader that was read in pieces is that of its bytes

-- ---- the whole rest of a reader is read as what it gave

record AreAlike (rest given : List ℕ) : Type 0 where
  same_fault : fault rest ≡ fault given
  same_part : part rest ≡ part given

ended_alike : (feed : Feed) (given more : List ℕ) → IsEnded feed.intake.reading given → AreAlike (given ++ more) given
ended_alike feed given more h = record {
  same_fault = ended_kept given more h.holds.clean h.ended;
  same_part = part_kept given more h.holds.clean h.ended ∙ sym (ap part (sym (append-nil given)) ∙ part_kept given [] h.holds.clean h.ended);
}

over_alike : (feed : Feed) (given more : List ℕ) (stage : Stage) → feed.stage ≡ stage → may_go_on stage ≡ false
    → HasTaken feed given → settled_fault given ≡ None → AreAlike (given ++ more) given
over_alike feed given more Going e over h none = absurd (true≢false over)
over_alike feed given more Ended e over h none = ended_alike feed given more (taken_at feed given Ended e h)
over_alike feed given more (Refused found) e over h none = absurd (not_refused feed given found e h none)

alike_by : (feed : Feed) (given more : List ℕ) → HasTaken feed given → settled_fault given ≡ None
    → (more ≡ []) ⊎ (may_go_on feed.stage ≡ false) → AreAlike (given ++ more) given
alike_by feed given more h none (inl ended) =
    let same : given ++ more ≡ given = ap (λ (xs : List ℕ). given ++ xs) ended ∙ append-nil given in
    record { same_fault = ap fault same; same_part = ap part same }
alike_by feed given more h none (inr over) = over_alike feed given more feed.stage refl over h none

whole_alike : (P : List ℕ → Type 0) → ((rest given : List ℕ) → AreAlike rest given → P given → P rest)
    → (known left : Option (List ℕ)) (given : List ℕ) (feed : Feed) → Consumes known left given
    → HasTaken feed given → settled_fault given ≡ None → IsAtEnd left ⊎ (may_go_on feed.stage ≡ false) → P given → IfSome known P
whole_alike P back None left given feed gave h none over p = tt
whole_alike P back (Some rest) None given feed gave h none over p = absurd gave
whole_alike P back (Some rest) (Some more) given feed gave h none over p =
    subst P (sym gave) (back (given ++ more) given (alike_by feed given more h none over) p)

gave_alike : (P : List ℕ → Type 0) → ((rest given : List ℕ) → AreAlike rest given → P given → P rest)
    → (read_trace : ReadTrace) (feed : Feed) → IsFedFrom read_trace feed → P read_trace.given → GaveAll read_trace P
gave_alike P back read_trace feed f p =
    (f.gave, f.sound, p, whole_alike P back read_trace.known read_trace.left read_trace.given feed f.gave f.held f.no_fault f.over p)

fault_back : (found : ReadFault) (rest given : List ℕ) → AreAlike rest given → fault given ≡ Some found → fault rest ≡ Some found
fault_back found rest given h e = h.same_fault ∙ e

spells_back : (file : Fields) (rest given : List ℕ) → AreAlike rest given → ParsesTo given file → ParsesTo rest file
spells_back file rest given h s =
    record { no_fault = h.same_fault ∙ s.no_fault; fields = s.fields ∙ ap spelled (sym h.same_part) }

-- ---- the answer

stops_in_time_by : (read_trace : ReadTrace) (feed : Feed) (found : ReadFault) → IsFedFrom read_trace feed → Reads read_trace.given (Err found)
    → StopsAt found read_trace
stops_in_time_by read_trace feed (faults.Line line word found) f h =
    gave_alike (λ bytes. fault bytes ≡ Some (faults.Line line word found)) (fault_back (faults.Line line word found)) read_trace feed f h
stops_in_time_by read_trace feed (faults.End found) f h =
    gave_alike (λ bytes. fault bytes ≡ Some (faults.End found)) (fault_back (faults.End found)) read_trace feed f h
stops_in_time_by read_trace feed faults.OutOfMemory f h = (f.gave, f.sound)
stops_in_time_by read_trace feed faults.Device f h = absurd h
stops_in_time_by read_trace feed faults.TooLong f h =
    gave_alike (λ bytes. fault bytes ≡ Some faults.TooLong) (fault_back faults.TooLong) read_trace feed f h

pub in_time : (read_trace : List ℕ → ReadTrace) (feed : Feed) (result : Result Fields ReadFault)
    → TakesAtMost most_taken read_trace (λ whole. IsFedFrom whole feed)
    → ((bytes : List ℕ) → HasTaken feed bytes → Reads bytes result)
    → ((bytes : List ℕ) → HasTaken feed bytes → result ≡ Err faults.OutOfMemory → is_bare bytes ≡ false) → ReadsInTime read_trace result
in_time read_trace feed (Ok file) (given, few, f) reads memory =
    (given, few, (gave_alike (λ bytes. ParsesTo bytes file) (spells_back file) (read_trace given) feed f (reads (read_trace given).given f.held), f.timely))
in_time read_trace feed (Err found) (given, few, f) reads memory =
    (given, few, (stops_in_time_by (read_trace given) feed found f (reads (read_trace given).given f.held), f.timely, λ wants. memory (read_trace given).given f.held (ap (λ f. Err f) wants)))

-- the answer, without when the reading stopped
pub answer_of : (read_trace : List ℕ → ReadTrace) (result : Result Fields ReadFault) → ReadsInTime read_trace result → ReadsFrom read_trace result
answer_of read_trace (Ok file) (given, few, h) = (given, few, h.0)
answer_of read_trace (Err found) (given, few, h) = (given, few, h.0)

-- ---- a text

pub bytes_fault : (bytes : List ℕ) (feed : Feed) (found : ReadFault) → Feeds bytes feed (Err found) → Reads bytes (Err found)
bytes_fault bytes feed (faults.Line line word found) h = settled_reads (faults.Line line word found) bytes h.1
bytes_fault bytes feed (faults.End found) h = absurd h
bytes_fault bytes feed faults.OutOfMemory h = tt
bytes_fault bytes feed faults.Device h = h
bytes_fault bytes feed faults.TooLong h = settled_reads faults.TooLong bytes h.1

pub bytes_memory : (bytes : List ℕ) (feed : Feed) (found : ReadFault) (result : Result Fields ReadFault) → result ≡ Err found
    → Feeds bytes feed (Err found)
    → result ≡ Err faults.OutOfMemory → is_bare bytes ≡ false
bytes_memory bytes feed (faults.Line line word found) result is h wants = absurd cc
bytes_memory bytes feed (faults.End found) result is h wants = absurd h
bytes_memory bytes feed faults.OutOfMemory result is h wants = h
bytes_memory bytes feed faults.Device result is h wants = absurd h
bytes_memory bytes feed faults.TooLong result is h wants = absurd cc
