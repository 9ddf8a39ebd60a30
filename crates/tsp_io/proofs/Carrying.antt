-- How a text gets to a writer in parts (`Puts`, src/piece.rt): parts add up, a failed writer gets nothing more, and
-- after the last part the whole text was taken or a prefix of it. Each writer of lines in higher crates is proved by
-- these. tsp_file and tsp_report import it, too.
use Rattle.std.proofs.Common.{◌≡◌, ℕ, ◌+◌, Bool, true, false, List, [], ◌∷◌, ◌++◌, length, take, drop, Option, refl, sym, ap, subst, ◌∙◌, append_assoc, append-nil, arith, ◌<◌, ◌≤◌, get_or, map, ◌==◌}
use Rattle.std.proofs.KnownBytes.{Appends-nil, Appends-trans, Appends-kept}
use Rattle.std.proofs.Math.Seq.{take-append_seam}
use Rattle.std.proofs.lemmas.Bool.Decides.{nat_tests}
use Rattle.std.proofs.lemmas.Grind.{flat_map-append}
use Rattle.std.proofs.lemmas.List.{take-append-drop, take_all, take_more, get_or_default}
use Rattle.std.proofs.lemmas.List.FromFn.{length-enumerate_from, get_or-enumerate_from}
use Rattle.std.specs.Io.KnownBytes.{Appends}
use Rattle.std.specs.List.{flat_map, enumerate_from}
use Rattle.tsp_io.specs.Streams.{HasWritten, HasStopped, Sink}
use Rattle.tsp_io.specs.states.Output.{Way, Carries, Carried}

-- the sink between two states
abbrev pub between : Way → Way → Sink
between old new = record { held = old.held; holds = new.held; had_failed = old.failed; failed = new.failed }

-- nothing added
pub carried_none : (a : Way) → Carried a a []
carried_none a start text h =
    record { front = h.front; rest = h.rest; parts = h.parts ∙ sym (append-nil text); written = h.written; waits = h.waits }

-- one part, then the next
pub carried_then : (a b c : Way) (x y : List ℕ) → Carried a b x → Carried b c y → Carried a c (x ++ y)
carried_then a b c x y h k start text before =
    subst (λ t. Carries start c t) (append_assoc text x y) (k start (text ++ x) (h start text before))

-- a writer that has failed gets nothing more of any text
pub carried_failed : (a : Way) (bytes : List ℕ) → a.failed ≡ true → Carried a a bytes
carried_failed a bytes failed start text h = record {
  front = h.front;
  rest = h.rest ++ bytes;
  parts = sym (append_assoc h.front h.rest bytes) ∙ ap (λ t. t ++ bytes) h.parts;
  written = h.written;
  waits = λ sound. absurd (cc);
}

-- the piece grows
pub carried_waits : (a b : Way) (bytes : List ℕ) → b.held ≡ a.held → b.failed ≡ a.failed → b.piece ≡ a.piece ++ bytes
    → Carried a b bytes
carried_waits a b bytes held failed piece start text h = record {
  front = h.front;
  rest = h.rest ++ bytes;
  parts = sym (append_assoc h.front h.rest bytes) ∙ ap (λ t. t ++ bytes) h.parts;
  written = subst (λ (w : Option (List ℕ)). Appends start w h.front) (sym held) h.written;
  waits = λ sound. ap (λ t. t ++ bytes) (h.waits (sym failed ∙ sound)) ∙ sym piece;
}

-- The piece, and the bytes added to it, are sent to the writer.
-- plan: by whether the writer had failed and has (`by_failed`): all was written, or a prefix, or nothing more
pub carried_sent : (a b : Way) (bytes added : List ℕ) → (b.failed ≡ true → HasStopped (between a b) bytes)
    → (b.failed ≡ false → HasWritten (between a b) bytes)
    → a.piece ++ added ≡ bytes → b.piece ≡ [] → Carried a b added
carried_sent a b bytes added stopped written whole empty start text h = by_failed b.failed a.failed refl refl
  where
    parts : h.front ++ (h.rest ++ added) ≡ text ++ added
    parts = sym (append_assoc h.front h.rest added) ∙ ap (λ t. t ++ added) h.parts

    sent : a.failed ≡ false → h.front ++ bytes ≡ text ++ added
    sent sound = ap (λ t. h.front ++ t) (sym whole ∙ ap (λ t. t ++ added) (sym (h.waits sound))) ∙ parts

    by_failed : (after before : Bool) → b.failed ≡ after → a.failed ≡ before → Carries start b (text ++ added)
    by_failed true true e d = record {
      front = h.front;
      rest = h.rest ++ added;
      parts = parts;
      written = Appends-kept start a.held b.held h.front h.written ((stopped e).1 d);
      waits = λ sound. absurd (cc);
    }
    by_failed true false e d =
        let count = (stopped e).2.0 in record {
          front = h.front ++ take count bytes;
          rest = drop count bytes;
          parts = append_assoc h.front (take count bytes) (drop count bytes) ∙ ap (λ t. h.front ++ t) (take-append-drop count bytes) ∙ sent d;
          written = Appends-trans start a.held b.held h.front (take count bytes) h.written (stopped e).2.1;
          waits = λ sound. absurd (cc);
        }
    by_failed false before e d =
        let done = written e in record {
          front = h.front ++ bytes;
          rest = [];
          parts = append-nil (h.front ++ bytes) ∙ sent done.0;
          written = Appends-trans start a.held b.held h.front bytes h.written done.2;
          waits = λ sound. sym empty;
        }

-- ---- one part for each element of a list

flat_map-map : {X Y : Type 0} (f : Y → List ℕ) (g : X → Y) (xs : List X) → flat_map f (map g xs) ≡ flat_map (λ x. f (g x)) xs
flat_map-map f g [] = refl
flat_map-map f g (x ∷ xs) = ap (λ t. f (g x) ++ t) (flat_map-map f g xs)

-- the part of the next element
pub carried_next : {X : Type 0} (f : X → List ℕ) (xs : List X) (i : ℕ) (x : X) (a b c : Way) → i < length xs → x ≡ get_or xs i x
    → Carried a b (flat_map f (take i xs)) → Carried b c (f x) → Carried a c (flat_map f (take (i + 1) xs))
carried_next f xs i x a b c lt is h k =
    let more : take (i + 1) xs ≡ take i xs ++ x ∷ [] = take_more xs i x lt ∙ ap (λ y. take i xs ++ y ∷ []) (sym is) in
    let text : flat_map f (take (i + 1) xs) ≡ flat_map f (take i xs) ++ f x =
    ap (flat_map f) more ∙ flat_map-append f (take i xs) (x ∷ []) ∙ ap (λ t. flat_map f (take i xs) ++ t) (append-nil (f x)) in
    subst (λ t. Carried a c t) (sym text) (carried_then a b c (flat_map f (take i xs)) (f x) h k)

-- the same if the element is read with another default
pub carried_next_or : {X : Type 0} (f : X → List ℕ) (xs : List X) (i : ℕ) (d : X) (a b c : Way) → i < length xs
    → Carried a b (flat_map f (take i xs)) → Carried b c (f (get_or xs i d)) → Carried a c (flat_map f (take (i + 1) xs))
carried_next_or f xs i d a b c lt h k =
    carried_next f xs i (get_or xs i d) a b c lt (get_or_default xs i d (get_or xs i d) lt) h k

-- the parts of all elements
pub carried_all : {X : Type 0} (f : X → List ℕ) (xs : List X) (i : ℕ) (a b : Way) → length xs ≤ i
    → Carried a b (flat_map f (take i xs)) → Carried a b (flat_map f xs)
carried_all f xs i a b all h = subst (λ ys. Carried a b (flat_map f ys)) (take_all i xs all) h

-- the same if the elements are seen by g
pub carried_mapped : {X Y : Type 0} (f : Y → List ℕ) (g : X → Y) (xs : List X) (i : ℕ) (a b : Way) → length xs ≤ i
    → Carried a b (flat_map (λ x. f (g x)) (take i xs)) → Carried a b (flat_map f (map g xs))
carried_mapped f g xs i a b all h =
    subst (λ t. Carried a b t) (sym (flat_map-map f g xs)) (carried_all (λ x. f (g x)) xs i a b all h)

-- the part of the next node
pub carried_node : {X : Type 0} (f : ℕ × X → List ℕ) (xs : List X) (i : ℕ) (x : X) (a b c : Way) → i < length xs
    → x ≡ get_or xs i x
    → Carried a b (flat_map f (take i (enumerate_from 1 xs))) → Carried b c (f (i + 1, x))
    → Carried a c (flat_map f (take (i + 1) (enumerate_from 1 xs)))
carried_node {X} f xs i x a b c lt is h k =
    let number : 1 + i ≡ i + 1 = omega arith in
    let entry : (i + 1, x) ≡ get_or (enumerate_from 1 xs) i (i + 1, x) =
    ap {B = ℕ × X} (λ y. (i + 1, y)) is ∙ ap {B = ℕ × X} (λ n. (n, get_or xs i x)) (sym number) ∙ sym (get_or-enumerate_from 1 xs i (i + 1, x) lt) in
    carried_next f (enumerate_from 1 xs) i (i + 1, x) a b c (omega (arith, length-enumerate_from 1 xs)) entry h k

pub carried_nodes : {X : Type 0} (f : ℕ × X → List ℕ) (xs : List X) (i : ℕ) (a b : Way) → length xs ≤ i
    → Carried a b (flat_map f (take i (enumerate_from 1 xs))) → Carried a b (flat_map f (enumerate_from 1 xs))
carried_nodes f xs i a b all h = carried_all f (enumerate_from 1 xs) i a b (omega (arith, length-enumerate_from 1 xs)) h

-- the same if the entry is read with another default
pub carried_node_or : {X : Type 0} (f : ℕ × X → List ℕ) (xs : List X) (i : ℕ) (d : X) (a b c : Way) → i < length xs
    → Carried a b (flat_map f (take i (enumerate_from 1 xs))) → Carried b c (f (i + 1, get_or xs i d))
    → Carried a c (flat_map f (take (i + 1) (enumerate_from 1 xs)))
carried_node_or f xs i d a b c lt h k =
    carried_node f xs i (get_or xs i d) a b c lt (get_or_default xs i d (get_or xs i d) lt) h k

-- ---- the end

-- the text begins
begun : (a : Way) → a.piece ≡ [] → Carries a.held a []
begun a empty = record { front = []; rest = []; parts = refl; written = Appends-nil a.held; waits = λ sound. sym empty }

-- A text began with no piece, and the writer failed.
pub text_stopped : (a b : Way) (text : List ℕ) → a.piece ≡ [] → a.failed ≡ false → Carried a b text → b.failed ≡ true
    → HasStopped (between a b) text
text_stopped a b text empty sound h failed =
    let done : Carries a.held b text = h a.held [] (begun a empty) in
    let front : take (length done.front) text ≡ done.front = ap (λ (t : List ℕ). take (length done.front) t) (sym done.parts) ∙ take-append_seam done.front done.rest in
    (failed, (λ had. absurd (cc)), (length done.front, subst (λ t. Appends a.held b.held t) (sym front) done.written))

-- A text began with no piece, no piece is left, and the writer hasn't failed.
pub text_written : (a b : Way) (text : List ℕ) → a.piece ≡ [] → a.failed ≡ false → Carried a b text → b.piece ≡ []
    → b.failed ≡ false → HasWritten (between a b) text
text_written a b text empty sound h left failed =
    let done : Carries a.held b text = h a.held [] (begun a empty) in
    let whole : done.front ≡ text = sym (append-nil done.front) ∙ ap (λ (t : List ℕ). done.front ++ t) (sym (done.waits failed ∙ left)) ∙ done.parts in
    (sound, failed, subst (λ t. Appends a.held b.held t) whole done.written)

-- ---- what a writer holds after one part and the next

-- A prefix of the text has come to the writer, and the rest is left.
pub record Sent (start held : Option (List ℕ)) (text rest : List ℕ) : Type 0 where
  pub front : List ℕ
  pub parts : front ++ rest ≡ text
  pub written : Appends start held front

-- the next part of the rest
pub sent_more : (a b c : Option (List ℕ)) (text rest left : List ℕ) (n : ℕ) → Sent a b text rest → Appends b c (take n rest)
    → left ≡ drop n rest → Sent a c text left
sent_more a b c text rest left n h k e = record {
  front = h.front ++ take n rest;
  parts = append_assoc h.front (take n rest) left ∙ ap (λ t. h.front ++ t) (ap (λ t. take n rest ++ t) e ∙ take-append-drop n rest) ∙ h.parts;
  written = Appends-trans a b c h.front (take n rest) h.written k;
}

-- the bytes sent are a prefix of the text
pub sent_front : (a b : Option (List ℕ)) (text rest : List ℕ) → Sent a b text rest → (count : ℕ) × Appends a b (take count text)
sent_front a b text rest h =
    let front : take (length h.front) text ≡ h.front = ap (λ (t : List ℕ). take (length h.front) t) (sym h.parts) ∙ take-append_seam h.front rest in
    (length h.front, subst (λ t. Appends a b t) (sym front) h.written)

-- nothing of the rest is left: the text was sent
pub sent_all : (a b : Option (List ℕ)) (text rest : List ℕ) → (length rest == 0) ≡ true → Sent a b text rest → Appends a b text
sent_all a b text [] empty h = subst (λ t. Appends a b t) (sym (append-nil h.front) ∙ h.parts) h.written
sent_all a b text (x ∷ rest) empty h = absurd (grind (arith, nat_tests))

-- something of the rest is left
pub some_left : (rest : List ℕ) → (length rest == 0) ≡ false → 0 < length rest
some_left [] full = absurd (cc)
some_left (x ∷ rest) full = omega arith
