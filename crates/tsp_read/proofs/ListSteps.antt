-- One word more of a list of nodes that -1 ends, or of pairs and triples, and lines that are scanned for a value. For
-- src/list_sections.rt and src/section_builder.rt.
use Rattle.tsp_read.proofs.Prelude.{◌≡◌, ℕ, suc, List, [], ◌∷◌, ◌++◌, length, map, get_or, refl, ap, Option, None, Some, Ok, ◌+◌, ◌<◌, Bool, true, false, sym, ◌∙◌, arith, ◌≢◌, ◌≤◌, subst, ap₂, cond, drop, lt-leb, false_from_ne_true, ltb-true, ltb-false, nat_tests, Decides-int_eq, map_push, length_push, prefix_len-le-length, cond_some, list_any, prefix_len, position, position_or_len, option_map, int_eq, ℤ, Result, pos, negsuc, nat_abs, nat_le, ◌==◌, is_some, not, NumberFault, most_depots, most_fixed, Words, goes_on, group_ends, firsts_begin, firsts_on, firsts_kept, groups_kept, groups_none, word_fault, when, first_row, place_of_depot, groups_in, begun_in, firsts_in, place_in_list, fixed_pair, place_in_pair, place_of_fixed, number, node_or_end, is_end, is_minus_one, Place, PastEnd, DepotAfter, node, FirstAfter, SecondOf, wants_more, LineFault}
use Rattle.std.proofs.Math.Bool.{and-false}
use Rattle.tsp_text.proofs.ValidKeywords.{any_kept, any_push, before_kept, before_none, before_end, before_push}
use Rattle.tsp_text.specs.declared.fault.LineFault.TheVariants as row
use Rattle.tsp_read.specs.states.Parts.{AreReadAs, DepotsHold, ListHolds, PairsHold}

abbrev pub Reader : Type 0
Reader = List ℕ → Result ℤ NumberFault

-- if nothing is kept of the first, no group has begun
pub none_kept : (read : Reader) (reads : List Reader) (kept : List (Option ℤ)) (words : Words) → AreReadAs (read ∷ reads) (None ∷ kept) words
    → (words ≡ []) × AreReadAs reads kept []
none_kept read reads kept [] h = (refl, h)
none_kept read reads kept (word ∷ words) h = absurd h

-- if something is kept of it, it is there
pub some_kept : (read : Reader) (reads : List Reader) (z : ℤ) (kept : List (Option ℤ)) (words : Words) → AreReadAs (read ∷ reads) (Some z ∷ kept) words
    → (first : List ℕ) × (rest : Words) × (words ≡ first ∷ rest) × (read first ≡ Ok z) × AreReadAs reads kept rest
some_kept read reads z kept [] h = absurd h
some_kept read reads z kept (word ∷ words) h = (word, words, refl, h.0, h.1)

-- one word more, that is kept too
pub keeps_more : (other : Reader) (reads : List Reader) (done : List ℤ) (rest : List (Option ℤ)) (words : Words) (word : List ℕ) (z : ℤ)
    → AreReadAs reads (map (λ y. Some y) done ++ None ∷ rest) words → get_or reads (length done) other word ≡ Ok z
    → AreReadAs reads (map (λ y. Some y) done ++ Some z ∷ rest) (words ++ word ∷ []) × (length words ≡ length done)
keeps_more other [] [] rest [] word z h e = absurd h
keeps_more other [] [] rest (first ∷ words) word z h e = absurd h
keeps_more other [] (y ∷ done) rest [] word z h e = absurd h
keeps_more other [] (y ∷ done) rest (first ∷ words) word z h e = absurd h
keeps_more other (read ∷ reads) [] rest [] word z h e = ((e, h), refl)
keeps_more other (read ∷ reads) [] rest (first ∷ words) word z h e = absurd h
keeps_more other (read ∷ reads) (y ∷ done) rest [] word z h e = absurd h
keeps_more other (read ∷ reads) (y ∷ done) rest (first ∷ words) word z h e =
    let more = keeps_more other reads done rest words word z h.1 e in
    ((h.0, more.0), ap suc more.1)

-- ---- one word more of DEPOT_SECTION, which -1 ends

-- ---- words without a fault

-- `-1` past the end
pub past_end_clean : (n : ℕ) (place : Place) (word : List ℕ) → place ≡ PastEnd → is_minus_one word ≡ true
    → word_fault n place word ≡ None
past_end_clean n place word e minus_one = rw (e, minus_one) refl

-- the end
end_clean : (n : ℕ) (place : Place) (word : List ℕ) (count : ℕ) → place ≡ DepotAfter count → node_or_end n word ≡ Ok (negsuc 0)
    → word_fault n place word ≡ None
end_clean n place word count e read = rw (e, read, and-false (nat_le most_depots count)) refl

-- a depot within the limit
depot_clean : (n : ℕ) (place : Place) (word : List ℕ) (count k : ℕ) → place ≡ DepotAfter count → node_or_end n word ≡ Ok (pos k)
    → nat_le most_depots count ≡ false
    → word_fault n place word ≡ None
depot_clean n place word count k e read room = rw (e, read, room) refl

-- ---- the part after the word

pub depot_past_end : (depots : List ℕ) (ended : Bool) (n : ℕ) (words : List (List ℕ)) (word : List ℕ) → ended ≡ true
    → is_minus_one word ≡ true
    → DepotsHold depots ended n words
    → (word_fault n (place_of_depot n words) word ≡ None) × DepotsHold depots ended n (words ++ word ∷ [])
depot_past_end depots ended n words word e minus_one h =
    let any : list_any (is_end n) words ≡ true = sym h.closed ∙ e in (
      past_end_clean n (place_of_depot n words) word (rw any refl) minus_one,
      record {
        list = h.list ∙ ap (map (λ word. nat_abs (number (node_or_end n word)))) (sym (before_kept (is_end n) words word any));
        closed = e ∙ sym (any_kept (is_end n) words word any);
        count = λ open_ended. cc;
      },
    )

pub depot_end : (depots : List ℕ) (ended : Bool) (n : ℕ) (words : List (List ℕ)) (word : List ℕ) → ended ≡ false
    → node_or_end n word ≡ Ok (negsuc 0)
    → DepotsHold depots ended n words
    → (word_fault n (place_of_depot n words) word ≡ None) × DepotsHold depots true n (words ++ word ∷ [])
depot_end depots ended n words word e read h =
    let none : list_any (is_end n) words ≡ false = sym h.closed ∙ e in
    let end : is_end n word ≡ true = rw read refl in (
      end_clean n (place_of_depot n words) word (length words) (rw none refl) read,
      record {
        list = h.list ∙ ap (map (λ word. nat_abs (number (node_or_end n word)))) (before_none (is_end n) words none ∙ sym (before_end (is_end n) words word end none));
        closed = sym (any_push (is_end n) words word none ∙ end);
        count = λ open_ended. cc;
      },
    )

pub depot_more : (depots : List ℕ) (ended : Bool) (n : ℕ) (words : List (List ℕ)) (word : List ℕ) (k : ℕ) → ended ≡ false
    → node_or_end n word ≡ Ok (pos k)
    → length depots < most_depots → DepotsHold depots ended n words
    → (word_fault n (place_of_depot n words) word ≡ None) × DepotsHold (depots ++ k ∷ []) ended n (words ++ word ∷ [])
depot_more depots ended n words word k e read room h =
    let none : list_any (is_end n) words ≡ false = sym h.closed ∙ e in
    let on : is_end n word ≡ false = rw read refl in
    let f : List ℕ → ℕ = λ word. nat_abs (number (node_or_end n word)) in
    let is : f word ≡ k = rw read refl in
    let same : length depots ≡ length words = h.count e in
    let few : nat_le most_depots (length words) ≡ false = grind (arith, nat_tests) in (
      depot_clean n (place_of_depot n words) word (length words) k (rw none refl) read few,
      record {
        list = ap (λ ks. ks ++ k ∷ []) (h.list ∙ ap (map f) (before_none (is_end n) words none))
            ∙ ap (λ j. map f words ++ j ∷ []) (sym is) ∙ sym (map_push f words word)
            ∙ ap (map f) (sym (before_push (is_end n) words word on none));
        closed = e ∙ sym (any_push (is_end n) words word none ∙ on);
        count = λ open_ended. length_push depots k ∙ ap (λ i. i + 1) same ∙ sym (length_push words word);
      },
    )

-- ---- one word more of groups that -1 ends, as fixed pairs and multipliers are

-- the places of a list in which a group begins with two nodes
pub record HasNodes (n : ℕ) (in_group : ℕ → Words → Place) : Type 0 where
  pub first : (count : ℕ) → in_group count [] ≡ FirstAfter count
  pub second : (count : ℕ) (word : List ℕ) → in_group count (word ∷ []) ≡ SecondOf (number (node_or_end n word))
  pub more : (count : ℕ) (word : List ℕ) (begun : Words) → wants_more (in_group count (word ∷ begun)) ≡ true

module _ {X : Type 0} {size : ℕ} {value : Words → X} {reads : List Reader} {groups : List X} {first : Option ℕ} {kept : List (Option ℤ)} {ended : Bool} {n : ℕ} {words : Words}
    {in_group : ℕ → Words → Place} (places : HasNodes n in_group) (h : ListHolds size value reads groups first kept ended n words) where
  -- ---- the place of the next word

  still_open : ended ≡ false → list_any (is_end n) (firsts_in size words) ≡ false
  still_open open_ended = sym h.closed ∙ open_ended

  none_begun : ended ≡ false → first ≡ None → (begun_in size words ≡ []) × AreReadAs reads kept []
  none_begun open_ended is = none_kept (node_or_end n) reads kept (begun_in size words)
      (subst (λ (o : Option ℕ). AreReadAs (node_or_end n ∷ reads) (option_map pos o ∷ kept) (begun_in size words)) is (h.cut open_ended))

  pub one_begun : (k : ℕ) → ended ≡ false → first ≡ Some k
      → (word : List ℕ) × (rest : Words) × (begun_in size words ≡ word ∷ rest) × (node_or_end n word ≡ Ok (pos k)) × AreReadAs reads kept rest
  one_begun k open_ended is = some_kept (node_or_end n) reads (pos k) kept (begun_in size words)
      (subst (λ (o : Option ℕ). AreReadAs (node_or_end n ∷ reads) (option_map pos o ∷ kept) (begun_in size words)) is (h.cut open_ended))

  place_past_end : ended ≡ true → place_in_list size in_group n words ≡ PastEnd
  place_past_end e = rw (sym h.closed ∙ e) refl

  pub place_open : (begun : Words) → ended ≡ false → begun_in size words ≡ begun → place_in_list size in_group n words ≡ in_group (length groups) begun
  place_open begun open_ended is = rw (still_open open_ended, is) (ap (λ count. in_group count begun) (sym (h.count open_ended)))

  place_of_first : ended ≡ false → first ≡ None → place_in_list size in_group n words ≡ FirstAfter (length groups)
  place_of_first open_ended is = place_open [] open_ended (none_begun open_ended is).0 ∙ places.first (length groups)

  -- the second node, if nothing else is kept
  place_of_second : (k : ℕ) → ended ≡ false → first ≡ Some k → ((rest : Words) → AreReadAs reads kept rest → rest ≡ [])
      → place_in_list size in_group n words ≡ SecondOf (pos k)
  place_of_second k open_ended is alone =
      let begun = one_begun k open_ended is in
      place_open (begun.0 ∷ []) open_ended (begun.2 ∙ ap (λ (rest : Words). begun.0 ∷ rest) (alone begun.1 begun.4)) ∙ places.second (length groups) begun.0
      ∙ ap (λ r. SecondOf (number r)) begun.3

  -- ---- words with a fault

  pub second_same : (word : List ℕ) (k : ℕ) → ((rest : Words) → AreReadAs reads kept rest → rest ≡ []) → ended ≡ false → first ≡ Some k
      → node n word ≡ Ok (pos k) → word_fault n (place_in_list size in_group n words) word ≡ Some row.SelfEdge
  second_same word k alone open_ended is read =
      rw (place_of_second k open_ended is alone, read, (Decides-int_eq (pos k) (pos k)).1 refl) refl

  pub second_clean : (word : List ℕ) (k j : ℕ) → ((rest : Words) → AreReadAs reads kept rest → rest ≡ []) → ended ≡ false → first ≡ Some k
      → node n word ≡ Ok (pos j) → j ≢ k → word_fault n (place_in_list size in_group n words) word ≡ None
  second_clean word k j alone open_ended is read apart =
      let other : int_eq (pos j) (pos k) ≡ false = false_from_ne_true (int_eq (pos j) (pos k)) (λ t. let same = (Decides-int_eq (pos j) (pos k)).0 t in apart cc) in
      rw (place_of_second k open_ended is alone, read, other) refl

  -- ---- the part after the word

  pub past_end : (word : List ℕ) → ended ≡ true → is_minus_one word ≡ true
      → (word_fault n (place_in_list size in_group n words) word ≡ None) × ListHolds size value reads groups first kept ended n (words ++ word ∷ [])
  past_end word e minus_one =
      let any : list_any (is_end n) (firsts_in size words) ≡ true = sym h.closed ∙ e in (
        past_end_clean n (place_in_list size in_group n words) word (place_past_end e) minus_one,
        record {
          list = h.list ∙ ap (map value) (sym (groups_kept (is_end n) size words word any));
          closed = e ∙ sym (firsts_kept (is_end n) size words word any);
          cut = λ open_ended. cc;
          count = λ open_ended. cc;
          whole = h.whole;
        },
      )

  -- the -1
  pub list_ends : (word : List ℕ) → (1 == size) ≡ false → ended ≡ false → first ≡ None → node_or_end n word ≡ Ok (negsuc 0)
      → (word_fault n (place_in_list size in_group n words) word ≡ None) × ListHolds size value reads groups first kept true n (words ++ word ∷ [])
  list_ends word on e is read =
      let start = none_begun e is in
      let end : is_end n word ≡ true = rw read refl in (
        rw (place_of_first e is, read, and-false (nat_le most_fixed (length groups))) refl,
        record {
          list = rw (goes_on size words [] word start.0 on).0 h.list;
          closed = sym (ap (list_any (is_end n)) (firsts_begin size words word start.0) ∙ any_push (is_end n) (firsts_in size words) word (still_open e) ∙ end);
          cut = λ open_ended. cc;
          count = λ open_ended. cc;
          whole = λ closed. is;
        },
      )

  -- the first node
  pub group_begins : (word : List ℕ) (k : ℕ) → (1 == size) ≡ false → ended ≡ false → first ≡ None → node_or_end n word ≡ Ok (pos k) → length groups < most_fixed
      → (word_fault n (place_in_list size in_group n words) word ≡ None) × ListHolds size value reads groups (Some k) kept ended n (words ++ word ∷ [])
  group_begins word k on e is read room =
      let start = none_begun e is in
      let next = goes_on size words [] word start.0 on in
      let no_end : is_end n word ≡ false = rw read refl in (
        rw (place_of_first e is, read, lt-leb most_fixed (length groups) room) refl,
        record {
          list = rw next.0 h.list;
          closed = e ∙ sym (ap (list_any (is_end n)) (firsts_begin size words word start.0) ∙ any_push (is_end n) (firsts_in size words) word (still_open e) ∙ no_end);
          cut = λ open_ended. rw next.1 (read, start.1);
          count = λ open_ended. h.count open_ended ∙ ap length (sym next.0);
          whole = λ closed. cc;
        },
      )

  -- a word that isn't the last of its group
  pub group_goes_on : (other : Reader) (done : List ℤ) (rest : List (Option ℤ)) (word : List ℕ) (k : ℕ) (z : ℤ) → (suc (length done) + 1 == size) ≡ false
      → ended ≡ false → first ≡ Some k → kept ≡ map (λ y. Some y) done ++ None ∷ rest → get_or reads (length done) other word ≡ Ok z
      → ListHolds size value reads groups first (map (λ y. Some y) done ++ Some z ∷ rest) ended n (words ++ word ∷ [])
  group_goes_on other done rest word k z on e is also read =
      let begun = one_begun k e is in
      let more = keeps_more other reads done rest begun.1 word z (subst (λ (ks : List (Option ℤ)). AreReadAs reads ks begun.1) also begun.4) read in
      let goes : (length (begun.0 ∷ begun.1) + 1 == size) ≡ false = ap (λ count. suc count + 1 == size) more.1 ∙ on in
      let next = goes_on size words (begun.0 ∷ begun.1) word begun.2 goes in
      record {
        list = rw next.0 h.list;
        closed = e ∙ sym (ap (list_any (is_end n)) (firsts_on size words begun.0 begun.1 word begun.2) ∙ still_open e);
        cut = λ open_ended. rw (is, next.1) (begun.3, more.0);
        count = λ open_ended. h.count open_ended ∙ ap length (sym next.0);
        whole = h.whole;
      }

  -- the last word of a group
  pub group_taken : (x : X) (empty : List (Option ℤ)) (word : List ℕ) (k : ℕ) → AreReadAs reads empty []
      → ((one : List ℕ) (rest : Words) → node_or_end n one ≡ Ok (pos k) → AreReadAs reads kept rest → ((length (one ∷ rest) + 1 == size) ≡ true) × (value (one ∷ (rest ++ word ∷ [])) ≡ x))
      → ended ≡ false → first ≡ Some k → ListHolds size value reads (groups ++ x ∷ []) None empty ended n (words ++ word ∷ [])
  group_taken x empty word k none ends e is =
      let begun = one_begun k e is in
      let last = ends begun.0 begun.1 begun.3 begun.4 in
      let next = group_ends size words (begun.0 ∷ begun.1) word begun.2 last.0 in
      let still : list_any (is_end n) (firsts_in size (words ++ word ∷ [])) ≡ false = ap (list_any (is_end n)) (firsts_on size words begun.0 begun.1 word begun.2) ∙ still_open e in
      let one = begun.0 ∷ (begun.1 ++ word ∷ []) in
      record {
        list = ap (λ gs. gs ++ x ∷ []) (h.list ∙ ap (map value) (groups_none (is_end n) size words (still_open e)))
            ∙ ap (λ g. map value (groups_in size words) ++ g ∷ []) (sym last.1) ∙ sym (map_push value (groups_in size words) one)
            ∙ ap (map value) (sym (groups_none (is_end n) size (words ++ word ∷ []) still ∙ next.0));
        closed = e ∙ sym still;
        cut = λ open_ended. rw next.1 none;
        count = λ open_ended. length_push groups x ∙ ap (λ i. i + 1) (h.count open_ended) ∙ sym (length_push (groups_in size words) one) ∙ ap length (sym next.0);
        whole = λ closed. refl;
      }

  -- ---- the end

  -- a group is cut short exactly if it has begun
  pub cut_short : is_some first ≡ wants_more (place_in_list size in_group n words)
  cut_short = by_case first ended refl refl
    where
      by_case : (o : Option ℕ) (e : Bool) → first ≡ o → ended ≡ e → is_some o ≡ wants_more (place_in_list size in_group n words)
      by_case o true is e = ap is_some (sym is ∙ h.whole e) ∙ sym (ap wants_more (place_past_end e))
      by_case None false is e = sym (ap wants_more (place_of_first e is))
      by_case (Some k) false is e =
          let begun = one_begun k e is in
          sym (ap wants_more (place_open (begun.0 ∷ begun.1) e begun.2) ∙ places.more (length groups) begun.0 begun.1)

-- ---- one word more of FIXED_EDGES_SECTION, of which two are a pair

pub pair_places : (n : ℕ) → HasNodes n (place_in_pair n)
pair_places n = record { first = λ count. refl; second = λ count word. refl; more = λ count word begun. refl }

-- of a pair only the first node is kept
pub alone : (rest : Words) → AreReadAs [] [] rest → rest ≡ []
alone [] kept = refl
alone (word ∷ rest) kept = absurd kept

pair_read : (n k j : ℕ) (word one : List ℕ) (rest : Words) → node n word ≡ Ok (pos j) → node_or_end n one ≡ Ok (pos k) → AreReadAs [] [] rest
    → ((length (one ∷ rest) + 1 == 2) ≡ true) × (fixed_pair n (one ∷ (rest ++ word ∷ [])) ≡ (k, j))
pair_read n k j word one [] read first kept = (refl, ap₂ (λ r s. (nat_abs (number r), nat_abs (number s))) first read)
pair_read n k j word one (other ∷ rest) read first kept = absurd kept

pub pair_ends : {pairs : List (ℕ × ℕ)} {first : Option ℕ} {ended : Bool} {n : ℕ} {words : Words} → PairsHold pairs first ended n words
    → (word : List ℕ) (k j : ℕ) → ended ≡ false → first ≡ Some k → node n word ≡ Ok (pos j) → j ≢ k
    → (word_fault n (place_of_fixed n words) word ≡ None) × PairsHold (pairs ++ (k, j) ∷ []) None ended n (words ++ word ∷ [])
pair_ends {n = n} h word k j e is read apart = (
  second_clean (pair_places n) h word k j alone e is read apart,
  group_taken (pair_places n) h (k, j) [] word k tt (λ one rest. pair_read n k j word one rest read) e is,
)

-- ---- a keyword's line that isn't repeated

-- a row of the value alone is the first, in time or not
pub fault_of_value : (stands out none late : Bool) (fault : LineFault) → stands ≡ false
    → first_row (when out row.Outside ∷ when none row.BadValue ∷ []) ≡ Some fault
    → first_row (when stands row.Repeated ∷ when out row.Outside ∷ when none row.BadValue ∷ when late row.LateSpace ∷ []) ≡ Some fault
fault_of_value false true none late fault e h = h
fault_of_value false false true late fault e h = h
fault_of_value false false false late fault e h = cc
fault_of_value true out none late fault e h = cc

-- ---- the first place of a list at which a test is passed

none_cond : {X : Type 0} (b : Bool) (x : X) → cond b (Some x) None ≡ None → b ≡ false
none_cond true x e = absurd cc
none_cond false x e = refl

-- no element passes: the place is the length of the list
pub past : {X : Type 0} (p : X → Bool) (xs : List X) → position p xs ≡ None → position_or_len p xs ≡ length xs
past p xs e =
    let low : length xs ≤ position_or_len p xs = ltb-false _ _ (none_cond _ _ e) in
    omega (arith, prefix_len-le-length (λ x. not (p x)) xs)

-- the first element that passes is at the place k
pub position_at : {X : Type 0} (p : X → Bool) (xs : List X) (k : ℕ) → position p xs ≡ Some k
    → (position_or_len p xs ≡ k) × (k < length xs)
position_at p xs k e =
    let at = cond_some _ _ _ e in
    let here : position_or_len p xs ≡ k = at.1 in
    let below : position_or_len p xs < length xs = ltb-true _ _ at.0 in
    (here, omega (arith, here, below))

pub position_within : {X : Type 0} (p : X → Bool) (xs : List X) (k : ℕ) → position p xs ≡ Some k → k < length xs
position_within p xs k e = (position_at p xs k e).1

-- ---- the elements that pass at the front, by the first that doesn't

not_not : (b : Bool) → not (not b) ≡ b
not_not true = refl
not_not false = refl

pub front_len : {X : Type 0} (p : X → Bool) (xs : List X) → position_or_len (λ x. not (p x)) xs ≡ prefix_len p xs
front_len p [] = refl
front_len p (x ∷ xs) =
    ap (λ b. cond b (1 + position_or_len (λ x. not (p x)) xs) 0) (not_not (p x)) ∙ ap (λ n. cond (p x) (1 + n) 0) (front_len p xs)

pub start_none : {X : Type 0} (p : X → Bool) (xs : List X) → position (λ x. not (p x)) xs ≡ None
    → drop (length xs) xs ≡ drop (prefix_len p xs) xs
start_none p xs e = ap (λ n. drop n xs) (sym (past (λ x. not (p x)) xs e) ∙ front_len p xs)

pub start_some : {X : Type 0} (p : X → Bool) (xs : List X) (k : ℕ) → position (λ x. not (p x)) xs ≡ Some k
    → drop k xs ≡ drop (prefix_len p xs) xs
start_some p xs k e = ap (λ n. drop n xs) (sym (position_at (λ x. not (p x)) xs k e).0 ∙ front_len p xs)
