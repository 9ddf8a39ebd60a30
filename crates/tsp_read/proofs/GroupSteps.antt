-- One more word in any section by node (src/node_sections.rt): the node that begins a group, or a word of the group's
-- value, is taken or is the first fault. CoordSteps.antt adds what points need.
use Rattle.tsp_read.proofs.Prelude.{◌≡◌, ℕ, zero, suc, ◌+◌, ◌-◌, ◌*◌, ◌<◌, ◌≤◌, Bool, true, false, List, [], ◌∷◌, ◌++◌, length, map, set, get_or, refl, sym, ap, subst, ◌∙◌, Option, None, Some, Ok, Err, arith, ℤ, pos, ◌==◌, nat_lt, replicate, option_map, lt-leb, le-leb, map_push, length_push, length-map, take-append-le, nat_tests, LineFault, number, node, is_minus_one, Place, NodeAfter, PastGroups, groups_in, begun_in, word_at, node_groups, nodes_of_groups, place_by_node, by_node, wants_more, word_fault, Words, length_groups, begun_short, goes_on, group_ends, all_groups}
use Rattle.tsp_text.specs.declared.fault.LineFault.TheVariants as row
use Rattle.tsp_read.specs.states.Parts.{AreReadAs, IsNewNode, NodesHold, GroupsHold}
use Rattle.tsp_read.proofs.ListSteps.{Reader, none_kept, some_kept, keeps_more}
use Rattle.tsp_read.proofs.SectionLists as nodes

pub le_times : (size a b : ℕ) → a ≤ b → size * a ≤ size * b
le_times size a b le = grind arith

-- words of n groups, of which these are left
abbrev HaveRoom : ℕ → ℕ → ℕ → Words → Type 0
HaveRoom size left n words = (0 < left → length words < size * n) × (left ≡ 0 → size * n ≤ length words)

have_room : {X : Type 0} (size : ℕ) (value : Words → X) (n left : ℕ) (words : Words) → 0 < size → length words ≤ size * n
    → length (node_groups size value n words) + left ≡ n → HaveRoom size left n words
have_room size value n left words some few to_come =
    let groups = groups_in size words in
    let count = ap length (all_groups size value n words few) ∙ length-map groups (λ group. (number (node n (word_at group 0)), value group)) in
    let size_of = length_groups size words in
    let short = begun_short size words some in
    let more = le_times size (length groups + 1) n in (
      λ yet. omega (arith, more (omega (arith, yet, count, to_come)), size_of, short),
      λ done. omega (arith, le_times size n (length groups) (omega (arith, done, count, to_come)), size_of),
    )

-- no words so far
pub none_so_far : {X : Type 0} (size : ℕ) (value : Words → X) (missing : X) (reads : List Reader) (kept : List (Option ℤ)) (seen : List Bool) (entries : List X) (n : ℕ)
    → 0 < size → seen ≡ replicate n false → entries ≡ replicate n missing → AreReadAs reads kept []
    → GroupsHold size value missing reads seen entries n None kept n []
none_so_far size value missing reads kept seen entries n some unseen empty none =
    let held : NodesHold missing seen entries n None n (node_groups size value n []) = rw (all_groups size value n [] (omega arith)) (nodes.nodes_unmarked missing seen entries n unseen empty) in
    let room = have_room size value n n [] some (omega arith) held.to_come in
    record { nodes = held; cut = λ yet. none; open_ended = room.0; full = room.1 }

module _ {X : Type 0} {size : ℕ} {value : Words → X} {missing : X} {reads : List Reader} {seen : List Bool} {entries : List X} {left : ℕ} {begun : Option ℕ}
    {kept : List (Option ℤ)} {n : ℕ} {words : Words} (number_place : Place) (h : GroupsHold size value missing reads seen entries left begun kept n words) where
  -- ---- the place of the next word

  before_node : 0 < left → begun ≡ None → (begun_in size words ≡ []) × AreReadAs reads kept []
  before_node some is = none_kept (node n) reads kept (begun_in size words) (subst (λ (o : Option ℕ). AreReadAs (node n ∷ reads) (option_map pos o ∷ kept) (begun_in size words)) is (h.cut some))

  after_node : (k : ℕ) → 0 < left → begun ≡ Some k
      → (first : List ℕ) × (rest : Words) × (begun_in size words ≡ first ∷ rest) × (node n first ≡ Ok (pos k)) × AreReadAs reads kept rest
  after_node k some is = some_kept (node n) reads (pos k) kept (begun_in size words) (subst (λ (o : Option ℕ). AreReadAs (node n ∷ reads) (option_map pos o ∷ kept) (begun_in size words)) is (h.cut some))

  place_of_node : 0 < left → begun ≡ None
      → place_by_node size number_place (node_groups size value n words) n words ≡ NodeAfter (nodes_of_groups (node_groups size value n words))
  place_of_node some is = rw (lt-leb (size * n) (length words) (h.open_ended some), (before_node some is).0) refl

  place_of_number : (k : ℕ) → 0 < left → begun ≡ Some k → place_by_node size number_place (node_groups size value n words) n words ≡ number_place
  place_of_number k some is = rw (lt-leb (size * n) (length words) (h.open_ended some), (after_node k some is).2) refl

  past_groups : left ≡ 0 → place_by_node size number_place (node_groups size value n words) n words ≡ PastGroups
  past_groups none = rw (le-leb (size * n) (length words) (h.full none)) refl

  -- ---- words with a fault

  pub node_faulty : (word : List ℕ) (fault : LineFault) → 0 < left → begun ≡ None → IsNewNode seen word (Err fault)
      → word_fault n (place_by_node size number_place (node_groups size value n words) n words) word ≡ Some fault
  node_faulty word fault some is new =
      nodes.node_faulty missing seen entries left begun n (node_groups size value n words) (place_by_node size number_place (node_groups size value n words) n words) word fault (place_of_node some is) new h.nodes

  pub number_faulty : (word : List ℕ) (k : ℕ) (fault : LineFault) → 0 < left → begun ≡ Some k → word_fault n number_place word ≡ Some fault
      → word_fault n (place_by_node size number_place (node_groups size value n words) n words) word ≡ Some fault
  number_faulty word k fault some is faulty = ap (λ place. word_fault n place word) (place_of_number k some is) ∙ faulty

  -- any word but a -1 past the groups
  pub surplus : (word : List ℕ) → left ≡ 0 → is_minus_one word ≡ false
      → word_fault n (place_by_node size number_place (node_groups size value n words) n words) word ≡ Some row.Surplus
  surplus word none other = rw (past_groups none, other) refl

  -- ---- the part after the word

  -- a word that ends no group leaves the groups alone
  groups_kept : (found : Words) (word : List ℕ) → 0 < left → begun_in size words ≡ found → (length found + 1 == size) ≡ false
      → node_groups size value n (words ++ word ∷ []) ≡ node_groups size value n words
  groups_kept found word some is on =
      let short = h.open_ended some in
      all_groups size value n (words ++ word ∷ []) (omega (arith, length_push words word, short))
      ∙ ap (map (λ group. (number (node n (word_at group 0)), value group))) (goes_on size words found word is on).0 ∙ sym (all_groups size value n words (omega (arith, short)))

  pub node_taken : (word : List ℕ) (k : ℕ) → 0 < size → (1 == size) ≡ false → 0 < left → begun ≡ None → IsNewNode seen word (Ok k)
      → (word_fault n (place_by_node size number_place (node_groups size value n words) n words) word ≡ None)
      × GroupsHold size value missing reads seen entries left (Some k) kept n (words ++ word ∷ [])
  node_taken word k large on some is new =
      let start = before_node some is in
      let same = groups_kept [] word some start.0 on in
      let taken = nodes.node_begins missing seen entries left begun n k (node_groups size value n words) (place_by_node size number_place (node_groups size value n words) n words) word
      (place_of_node some is) new h.nodes in
      let room = have_room size value n left (words ++ word ∷ []) large (omega (arith, length_push words word, h.open_ended some)) (ap (λ groups. length groups + left) same ∙ h.nodes.to_come) in (
        taken.0,
        record {
          nodes = rw same taken.2;
          cut = λ yet. rw (goes_on size words [] word start.0 on).1 (taken.1, start.1);
          open_ended = room.0;
          full = room.1;
        },
      )

  -- a word of the value that isn't the last
  pub number_kept : (other : Reader) (done : List ℤ) (rest : List (Option ℤ)) (word : List ℕ) (k : ℕ) (z : ℤ) → 0 < size → (suc (length done) + 1 == size) ≡ false
      → 0 < left → begun ≡ Some k → kept ≡ map (λ y. Some y) done ++ None ∷ rest → get_or reads (length done) other word ≡ Ok z → word_fault n number_place word ≡ None
      → (word_fault n (place_by_node size number_place (node_groups size value n words) n words) word ≡ None)
      × GroupsHold size value missing reads seen entries left begun (map (λ y. Some y) done ++ Some z ∷ rest) n (words ++ word ∷ [])
  number_kept other done rest word k z large on some is also read clean =
      let first = after_node k some is in
      let more = keeps_more other reads done rest first.1 word z (subst (λ (ks : List (Option ℤ)). AreReadAs reads ks first.1) also first.4) read in
      let goes : (length (first.0 ∷ first.1) + 1 == size) ≡ false = ap (λ count. suc count + 1 == size) more.1 ∙ on in
      let same = groups_kept (first.0 ∷ first.1) word some first.2 goes in
      let room = have_room size value n left (words ++ word ∷ []) large (omega (arith, length_push words word, h.open_ended some)) (ap (λ groups. length groups + left) same ∙ h.nodes.to_come) in (
        ap (λ place. word_fault n place word) (place_of_number k some is) ∙ clean,
        record {
          nodes = rw same h.nodes;
          cut = λ yet. rw (is, (goes_on size words (first.0 ∷ first.1) word first.2 goes).1) (first.3, more.0);
          open_ended = room.0;
          full = room.1;
        },
      )

  -- the last word of a group
  -- plan: the word ends its group (`group_ends`), and `entry_fills` for the place of the node
  pub entry_taken : (x : X) (empty : List (Option ℤ)) (word : List ℕ) (k : ℕ) → 0 < size → AreReadAs reads empty []
      → ((first : List ℕ) (rest : Words) → AreReadAs reads kept rest → ((length (first ∷ rest) + 1 == size) ≡ true) × (value (first ∷ (rest ++ word ∷ [])) ≡ x))
      → 0 < left → begun ≡ Some k → word_fault n number_place word ≡ None
      → (word_fault n (place_by_node size number_place (node_groups size value n words) n words) word ≡ None)
      × GroupsHold size value missing reads (set seen (k - 1) true) (set entries (k - 1) x) (left - 1) None empty n (words ++ word ∷ [])
  entry_taken x empty word k large none ends some is clean =
      let first = after_node k some is in
      let last = ends first.0 first.1 first.4 in
      let next = group_ends size words (first.0 ∷ first.1) word first.2 last.0 in
      let f : Words → ℤ × X = λ group. (number (node n (word_at group 0)), value group) in
      let short = h.open_ended some in
      let within : length (words ++ word ∷ []) ≤ size * n = omega (arith, length_push words word, short) in
      let group : f (first.0 ∷ (first.1 ++ word ∷ [])) ≡ (pos k, x) = rw (first.3, last.1) refl in
      let groups : node_groups size value n (words ++ word ∷ []) ≡ node_groups size value n words ++ (pos k, x) ∷ [] =
      all_groups size value n (words ++ word ∷ []) within ∙ ap (map f) next.0 ∙ map_push f (groups_in size words) (first.0 ∷ (first.1 ++ word ∷ []))
      ∙ ap (λ g. map f (groups_in size words) ++ g ∷ []) group ∙ ap (λ gs. gs ++ (pos k, x) ∷ []) (sym (all_groups size value n words (omega (arith, short)))) in
      let held : NodesHold missing seen entries left (Some k) n (node_groups size value n words) = rw (← is) h.nodes in
      let filled : NodesHold missing (set seen (k - 1) true) (set entries (k - 1) x) (left - 1) None n (node_groups size value n (words ++ word ∷ [])) =
      rw groups (nodes.entry_fills missing x seen entries left n k (node_groups size value n words) some held) in
      let room = have_room size value n (left - 1) (words ++ word ∷ []) large within filled.to_come in (
        ap (λ place. word_fault n place word) (place_of_number k some is) ∙ clean,
        record { nodes = filled; cut = λ yet. rw next.1 none; open_ended = room.0; full = room.1 },
      )

  -- a -1 may end the section
  pub end_taken : (word : List ℕ) → left ≡ 0 → is_minus_one word ≡ true
      → (word_fault n (place_by_node size number_place (node_groups size value n words) n words) word ≡ None)
      × GroupsHold size value missing reads seen entries left begun kept n (words ++ word ∷ [])
  end_taken word none end =
      let full = h.full none in
      let same : node_groups size value n (words ++ word ∷ []) ≡ node_groups size value n words =
      ap (λ (ws : Words). map (λ group. (number (node n (word_at group 0)), value group)) (groups_in size ws)) (take-append-le (size * n) words (word ∷ []) full) in (
        rw (past_groups none, end) refl,
        record {
          nodes = rw same h.nodes;
          cut = λ yet. absurd (omega (arith, yet, none));
          open_ended = λ yet. absurd (omega (arith, yet, none));
          full = λ done. omega (arith, length_push words word, full);
        },
      )

  -- ---- the end

  pub finish : entries ≡ by_node missing n (node_groups size value n words)
  finish = nodes.entries_by_node missing seen entries left begun n (node_groups size value n words) h.nodes

  -- a group is still to come exactly if one is left
  pub to_come : wants_more number_place ≡ true → nat_lt 0 left ≡ wants_more (place_by_node size number_place (node_groups size value n words) n words)
  to_come wants = by_left left refl
    where
      by_left : (l : ℕ) → left ≡ l → nat_lt 0 l ≡ wants_more (place_by_node size number_place (node_groups size value n words) n words)
      by_left zero is = rw (past_groups is) refl
      by_left (suc l) is =
          let some : nat_lt 0 (suc l) ≡ true = grind (arith, nat_tests) in
          rw (some, lt-leb (size * n) (length words) (h.open_ended (omega (arith, is))))
          (sym (nodes.wants_in_group number_place (nodes_of_groups (node_groups size value n words)) (begun_in size words) wants))
