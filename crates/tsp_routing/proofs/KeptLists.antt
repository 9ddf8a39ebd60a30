-- For src/run_steps.rt and src/kept_states.rt: the list of a load and a last customer, while starts are added that go on
-- from those of the customers before, and while the heavier entries with the same word are left out.
use Rattle.std.proofs.lemmas.List.{length-take}
use Rattle.std.proofs.lemmas.List.Elements.{All-set, Contains-get_or}
use Rattle.std.proofs.lemmas.List.Quantifiers.{all_pairs_push}
use Rattle.std.proofs.lemmas.List.Sorted.{Contains-permutation, IsPermutation-sym}
use Rattle.std.specs.List.Sorted.{IsNonDecreasingBy, IsPermutation}
use Rattle.tsp_routing.proofs.KeptStarts.{last_is, lighter_is_kept, last_serves, holds_own}
use Rattle.tsp_routing.proofs.Prelude.{◌≡◌, ◌≢◌, ℕ, zero, suc, ◌+◌, ◌*◌, ◌^◌, ◌≤◌, ◌<◌, List, [], ◌∷◌, ◌++◌, take, length, get_or, refl, sym, ap, ◌∙◌, subst, arith, inl, inr, ◌⊎◌, Some, None, ℤ, pos, neg_ℤ, ◌+ℤ◌, ◌≤ℤ◌, All, Contains, ints, cases_eq, append-nil, get_or_default, take_more, take-take, All-push, All-append, All-take, All-contains, Contains-append_left, Contains-push, Contains-push_cases, All-weaker, IsFromTo, IsCustomer, ◌-◌, All-nil, All-cons, get_or_push, get_or-set_same, get_or-set_other, length-set, length_push, length-take-le, set}
use Rattle.tsp_routing.specs.KeptStates.{IsKeptState}
use Rattle.tsp_routing.specs.Memories.{Remembers}
use Rattle.tsp_routing.specs.Runs.{RunRules, RunState, next_state, MayServe, first_state}
use Rattle.tsp_routing.specs.Starts.{start_state, step_weight, start_weight, IsStart}
use Rattle.tsp_routing.specs.declared.kept_states.KeptState.{KeptState}
use Rattle.tsp_routing.specs.states.KeptLists.{IsNextEntry, IsEntryOf, CoversStart, AddsOne, AddsNexts, AreSizedEntries, IsFirstEntry, IsKeptList, IsKeptListTo, AreLeastOf, IsLeastAdded, AreRising, AreInOrder, EndsWithMemory, KeepsLighter}

-- an entry that goes on is one of the next load
entry_goes_on : (rules : RunRules) (limit : ℤ) (load before last : ℕ) (entry next : KeptState)
    → (is : IsEntryOf rules limit load before entry)
    → IsNextEntry rules limit (start_state rules before is.earlier) entry.weight last (Some next)
    → IsEntryOf rules limit (load + rules.load last) last next
entry_goes_on rules limit load before last entry next is on = record {
  earlier = before ∷ is.earlier;
  start = (
    is.start,
    on.0,
    subst (IsKeptState rules limit (next_state rules (start_state rules before is.earlier) last))
        (on.2 ∙ ap (λ (z : ℤ). z +ℤ step_weight rules (start_state rules before is.earlier) last) is.weight_is) on.3,
  );
  load_is = ap (λ (q : ℕ). q + rules.load last) is.load_is;
  remembers = on.1;
  weight_is = on.2 ∙ ap (λ (z : ℤ). z +ℤ step_weight rules (start_state rules before is.earlier) last) is.weight_is;
}

-- what is covered by more entries
pub covered_by_more : (rules : RunRules) (old new : List KeptState) (last : ℕ) (earlier : List ℕ)
    → ((entry : KeptState) → Contains old entry → Contains new entry) → CoversStart rules old last earlier → CoversStart rules new last earlier
covered_by_more rules old new last earlier keeps covers = record {
  entry = covers.entry;
  there = keeps covers.entry covers.there;
  remembers = covers.remembers;
  lighter = covers.lighter;
}

-- a start that goes on from one that this entry covers
start_goes_on : (rules : RunRules) (limit : ℤ) (before last : ℕ) (earlier : List ℕ) (entry : KeptState) (old new : List KeptState)
    → IsStart rules limit last (before ∷ earlier) → entry.weight ≤ℤ start_weight rules before earlier
    → AddsOne rules limit (start_state rules before earlier) entry.weight last old new → CoversStart rules new last (before ∷ earlier)
start_goes_on rules limit before last earlier entry old new start lighter (inl none) =
    absurd (none.1 start.1 (lighter_is_kept rules limit (next_state rules (start_state rules before earlier) last)
    (start_weight rules before earlier +ℤ step_weight rules (start_state rules before earlier) last)
    (entry.weight +ℤ step_weight rules (start_state rules before earlier) last) start.2 (omega (arith, ints, lighter))))
start_goes_on rules limit before last earlier entry old new start lighter (inr added) = record {
  entry = added.0;
  there = subst (λ (xs : List KeptState). Contains xs added.0) (sym added.1) (Contains-push old added.0);
  remembers = added.2.1;
  lighter = let is = added.2.2 in omega (arith, ints, lighter, is);
}

-- one more entry goes on
pub adds_more : (rules : RunRules) (limit : ℤ) (load before last left : ℕ) (befores old mid new more : List KeptState) (index : ℕ)
    (entry : KeptState) → index < length befores → entry ≡ get_or befores index entry → load + rules.load last + left ≡ rules.room
    → ((state : RunState) → Remembers rules state entry.word → state.last ≡ before → state.load + rules.load last + left ≡ rules.room
    → AddsOne rules limit state entry.weight last mid new)
    → new ≡ mid ++ more
    → AddsNexts rules limit load before last (take index befores) old mid
    → AddsNexts rules limit load before last (take (index + 1) befores) old new
adds_more rules limit load before last left befores old mid new more index entry lt is full exact grows h = record {
  met = λ all olds.
      let parts = both all in
      let mids = h.met parts.0 olds in
      met_one parts.1 mids (exact (start_state rules before parts.1.earlier) parts.1.remembers (last_is rules before parts.1.earlier)
      (ap (λ (q : ℕ). q + rules.load last + left) parts.1.load_is ∙ full));
  covers = λ earlier start load_is covers.
      elim (Contains-push_cases (take index befores) entry covers.entry
      (subst (λ (xs : List KeptState). Contains xs covers.entry) whole covers.there)) [
        | inl before_it ↦ covered_by_more rules mid new last (before ∷ earlier) keeps
            (h.covers earlier start load_is
            (record { entry = covers.entry; there = before_it; remembers = covers.remembers; lighter = covers.lighter }))
        | inr it ↦
            let remembers : Remembers rules (start_state rules before earlier) entry.word =
            subst (λ (e : KeptState). Remembers rules (start_state rules before earlier) e.word) (sym it) covers.remembers in
            let lighter : entry.weight ≤ℤ start_weight rules before earlier =
            subst (λ (e : KeptState). e.weight ≤ℤ start_weight rules before earlier) (sym it) covers.lighter in
            start_goes_on rules limit before last earlier entry mid new start lighter
            (exact (start_state rules before earlier) remembers (last_is rules before earlier)
            (ap (λ (q : ℕ). q + rules.load last + left) load_is ∙ full))
      ];
  keeps = λ other there. keeps other (h.keeps other there);
}
  where
    whole : take (index + 1) befores ≡ take index befores ++ entry ∷ []
    whole = take_more befores index entry lt ∙ ap (λ (e : KeptState). take index befores ++ e ∷ []) (sym is)

    keeps : (other : KeptState) → Contains mid other → Contains new other
    keeps other there = subst (λ (xs : List KeptState). Contains xs other) (sym grows) (Contains-append_left mid more other there)

    both : All (IsEntryOf rules limit load before) (take (index + 1) befores)
        → All (IsEntryOf rules limit load before) (take index befores) × IsEntryOf rules limit load before entry
    both all = (
      subst (All (IsEntryOf rules limit load before)) (take-take index (index + 1) befores (omega arith))
          (All-take (IsEntryOf rules limit load before) index (take (index + 1) befores) all),
      All-contains (IsEntryOf rules limit load before) (take index befores ++ entry ∷ []) entry
          (subst (All (IsEntryOf rules limit load before)) whole all) (Contains-push (take index befores) entry),
    )

    met_one : (own : IsEntryOf rules limit load before entry) → All (IsEntryOf rules limit (load + rules.load last) last) mid
        → AddsOne rules limit (start_state rules before own.earlier) entry.weight last mid new
        → All (IsEntryOf rules limit (load + rules.load last) last) new
    met_one own mids (inl none) = subst (All (IsEntryOf rules limit (load + rules.load last) last)) (sym none.0) mids
    met_one own mids (inr added) =
        subst (All (IsEntryOf rules limit (load + rules.load last) last)) (sym added.1)
        (All-push (IsEntryOf rules limit (load + rules.load last) last) mid added.0 mids
        (entry_goes_on rules limit load before last entry added.0 own added.2))

-- nothing goes on from no entry
pub adds_none : (rules : RunRules) (limit : ℤ) (load before last : ℕ) (entries : List KeptState)
    → AddsNexts rules limit load before last [] entries entries
adds_none rules limit load before last entries = record {
  met = λ none all. all;
  covers = λ earlier start load_is covers. absurd (let lt = covers.there.1 in omega (arith, lt));
  keeps = λ entry there. there;
}

-- nothing goes on from entries from none of which anything goes on
pub adds_nothing : (rules : RunRules) (limit : ℤ) (load before last left : ℕ) (befores entries : List KeptState) (count : ℕ)
    → count ≤ length befores → load + rules.load last + left ≡ rules.room
    → ((index : ℕ) (default : KeptState) (state : RunState) → index < length befores
    → Remembers rules state (get_or befores index default).word → state.last ≡ before
    → state.load + rules.load last + left ≡ rules.room
    → IsNextEntry rules limit state (get_or befores index default).weight last None)
    → AddsNexts rules limit load before last (take count befores) entries entries
adds_nothing rules limit load before last left befores entries zero le full none = adds_none rules limit load before last entries
adds_nothing rules limit load before last left befores entries (suc count) le full none =
    let one : count + 1 ≡ suc count = omega arith in
    subst (λ (k : ℕ). AddsNexts rules limit load before last (take k befores) entries entries) one
    (adds_more rules limit load before last left befores entries entries entries [] count
    (get_or befores count (record { word = 0; weight = pos 0 })) (omega (arith, le))
    (get_or_default befores count (record { word = 0; weight = pos 0 }) (get_or befores count (record { word = 0; weight = pos 0 }))
    (omega (arith, le)))
    full
    (λ state remembers at full. inl (refl, none count (record { word = 0; weight = pos 0 }) state (omega (arith, le)) remembers at full))
    (sym (append-nil entries))
    (adds_nothing rules limit load before last left befores entries count (omega (arith, le)) full none))

-- ---- how large weights are

sized_more : (load next : ℕ) (weight : ℤ) (added : ℤ) → load < next
    → IsFromTo (neg_ℤ (pos ((load + 1) * 2 ^ 72))) (pos ((load + 1) * 2 ^ 72)) weight
    → IsFromTo (weight +ℤ neg_ℤ (pos (2 ^ 72))) (weight +ℤ pos (2 ^ 72)) added
    → IsFromTo (neg_ℤ (pos ((next + 1) * 2 ^ 72))) (pos ((next + 1) * 2 ^ 72)) added
sized_more load next weight added less size near =
    let low = size.0 in
    let high = size.1 in
    let from = near.0 in
    let to = near.1 in
    (omega (arith, ints, less, low, from), omega (arith, ints, less, high, to))

pub sizes_go_on : (load next : ℕ) (weight : ℤ) (old new more : List KeptState) → load < next
    → IsFromTo (neg_ℤ (pos ((load + 1) * 2 ^ 72))) (pos ((load + 1) * 2 ^ 72)) weight
    → new ≡ old ++ more
    → All (λ (entry : KeptState). IsFromTo (weight +ℤ neg_ℤ (pos (2 ^ 72))) (weight +ℤ pos (2 ^ 72)) entry.weight) more
    → AreSizedEntries next old → AreSizedEntries next new
sizes_go_on load next weight old new more less size grows near olds =
    let P : KeptState → Type 0 = λ entry. IsFromTo (neg_ℤ (pos ((next + 1) * 2 ^ 72))) (pos ((next + 1) * 2 ^ 72)) entry.weight in
    subst (All P) (sym grows) (All-append P old more olds
    (All-weaker (λ (entry : KeptState). IsFromTo (weight +ℤ neg_ℤ (pos (2 ^ 72))) (weight +ℤ pos (2 ^ 72)) entry.weight) P
    (λ entry near. sized_more load next weight entry.weight less size near) more near))

-- ---- the starts of one customer

no_earlier : (rules : RunRules) (limit : ℤ) (before last : ℕ) (earlier : List ℕ) → before ≤ 0 → IsStart rules limit last (before ∷ earlier) → ⊥
no_earlier rules limit before last earlier le start =
    let customer = last_serves rules limit before earlier start.0 in omega (arith, le, customer.0.0)

pub begins_one : (rules : RunRules) (limit : ℤ) (load last : ℕ) (entry : KeptState) → IsCustomer rules.nodes rules.depot last
    → load ≤ rules.room → rules.load last ≡ load → IsFirstEntry rules limit last (Some entry)
    → IsKeptListTo rules limit load last 0 (entry ∷ [])
begins_one rules limit load last entry customer fits same is = record {
  met = All-cons (IsEntryOf rules limit load last) entry [] (record {
    earlier = [];
    start = (customer, omega (arith, fits, same), is.0);
    load_is = same;
    remembers = is.1;
    weight_is = is.2;
  }) (All-nil (IsEntryOf rules limit load last));
  first = λ start load_is. record {
    entry = entry;
    there = Contains-push [] entry;
    remembers = is.1;
    lighter = let weight = is.2 in omega (arith, ints, weight);
  };
  later = λ before earlier le start load_is. absurd (no_earlier rules limit before last earlier le start);
}

pub begins_none : (rules : RunRules) (limit : ℤ) (load last : ℕ)
    → (rules.load last ≡ load → IsFirstEntry rules limit last None) → IsKeptListTo rules limit load last 0 []
begins_none rules limit load last none = record {
  met = All-nil (IsEntryOf rules limit load last);
  first = λ start load_is. absurd (none load_is start.2);
  later = λ before earlier le start load_is. absurd (no_earlier rules limit before last earlier le start);
}

-- ---- one customer before more

pub list_goes_on : (rules : RunRules) (limit : ℤ) (load before_load before last : ℕ) (befores old new : List KeptState)
    → before_load + rules.load last ≡ load → IsKeptList rules limit before_load before befores
    → AddsNexts rules limit before_load before last befores old new → IsKeptListTo rules limit load last (before - 1) old
    → IsKeptListTo rules limit load last before new
list_goes_on rules limit load before_load before last befores old new sum list adds h = record {
  met = subst (λ (q : ℕ). All (IsEntryOf rules limit q last) new) sum
      (adds.met list.met (subst (λ (q : ℕ). All (IsEntryOf rules limit q last) old) (sym sum) h.met));
  first = λ start load_is. covered_by_more rules old new last [] adds.keeps (h.first start load_is);
  later = λ other earlier le start load_is. elim (cases_eq other before) [
    | inl same ↦ here other same earlier start load_is
    | inr before_it ↦ covered_by_more rules old new last (other ∷ earlier) adds.keeps
        (h.later other earlier (omega (arith, le, before_it)) start load_is)
  ];
}
  where
    own : (earlier : List ℕ) → IsStart rules limit last (before ∷ earlier) → (start_state rules last (before ∷ earlier)).load ≡ load
        → CoversStart rules new last (before ∷ earlier)
    own earlier start load_is =
        let same : (start_state rules before earlier).load ≡ before_load = omega (arith, load_is, sum) in
        adds.covers earlier start same (list.covers earlier start.0 same)

    here : (other : ℕ) → other ≡ before → (earlier : List ℕ) → IsStart rules limit last (other ∷ earlier)
        → (start_state rules last (other ∷ earlier)).load ≡ load → CoversStart rules new last (other ∷ earlier)
    here other same = subst (λ (k : ℕ). (earlier : List ℕ) → IsStart rules limit last (k ∷ earlier)
        → (start_state rules last (k ∷ earlier)).load ≡ load → CoversStart rules new last (k ∷ earlier)) (sym same) own

pub list_skips : (rules : RunRules) (limit : ℤ) (load before last : ℕ) (entries : List KeptState)
    → (before ≡ rules.depot) ⊎ (before ≡ last) → IsKeptListTo rules limit load last (before - 1) entries
    → IsKeptListTo rules limit load last before entries
list_skips rules limit load before last entries never h = record {
  met = h.met;
  first = h.first;
  later = λ other earlier le start load_is. elim (cases_eq other before) [
    | inl same ↦ absurd (elim never [
      | inl depot ↦ (last_serves rules limit other earlier start.0).1 (same ∙ depot)
      | inr it ↦ start.1.other (last_is rules other earlier ∙ (same ∙ it))
    ])
    | inr before_it ↦ h.later other earlier (omega (arith, le, before_it)) start load_is
  ];
}

-- ---- the least entries

pub list_ends : (rules : RunRules) (limit : ℤ) (load last : ℕ) (entries least : List KeptState)
    → IsKeptListTo rules limit load last rules.nodes entries → AreLeastOf entries least → IsKeptList rules limit load last least
list_ends rules limit load last entries least h are = record {
  met = All-weaker (Contains entries) (IsEntryOf rules limit load last)
      (λ entry there. All-contains (IsEntryOf rules limit load last) entries entry h.met there) least are.among;
  covers = covers;
}
  where
    kept : (earlier : List ℕ) → CoversStart rules entries last earlier → CoversStart rules least last earlier
    kept earlier covers =
        let other = are.each covers.entry covers.there in
        let lighter = covers.lighter in
        let less = other.3 in
        record {
          entry = other.0;
          there = other.1;
          remembers = subst (Remembers rules (start_state rules last earlier)) (sym other.2) covers.remembers;
          lighter = omega (arith, ints, lighter, less);
        }

    covers : (earlier : List ℕ) → IsStart rules limit last earlier → (start_state rules last earlier).load ≡ load
        → CoversStart rules least last earlier
    covers [] start load_is = kept [] (h.first start load_is)
    covers (before ∷ earlier) start load_is =
        kept (before ∷ earlier) (h.later before earlier (last_serves rules limit before earlier start.0).0.1 start load_is)

pub no_list : (rules : RunRules) (limit : ℤ) (load last : ℕ) → load < rules.load last → IsKeptList rules limit load last []
no_list rules limit load last heavy = record {
  met = All-nil (IsEntryOf rules limit load last);
  covers = λ earlier start load_is. absurd (let own = holds_own rules last earlier in omega (arith, own, load_is, heavy));
}

-- no start ends if there is no customer
pub no_customer : (rules : RunRules) (limit : ℤ) (load last : ℕ) → (IsCustomer rules.nodes rules.depot last → ⊥)
    → IsKeptList rules limit load last []
no_customer rules limit load last none = record {
  met = All-nil (IsEntryOf rules limit load last);
  covers = λ earlier start load_is. absurd (none (last_serves rules limit last earlier start));
}

-- one entry more, or the lighter one of two with the same memory
pub least_more : (entries old new : List KeptState) (index : ℕ) (entry : KeptState) → index < length entries
    → entry ≡ get_or entries index entry
    → IsLeastAdded old entry new → AreLeastOf (take index entries) old → AreLeastOf (take (index + 1) entries) new
least_more entries old new index entry lt is chosen h =
    subst (λ (xs : List KeptState). AreLeastOf xs new) (sym whole) (elim chosen [
      | inl pushed ↦ subst (AreLeastOf (take index entries ++ entry ∷ [])) (sym pushed.0) (record {
        among = All-push (Contains (take index entries ++ entry ∷ [])) old entry among (Contains-push (take index entries) entry);
        each = λ other there. elim (Contains-push_cases (take index entries) entry other there) [
          | inl before ↦
              let found = h.each other before in
              (found.0, Contains-append_left old (entry ∷ []) found.0 found.1, found.2, found.3)
          | inr it ↦ subst (λ (e : KeptState). Stands (old ++ entry ∷ []) e) it (entry, Contains-push old entry, refl, omega (arith, ints))
        ];
      })
      | inr kept ↦ lighter kept.0 kept.1
    ])
  where
    Stands : List KeptState → KeptState → Type 0
    Stands least entry = (other : KeptState) × Contains least other × (other.word ≡ entry.word) × (other.weight ≤ℤ entry.weight)

    whole : take (index + 1) entries ≡ take index entries ++ entry ∷ []
    whole = take_more entries index entry lt ∙ ap (λ (e : KeptState). take index entries ++ e ∷ []) (sym is)

    among : All (Contains (take index entries ++ entry ∷ [])) old
    among = All-weaker (Contains (take index entries)) (Contains (take index entries ++ entry ∷ []))
        (λ other there. Contains-append_left (take index entries) (entry ∷ []) other there) old h.among

    lighter : EndsWithMemory old entry → KeepsLighter old entry new → AreLeastOf (take index entries ++ entry ∷ []) new
    lighter ends (inl stays) = subst (AreLeastOf (take index entries ++ entry ∷ [])) (sym stays.0) (record {
      among = among;
      each = λ other there. elim (Contains-push_cases (take index entries) entry other there) [
        | inl before ↦ h.each other before
        | inr it ↦ subst (λ (e : KeptState). Stands old e) it (
          get_or old (length old - 1) entry,
          Contains-get_or old (length old - 1) entry (let some = ends.0 in omega (arith, some)),
          ends.1,
          stays.1,
        )
      ];
    })
    lighter ends (inr replaced) = subst (AreLeastOf (take index entries ++ entry ∷ [])) (sym replaced.0) (record {
      among = All-set (Contains (take index entries ++ entry ∷ [])) old (length old - 1) entry (Contains-push (take index entries) entry) among;
      each = λ other there. elim (Contains-push_cases (take index entries) entry other there) [
        | inl before ↦ stands other (h.each other before)
        | inr it ↦ subst (λ (e : KeptState). Stands (set old (length old - 1) entry) e) it (entry, own_there, refl, omega (arith, ints))
      ];
    })
      where
        own_there : Contains (set old (length old - 1) entry) entry
        own_there =
            let some = ends.0 in
            let long = length-set old (length old - 1) entry in
            (length old - 1, omega (arith, some, long), get_or-set_same old (length old - 1) entry entry (omega (arith, some)))

        -- what the last one stood for, this entry stands for; what another one stood for, that still does
        stands : (other : KeptState) → Stands old other → Stands (set old (length old - 1) entry) other
        stands other found = elim (cases_eq found.1.0 (length old - 1)) [
          | inl same ↦
              let inside = found.1.1 in
              let at : get_or old (length old - 1) entry ≡ found.0 =
              get_or_default old (length old - 1) entry found.0 (omega (arith, same, inside))
              ∙ (ap (λ (k : ℕ). get_or old k found.0) (sym same) ∙ found.1.2) in
              let weight = ap (λ (e : KeptState). e.weight) at in
              let lighter = replaced.1 in
              let less = found.3 in
              (entry, own_there, sym ends.1 ∙ (ap (λ (e : KeptState). e.word) at ∙ found.2), omega (arith, ints, weight, lighter, less))
          | inr differs ↦
              let inside = found.1.1 in
              let long = length-set old (length old - 1) entry in (
                found.0,
                (found.1.0, omega (arith, inside, long), get_or-set_other old (length old - 1) found.1.0 entry found.0 differs ∙ found.1.2),
                found.2,
                found.3,
              )
        ]

pub least_of_none : AreLeastOf [] []
least_of_none = record {
  among = All-nil (Contains []);
  each = λ entry there. absurd (let lt = there.1 in omega (arith, lt));
}

-- the order of entries doesn't matter
pub least_of_sorted : (entries sorted least : List KeptState) → IsPermutation entries sorted → AreLeastOf sorted least
    → AreLeastOf entries least
least_of_sorted entries sorted least moved h = record {
  among = All-weaker (Contains sorted) (Contains entries)
      (λ entry there. Contains-permutation sorted entries entry (IsPermutation-sym entries sorted moved) there) least h.among;
  each = λ entry there. h.each entry (Contains-permutation entries sorted entry moved there);
}

-- the least entries are as large as the others
pub least_sized : (load : ℕ) (entries least : List KeptState) → AreLeastOf entries least → AreSizedEntries load entries
    → AreSizedEntries load least
least_sized load entries least h sizes =
    let P : KeptState → Type 0 = λ entry. IsFromTo (neg_ℤ (pos ((load + 1) * 2 ^ 72))) (pos ((load + 1) * 2 ^ 72)) entry.weight in
    All-weaker (Contains entries) P (λ entry there. All-contains P entries entry sizes there) least h.among

-- ---- words rise

pub in_order : (entries : List KeptState) → IsNonDecreasingBy (λ (entry : KeptState). entry.word) entries → AreInOrder entries
in_order entries sorted k d lt = sorted k (k + 1) d (omega arith) lt

-- the last of the least entries has the memory of the last entry so far
pub record EndsAlike (entries least : List KeptState) (index : ℕ) (d : KeptState) : Type 0 where
  pub some : 1 ≤ length least
  pub word : (get_or least (length least - 1) d).word ≡ (get_or entries (index - 1) d).word

-- the least of the first entries
pub record AreLeastTo (entries kept : List KeptState) (index : ℕ) : Type 0 where
  pub least : AreLeastOf (take index entries) kept
  pub rising : AreRising kept
  pub ends : (d : KeptState) → 1 ≤ index → EndsAlike entries kept index d

module _ (entries old new : List KeptState) (index : ℕ) (entry : KeptState) (lt : index < length entries)
    (is : entry ≡ get_or entries index entry) where
  here : (d : KeptState) → get_or entries (index + 1 - 1) d ≡ entry
  here d =
      let back : index + 1 - 1 ≡ index = omega arith in
      ap (λ (k : ℕ). get_or entries k d) back ∙ (get_or_default entries index d entry lt ∙ sym is)

  -- the last one has this memory, whatever the default
  last_word : EndsWithMemory old entry → (d : KeptState) → (get_or old (length old - 1) d).word ≡ entry.word
  last_word ends d =
      let some = ends.0 in
      ap (λ (e : KeptState). e.word) (get_or_default old (length old - 1) d entry (omega (arith, some))) ∙ ends.1

  pub ends_more : IsLeastAdded old entry new → (d : KeptState) → EndsAlike entries new (index + 1) d
  ends_more (inl pushed) d =
      let long = length_push old entry in
      let last : get_or (old ++ entry ∷ []) (length (old ++ entry ∷ []) - 1) d ≡ entry =
      get_or_push old entry d (length (old ++ entry ∷ []) - 1) (omega (arith, long)) in
      subst (λ (xs : List KeptState). EndsAlike entries xs (index + 1) d) (sym pushed.0) (record {
        some = omega (arith, long);
        word = ap (λ (e : KeptState). e.word) (last ∙ sym (here d));
      })
  ends_more (inr kept) d = lighter kept.1
    where
      lighter : KeepsLighter old entry new → EndsAlike entries new (index + 1) d
      lighter (inl stays) = subst (λ (xs : List KeptState). EndsAlike entries xs (index + 1) d) (sym stays.0) (record {
        some = kept.0.0;
        word = last_word kept.0 d ∙ ap (λ (e : KeptState). e.word) (sym (here d));
      })
      lighter (inr replaced) =
          let some = kept.0.0 in
          let long = length-set old (length old - 1) entry in
          let last : get_or (set old (length old - 1) entry) (length (set old (length old - 1) entry) - 1) d ≡ entry =
          ap (λ (n : ℕ). get_or (set old (length old - 1) entry) (n - 1) d) long
          ∙ get_or-set_same old (length old - 1) entry d (omega (arith, some)) in
          subst (λ (xs : List KeptState). EndsAlike entries xs (index + 1) d) (sym replaced.0) (record {
            some = omega (arith, some, long);
            word = ap (λ (e : KeptState). e.word) (last ∙ sym (here d));
          })

  pub rising_more : IsLeastAdded old entry new → AreInOrder entries → AreLeastTo entries old index → AreRising new
  rising_more (inr kept) order h = lighter kept.1
    where
      same_word : (k : ℕ) (d : KeptState) → (get_or (set old (length old - 1) entry) k d).word ≡ (get_or old k d).word
      same_word k d = elim (cases_eq k (length old - 1)) [
        | inl same ↦
            let some = kept.0.0 in
            let new_word = ap (λ (e : KeptState). e.word) (get_or-set_same old (length old - 1) entry d (omega (arith, some))) in
            ap (λ (j : ℕ). (get_or (set old (length old - 1) entry) j d).word) same
            ∙ (new_word ∙ (sym (last_word kept.0 d) ∙ ap (λ (j : ℕ). (get_or old j d).word) (sym same)))
        | inr differs ↦ ap (λ (e : KeptState). e.word) (get_or-set_other old (length old - 1) k entry d differs)
      ]

      lighter : KeepsLighter old entry new → AreRising new
      lighter (inl stays) = subst AreRising (sym stays.0) h.rising
      lighter (inr replaced) = subst AreRising (sym replaced.0) (λ i j d less inside.
          let long = length-set old (length old - 1) entry in
          let up = h.rising i j d less (omega (arith, inside, long)) in
          let first = same_word i d in
          let second = same_word j d in
          omega (arith, up, first, second))
  rising_more (inl pushed) order h =
      subst AreRising (sym pushed.0) (all_pairs_push (λ (a b : KeptState). a.word < b.word) old entry h.rising below)
    where
      -- the last one so far is below this entry
      last_below : (d : KeptState) → 1 ≤ index → (get_or old (length old - 1) d).word < entry.word
      last_below d some =
          let ends = h.ends d some in
          let at : get_or entries (index - 1 + 1) d ≡ entry =
          (let back : index - 1 + 1 ≡ index + 1 - 1 = omega (arith, some) in ap (λ (k : ℕ). get_or entries k d) back) ∙ here d in
          let word = ap (λ (e : KeptState). e.word) at in
          let same = ends.word in
          let up = order (index - 1) d (omega (arith, some, lt)) in
          elim (cases_eq (get_or old (length old - 1) d).word entry.word) [
            | inl alike ↦ absurd (pushed.1 (ends_with d ends.some alike))
            | inr other ↦ omega (arith, same, up, word, other)
          ]
        where
          ends_with : (d : KeptState) → 1 ≤ length old → (get_or old (length old - 1) d).word ≡ entry.word → EndsWithMemory old entry
          ends_with d some word =
              let moved : get_or old (length old - 1) d ≡ get_or old (length old - 1) entry =
              get_or_default old (length old - 1) d entry (omega (arith, some)) in
              (some, subst (λ (e : KeptState). e.word ≡ entry.word) moved word)

      none_before : (k : ℕ) → k < length old → index ≡ 0 → ⊥
      none_before k less none =
          let there = h.least.among k entry less in
          let long = length-take index entries in
          let inside = there.1 in
          omega (arith, inside, long, none)

      below : (k : ℕ) (d : KeptState) → k < length old → (get_or old k d).word < entry.word
      below k d less = elim (cases_eq index 0) [
        | inl none ↦ absurd (none_before k less none)
        | inr some ↦
            let last = last_below d (omega (arith, some)) in
            elim (cases_eq k (length old - 1)) [
              | inl same ↦
                  let moved = ap (λ (j : ℕ). (get_or old j d).word) same in omega (arith, moved, last)
              | inr other ↦
                  let up = h.rising k (length old - 1) d (omega (arith, less, other)) (omega (arith, less)) in
                  omega (arith, up, last)
            ]
      ]
