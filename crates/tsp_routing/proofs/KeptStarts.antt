-- For the law `kept_starts_give_least_runs`: a run below the limit is kept from its first customer to its last, because
-- to go on as it does, and forget, is a way home. And for the law `starts_are_told_from_both_ends` and the files on lists
-- of kept states: starts by their last customer.
use Rattle.tsp_format.specs.Steps.{SubsetRow}
use Rattle.tsp_routing.proofs.Prelude.{◌≡◌, ◌≢◌, ℕ, ◌+◌, ◌≤◌, ◌==◌, ◌&&◌, ◌||◌, Bool, true, false, not, List, [], ◌∷◌, refl, sym, ap, ap₂, ◌∙◌, arith, inl, inr, ◌⊎◌, if◌then◌else◌, ℤ, pos, ◌+ℤ◌, ◌≤ℤ◌, ◌<ℤ◌, AllByRecursion, ints, by_lt_z, cases_Bool, and_right, recursion_from_All, All-from_recursion, sum_int_by, has, subst, IsCustomer}
use Rattle.tsp_routing.specs.KeptStates.{forgetful, bare_state, IsWayHome, home_weight, IsCompletion, IsKeptState, AreKeptFrom, IsKeptStart, AreSameStates, IsLeastKeptRun, CompletionsTellKeptStates, CompletionsAreBelowRests, RunsBelowAreKept, KeptStartsGiveLeastRuns, EqualStatesGoOnAlike, state_after, end_state}
use Rattle.tsp_routing.specs.RunBounds.{IsLeastRun}
use Rattle.tsp_routing.specs.Runs.{keeps, RunRules, RunState, first_state, next_state, MayServe, is_charged, charged, IsRunRest, rest_weight, IsRunUnder, run_weight}
use Rattle.tsp_routing.specs.Starts.{start_state, step_weight, start_weight, IsStart, KeptStartsAreStarts, StartsAreKeptStarts}

-- ---- to forget

-- the same load and customer, with no memory
record IsBare (bare state : RunState) : Type 0 where
  load : bare.load ≡ state.load
  last : bare.last ≡ state.last
  unseen : (customer : ℕ) → bare.seen customer ≡ false

bare_after : (rules : RunRules) (bare state : RunState) (next : ℕ) → IsBare bare state
    → IsBare (next_state (forgetful rules) bare next) (next_state rules state next)
bare_after rules bare state next is = record {
  load = ap (λ (q : ℕ). q + rules.load next) is.load;
  last = refl;
  unseen = λ customer. and_right (bare.seen customer || (customer == bare.last)) false refl;
}

forgets : (rules : RunRules) (bare state : RunState) (rest : List ℕ) → IsBare bare state → IsRunRest rules state rest
    → IsRunRest (forgetful rules) bare rest
forgets rules bare state [] is run = tt
forgets rules bare state (next ∷ rest) is run = (
  record {
    customer = run.0.customer;
    other = λ same. run.0.other (sym is.last ∙ same);
    unseen = is.unseen next;
    within = let within = run.0.within in let load = is.load in omega (arith, within, load);
  },
  forgets rules (next_state (forgetful rules) bare next) (next_state rules state next) rest (bare_after rules bare state next is) run.1,
)

pub pays : (rows : List (SubsetRow × ℤ)) (state : RunState) (next : ℕ) → AllByRecursion (λ (priced : SubsetRow × ℤ). pos 0 ≤ℤ priced.1) rows
    → pos 0 ≤ℤ sum_int_by (λ (priced : SubsetRow × ℤ). if is_charged priced.0 state next then priced.1 else pos 0) rows
pays [] state next low = omega (arith, ints)
pays (row ∷ rows) state next low =
    let own = one (is_charged row.0 state next) row.1 low.0 in
    let rest = pays rows state next low.1 in
    omega (arith, ints, own, rest)
  where
    one : (b : Bool) (g : ℤ) → pos 0 ≤ℤ g → pos 0 ≤ℤ (if b then g else pos 0)
    one true g h = h
    one false g h = omega (arith, ints)

weighs_less : (rules : RunRules) (bare state : RunState) (rest : List ℕ) → IsBare bare state
    → AllByRecursion (λ (priced : SubsetRow × ℤ). pos 0 ≤ℤ priced.1) rules.rows
    → rest_weight (forgetful rules) bare rest ≤ℤ rest_weight rules state rest
weighs_less rules bare state [] is low =
    let same = ap (λ (v : ℕ). rules.weight v rules.depot) is.last in omega (arith, ints, same)
weighs_less rules bare state (next ∷ rest) is low =
    let same = ap (λ (v : ℕ). rules.weight v next) is.last in
    let own = pays rules.rows state next low in
    let later = weighs_less rules (next_state (forgetful rules) bare next) (next_state rules state next) rest
    (bare_after rules bare state next is) low in
    omega (arith, ints, same, own, later)

begins_bare : (state : RunState) → IsBare (bare_state state.load state.last) state
begins_bare state = record { load = refl; last = refl; unseen = λ customer. refl }

-- ---- completions

pub completions_tell_kept_states : CompletionsTellKeptStates
completions_tell_kept_states rules limit state weight least is = (
  λ kept. let own = is.1 kept.0 kept.1 in let under = kept.2 in omega (arith, ints, own, under),
  λ under. let same = is.0.2 in (is.0.0, is.0.1, omega (arith, ints, same, under)),
)

pub completions_are_below_rests : CompletionsAreBelowRests
completions_are_below_rests rules state rest least signs is run =
    let bare = bare_state state.load state.last in
    let own = is.1 rest (forgets rules bare state rest (begins_bare state) run) in
    let less = weighs_less rules bare state rest (begins_bare state)
    (recursion_from_All (λ (priced : SubsetRow × ℤ). pos 0 ≤ℤ priced.1) rules.rows signs) in
    omega (arith, ints, own, less)

-- ---- kept starts

kept_from : (rules : RunRules) (limit : ℤ) (state : RunState) (weight : ℤ) (rest : List ℕ)
    → AllByRecursion (λ (priced : SubsetRow × ℤ). pos 0 ≤ℤ priced.1) rules.rows → IsRunRest rules state rest
    → (weight +ℤ rest_weight rules state rest) <ℤ limit → AreKeptFrom rules limit state weight rest
kept_from rules limit state weight [] low run under = ([], tt, under)
kept_from rules limit state weight (next ∷ rest) low run under =
    let bare = bare_state state.load state.last in
    let less = weighs_less rules bare state (next ∷ rest) (begins_bare state) low in (
      (next ∷ rest, forgets rules bare state (next ∷ rest) (begins_bare state) run, omega (arith, ints, less, under)),
      run.0,
      kept_from rules limit (next_state rules state next)
          (weight +ℤ (rules.weight state.last next +ℤ charged rules state next)) rest low run.1 (omega (arith, ints, under)),
    )

is_run_from : (rules : RunRules) (limit : ℤ) (state : RunState) (weight : ℤ) (rest : List ℕ)
    → AreKeptFrom rules limit state weight rest → IsRunRest rules state rest
is_run_from rules limit state weight [] kept = tt
is_run_from rules limit state weight (next ∷ rest) kept = (
  kept.1,
  is_run_from rules limit (next_state rules state next) (weight +ℤ (rules.weight state.last next +ℤ charged rules state next))
      rest kept.2,
)

is_run : (rules : RunRules) (limit : ℤ) (nodes : List ℕ) → IsKeptStart rules limit nodes → IsRunUnder rules nodes
is_run rules limit [] kept = kept
is_run rules limit (first ∷ rest) kept =
    (kept.0, kept.1, is_run_from rules limit (first_state rules first) (rules.weight rules.depot first) rest kept.2)

is_kept : (rules : RunRules) (limit : ℤ) (nodes : List ℕ)
    → AllByRecursion (λ (priced : SubsetRow × ℤ). pos 0 ≤ℤ priced.1) rules.rows → IsRunUnder rules nodes
    → run_weight rules nodes <ℤ limit → IsKeptStart rules limit nodes
is_kept rules limit [] low run under = run
is_kept rules limit (first ∷ rest) low run under =
    (run.0, run.1, kept_from rules limit (first_state rules first) (rules.weight rules.depot first) rest low run.2 under)

pub runs_below_are_kept : RunsBelowAreKept
runs_below_are_kept rules limit nodes signs =
    let low = recursion_from_All (λ (priced : SubsetRow × ℤ). pos 0 ≤ℤ priced.1) rules.rows signs in
    (is_kept rules limit nodes low, is_run rules limit nodes)

under_or_not : (a b : ℤ) → (a <ℤ b) ⊎ (b ≤ℤ a)
under_or_not a b = by_lt_z a b (λ under. inl under) (λ above. inr above)

pub kept_starts_give_least_runs : KeptStartsGiveLeastRuns
kept_starts_give_least_runs rules limit each signs = (from_kept, to_kept)
  where
    low : AllByRecursion (λ (priced : SubsetRow × ℤ). pos 0 ≤ℤ priced.1) rules.rows
    low = recursion_from_All (λ (priced : SubsetRow × ℤ). pos 0 ≤ℤ priced.1) rules.rows signs

    from_kept : IsLeastKeptRun rules limit each → IsLeastRun rules limit each
    from_kept is = record {
      within = is.within;
      below = λ nodes run. elim (under_or_not (run_weight rules nodes) limit) [
        | inl under ↦ is.below nodes (is_kept rules limit nodes low run under)
        | inr above ↦ let within = is.within in omega (arith, ints, within, above)
      ];
      met = elim is.met [
        | inl same ↦ inl same
        | inr found ↦ inr (found.0, is_run rules limit found.0 found.1, found.2)
      ];
    }

    to_kept : IsLeastRun rules limit each → IsLeastKeptRun rules limit each
    to_kept is = record {
      within = is.within;
      below = λ nodes kept. is.below nodes (is_run rules limit nodes kept);
      met = elim is.met [
        | inl same ↦ inl same
        | inr found ↦ elim (under_or_not (run_weight rules found.0) limit) [
          | inl under ↦ inr (found.0, is_kept rules limit found.0 low found.1 under, found.2)
          | inr above ↦ inl (let within = is.within in let same = found.2 in omega (arith, ints, within, above, same))
        ]
      ];
    }

-- ---- equal states

-- what `AreSameStates` says, with the rows by recursion
record Alike (rows : List (SubsetRow × ℤ)) (a b : RunState) : Type 0 where
  load : a.load ≡ b.load
  last : a.last ≡ b.last
  seen : (customer : ℕ) → a.seen customer ≡ b.seen customer
  odd : AllByRecursion (λ (priced : SubsetRow × ℤ). a.odd priced.0 ≡ b.odd priced.0) rows

odd_after : (rows : List (SubsetRow × ℤ)) (a b : RunState) (next : ℕ)
    → AllByRecursion (λ (priced : SubsetRow × ℤ). a.odd priced.0 ≡ b.odd priced.0) rows
    → AllByRecursion (λ (priced : SubsetRow × ℤ).
    (keeps priced.0 next && (if has priced.0.set next then not (a.odd priced.0) else a.odd priced.0))
    ≡ (keeps priced.0 next && (if has priced.0.set next then not (b.odd priced.0) else b.odd priced.0))) rows
odd_after [] a b next same = tt
odd_after (row ∷ rows) a b next same =
    (ap (λ (odd : Bool). keeps row.0 next && (if has row.0.set next then not odd else odd)) same.0, odd_after rows a b next same.1)

alike_after : (rules : RunRules) (a b : RunState) (next : ℕ) → Alike rules.rows a b
    → Alike rules.rows (next_state rules a next) (next_state rules b next)
alike_after rules a b next same = record {
  load = ap (λ (q : ℕ). q + rules.load next) same.load;
  last = refl;
  seen = λ customer. ap₂ (λ (s : Bool) (v : ℕ). (s || (customer == v)) && has (rules.near next) customer) (same.seen customer) same.last;
  odd = odd_after rules.rows a b next same.odd;
}

charged_alike : (rows : List (SubsetRow × ℤ)) (a b : RunState) (next : ℕ)
    → AllByRecursion (λ (priced : SubsetRow × ℤ). a.odd priced.0 ≡ b.odd priced.0) rows
    → sum_int_by (λ (priced : SubsetRow × ℤ). if is_charged priced.0 a next then priced.1 else pos 0) rows
    ≡ sum_int_by (λ (priced : SubsetRow × ℤ). if is_charged priced.0 b next then priced.1 else pos 0) rows
charged_alike [] a b next same = refl
charged_alike (row ∷ rows) a b next same =
    let own = ap (λ (odd : Bool). if odd && has row.0.set next then row.1 else pos 0) same.0 in
    let rest = charged_alike rows a b next same.1 in
    omega (arith, ints, own, rest)

go_on_alike : (rules : RunRules) (a b : RunState) (rest : List ℕ) → Alike rules.rows a b → IsRunRest rules a rest
    → IsRunRest rules b rest × (rest_weight rules a rest ≡ rest_weight rules b rest)
go_on_alike rules a b [] same run = (tt, ap (λ (v : ℕ). rules.weight v rules.depot) same.last)
go_on_alike rules a b (next ∷ rest) same run =
    let later = go_on_alike rules (next_state rules a next) (next_state rules b next) rest (alike_after rules a b next same) run.1 in
    let link = ap (λ (v : ℕ). rules.weight v next) same.last in
    let paid = charged_alike rules.rows a b next same.odd in
    let weights = later.1 in (
      (
        record {
          customer = run.0.customer;
          other = λ is. run.0.other (same.last ∙ is);
          unseen = sym (same.seen next) ∙ run.0.unseen;
          within = let within = run.0.within in let load = same.load in omega (arith, within, load);
        },
        later.0,
      ),
      omega (arith, ints, link, paid, weights),
    )

pub equal_states_go_on_alike : EqualStatesGoOnAlike
equal_states_go_on_alike rules a b rest same run =
    go_on_alike rules a b rest (record {
      load = same.load;
      last = same.last;
      seen = same.seen;
      odd = recursion_from_All (λ (priced : SubsetRow × ℤ). a.odd priced.0 ≡ b.odd priced.0) rules.rows same.odd;
    }) run

-- a way home after one customer more is one before it
pub step_home : (rules : RunRules) (state : RunState) (next : ℕ) (rest : List ℕ) → MayServe rules state next
    → IsWayHome rules (state.load + rules.load next) next rest
    → IsWayHome rules state.load state.last (next ∷ rest)
    × (home_weight rules state.load state.last (next ∷ rest)
    ≡ rules.weight state.last next +ℤ home_weight rules (state.load + rules.load next) next rest)
step_home rules state next rest may home =
    let bare = bare_state (state.load + rules.load next) next in
    let after = next_state (forgetful rules) (bare_state state.load state.last) next in
    let alike : Alike [] bare after = record {
      load = refl;
      last = refl;
      seen = λ customer. sym (and_right (false || (customer == state.last)) false refl);
      odd = tt;
    } in
    let on = go_on_alike (forgetful rules) bare after rest alike home in
    let same = on.1 in (
      (record { customer = may.customer; other = may.other; unseen = refl; within = may.within }, on.0),
      omega (arith, ints, same),
    )

-- a way home on which a customer comes next goes on as one from there
pub home_after : (rules : RunRules) (load last next : ℕ) (rest : List ℕ) → IsWayHome rules load last (next ∷ rest)
    → IsWayHome rules (load + rules.load next) next rest
    × (home_weight rules load last (next ∷ rest)
    ≡ rules.weight last next +ℤ home_weight rules (load + rules.load next) next rest)
home_after rules load last next rest home =
    let bare = bare_state (load + rules.load next) next in
    let after = next_state (forgetful rules) (bare_state load last) next in
    let alike : Alike [] after bare = record {
      load = refl;
      last = refl;
      seen = λ customer. and_right (false || (customer == last)) false refl;
      odd = tt;
    } in
    let on = go_on_alike (forgetful rules) after bare rest alike home.1 in
    let same = on.1 in (on.0, omega (arith, ints, same))

-- ---- starts by their last customer

-- the last customer is the state's
pub last_is : (rules : RunRules) (last : ℕ) (earlier : List ℕ) → (start_state rules last earlier).last ≡ last
last_is rules last [] = refl
last_is rules last (before ∷ earlier) = refl

-- the last customer is one
pub last_serves : (rules : RunRules) (limit : ℤ) (last : ℕ) (earlier : List ℕ) → IsStart rules limit last earlier
    → IsCustomer rules.nodes rules.depot last
last_serves rules limit last [] start = start.0
last_serves rules limit last (before ∷ earlier) start = start.1.customer

-- its own load is in that of the state
pub holds_own : (rules : RunRules) (last : ℕ) (earlier : List ℕ) → rules.load last ≤ (start_state rules last earlier).load
holds_own rules last [] = omega arith
holds_own rules last (before ∷ earlier) = omega arith

-- no state loads more than a route can
pub within_room : (rules : RunRules) (limit : ℤ) (last : ℕ) (earlier : List ℕ) → IsStart rules limit last earlier
    → (start_state rules last earlier).load ≤ rules.room
within_room rules limit last [] start = start.1
within_room rules limit last (before ∷ earlier) start = start.1.within

-- what weighs less is kept as well
pub lighter_is_kept : (rules : RunRules) (limit : ℤ) (state : RunState) (weight lighter : ℤ) → IsKeptState rules limit state weight
    → lighter ≤ℤ weight → IsKeptState rules limit state lighter
lighter_is_kept rules limit state weight lighter kept less =
    let under = kept.2 in (kept.0, kept.1, omega (arith, ints, under, less))

state_is_kept : (rules : RunRules) (limit : ℤ) (last : ℕ) (earlier : List ℕ) → IsStart rules limit last earlier
    → IsKeptState rules limit (start_state rules last earlier) (start_weight rules last earlier)
state_is_kept rules limit last [] start = start.2
state_is_kept rules limit last (before ∷ earlier) start = start.2

-- ---- from the first customer to the last

goes_on : (rules : RunRules) (limit : ℤ) (last : ℕ) (earlier : List ℕ) (rest : List ℕ) → IsStart rules limit last earlier
    → AreKeptFrom rules limit (start_state rules last earlier) (start_weight rules last earlier) rest
    → (end : ℕ) × (others : List ℕ) × IsStart rules limit end others
    × (start_state rules end others ≡ state_after rules (start_state rules last earlier) rest)
    × (start_weight rules end others +ℤ rules.weight (start_state rules end others).last rules.depot
    ≡ start_weight rules last earlier +ℤ rest_weight rules (start_state rules last earlier) rest)
goes_on rules limit last earlier [] start kept = (last, earlier, start, refl, refl)
goes_on rules limit last earlier (next ∷ rest) start kept =
    let later = goes_on rules limit next (last ∷ earlier) rest (start, kept.1, after rest kept.2) kept.2 in
    let same = later.4 in
    (later.0, later.1, later.2, later.3, omega (arith, ints, same))
  where
    after : (rest : List ℕ)
        → AreKeptFrom rules limit (start_state rules next (last ∷ earlier)) (start_weight rules next (last ∷ earlier)) rest
        → IsKeptState rules limit (start_state rules next (last ∷ earlier)) (start_weight rules next (last ∷ earlier))
    after [] kept = kept
    after (one ∷ rest) kept = kept.0

pub kept_starts_are_starts : KeptStartsAreStarts
kept_starts_are_starts rules limit [] kept = absurd kept
kept_starts_are_starts rules limit (first ∷ rest) kept =
    goes_on rules limit first [] rest (kept.0, kept.1, after rest kept.2) kept.2
  where
    after : (rest : List ℕ) → AreKeptFrom rules limit (first_state rules first) (rules.weight rules.depot first) rest
        → IsKeptState rules limit (first_state rules first) (rules.weight rules.depot first)
    after [] kept = kept
    after (one ∷ rest) kept = kept.0

-- ---- from the last customer to the first

goes_back : (rules : RunRules) (limit : ℤ) (last : ℕ) (earlier : List ℕ) (rest : List ℕ) → IsStart rules limit last earlier
    → AreKeptFrom rules limit (start_state rules last earlier) (start_weight rules last earlier) rest
    → (nodes : List ℕ) × IsKeptStart rules limit nodes
    × (state_after rules (start_state rules last earlier) rest ≡ end_state rules nodes)
    × (start_weight rules last earlier +ℤ rest_weight rules (start_state rules last earlier) rest ≡ run_weight rules nodes)
goes_back rules limit last [] rest start kept = (last ∷ rest, (start.0, start.1, kept), refl, refl)
goes_back rules limit last (before ∷ earlier) rest start kept =
    let whole = goes_back rules limit before earlier (last ∷ rest) start.0
    (state_is_kept rules limit before earlier start.0, start.1, kept) in
    let same = whole.3 in
    (whole.0, whole.1, whole.2, omega (arith, ints, same))

pub starts_are_kept_starts : StartsAreKeptStarts
starts_are_kept_starts rules limit last earlier start =
    goes_back rules limit last earlier [] start (state_is_kept rules limit last earlier start)
