-- For src/run_bound.rt: the least of the limit and of what kept states weigh with the link to the depot is that of runs.
-- Runs and kept states are the same by rows in memory and by the numbers of a leaf, no run weighs so little that sums
-- with it leave 128 bits, and rows give back what they charge, half as often as their sets have customers.
use Rattle.tsp_format.specs.Steps.{SubsetRow}
use Rattle.tsp_format.specs.declared.steps.RowSets.{RowSets}
use Rattle.tsp_format.specs.states.TreeSteps.{subset_row_of}
use Rattle.tsp_routing.proofs.KeptStarts.{pays, kept_starts_give_least_runs, last_is, last_serves, within_room, kept_starts_are_starts, starts_are_kept_starts}
use Rattle.tsp_routing.proofs.Prelude.{◌≡◌, ℕ, ◌+◌, ◌-◌, ◌*◌, ◌≤◌, List, [], ◌∷◌, arith, inl, inr, ◌⊎◌, ℤ, pos, neg_ℤ, ◌+ℤ◌, ◌≤ℤ◌, AllByRecursion, ints, recursion_from_All, IsNode, IsCustomer, ◌≢◌, zero, suc, ◌<◌, ◌==◌, ◌&&◌, ◌||◌, Bool, false, not, length, get_or, refl, sym, ap, ◌∙◌, subst, if◌then◌else◌, Vec, IsFromTo, least_at, has, ◌<ℤ◌, Option, Some, None, ◌++◌, take, All, Contains, cases_eq, take_more, All-push, All-contains, All-weaker, Contains-append_left, Contains-push, ◌/◌, map, drop, ap₂, ◌*ℤ◌, drop_more}
use Rattle.tsp_routing.specs.KeptStates.{bare_state, IsKeptState, AreKeptFrom, IsKeptStart, state_after, end_state, AreSameStates, HasKeptStates, most_states}
use Rattle.tsp_routing.specs.PlanBounds.{most_link}
use Rattle.tsp_routing.specs.RunBounds.{IsLeastRun}
use Rattle.tsp_routing.specs.Runs.{RunRules, RunState, first_state, next_state, charged, IsRunRest, rest_weight, IsRunUnder, run_weight, AreCharges, keeps, MayServe, half, halves_total}
use Rattle.tsp_routing.specs.Starts.{start_state, start_weight, IsStart}
use Rattle.tsp_routing.specs.declared.kept_states.KeptState.{KeptState}
use Rattle.tsp_routing.specs.states.KeptLists.{IsLeastRunIfFew, IsEntryOf, AreStateRows, list_in, IsBelowEntries, IsMetBy, IsBelowLoad, IsMetAtLoad, IsBelowTable, IsMetBelow}
use Rattle.tsp_routing.specs.states.LeafWeights.{IsWeightRow, AreFirstRows}
use Rattle.tsp_routing.specs.states.RunJudged.{halves_with, HalvesAreTotal}
use Rattle.tsp_routing.specs.states.RunTables.{item_lists, row_in, link_in, AreLinkRows}

-- no link is longer, and no customer loads nothing
pub record AreSizedRules (rules : RunRules) : Type 0 where
  pub depot : IsNode rules.nodes rules.depot
  pub links : (i j : ℕ) → IsNode rules.nodes i → IsNode rules.nodes j → neg_ℤ (pos most_link) ≤ℤ rules.weight i j
  pub loads : (node : ℕ) → IsCustomer rules.nodes rules.depot node → 1 ≤ rules.load node

rest_sized : (rules : RunRules) (state : RunState) (rest : List ℕ) (left : ℕ) → AreSizedRules rules
    → AllByRecursion (λ (priced : SubsetRow × ℤ). pos 0 ≤ℤ priced.1) rules.rows → IsNode rules.nodes state.last
    → state.load + left ≡ rules.room → IsRunRest rules state rest
    → neg_ℤ (pos ((left + 1) * most_link)) ≤ℤ rest_weight rules state rest
rest_sized rules state [] left sized low there full run =
    let link = sized.links state.last rules.depot there sized.depot in omega (arith, ints, link)
rest_sized rules state (next ∷ rest) left sized low there full run =
    let customer = run.0.customer in
    let within = run.0.within in
    let one = sized.loads next customer in
    let link = sized.links state.last next there customer.0 in
    let pay = pays rules.rows state next low in
    let fits : (k : ℕ) × (state.load + rules.load next + k ≡ rules.room) =
    (rules.room - (state.load + rules.load next), omega (arith, within)) in
    let is = fits.1 in
    let later = rest_sized rules (next_state rules state next) rest fits.0 sized low customer.0 is run.1 in
    omega (arith, ints, link, pay, later, one, full, is)

pub runs_are_sized : (rules : RunRules) (nodes : List ℕ) → AreSizedRules rules → AreCharges rules.rows → IsRunUnder rules nodes
    → neg_ℤ (pos ((rules.room + 1) * most_link)) ≤ℤ run_weight rules nodes
runs_are_sized rules [] sized signs run = absurd run
runs_are_sized rules (first ∷ rest) sized signs run =
    let within = run.1 in
    let one = sized.loads first run.0 in
    let link = sized.links rules.depot first sized.depot run.0.0 in
    let fits : (k : ℕ) × (rules.load first + k ≡ rules.room) = (rules.room - rules.load first, omega (arith, within)) in
    let is = fits.1 in
    let later = rest_sized rules (first_state rules first) rest fits.0 sized
    (recursion_from_All (λ (priced : SubsetRow × ℤ). pos 0 ≤ℤ priced.1) rules.rows signs) run.0.0 is run.2 in
    omega (arith, ints, link, later, one, is)

pub least_runs_are_sized : (rules : RunRules) (limit least : ℤ) → AreSizedRules rules → AreCharges rules.rows
    → neg_ℤ (pos most_link) ≤ℤ limit → IsLeastRun rules limit least → neg_ℤ (pos ((rules.room + 1) * most_link)) ≤ℤ least
least_runs_are_sized rules limit least sized signs low is = elim is.met [
  | inl same ↦ omega (arith, ints, same, low)
  | inr found ↦
      let weight = runs_are_sized rules found.0 sized signs found.1 in
      let same = found.2 in
      omega (arith, ints, weight, same)
]

-- ---- runs by the same loads and weights are the same

-- rules by their loads and weights
abbrev pub with_numbers : ℕ → ℕ → ℕ → (ℕ → List ℕ) → List (SubsetRow × ℤ) → (ℕ → ℕ) → (ℕ → ℕ → ℤ) → RunRules
with_numbers n depot room near rows load weight =
    record { nodes = n; depot = depot; load = load; room = room; weight = weight; near = near; rows = rows }

-- the next state with this load
abbrev pub at_load : (ℕ → List ℕ) → RunState → ℕ → ℕ → RunState
at_load near state next q = record {
  load = q;
  last = next;
  seen = λ customer. (state.seen customer || (customer == state.last)) && has (near next) customer;
  odd = λ row. keeps row next && (if has row.set next then not (state.odd row) else state.odd row);
}

abbrev pub first_at : ℕ → ℕ → RunState
first_at first q = record { load = q; last = first; seen = λ customer. false; odd = λ row. has row.set first }

module _ (n depot room : ℕ) (near : ℕ → List ℕ) (rows : List (SubsetRow × ℤ)) (there : IsNode n depot) where
  pub rest_alike : (load other : ℕ → ℕ) (weight same : ℕ → ℕ → ℤ) → ((node : ℕ) → IsNode n node → load node ≡ other node)
      → ((i j : ℕ) → IsNode n i → IsNode n j → weight i j ≡ same i j) → (state : RunState) (rest : List ℕ) → IsNode n state.last
      → IsRunRest (with_numbers n depot room near rows load weight) state rest
      → IsRunRest (with_numbers n depot room near rows other same) state rest
      × (rest_weight (with_numbers n depot room near rows load weight) state rest
      ≡ rest_weight (with_numbers n depot room near rows other same) state rest)
  rest_alike load other weight same loads weights state [] last run = (tt, weights state.last depot last there)
  rest_alike load other weight same loads weights state (next ∷ rest) last run =
      let customer = run.0.customer in
      let within = run.0.within in
      let load_is = loads next customer.0 in
      let after = next_state (with_numbers n depot room near rows load weight) state next in
      let moved : after ≡ next_state (with_numbers n depot room near rows other same) state next =
      ap (λ (q : ℕ). at_load near state next (state.load + q)) load_is in
      let later = rest_alike load other weight same loads weights after rest customer.0 run.1 in
      let weighs = later.1 in
      let on = ap (λ (s : RunState). rest_weight (with_numbers n depot room near rows other same) s rest) moved in
      let link = weights state.last next last customer.0 in (
        (
          record {
            customer = customer;
            other = run.0.other;
            unseen = run.0.unseen;
            within = omega (arith, within, load_is);
          },
          subst (λ (s : RunState). IsRunRest (with_numbers n depot room near rows other same) s rest) moved later.0,
        ),
        omega (arith, ints, link, weighs, on),
      )

  run_alike : (load other : ℕ → ℕ) (weight same : ℕ → ℕ → ℤ) → ((node : ℕ) → IsNode n node → load node ≡ other node)
      → ((i j : ℕ) → IsNode n i → IsNode n j → weight i j ≡ same i j) → (nodes : List ℕ)
      → IsRunUnder (with_numbers n depot room near rows load weight) nodes
      → IsRunUnder (with_numbers n depot room near rows other same) nodes
      × (run_weight (with_numbers n depot room near rows load weight) nodes
      ≡ run_weight (with_numbers n depot room near rows other same) nodes)
  run_alike load other weight same loads weights [] run = absurd run
  run_alike load other weight same loads weights (first ∷ rest) run =
      let fits = run.1 in
      let load_is = loads first run.0.0 in
      let begun = first_state (with_numbers n depot room near rows load weight) first in
      let moved : begun ≡ first_state (with_numbers n depot room near rows other same) first = ap (λ (q : ℕ). first_at first q) load_is in
      let later = rest_alike load other weight same loads weights begun rest run.0.0 run.2 in
      let weighs = later.1 in
      let on = ap (λ (s : RunState). rest_weight (with_numbers n depot room near rows other same) s rest) moved in
      let link = weights depot first there run.0.0 in (
        (
          run.0,
          omega (arith, fits, load_is),
          subst (λ (s : RunState). IsRunRest (with_numbers n depot room near rows other same) s rest) moved later.0,
        ),
        omega (arith, ints, link, weighs, on),
      )

  pub least_alike : (load other : ℕ → ℕ) (weight same : ℕ → ℕ → ℤ) (limit each : ℤ) → ((node : ℕ) → IsNode n node → load node ≡ other node)
      → ((i j : ℕ) → IsNode n i → IsNode n j → weight i j ≡ same i j)
      → IsLeastRun (with_numbers n depot room near rows load weight) limit each
      → IsLeastRun (with_numbers n depot room near rows other same) limit each
  least_alike load other weight same limit each loads weights is = record {
    within = is.within;
    below = λ nodes run.
        let back = run_alike other load same weight (λ node inside. sym (loads node inside)) (λ i j first second. sym (weights i j first second))
        nodes run in
        let own = is.below nodes back.0 in
        let weighs = back.1 in
        omega (arith, ints, own, weighs);
    met = elim is.met [
      | inl at ↦ inl at
      | inr found ↦
          let run = run_alike load other weight same loads weights found.0 found.1 in
          inr (found.0, run.0, found.2 ∙ run.1)
    ];
  }

-- ---- rows of weights in memory

row_at : (P : List ℤ → Type 0) (rows : List (Vec ℤ)) (k : ℕ) → k < length rows → ((d : Vec ℤ) → P (get_or rows k d).items)
    → P (get_or (item_lists rows) k [])
row_at P [] k lt all = absurd (omega (arith, lt))
row_at P (row ∷ rows) zero lt all = all row
row_at P (row ∷ rows) (suc k) lt all = row_at P rows k (omega (arith, lt)) all

first_row : (n : ℕ) (w : ℕ → ℕ → ℤ) (rows : List (Vec ℤ)) → AreFirstRows n w n rows → (node : ℕ) → IsNode n node
    → IsWeightRow n (w node) (row_in rows node)
first_row n w rows are node there =
    let many = are.many in
    let back : node - 1 + 1 ≡ node = omega (arith, there.0) in
    subst (λ (k : ℕ). IsWeightRow n (w k) (row_in rows node)) back
    (row_at (IsWeightRow n (w (node - 1 + 1))) rows (node - 1) (omega (arith, there.0, there.1, many))
    (λ d. are.each (node - 1) d (omega (arith, there.0, there.1))))

pub link_rows_are : (n : ℕ) (w : ℕ → ℕ → ℤ) (rows : List (Vec ℤ)) → AreFirstRows n w n rows → AreLinkRows n rows
link_rows_are n w rows are = record {
  many = are.many;
  places = λ node there. (first_row n w rows are node there).places;
  sizes = λ i j first second. (first_row n w rows are i first).sizes j second;
}

pub links_are : (n : ℕ) (w : ℕ → ℕ → ℤ) (rows : List (Vec ℤ)) → AreFirstRows n w n rows → (i j : ℕ) → IsNode n i → IsNode n j
    → link_in rows i j ≡ w i j
links_are n w rows are i j first second = (first_row n w rows are i first).values j second

-- ---- and so are kept states

module _ (n depot room : ℕ) (near : ℕ → List ℕ) (rows : List (SubsetRow × ℤ)) (there : IsNode n depot) (load other : ℕ → ℕ)
    (weight same : ℕ → ℕ → ℤ) (loads : (node : ℕ) → IsNode n node → load node ≡ other node)
    (weights : (i j : ℕ) → IsNode n i → IsNode n j → weight i j ≡ same i j) (limit : ℤ) where
  kept_alike : (state : RunState) (so_far : ℤ) → IsNode n state.last
      → IsKeptState (with_numbers n depot room near rows load weight) limit state so_far
      → IsKeptState (with_numbers n depot room near rows other same) limit state so_far
  kept_alike state so_far last kept =
      let run = rest_alike n depot room (λ (customer : ℕ). []) [] there load other weight same loads weights
      (bare_state state.load state.last) kept.0 last kept.1 in
      let under = kept.2 in
      let weighs = run.1 in
      (kept.0, run.0, omega (arith, ints, under, weighs))

  from_alike : (state : RunState) (so_far : ℤ) (rest : List ℕ) → IsNode n state.last
      → AreKeptFrom (with_numbers n depot room near rows load weight) limit state so_far rest
      → AreKeptFrom (with_numbers n depot room near rows other same) limit state so_far rest
      × (state_after (with_numbers n depot room near rows load weight) state rest
      ≡ state_after (with_numbers n depot room near rows other same) state rest)
  from_alike state so_far [] last kept = (kept_alike state so_far last kept, refl)
  from_alike state so_far (next ∷ rest) last kept =
      let may = kept.1 in
      let customer = may.customer in
      let within = may.within in
      let load_is = loads next customer.0 in
      let after = next_state (with_numbers n depot room near rows load weight) state next in
      let moved : after ≡ next_state (with_numbers n depot room near rows other same) state next =
      ap (λ (q : ℕ). at_load near state next (state.load + q)) load_is in
      let link = weights state.last next last customer.0 in
      let step : so_far +ℤ (weight state.last next +ℤ charged (with_numbers n depot room near rows load weight) state next)
      ≡ so_far +ℤ (same state.last next +ℤ charged (with_numbers n depot room near rows other same) state next) =
      ap (λ (z : ℤ). so_far +ℤ (z +ℤ charged (with_numbers n depot room near rows other same) state next)) link in
      let later = from_alike after
      (so_far +ℤ (weight state.last next +ℤ charged (with_numbers n depot room near rows load weight) state next)) rest customer.0 kept.2 in (
        (
          kept_alike state so_far last kept.0,
          record { customer = customer; other = may.other; unseen = may.unseen; within = omega (arith, within, load_is) },
          subst (λ (s : RunState). AreKeptFrom (with_numbers n depot room near rows other same) limit s
              (so_far +ℤ (same state.last next +ℤ charged (with_numbers n depot room near rows other same) state next)) rest) moved
              (subst (λ (z : ℤ). AreKeptFrom (with_numbers n depot room near rows other same) limit after z rest) step later.0),
        ),
        later.1 ∙ ap (λ (s : RunState). state_after (with_numbers n depot room near rows other same) s rest) moved,
      )

  start_alike : (nodes : List ℕ) → IsKeptStart (with_numbers n depot room near rows load weight) limit nodes
      → IsKeptStart (with_numbers n depot room near rows other same) limit nodes
      × (end_state (with_numbers n depot room near rows load weight) nodes
      ≡ end_state (with_numbers n depot room near rows other same) nodes)
  start_alike [] kept = absurd kept
  start_alike (first ∷ rest) kept =
      let fits = kept.1 in
      let load_is = loads first kept.0.0 in
      let begun = first_state (with_numbers n depot room near rows load weight) first in
      let moved : begun ≡ first_state (with_numbers n depot room near rows other same) first = ap (λ (q : ℕ). first_at first q) load_is in
      let link = weights depot first there kept.0.0 in
      let later = from_alike begun (weight depot first) rest kept.0.0 kept.2 in (
        (
          kept.0,
          omega (arith, fits, load_is),
          subst (λ (s : RunState). AreKeptFrom (with_numbers n depot room near rows other same) limit s (same depot first) rest) moved
              (subst (λ (z : ℤ). AreKeptFrom (with_numbers n depot room near rows other same) limit begun z rest) link later.0),
        ),
        later.1 ∙ ap (λ (s : RunState). state_after (with_numbers n depot room near rows other same) s rest) moved,
      )

  pub states_alike : (count : ℕ) → HasKeptStates (with_numbers n depot room near rows load weight) limit count
      → HasKeptStates (with_numbers n depot room near rows other same) limit count
  states_alike count states = (
    states.0,
    states.1,
    λ k d lt. (start_alike (get_or states.0 k d) (states.2 k d lt)).0,
    λ i j d less inside alike.
        let first = (start_alike (get_or states.0 i d) (states.2 i d (omega (arith, less, inside)))).1 in
        let second = (start_alike (get_or states.0 j d) (states.2 j d inside)).1 in
        states.3 i j d less inside
        (subst (λ (s : RunState). AreSameStates (with_numbers n depot room near rows load weight) s
        (end_state (with_numbers n depot room near rows load weight) (get_or states.0 j d))) (sym first)
        (subst (λ (s : RunState). AreSameStates (with_numbers n depot room near rows load weight)
        (end_state (with_numbers n depot room near rows other same) (get_or states.0 i d)) s) (sym second)
        (record { load = alike.load; last = alike.last; seen = alike.seen; odd = alike.odd }))),
  )

-- the same is found
pub found_alike : (n depot room : ℕ) (near : ℕ → List ℕ) (rows : List (SubsetRow × ℤ)) → IsNode n depot → (load other : ℕ → ℕ)
    (weight same : ℕ → ℕ → ℤ) → ((node : ℕ) → IsNode n node → load node ≡ other node)
    → ((i j : ℕ) → IsNode n i → IsNode n j → weight i j ≡ same i j) → (limit : ℤ) (found : Option ℤ)
    → IsLeastRunIfFew (with_numbers n depot room near rows load weight) limit found
    → IsLeastRunIfFew (with_numbers n depot room near rows other same) limit found
found_alike n depot room near rows there load other weight same loads weights limit None is =
    states_alike n depot room near rows there load other weight same loads weights limit (most_states + 1) is
found_alike n depot room near rows there load other weight same loads weights limit (Some least) is = (
  λ many. is.0 (states_alike n depot room near rows there other load same weight (λ node inside. sym (loads node inside))
      (λ i j first second. sym (weights i j first second)) limit (most_states + 1) many),
  least_alike n depot room near rows there load other weight same limit least loads weights is.1,
)

-- ---- the least over the lists of kept states

pub least_is : (rules : RunRules) (limit : ℤ) (table : List (Vec (Vec KeptState))) (least : ℤ) → AreCharges rules.rows
    → rules.room < length table → AreStateRows rules limit table → least ≤ℤ limit
    → IsBelowTable rules.nodes rules.depot rules.weight table (length table) least
    → (least ≡ limit) ⊎ IsMetBelow rules.nodes rules.depot rules.weight table (length table) least
    → IsLeastRun rules limit least
least_is rules limit table least signs long rows within below met =
    (kept_starts_give_least_runs rules limit least signs).0 (record { within = within; below = under; met = found met })
  where
    under : (nodes : List ℕ) → IsKeptStart rules limit nodes → least ≤ℤ run_weight rules nodes
    under nodes kept =
        let start = kept_starts_are_starts rules limit nodes kept in
        let last : ℕ = start.0 in
        let earlier : List ℕ = start.1 in
        let state = start_state rules last earlier in
        let serves = last_serves rules limit last earlier start.2 in
        let lt : state.load < length table = let fits = within_room rules limit last earlier start.2 in omega (arith, fits, long) in
        let covers = (rows state.load lt last).covers earlier start.2 refl in
        let own = All-contains (λ (entry : KeptState). least ≤ℤ (entry.weight +ℤ rules.weight last rules.depot))
        (list_in table state.load last) covers.entry (below state.load lt last serves) covers.there in
        let lighter = covers.lighter in
        let whole = start.4 in
        let same = ap (λ (v : ℕ). rules.weight v rules.depot) (last_is rules last earlier) in
        omega (arith, ints, own, lighter, whole, same)

    found : (least ≡ limit) ⊎ IsMetBelow rules.nodes rules.depot rules.weight table (length table) least
        → (least ≡ limit) ⊎ ((nodes : List ℕ) × IsKeptStart rules limit nodes × (least ≡ run_weight rules nodes))
    found (inl is) = inl is
    found (inr by) =
        let load : ℕ = by.0 in
        let last : ℕ = by.2.0 in
        let entry : KeptState = by.2.2.0 in
        let own = All-contains (IsEntryOf rules limit load last) (list_in table load last) entry
        (rows load by.1 last).met by.2.2.1 in
        let start = starts_are_kept_starts rules limit last own.earlier own.start in
        let weight = own.weight_is in
        let whole = start.3 in
        let same = ap (λ (v : ℕ). rules.weight v rules.depot) (last_is rules last own.earlier) in
        let is = by.2.2.2 in
        inr (start.0, start.1, omega (arith, ints, weight, whole, same, is))

-- what is below stays below if less was found
pub below_less : (least less link : ℤ) (entries : List KeptState) → less ≤ℤ least → IsBelowEntries least link entries
    → IsBelowEntries less link entries
below_less least less link entries le below =
    All-weaker (λ (entry : KeptState). least ≤ℤ (entry.weight +ℤ link)) (λ (entry : KeptState). less ≤ℤ (entry.weight +ℤ link))
    (λ entry own. omega (arith, ints, own, le)) entries below

-- one entry more
pub below_one_more : (entries : List KeptState) (index : ℕ) (entry : KeptState) (least less link : ℤ) → index < length entries
    → entry ≡ get_or entries index entry → less ≤ℤ least → less ≤ℤ (entry.weight +ℤ link)
    → IsBelowEntries least link (take index entries) → IsBelowEntries less link (take (index + 1) entries)
below_one_more entries index entry least less link lt is le own below =
    subst (IsBelowEntries less link)
    (sym (take_more entries index entry lt ∙ ap (λ (e : KeptState). take index entries ++ e ∷ []) (sym is)))
    (All-push (λ (e : KeptState). less ≤ℤ (e.weight +ℤ link)) (take index entries) entry
    (below_less least less link (take index entries) le below) own)

-- one customer more
pub load_one_more : (depot : ℕ) (weight : ℕ → ℕ → ℤ) (table : List (Vec (Vec KeptState))) (load index : ℕ) (least less : ℤ) → less ≤ℤ least
    → (index + 1 ≢ depot → IsBelowEntries less (weight (index + 1) depot) (list_in table load (index + 1)))
    → IsBelowLoad depot weight table load index least → IsBelowLoad depot weight table load (index + 1) less
load_one_more depot weight table load index least less le own below last customer = elim (cases_eq last (index + 1)) [
  | inl same ↦
      subst (λ (k : ℕ). IsBelowEntries less (weight k depot) (list_in table load k)) (sym same)
      (own (subst (λ (k : ℕ). k ≢ depot) same customer.1))
  | inr other ↦
      below_less least less (weight last depot) (list_in table load last) le
      (below last ((customer.0.0, omega (arith, customer.0.1, other)), customer.1))
]

-- one load more
pub loads_one_more : (n depot : ℕ) (weight : ℕ → ℕ → ℤ) (table : List (Vec (Vec KeptState))) (load : ℕ) (least less : ℤ) → less ≤ℤ least
    → IsBelowLoad depot weight table load n less → IsBelowTable n depot weight table load least
    → IsBelowTable n depot weight table (load + 1) less
loads_one_more n depot weight table load least less le own below other lt = elim (cases_eq other load) [
  | inl same ↦ subst (λ (k : ℕ). IsBelowLoad depot weight table k n less) (sym same) own
  | inr before ↦ λ last customer.
      below_less least less (weight last depot) (list_in table other last) le (below other (omega (arith, lt, before)) last customer)
]

-- ---- what rows give back

pub halves_are_total : HalvesAreTotal
halves_are_total [] = refl
halves_are_total (row ∷ rows) = let rest = halves_are_total rows in omega (arith, ints, rest)

abbrev pub no_row : SubsetRow
no_row = record { set = []; further = [] }

-- half of the set at an index, whatever stands past the end
pub half_at : (n : ℕ) (rows : List RowSets) (index : ℕ) → index < length rows
    → ((default : RowSets) → n ≡ length (get_or rows index default).set.items / 2) → n ≡ half (get_or (map subset_row_of rows) index no_row)
half_at n [] index lt all = absurd (omega (arith, lt))
half_at n (row ∷ rows) zero lt all = all row
half_at n (row ∷ rows) (suc index) lt all = half_at n rows index (omega (arith, lt)) all

pub halves_left : (rows : List SubsetRow) (charges : List ℤ) (index : ℕ) → index < length rows → index < length charges
    → halves_with (drop index rows) (drop index charges)
    ≡ (pos (half (get_or rows index no_row)) *ℤ get_or charges index (pos 0)) +ℤ halves_with (drop (index + 1) rows) (drop (index + 1) charges)
halves_left rows charges index lt under =
    ap₂ (λ (xs : List SubsetRow) (gs : List ℤ). halves_with xs gs) (drop_more rows index no_row lt) (drop_more charges index (pos 0) under)
