-- Each number in the table of src/run_leaf.rt is the completion that specs/KeptStates.antt defines: the least weight of
-- a way home from a node with a load (`way_completes`).
use Rattle.tsp_routing.proofs.Prelude.{◌≡◌, ◌≢◌, ℕ, ◌+◌, zero, suc, ◌-◌, ◌*◌, ◌≤◌, ◌<◌, List, [], ◌∷◌, ◌++◌, length, get_or, refl, sym, ap, ◌∙◌, subst, arith, inl, inr, ◌⊎◌, ℤ, pos, neg_ℤ, ◌+ℤ◌, ◌≤ℤ◌, ◌<ℤ◌, slice_index_or, Vec, ints, cases_eq, IsNode, IsCustomer, least_at}
use Rattle.tsp_routing.specs.PlanBounds.{most_link}
use Rattle.tsp_routing.specs.Runs.{RunRules, MayServe}
use Rattle.tsp_format.specs.Steps.{SubsetRow}
use Rattle.tsp_routing.specs.KeptStates.{bare_state, IsWayHome, home_weight, IsCompletion}
use Rattle.tsp_routing.specs.states.Demands.{load_at}
use Rattle.tsp_routing.specs.states.RunTables.{item_lists, row_in, link_in, rules_by, home_in, IsHomeRow, AreHomeRows, no_way, IsOnward, AreOnwards, AreOnwardsSized, IsWayBelowTo, IsWayMetTo, AreLinkRows}
use Rattle.tsp_routing.proofs.KeptStarts.{step_home, home_after}

-- a number is a completion if it is no more than the way back and each way on, and is one of these
completes : (rules : RunRules) (load node : ℕ) (least : ℤ) → least ≤ℤ rules.weight node rules.depot
    → ((next : ℕ) (rest : List ℕ) → IsCustomer rules.nodes rules.depot next → node ≢ next → load + rules.load next ≤ rules.room
    → IsWayHome rules (load + rules.load next) next rest
    → least ≤ℤ (rules.weight node next +ℤ home_weight rules (load + rules.load next) next rest))
    → (least ≡ rules.weight node rules.depot)
    ⊎ ((next : ℕ) × (rest : List ℕ) × IsCustomer rules.nodes rules.depot next × (node ≢ next) × (load + rules.load next ≤ rules.room)
    × IsWayHome rules (load + rules.load next) next rest
    × (least ≡ rules.weight node next +ℤ home_weight rules (load + rules.load next) next rest))
    → IsCompletion rules load node least
completes rules load node least back on met = (found met, below)
  where
    below : (rest : List ℕ) → IsWayHome rules load node rest → least ≤ℤ home_weight rules load node rest
    below [] home = back
    below (next ∷ rest) home =
        let after = home_after rules load node next rest home in
        let own = on next rest home.0.customer home.0.other home.0.within after.0 in
        let same = after.1 in
        omega (arith, ints, own, same)

    found : (least ≡ rules.weight node rules.depot)
        ⊎ ((next : ℕ) × (rest : List ℕ) × IsCustomer rules.nodes rules.depot next × (node ≢ next) × (load + rules.load next ≤ rules.room)
        × IsWayHome rules (load + rules.load next) next rest
        × (least ≡ rules.weight node next +ℤ home_weight rules (load + rules.load next) next rest))
        → (rest : List ℕ) × IsWayHome rules load node rest × (least ≡ home_weight rules load node rest)
    found (inl is) = ([], tt, is)
    found (inr way) =
        let may : MayServe rules (bare_state load node) way.0 = record { customer = way.2; other = way.3; unseen = refl; within = way.4 } in
        let home = step_home rules (bare_state load node) way.0 way.1 may way.5 in
        let is = way.6 in
        let same = home.1 in
        (way.0 ∷ way.1, home.0, omega (arith, ints, is, same))

-- one number of the next row
pub way_completes : (n depot : ℕ) (loads : List ℕ) (room : ℕ) (rows : List (Vec ℤ)) (near : ℕ → List ℕ)
    (subset_rows : List (SubsetRow × ℤ)) (table : List (Vec ℤ)) (onward : List ℤ) (node : ℕ) (number : ℤ)
    → ((other : ℕ) → IsCustomer n depot other → 1 ≤ load_at loads other) → AreLinkRows n rows
    → AreOnwards n depot loads (length table) table onward
    → AreHomeRows (rules_by n depot loads room rows near subset_rows) table
    → IsWayBelowTo depot rows onward node n number → IsWayMetTo depot rows onward node n number → number ≤ℤ pos most_link
    → IsNode n node → (load : ℕ) → load + length table ≡ room
    → IsCompletion (rules_by n depot loads room rows near subset_rows) load node number
way_completes n depot loads room rows near subset_rows table onward node number some links onwards homes below met most there load full =
    completes (rules_by n depot loads room rows near subset_rows) load node number below.back on (found met)
  where
    known : (next : ℕ) → IsCustomer n depot next → load_at loads next ≤ length table
        → slice_index_or onward next (pos 0) ≡ home_in table (length table - load_at loads next) next
        → IsCompletion (rules_by n depot loads room rows near subset_rows) (load + load_at loads next) next (slice_index_or onward next (pos 0))
    known next customer le is =
        let one = some next customer in
        subst (IsCompletion (rules_by n depot loads room rows near subset_rows) (load + load_at loads next) next) (sym is)
        (homes (length table - load_at loads next) (omega (arith, one, le)) (load + load_at loads next) next
        (omega (arith, full, le)) customer)

    on : (next : ℕ) (rest : List ℕ) → IsCustomer n depot next → node ≢ next → load + load_at loads next ≤ room
        → IsWayHome (rules_by n depot loads room rows near subset_rows) (load + load_at loads next) next rest
        → number ≤ℤ (link_in rows node next
        +ℤ home_weight (rules_by n depot loads room rows near subset_rows) (load + load_at loads next) next rest)
    on next rest customer other within home = elim (onwards next customer.0) [
      | inl is ↦
          let own = (known next customer is.1 is.2).1 rest home in
          let step = below.on next customer.0 other in
          omega (arith, ints, own, step)
      | inr none ↦ absurd (none.1 customer (omega (arith, within, full)))
    ]

    found : IsWayMetTo depot rows onward node n number
        → (number ≡ link_in rows node depot)
        ⊎ ((next : ℕ) × (rest : List ℕ) × IsCustomer n depot next × (node ≢ next) × (load + load_at loads next ≤ room)
        × IsWayHome (rules_by n depot loads room rows near subset_rows) (load + load_at loads next) next rest
        × (number ≡ link_in rows node next
        +ℤ home_weight (rules_by n depot loads room rows near subset_rows) (load + load_at loads next) next rest))
    found (inl is) = inl is
    found (inr step) = elim (onwards step.0 step.1) [
      | inl is ↦
          let own = (known step.0 is.0 is.1 is.2).0 in
          let number_is = step.3 in
          let weight = own.2 in
          let le = is.1 in
          inr (step.0, own.0, is.0, step.2, omega (arith, le, full), own.1, omega (arith, ints, number_is, weight))
      | inr none ↦
          let number_is = step.3 in
          let far = none.0 in
          let low = (links.sizes node step.0 there step.1).0 in
          absurd (omega (arith, ints, number_is, far, low, most))
    ]

-- ---- tables while they are made

-- one row more
pub rows_pushed : {X : Type 0} (P : ℕ → List X → Type 0) (table : List (Vec X)) (row : Vec X)
    → ((k : ℕ) → k < length table → P k (get_or (item_lists table) k [])) → P (length table) row.items
    → (k : ℕ) → k < length (table ++ row ∷ []) → P k (get_or (item_lists (table ++ row ∷ [])) k [])
rows_pushed {X} P [] row all last zero lt = last
rows_pushed {X} P [] row all last (suc k) lt = absurd (omega (arith, lt))
rows_pushed {X} P (first ∷ table) row all last zero lt = all zero (omega arith)
rows_pushed {X} P (first ∷ table) row all last (suc k) lt =
    rows_pushed (λ j. P (suc j)) table row (λ j short. all (suc j) (omega (arith, short))) last k (omega (arith, lt))

get_before : {X : Type 0} (before : List X) (own d : X) (k : ℕ) → k < length before → get_or (before ++ own ∷ []) k d ≡ get_or before k d
get_before {X} [] own d k lt = absurd (omega (arith, lt))
get_before {X} (x ∷ before) own d zero lt = refl
get_before {X} (x ∷ before) own d (suc k) lt = get_before before own d k (omega (arith, lt))

get_last : {X : Type 0} (before : List X) (own d : X) → get_or (before ++ own ∷ []) (length before) d ≡ own
get_last {X} [] own d = refl
get_last {X} (x ∷ before) own d = get_last before own d

-- the entry of one node more, in a list with a place 0
pub node_pushed : {X : Type 0} (P : ℕ → X → Type 0) (before after : List X) (own d : X) (index : ℕ) → after ≡ before ++ own ∷ []
    → length before ≡ index + 1 → ((node : ℕ) → IsNode index node → P node (get_or before node d)) → P (index + 1) own
    → (node : ℕ) → IsNode (index + 1) node → P node (get_or after node d)
node_pushed {X} P before after own d index is long all last node there =
    subst (λ (xs : List X). P node (get_or xs node d)) (sym is) (elim (cases_eq node (index + 1)) [
      | inl same ↦
          let at : node ≡ length before = same ∙ sym long in
          subst (λ (k : ℕ). P k (get_or (before ++ own ∷ []) k d)) (sym at)
          (subst (P (length before)) (sym (get_last before own d)) (subst (λ (k : ℕ). P k own) (sym long) last))
      | inr other ↦
          subst (P node) (sym (get_before before own d node (omega (arith, there.1, long, other))))
          (all node (there.0, omega (arith, there.1, other)))
    ])

-- ---- the least way home of one node, while nodes are tried

pub below_by_one : (depot : ℕ) (rows : List (Vec ℤ)) (onward row : List ℤ) (node index : ℕ) (least new : ℤ) → row ≡ row_in rows node
    → IsWayBelowTo depot rows onward node index least → new ≤ℤ least
    → (node ≢ index + 1 → new ≤ℤ (least_at row (index + 1) +ℤ slice_index_or onward (index + 1) (pos 0)))
    → IsWayBelowTo depot rows onward node (index + 1) new
below_by_one depot rows onward row node index least new is below less own = record {
  back = let back = below.back in omega (arith, ints, back, less);
  on = λ next there other. elim (cases_eq next (index + 1)) [
    | inl same ↦
        subst (λ (k : ℕ). new ≤ℤ (link_in rows node k +ℤ slice_index_or onward k (pos 0))) (sym same)
        (subst (λ (xs : List ℤ). new ≤ℤ (least_at xs (index + 1) +ℤ slice_index_or onward (index + 1) (pos 0))) is
        (own (λ it. other (it ∙ sym same))))
    | inr earlier ↦
        let before = below.on next (there.0, omega (arith, there.1, earlier)) other in
        omega (arith, ints, before, less)
  ];
}

pub met_by_one : (depot : ℕ) (rows : List (Vec ℤ)) (onward row : List ℤ) (node index : ℕ) (least new : ℤ) → row ≡ row_in rows node
    → IsWayMetTo depot rows onward node index least
    → (new ≡ least)
    ⊎ ((node ≢ index + 1) × (new ≡ least_at row (index + 1) +ℤ slice_index_or onward (index + 1) (pos 0)) × (new <ℤ least))
    → IsWayMetTo depot rows onward node (index + 1) new
met_by_one depot rows onward row node index least new is met chosen = elim chosen [
  | inl same ↦ elim met [
    | inl back ↦ inl (same ∙ back)
    | inr on ↦ inr (on.0, (on.1.0, omega (arith, on.1.1)), on.2, same ∙ on.3)
  ]
  | inr own ↦ inr (
    index + 1,
    (omega arith, omega arith),
    own.0,
    subst (λ (xs : List ℤ). new ≡ least_at xs (index + 1) +ℤ slice_index_or onward (index + 1) (pos 0)) is own.1,
  )
]

-- how large the number of a node is after one node more
pub size_by_one : (links : ℕ) (least new link onward : ℤ) → neg_ℤ (pos ((links + 1) * most_link)) ≤ℤ least
    → neg_ℤ (pos most_link) ≤ℤ link → neg_ℤ (pos (links * most_link)) ≤ℤ onward
    → (new ≡ least) ⊎ (new ≡ link +ℤ onward) → neg_ℤ (pos ((links + 1) * most_link)) ≤ℤ new
size_by_one links least new link onward low low_link low_onward (inl same) = omega (arith, ints, low, same)
size_by_one links least new link onward low low_link low_onward (inr own) = omega (arith, ints, low_link, low_onward, own)
