-- The goals of `states_with` in src/kept_states.rt, which makes the lists of the next load: its loop and what it ensures.
use Rattle.tsp_routing.proofs.Prelude.{◌≡◌, ◌≤◌, ◌<◌, ◌+◌, ◌*◌, ◌^◌, ◌∙◌, ℕ, ℤ, List, zero, suc, [], ◌∷◌, ◌++◌, pos, neg_ℤ, length, get_or, ap, subst, sym, arith, length-append, Vec, length-map, All-nil, IsFromTo, cases_lt, get_or_past, inl, inr}
use Rattle.tsp_routing.specs.Runs.{RunRules}
use Rattle.tsp_routing.specs.KeptStates.{most_states}
use Rattle.tsp_routing.specs.declared.kept_states.KeptState.{KeptState}
use Rattle.tsp_routing.specs.states.RunTables.{item_lists}
use Rattle.tsp_routing.specs.states.KeptLists.{count_in_lists, AreRisingLists, rules_of, IsKeptList, AreSizedEntries}
use Rattle.tsp_routing.proofs.KeptLists.{no_customer}
use Rattle.tsp_routing.proofs.KeptCounts.{list_count_pushed, rising_lists, table_many}
use Rattle.tsp_routing.proofs.WaysHome.{rows_pushed}
use Rattle.tsp_routing.proofs.kept_states.states_with.Goals as goal

-- plan: the lists of the customers so far, and one more
pub nodes-init : goal.nodes-init
nodes-init c =
    let none : Vec KeptState = c.new.result in
    let items : c.push.new.list.items ≡ none ∷ [] =
    c.in_ok-push.ensures.items ∙ ap (λ (xs : List (Vec KeptState)). xs ++ none ∷ []) c.new-lists.ensures.items in
    let long = ap (λ (xs : List (Vec KeptState)). length xs) items in
    record {
      long = long;
      lists = λ near rows leaf_of states. subst (λ (xs : List (Vec KeptState)). (last : ℕ) → last < length xs
          → IsKeptList (rules_of c.args.leaf.now near rows) c.args.leaf.now.limit (length c.args.table.now) last (get_or (item_lists xs) last []))
          (sym items) (none_first (rules_of c.args.leaf.now near rows) c.args.leaf.now.limit (length c.args.table.now) none c.new.ensures.items);
      rising = subst (λ (xs : List (Vec KeptState)). AreRisingLists (item_lists xs)) (sym items) (one_rising none c.new.ensures.items);
      counted = omega (arith, ap (λ (xs : List (Vec KeptState)). count_in_lists (item_lists xs)) items, ap (λ (xs : List KeptState). length xs) c.new.ensures.items);
      fits = c.requires.fits;
      sizes = subst (λ (xs : List (Vec KeptState)). (node : ℕ) → node < length xs
          → AreSizedEntries (length c.args.table.now) (get_or (item_lists xs) node [])) (sym items)
          (one c.args.table.now none c.new.ensures.items);
    }
  where
    none_first : (rules : RunRules) (limit : ℤ) (load : ℕ) (none : Vec KeptState) → none.items ≡ [] → (last : ℕ) → last < length (none ∷ [])
        → IsKeptList rules limit load last (get_or (item_lists (none ∷ [])) last [])
    none_first rules limit load none empty zero lt =
        subst (IsKeptList rules limit load 0) (sym empty) (no_customer rules limit load 0 (λ customer. omega (arith, customer.0.0)))
    none_first rules limit load none empty (suc last) lt = absurd (omega (arith, lt))

    one_rising : (none : Vec KeptState) → none.items ≡ [] → AreRisingLists (item_lists (none ∷ []))
    one_rising none empty zero lt = λ i j d less inside. absurd (let long = ap (λ (xs : List KeptState). length xs) empty in omega (arith, inside, long))
    one_rising none empty (suc last) lt = absurd (omega (arith, lt))

    one : (table : List (Vec (Vec KeptState))) (none : Vec KeptState) → none.items ≡ [] → (node : ℕ) → node < length (none ∷ [])
        → AreSizedEntries (length table) (get_or (item_lists (none ∷ [])) node [])
    one table none empty zero lt = subst (AreSizedEntries (length table)) (sym empty) (All-nil (λ (entry : KeptState).
        IsFromTo (neg_ℤ (pos ((length table + 1) * 2 ^ 72))) (pos ((length table + 1) * 2 ^ 72)) entry.weight))
    one table none empty (suc node) lt = absurd (omega (arith, lt))

pub nodes-preserved : goal.nodes-preserved
nodes-preserved c =
    let leaf = c.args.leaf.now in
    let load : ℕ = length c.args.table.now in
    let before : List (Vec KeptState) = c.nodes.lists.items in
    let own : Vec KeptState = c.in_ok-list.list in
    let pushed : c.push-in-nodes.new.list.items ≡ before ++ own ∷ [] = c.in_ok-push-2.ensures.items in
    let long = length-append before (own ∷ []) in
    let h = c.nodes.invariant in
    let at : length before ≡ c.nodes.index + 1 = h.long in
    record {
      long = ap (λ (xs : List (Vec KeptState)). length xs) pushed ∙ omega (arith, long, h.long);
      lists = λ near rows leaf_of states.
          let rules = rules_of leaf near rows in
          subst (λ (xs : List (Vec KeptState)). (last : ℕ) → last < length xs
          → IsKeptList rules leaf.limit load last (get_or (item_lists xs) last [])) (sym pushed)
          (rows_pushed (λ (k : ℕ) (xs : List KeptState). IsKeptList rules leaf.limit load k xs)
          before own (h.lists near rows leaf_of states)
          (subst (λ (k : ℕ). IsKeptList rules leaf.limit load k own.items) (sym at)
          (c.in_ok-list.ensures.exact near rows leaf_of states)));
      rising = subst (λ (xs : List (Vec KeptState)). AreRisingLists (item_lists xs)) (sym pushed) (rising_lists before own h.rising c.in_ok-list.ensures.rising);
      counted =
          let more = ap (λ (xs : List (Vec KeptState)). count_in_lists (item_lists xs)) pushed in
          let sum = list_count_pushed before own in
          let so_far = h.counted in
          let first = c.len.ensures in
          let second = c.len-in-nodes.ensures in
          omega (arith, more, sum, so_far, first, second);
      fits = (let first = c.len.ensures in let second = c.len-in-nodes.ensures in let fits = h.fits in omega (arith, fits, first, second, c.if-len-count.false));
      sizes = subst (λ (xs : List (Vec KeptState)). (node : ℕ) → node < length xs → AreSizedEntries load (get_or (item_lists xs) node []))
          (sym pushed) (rows_pushed (λ (k : ℕ) (xs : List KeptState). AreSizedEntries load xs) before own h.sizes c.in_ok-list.ensures.sizes);
    }

pub returns-then-len-count-clause-exact : goal.returns-then-len-count-clause-exact
returns-then-len-count-clause-exact c = λ near rows leaf_of states.
    let leaf = c.args.leaf.now in
    let rules = rules_of leaf near rows in
    let before : List (Vec KeptState) = c.nodes.lists.items in
    let own : Vec KeptState = c.in_ok-list.list in
    let h = c.nodes.invariant in
    let long = length-map before (λ (v : Vec KeptState). v.items) in
    let at : length before ≡ c.nodes.index + 1 = h.long in
    let sum = list_count_pushed before own in
    let so_far = h.counted in
    let start = c.requires.count in
    let whole = length-append before (own ∷ []) in
    let wide = length-map (before ++ own ∷ []) (λ (v : Vec KeptState). v.items) in
    table_many rules leaf.limit c.args.table.now (item_lists (before ++ own ∷ [])) (most_states + 1) states c.requires.rising
    (λ last lt. rows_pushed (λ (k : ℕ) (xs : List KeptState). IsKeptList rules leaf.limit (length c.args.table.now) k xs) before own
    (h.lists near rows leaf_of states)
    (subst (λ (k : ℕ). IsKeptList rules leaf.limit (length c.args.table.now) k own.items) (sym at) (c.in_ok-list.ensures.exact near rows leaf_of states))
    last (omega (arith, lt, wide)))
    (rising_lists before own h.rising c.in_ok-list.ensures.rising)
    (let first = c.len.ensures in let fits = h.fits in omega (arith, sum, so_far, start, fits, first, c.if-len-count.true))

pub returns-clause-exact : goal.returns-clause-exact
returns-clause-exact c = λ near rows leaf_of states last.
    let leaf = c.args.leaf.now in
    let rules = rules_of leaf near rows in
    let end : c.nodes.index ≡ leaf.nodes.now.nodes = omega (arith, c.nodes-test.false, c.nodes.auto.index-end) in
    let long = c.nodes.invariant.long in
    let same = length-map c.nodes.lists.items (λ (v : Vec KeptState). v.items) in
    elim (cases_lt last (length c.nodes.lists.items)) [
      | inl lt ↦ c.nodes.invariant.lists near rows leaf_of states last lt
      | inr past ↦
          subst (IsKeptList rules leaf.limit (length c.args.table.now) last)
          (sym (get_or_past (item_lists c.nodes.lists.items) last [] (omega (arith, past, same))))
          (no_customer rules leaf.limit (length c.args.table.now) last (λ customer. omega (arith, customer.0.1, past, long, end)))
    ]

pub returns-clause-sizes : goal.returns-clause-sizes
returns-clause-sizes c =
    let end : c.nodes.index ≡ c.args.leaf.now.nodes.now.nodes = omega (arith, c.nodes-test.false, c.nodes.auto.index-end) in
    let long = c.nodes.invariant.long in
    let same = length-map c.nodes.lists.items (λ (v : Vec KeptState). v.items) in
    record {
      places = omega (arith, end, long, same);
      sizes = λ node lt. c.nodes.invariant.sizes node (omega (arith, lt, end, long));
    }
