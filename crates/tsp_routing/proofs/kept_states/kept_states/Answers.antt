-- The goals of `kept_states` in src/kept_states.rt, which makes the table of kept states: its loop, what a call
-- requires, and what it ensures.
use Rattle.tsp_routing.proofs.Prelude.{◌≡◌, ◌≤◌, ◌+◌, ◌∙◌, Option, ℕ, ℤ, List, [], ◌∷◌, ◌++◌, length, ap, subst, subst₂, sym, arith, length-append, Vec}
use Rattle.std.specs.Prelude.{IfSome}
use Rattle.tsp_routing.specs.KeptStates.{most_states}
use Rattle.tsp_routing.specs.declared.kept_states.KeptState.{KeptState}
use Rattle.tsp_routing.specs.states.RunTables.{item_lists}
use Rattle.tsp_routing.specs.states.KeptLists.{count_in_lists, entry_count, AreRisingLists, AreRisingRows, IsStateRowIfFew, rules_of, IsStateRow, AreStateRows, IsSizedRow, AreSizedRows, IsFloorRow, AreFloors}
use Rattle.tsp_routing.proofs.KeptCounts.{entry_count_pushed}
use Rattle.tsp_routing.proofs.Floors.{floors_pushed}
use Rattle.tsp_routing.proofs.WaysHome.{rows_pushed}
use Rattle.tsp_routing.proofs.kept_states.kept_states.Goals as goal

-- plan: the table has the rows so far, and one more
pub loads-preserved : goal.loads-preserved
loads-preserved c =
    let leaf = c.args.leaf.now in
    let n : ℕ = leaf.nodes.now.nodes in
    let table : List (Vec (Vec KeptState)) = c.loads.table.items in
    let next : Vec (Vec KeptState) = c.in-Some.next in
    let pushed : c.push.new.list.items ≡ table ++ next ∷ [] = c.in_ok-push.ensures.items in
    let long = length-append table (next ∷ []) in
    let h = c.loads.invariant in
    let rising = subst (λ (o : Option (Vec (Vec KeptState))). IfSome o (λ (own : Vec (Vec KeptState)). AreRisingLists (item_lists own.items)))
    c.in-Some.is c.in_ok-next.ensures.rising in
    let count = subst (λ (o : Option (Vec (Vec KeptState))). IfSome o (λ (own : Vec (Vec KeptState)).
    c.states_with.new.count ≡ c.loads.count + count_in_lists (item_lists own.items))) c.in-Some.is c.in_ok-next.ensures.count in
    let fits = subst (λ (o : Option (Vec (Vec KeptState))). IfSome o (λ (own : Vec (Vec KeptState)). c.states_with.new.count ≤ most_states))
    c.in-Some.is c.in_ok-next.ensures.fits in
    let sizes = subst (λ (o : Option (Vec (Vec KeptState))). IfSome o (λ (own : Vec (Vec KeptState)).
    IsSizedRow n (length c.deref.result.now) (item_lists own.items))) c.in-Some.is c.in_ok-next.ensures.sizes in
    record {
      long = ap (λ (xs : List (Vec (Vec KeptState))). length xs) pushed ∙ omega (arith, long, h.long);
      rows = λ near rows leaf_of.
          let rules = rules_of leaf near rows in
          let states : AreStateRows rules leaf.limit c.deref.result.now = subst (AreStateRows rules leaf.limit) (sym c.deref.ensures.value) (h.rows near rows leaf_of) in
          let given = subst (IsStateRowIfFew rules leaf.limit (IsStateRow rules leaf.limit (length c.deref.result.now))) c.in-Some.is
          (c.in_ok-next.ensures.exact near rows leaf_of states) in
          subst (AreStateRows rules leaf.limit) (sym pushed)
          (rows_pushed (λ (k : ℕ) (xs : List (Vec KeptState)). IsStateRow rules leaf.limit k (item_lists xs)) table next (h.rows near rows leaf_of)
          (subst (λ (xs : List (Vec (Vec KeptState))). IsStateRow rules leaf.limit (length xs) (item_lists next.items)) c.deref.ensures.value given));
      rising = subst AreRisingRows (sym pushed)
          (rows_pushed (λ (k : ℕ) (xs : List (Vec KeptState)). AreRisingLists (item_lists xs)) table next h.rising rising);
      counted =
          let more = ap entry_count pushed in
          let sum = entry_count_pushed table next in
          let so_far = h.counted in
          omega (arith, more, sum, so_far, count);
      fits = fits;
      sizes = subst (AreSizedRows n) (sym pushed)
          (rows_pushed (λ (k : ℕ) (xs : List (Vec KeptState)). IsSizedRow n k (item_lists xs)) table next h.sizes
          (subst (λ (xs : List (Vec (Vec KeptState))). IsSizedRow n (length xs) (item_lists next.items)) c.deref.ensures.value sizes));
      floors =
          let own : Vec ℤ = c.in_ok-own.own in
          let more : c.push-in-loads.new.list.items ≡ c.loads.floors.items ++ own ∷ [] = c.in_ok-push-2.ensures.items in
          subst₂ AreFloors (sym pushed) (sym more) (floors_pushed table c.loads.floors.items next own h.floors
          (subst (λ (xs : List (Vec KeptState)). IsFloorRow (item_lists xs) own.items) c.deref-in-loads-2.ensures.value c.in_ok-own.ensures));
    }

pub returns-in_default-clause-exact : goal.returns-in_default-clause-exact
returns-in_default-clause-exact c = λ near rows leaf_of.
    let leaf = c.args.leaf.now in
    let rules = rules_of leaf near rows in
    let states : AreStateRows rules leaf.limit c.deref.result.now =
    subst (AreStateRows rules leaf.limit) (sym c.deref.ensures.value) (c.loads.invariant.rows near rows leaf_of) in
    subst (IsStateRowIfFew rules leaf.limit (IsStateRow rules leaf.limit (length c.deref.result.now))) c.in_default.is
    (c.in_ok-next.ensures.exact near rows leaf_of states)

-- no row is there at first
pub loads-init : goal.loads-init
loads-init c =
    let none = c.new-table.ensures.items in
    let long : length c.new-table.result.items ≡ 0 = ap (λ (xs : List (Vec (Vec KeptState))). length xs) none in
    record {
      long = long;
      rows = λ near rows leaf_of load lt. absurd (omega (arith, lt, long));
      rising = λ load lt. absurd (omega (arith, lt, long));
      counted = sym (ap entry_count none);
      fits = omega arith;
      sizes = λ load lt. absurd (omega (arith, lt, long));
      floors = record {
        loads = ap (λ (xs : List (Vec ℤ)). length xs) c.new-floors.ensures.items ∙ sym long;
        rows = λ load lt. absurd (omega (arith, lt, long));
      };
    }

pub states_with-requires-clause-few : goal.states_with-requires-clause-few
states_with-requires-clause-few c =
    let same = ap (λ (xs : List (Vec (Vec KeptState))). length xs) c.deref.ensures.value in
    let long = c.loads.invariant.long in
    let less = c.loads-test.true in omega (arith, same, long, less)

pub states_with-requires-clause-sizes : goal.states_with-requires-clause-sizes
states_with-requires-clause-sizes c =
    subst (AreSizedRows c.args.leaf.now.nodes.now.nodes) (sym c.deref.ensures.value) c.loads.invariant.sizes

pub states_with-requires-clause-floors : goal.states_with-requires-clause-floors
states_with-requires-clause-floors c =
    subst₂ AreFloors (sym c.deref.ensures.value) (sym c.deref-in-loads.ensures.value) c.loads.invariant.floors

pub states_with-requires-clause-rising : goal.states_with-requires-clause-rising
states_with-requires-clause-rising c = subst AreRisingRows (sym c.deref.ensures.value) c.loads.invariant.rising

pub states_with-requires-clause-count : goal.states_with-requires-clause-count
states_with-requires-clause-count c = c.loads.invariant.counted ∙ sym (ap entry_count c.deref.ensures.value)

pub states_with-requires-clause-fits : goal.states_with-requires-clause-fits
states_with-requires-clause-fits c = c.loads.invariant.fits

-- all rows are there in the end
pub returns-clause-long : goal.returns-clause-long
returns-clause-long c =
    let long = c.loads.invariant.long in
    let most = c.loads.auto.load-end in
    let end = c.loads-test.false in omega (arith, long, most, end)

pub returns-clause-exact : goal.returns-clause-exact
returns-clause-exact c = c.loads.invariant.rows

pub returns-clause-rising : goal.returns-clause-rising
returns-clause-rising c = c.loads.invariant.rising

pub returns-clause-few : goal.returns-clause-few
returns-clause-few c = subst (λ (k : ℕ). k ≤ most_states) c.loads.invariant.counted c.loads.invariant.fits

pub returns-clause-sizes : goal.returns-clause-sizes
returns-clause-sizes c = c.loads.invariant.sizes
