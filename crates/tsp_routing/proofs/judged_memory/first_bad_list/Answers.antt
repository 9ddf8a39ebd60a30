-- The goals of `first_bad_list` in src/judged_memory.rt: its loop, what a call requires, and what it
-- ensures.
use Rattle.tsp_routing.proofs.Prelude.{◌≡◌, ◌<◌, ◌+◌, ◌∙◌, ℕ, List, Bool, true, false, refl, length, get_or, ap, sym, subst, arith, cases_eq, inl, inr, false≢true, length-map, length-set, length-replicate, get_or_default, Vec, All, IsCustomer, HasEachOnce, written}
use Rattle.tsp_cases.specs.states.GoodFamilies.{AreUnmarked}
use Rattle.tsp_routing.specs.RunTrees.{owner_of, IsGoodList}
use Rattle.tsp_routing.specs.states.JudgedMemory.{AreOwners}
use Rattle.tsp_routing.specs.states.RunTables.{item_lists}
use Rattle.tsp_routing.proofs.JudgedLists.{none_marked, no_owners, list_here, owner_in, list_more, owners_more, bad_list}
use Rattle.tsp_routing.proofs.judged_memory.first_bad_list.Goals as goal

-- plan: a list is good by its marks and its customer's flag; the first bad one ends the loop
pub returns-then-not-are_customers : goal.returns-then-not-are_customers
returns-then-not-are_customers c =
    let n : ℕ = c.args.demands.now.nodes in
    let depot : ℕ = c.args.demands.now.depot in
    let lists : List (List ℕ) = item_lists c.args.lists.now in
    let list : List ℕ = c.as_slice-list.result.now in
    let wide = length-map c.args.lists.now (λ (v : Vec ℕ). v.items) in
    let here = list_here c.args.lists.now c.lists.index c.index-lists-index.result list c.lists-test.true c.index-lists-index.is
    c.as_slice-list.ensures.value in
    bad_list n depot lists c.lists.index list (omega (arith, c.lists-test.true, wide)) here c.lists.invariant.good
    (λ good. false≢true (c.if-not-are_customers.ensures.are.1
    (subst (λ (xs : List ℕ). All (IsCustomer n depot) xs × HasEachOnce xs) here (good.inside, good.once))))

pub lists-preserved : goal.lists-preserved
lists-preserved c =
    let h = c.lists.invariant in
    let n : ℕ = c.args.demands.now.nodes in
    let depot : ℕ = c.args.demands.now.depot in
    let index : ℕ = c.lists.index in
    let lists : List (List ℕ) = item_lists c.args.lists.now in
    let list : List ℕ = c.as_slice-list.result.now in
    let owner : ℕ = get_or list 0 0 in
    let owners : List Bool = c.lists.owners.items in
    let here = list_here c.args.lists.now index c.index-lists-index.result list c.lists-test.true c.index-lists-index.is
    c.as_slice-list.ensures.value in
    let there = owner_in n c.args.lists.now index c.index-lists-index.result list c.requires.lists c.lists-test.true c.index-lists-index.is
    c.as_slice-list.ensures.value in
    let inside : owner < length owners = let owned = h.owned in let most = there.0.1 in omega (arith, owned, most) in
    let free : get_or owners owner true ≡ false =
    get_or_default owners owner true c.index.result.now inside ∙ (sym c.index.ensures ∙ c.if-index.false) in
    let are = c.if-not-are_customers.ensures.are.0 refl in
    let marks = written c.lists.marks.len c.are_customers.new.marks _ (c.are_customers.ensures.length ∙ c.deref_mut.ensures.len) in
    record {
      places = ap length marks ∙ c.are_customers.ensures.length ∙ ap length c.deref_mut.ensures.value ∙ h.places;
      fresh = λ mark more. subst (λ (xs : List ℕ). AreUnmarked xs mark) (sym marks) (c.are_customers.ensures.others mark
          (λ e. omega (arith, e, more))
          (subst (λ (xs : List ℕ). AreUnmarked xs mark) (sym c.deref_mut.ensures.value) (h.fresh mark (omega (arith, more)))));
      owned = length-set owners owner true ∙ h.owned;
      owners = owners_more lists index owner owners (ap owner_of here) inside h.owners;
      good = λ place less. elim (cases_eq place index) [
        | inl same ↦ subst (IsGoodList n depot lists) (sym same) (list_more n depot lists index list owners here are.0 are.1 h.owners free)
        | inr other ↦ h.good place (omega (arith, less, other))
      ];
    }

pub returns : goal.returns
returns c = λ place less.
    let wide = length-map c.args.lists.now (λ (v : Vec ℕ). v.items) in
    c.lists.invariant.good place (omega (arith, less, wide, c.lists-test.false))

-- no owner is there at first
pub lists-init : goal.lists-init
lists-init c =
    let places : ℕ = c.args.demands.now.nodes + 1 in
    let marks = c.in_ok-marks.ensures.items_if_clones_equal (λ y h. h) in
    let owners = c.in_ok-owners.ensures.items_if_clones_equal (λ y h. h) in
    record {
      places = ap length marks ∙ length-replicate places 0;
      fresh = λ mark more. subst (λ (xs : List ℕ). AreUnmarked xs mark) (sym marks) (none_marked places mark more);
      owned = ap length owners ∙ length-replicate places false;
      owners = subst (AreOwners (item_lists c.args.lists.now) 0) (sym owners) (no_owners (item_lists c.args.lists.now) places);
      good = λ place less. absurd (omega (arith, less));
    }

pub are_customers-requires-clause-demands : goal.are_customers-requires-clause-demands
are_customers-requires-clause-demands c = c.requires.demands

pub are_customers-requires-clause-inside : goal.are_customers-requires-clause-inside
are_customers-requires-clause-inside c =
    let there = owner_in c.args.demands.now.nodes c.args.lists.now c.lists.index c.index-lists-index.result c.as_slice-list.result.now
    c.requires.lists c.lists-test.true c.index-lists-index.is c.as_slice-list.ensures.value in
    there.1.1

pub are_customers-requires-clause-places : goal.are_customers-requires-clause-places
are_customers-requires-clause-places c = ap length c.deref_mut.ensures.value ∙ c.lists.invariant.places

pub are_customers-requires-clause-fresh : goal.are_customers-requires-clause-fresh
are_customers-requires-clause-fresh c =
    subst (λ (xs : List ℕ). AreUnmarked xs (c.lists.index + 1)) (sym c.deref_mut.ensures.value)
    (c.lists.invariant.fresh (c.lists.index + 1) (omega arith))

-- the list's customer has an earlier one
pub returns-then-index : goal.returns-then-index
returns-then-index c =
    let n : ℕ = c.args.demands.now.nodes in
    let depot : ℕ = c.args.demands.now.depot in
    let index : ℕ = c.lists.index in
    let lists : List (List ℕ) = item_lists c.args.lists.now in
    let list : List ℕ = c.as_slice-list.result.now in
    let owner : ℕ = get_or list 0 0 in
    let owners : List Bool = c.lists.owners.items in
    let h = c.lists.invariant in
    let wide = length-map c.args.lists.now (λ (v : Vec ℕ). v.items) in
    let here = list_here c.args.lists.now index c.index-lists-index.result list c.lists-test.true c.index-lists-index.is
    c.as_slice-list.ensures.value in
    let there = owner_in n c.args.lists.now index c.index-lists-index.result list c.requires.lists c.lists-test.true c.index-lists-index.is
    c.as_slice-list.ensures.value in
    let inside : owner < length owners = let owned = h.owned in let most = there.0.1 in omega (arith, owned, most) in
    let taken : get_or owners owner true ≡ true =
    get_or_default owners owner true c.index.result.now inside ∙ (sym c.index.ensures ∙ c.if-index.true) in
    let found = h.owners.found owner taken inside in
    bad_list n depot lists index list (omega (arith, c.lists-test.true, wide)) here h.good
    (λ good. good.own found.0 found.1 (found.2 ∙ sym (ap owner_of here)))
