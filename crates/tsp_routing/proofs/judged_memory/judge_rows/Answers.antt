-- The goals of `judge_rows` in src/judged_memory.rt: what its calls require, its loop and what it ensures.
use Rattle.tsp_routing.proofs.Prelude.{◌≡◌, ◌≤◌, ◌+◌, ◌∙◌, ℕ, List, [], map, take, refl, length, get_or, ap, sym, subst, arith, cases_eq, cases_lt, inl, inr, false≢true, if◌then◌else◌, length-map, length-replicate, take_all, get_or_default, All, IsNode, IsCustomer, HasEachOnce, has, written}
use Rattle.std.proofs.lemmas.List.{length-take}
use Rattle.tsp_cases.specs.states.GoodFamilies.{AreUnmarked}
use Rattle.tsp_format.specs.Steps.{SubsetRow}
use Rattle.tsp_routing.specs.RunTrees.{IsGoodRow, row_at, rows_kept}
use Rattle.tsp_format.specs.declared.steps.RowSets.{RowSets}
use Rattle.tsp_format.specs.states.TreeSteps.{subset_row_of}
use Rattle.tsp_routing.proofs.JudgedLists.{none_marked, zero_there, few_rows_kept, rows_kept_more, row_here, row_inside, bad_row}
use Rattle.tsp_routing.proofs.judged_memory.judge_rows.Goals as goal

-- plan: a row is good by its marks and by how many its set has; the first bad one ends the loop
pub are_customers-requires-clause-inside : goal.are_customers-requires-clause-inside
are_customers-requires-clause-inside c =
    subst (All (IsNode c.args.demands.now.nodes)) (sym (c.deref.ensures.value ∙ c.in_ok-nodes.ensures))
    (row_inside c.args.demands.now.nodes c.args.rows.now c.rows.index c.index-rows-index.result c.requires.rows c.rows-test.true c.index-rows-index.is)

pub returns-then-not-are_customers : goal.returns-then-not-are_customers
returns-then-not-are_customers c =
    let n : ℕ = c.args.demands.now.nodes in
    let depot : ℕ = c.args.demands.now.depot in
    let rows : List SubsetRow = map subset_row_of c.args.rows.now in
    let row : RowSets = c.index-rows-index.result in
    let wide = length-map c.args.rows.now subset_row_of in
    let here = row_here c.args.rows.now c.rows.index row c.rows-test.true c.index-rows-index.is (record { set = []; further = [] }) in
    bad_row n depot rows c.rows.index (omega (arith, c.rows-test.true, wide)) c.rows.invariant.good
    (λ good.
    let own = subst (IsGoodRow n depot) here good in
    false≢true (c.if-not-are_customers.ensures.are.1
    (subst (λ (xs : List ℕ). All (IsCustomer n depot) xs × HasEachOnce xs) (sym (c.deref.ensures.value ∙ c.in_ok-nodes.ensures))
    (own.inside, own.once))))

pub returns-then-is_lone : goal.returns-then-is_lone
returns-then-is_lone c =
    let n : ℕ = c.args.demands.now.nodes in
    let depot : ℕ = c.args.demands.now.depot in
    let rows : List SubsetRow = map subset_row_of c.args.rows.now in
    let row : RowSets = c.index-rows-index-in-rows.result in
    let wide = length-map c.args.rows.now subset_row_of in
    let here = row_here c.args.rows.now c.rows.index row c.rows-test.true c.index-rows-index-in-rows.is (record { set = []; further = [] }) in
    bad_row n depot rows c.rows.index (omega (arith, c.rows-test.true, wide)) c.rows.invariant.good
    (λ good. let own = subst (IsGoodRow n depot) here good in let few = c.if-is_lone.ensures.0 refl in let many = own.several in omega (arith, few, many))

pub add_ones-requires-clause-few : goal.add_ones-requires-clause-few
add_ones-requires-clause-few c = λ k d lt.
    let rows : List SubsetRow = map subset_row_of c.args.rows.now in
    let wide = length-map c.args.rows.now subset_row_of in
    let long = ap length c.deref_mut-in-rows.ensures.value in
    let places = c.rows.invariant.long in
    let counted = c.rows.invariant.counted k (omega (arith, lt, long, places)) in
    let most = few_rows_kept (take c.rows.index rows) k in
    let taken = length-take c.rows.index rows in
    let moved = get_or_default c.deref_mut-in-rows.result.now k d 0 lt in
    let same = ap (λ (xs : List ℕ). get_or xs k 0) c.deref_mut-in-rows.ensures.value in
    let few = c.requires.few in
    omega (arith, counted, most, taken, moved, same, few, wide, c.rows-test.true)

pub rows-preserved : goal.rows-preserved
rows-preserved c =
    let h = c.rows.invariant in
    let n : ℕ = c.args.demands.now.nodes in
    let depot : ℕ = c.args.demands.now.depot in
    let index : ℕ = c.rows.index in
    let rows_given : List SubsetRow = map subset_row_of c.args.rows.now in
    let row : RowSets = c.index-rows-index.result in
    let wide = length-map c.args.rows.now subset_row_of in
    let here = row_here c.args.rows.now index row c.rows-test.true c.index-rows-index.is in
    let nodes_are = c.deref.ensures.value ∙ c.in_ok-nodes.ensures in
    let added_are = c.deref-in-rows.ensures.value ∙ c.in_ok-nodes.ensures in
    let are = c.if-not-are_customers.ensures.are.0 refl in
    let second : RowSets = c.index-rows-index-in-rows.result in
    let as_first : second ≡ row =
    c.index-rows-index-in-rows.is ∙ (get_or_default c.args.rows.now index second row c.rows-test.true ∙ sym c.index-rows-index.is) in
    let several : 2 ≤ length row.set.items = elim (cases_lt (length second.set.items) 2) [
      | inl lone ↦ absurd (false≢true (c.if-is_lone.ensures.1 lone))
      | inr many ↦ subst (λ (r : RowSets). 2 ≤ length r.set.items) as_first many
    ] in
    let marks = written c.rows.marks.len c.are_customers.new.marks _ (c.are_customers.ensures.length ∙ c.deref_mut.ensures.len) in
    let counts = written c.rows.counts.len c.add_ones.new.counts _ (c.add_ones.ensures.length ∙ c.deref_mut-in-rows.ensures.len) in
    record {
      places = ap length marks ∙ c.are_customers.ensures.length ∙ ap length c.deref_mut.ensures.value ∙ h.places;
      fresh = λ mark more. subst (λ (xs : List ℕ). AreUnmarked xs mark) (sym marks) (c.are_customers.ensures.others mark
          (λ e. omega (arith, e, more))
          (subst (λ (xs : List ℕ). AreUnmarked xs mark) (sym c.deref_mut.ensures.value) (h.fresh mark (omega (arith, more)))));
      long = ap length counts ∙ c.add_ones.ensures.length ∙ ap length c.deref_mut-in-rows.ensures.value ∙ h.long;
      counted = λ node le.
          ap (λ (xs : List ℕ). get_or xs node 0) counts
          ∙ (c.add_ones.ensures.counts node
          ∙ (ap (λ (xs : List ℕ). (if has c.deref-in-rows.result.now node then 1 else 0) + get_or xs node 0) c.deref_mut-in-rows.ensures.value
          ∙ (ap (λ (k : ℕ). (if has c.deref-in-rows.result.now node then 1 else 0) + k) (h.counted node le)
          ∙ sym (rows_kept_more rows_given index (subset_row_of row) node c.deref-in-rows.result.now (omega (arith, c.rows-test.true, wide))
          (here (subset_row_of row)) added_are))));
      good = λ place less. elim (cases_eq place index) [
        | inl same ↦
            subst (λ (k : ℕ). IsGoodRow n depot (row_at rows_given k)) (sym same)
            (subst (IsGoodRow n depot) (sym (here (record { set = []; further = [] }))) (record {
              several = several;
              inside = subst (All (IsCustomer n depot)) nodes_are are.0;
              once = subst HasEachOnce nodes_are are.1;
            }))
        | inr other ↦ h.good place (omega (arith, less, other))
      ];
    }

-- no row is counted at first
pub rows-init : goal.rows-init
rows-init c =
    let places : ℕ = c.args.demands.now.nodes + 1 in
    let marks = c.in_ok-marks.ensures.items_if_clones_equal (λ y h. h) in
    let counts = c.in_ok-counts.ensures.items_if_clones_equal (λ y h. h) in
    record {
      places = ap length marks ∙ length-replicate places 0;
      fresh = λ mark more. subst (λ (xs : List ℕ). AreUnmarked xs mark) (sym marks) (none_marked places mark more);
      long = ap length counts ∙ length-replicate places 0;
      counted = λ node le. ap (λ (xs : List ℕ). get_or xs node 0) counts ∙ zero_there places node;
      good = λ place less. absurd (omega (arith, less));
    }

pub are_customers-requires-clause-demands : goal.are_customers-requires-clause-demands
are_customers-requires-clause-demands c = c.requires.demands

pub are_customers-requires-clause-places : goal.are_customers-requires-clause-places
are_customers-requires-clause-places c = ap length c.deref_mut.ensures.value ∙ c.rows.invariant.places

pub are_customers-requires-clause-fresh : goal.are_customers-requires-clause-fresh
are_customers-requires-clause-fresh c =
    subst (λ (xs : List ℕ). AreUnmarked xs (c.rows.index + 1)) (sym c.deref_mut.ensures.value)
    (c.rows.invariant.fresh (c.rows.index + 1) (omega arith))

pub add_ones-requires-clause-inside : goal.add_ones-requires-clause-inside
add_ones-requires-clause-inside c = λ k d lt.
    let are = c.if-not-are_customers.ensures.are.0 refl in
    let inside = subst (All (IsCustomer c.args.demands.now.nodes c.args.demands.now.depot)) (c.deref.ensures.value ∙ sym c.deref-in-rows.ensures.value) are.0 in
    let there = (inside k d lt).0.1 in
    let long = ap length c.deref_mut-in-rows.ensures.value in
    let places = c.rows.invariant.long in
    omega (arith, there, long, places)

pub add_ones-requires-clause-once : goal.add_ones-requires-clause-once
add_ones-requires-clause-once c =
    subst HasEachOnce (c.deref.ensures.value ∙ sym c.deref-in-rows.ensures.value) (c.if-not-are_customers.ensures.are.0 refl).1

-- all rows are judged in the end
pub returns : goal.returns
returns c =
    let h = c.rows.invariant in
    let rows : List SubsetRow = map subset_row_of c.args.rows.now in
    let wide = length-map c.args.rows.now subset_row_of in
    let all : take c.rows.index rows ≡ rows = take_all c.rows.index rows (omega (arith, wide, c.rows-test.false)) in (
      λ place less. h.good place (omega (arith, less, wide, c.rows-test.false)),
      h.long,
      λ node le. h.counted node le ∙ ap (λ (rs : List SubsetRow). rows_kept rs node) all,
    )
