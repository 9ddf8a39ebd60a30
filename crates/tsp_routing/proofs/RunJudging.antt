-- For src/run_verdict.rt: the steps of a certificate with places, rows with their charges, the numbers of a leaf, and
-- the memories of good lists and rows.
use Rattle.std.proofs.lemmas.List.{length-take}
use Rattle.tsp_format.specs.Steps.{SubsetRow}
use Rattle.tsp_format.specs.Steps as listed
use Rattle.tsp_format.specs.declared.steps.RowSets.{RowSets}
use Rattle.tsp_format.specs.declared.steps.TreeStep.{TreeStep}
use Rattle.tsp_format.specs.states.TreeSteps.{step_of, steps_of, subset_row_of}
use Rattle.tsp_cases.specs.JudgedLeaves.{IsFoundOfCase}
use Rattle.tsp_cases.specs.declared.judged.JudgedLeaf.TheVariants as leaves
use Rattle.tsp_routing.proofs.CutNeeds.{no_depot}
use Rattle.tsp_routing.proofs.JudgedLists.{has_both}
use Rattle.tsp_routing.proofs.PlanJudging.{few_customers, plan_numbers_small}
use Rattle.tsp_routing.proofs.Prelude.{◌≡◌, ℕ, zero, suc, ◌+◌, ◌<◌, ◌^◌, List, [], ◌∷◌, ◌++◌, map, drop, length, get_or, refl, sym, ap, ◌∙◌, subst, ℤ, drop_more, append_assoc, map_push, length-map, AllByRecursion, recursion_from_All, All-from_recursion, All, are_whole, IsStepOf, ◌≤◌, ◌==◌, Bool, true, false, take, arith, inl, inr, if◌then◌else◌, ints, pos, ◌+ℤ◌, ◌*ℤ◌, ◌≤ℤ◌, Some, Vec, All-weaker, cases_eq, ne_eqb, length-append, length-drop, get_or-map, most_nodes, IsNode, IsCustomer, as_leaf_numbers, split_at, entry, families_with, Crossings, Decision}
use Rattle.tsp_routing.proofs.RouteProducts.{sizes_low}
use Rattle.tsp_routing.specs.KeptStates.{HasTooManyStates}
use Rattle.tsp_routing.specs.Memories.{row_keys, keys_of, AreMemories}
use Rattle.tsp_routing.specs.PlanVerdicts.{ArePlanNumbers, most_of_multipliers, sizes_total}
use Rattle.tsp_routing.specs.RunBounds.{leaf_rules, IsRunBound}
use Rattle.tsp_routing.specs.RunTrees.{number_place, placed_changes, step_with_places, placed_steps, owner_of, near_of, IsGoodRow, row_at, AreGoodRows, AreGoodLists, rows_kept, IsGoodMemory, charged_rows, AreRunNumbers, RunTree, AreFewNumbers, IsFoundByRuns}
use Rattle.tsp_routing.specs.Runs.{keeps, RunRules, AreCharges}
use Rattle.tsp_routing.specs.declared.demands.Demands.{Demands}
use Rattle.tsp_routing.specs.declared.memories.MemoryKey.{MemoryKey}
use Rattle.tsp_routing.specs.states.Demands.{loads_problem}
use Rattle.tsp_routing.specs.states.JudgedMemory.{IsNearTable}
use Rattle.tsp_routing.specs.states.MemoryTables.{near_in, free_rows, key_place_in, IsKeyPlace, AreMemoriesOf}
use Rattle.tsp_routing.specs.states.RunJudged.{tree_in, AreTablesFor, IsSmallRow}
use Rattle.tsp_routing.specs.states.RunTables.{item_lists, rules_by}

pub map_pushed : {X Y : Type 0} (f : X → Y) (done new whole : List Y) (xs : List X) (index : ℕ) (d : X) → index < length xs
    → new ≡ done ++ f (get_or xs index d) ∷ [] → done ++ map f (drop index xs) ≡ whole → new ++ map f (drop (index + 1) xs) ≡ whole
map_pushed {X} {Y} f done new whole xs index d lt is before =
    let own : Y = f (get_or xs index d) in
    let rest : List Y = map f (drop (index + 1) xs) in
    let split : map f (drop index xs) ≡ own ∷ rest = ap (λ (ys : List X). map f ys) (drop_more xs index d lt) in
    ap (λ (ys : List Y). ys ++ rest) is
    ∙ (append_assoc done (own ∷ []) rest
    ∙ (sym (ap (λ (ys : List Y). done ++ ys) split) ∙ before))

-- a tree with places is as whole as the one without
pub whole_placed : (n families : ℕ) (count : ℕ) (steps : List listed.Step) → are_whole count (placed_steps n families steps) ≡ are_whole count steps
whole_placed n families zero [] = refl
whole_placed n families zero (step ∷ steps) = refl
whole_placed n families (suc count) [] = refl
whole_placed n families (suc count) (listed.Branch a b ∷ steps) = whole_placed n families (suc (suc count)) steps
whole_placed n families (suc count) (listed.Leaf changes ∷ steps) = whole_placed n families count steps

-- its steps are as long
pub steps_placed : (n families places : ℕ) (steps : List listed.Step) → All (IsStepOf places) steps
    → All (IsStepOf places) (placed_steps n families steps)
steps_placed n families places steps all = All-from_recursion (IsStepOf places) (placed_steps n families steps)
    (each steps (recursion_from_All (IsStepOf places) steps all))
  where
    each : (xs : List listed.Step) → AllByRecursion (IsStepOf places) xs → AllByRecursion (IsStepOf places) (placed_steps n families xs)
    each [] own = tt
    each (listed.Branch a b ∷ xs) own = (own.0, each xs own.1)
    each (listed.Leaf changes ∷ xs) own = (
      subst (λ (k : ℕ). k < 2 ^ 32) (sym (length-map changes (λ (change : ℕ × ℤ). (number_place n families change.0, change.1)))) own.0,
      each xs own.1,
    )

-- one step more
pub steps_pushed : (n families : ℕ) (done new : List TreeStep) (whole : List listed.Step) (steps : List TreeStep) (index : ℕ)
    (own : TreeStep) → index < length steps → new ≡ done ++ own ∷ []
    → step_of own ≡ step_with_places n families (step_of (get_or steps index own))
    → steps_of done ++ placed_steps n families (steps_of (drop index steps)) ≡ whole
    → steps_of new ++ placed_steps n families (steps_of (drop (index + 1) steps)) ≡ whole
steps_pushed n families done new whole steps index own lt is placed before =
    let rest : List listed.Step = placed_steps n families (steps_of (drop (index + 1) steps)) in
    let split : placed_steps n families (steps_of (drop index steps)) ≡ step_of own ∷ rest =
    ap (λ (xs : List TreeStep). placed_steps n families (steps_of xs)) (drop_more steps index own lt)
    ∙ ap (λ (s : listed.Step). s ∷ rest) (sym placed) in
    ap (λ (xs : List TreeStep). steps_of xs ++ rest) is
    ∙ (ap (λ (xs : List listed.Step). xs ++ rest) (map_push step_of done own)
    ∙ (append_assoc (steps_of done) (step_of own ∷ []) rest
    ∙ (sym (ap (λ (xs : List listed.Step). steps_of done ++ xs) split) ∙ before)))

-- as many steps
pub placed_long : (n families : ℕ) (placed steps : List TreeStep) → steps_of placed ≡ placed_steps n families (steps_of steps)
    → length placed ≡ length steps
placed_long n families placed steps is =
    sym (length-map placed step_of)
    ∙ (ap (λ (xs : List listed.Step). length xs) is
    ∙ (length-map (steps_of steps) (step_with_places n families) ∙ length-map steps step_of))

-- ---- rows with their charges

pub sets_of_charged : (rows : List SubsetRow) (charges : List ℤ) → length rows ≡ length charges
    → map (λ (row : SubsetRow × ℤ). row.0) (charged_rows rows charges) ≡ rows
sets_of_charged [] charges as_many = refl
sets_of_charged (row ∷ rows) [] as_many = absurd (omega (arith, as_many))
sets_of_charged (row ∷ rows) (charge ∷ charges) as_many =
    ap (λ (rs : List SubsetRow). row ∷ rs) (sets_of_charged rows charges (omega (arith, as_many)))

pub charges_of_charged : (rows : List SubsetRow) (charges : List ℤ) → length rows ≡ length charges
    → map (λ (row : SubsetRow × ℤ). row.1) (charged_rows rows charges) ≡ charges
charges_of_charged [] [] as_many = refl
charges_of_charged [] (charge ∷ charges) as_many = absurd (omega (arith, as_many))
charges_of_charged (row ∷ rows) [] as_many = absurd (omega (arith, as_many))
charges_of_charged (row ∷ rows) (charge ∷ charges) as_many =
    ap (λ (cs : List ℤ). charge ∷ cs) (charges_of_charged rows charges (omega (arith, as_many)))

signs : (rows : List SubsetRow) (charges : List ℤ) → AllByRecursion (λ (charge : ℤ). pos 0 ≤ℤ charge) charges
    → AllByRecursion (λ (row : SubsetRow × ℤ). pos 0 ≤ℤ row.1) (charged_rows rows charges)
signs [] charges all = tt
signs (row ∷ rows) [] all = tt
signs (row ∷ rows) (charge ∷ charges) all = (all.0, signs rows charges all.1)

pub signs_of_charged : (rows : List SubsetRow) (charges : List ℤ) → All (λ (charge : ℤ). pos 0 ≤ℤ charge) charges
    → AreCharges (charged_rows rows charges)
signs_of_charged rows charges all = All-from_recursion (λ (row : SubsetRow × ℤ). pos 0 ≤ℤ row.1) (charged_rows rows charges)
    (signs rows charges (recursion_from_All (λ (charge : ℤ). pos 0 ≤ℤ charge) charges all))

-- ---- the numbers of a leaf: multipliers, and then charges

sizes_parts : (k : ℕ) (numbers : List ℤ) → sizes_total numbers ≡ sizes_total (take k numbers) +ℤ sizes_total (drop k numbers)
sizes_parts zero [] = omega (arith, ints)
sizes_parts zero (m ∷ ms) = omega (arith, ints)
sizes_parts (suc k) [] = omega (arith, ints)
sizes_parts (suc k) (m ∷ ms) = let rest = sizes_parts k ms in omega (arith, ints, rest)

-- those of nodes and families are good
pub family_part : (n families rows : ℕ) (potentials numbers : List ℤ) → ArePlanNumbers n (families + rows) (as_leaf_numbers potentials numbers)
    → ArePlanNumbers n families (as_leaf_numbers potentials (take families numbers))
family_part n families rows potentials numbers good = record {
  each_node = good.each_node;
  each_family = let long = length-take families numbers in let each = good.each_family in omega (arith, long, each);
  potentials_are = good.potentials_are;
  sum = let parts = sizes_parts families numbers in
      let low = sizes_low (drop families numbers) in
      let sum = good.sum in omega (arith, ints, parts, low, sum);
}

-- the charges are no larger than all numbers together may be
pub charges_small : (n families rows : ℕ) (potentials numbers : List ℤ) → ArePlanNumbers n (families + rows) (as_leaf_numbers potentials numbers)
    → sizes_total (drop families numbers) ≤ℤ pos most_of_multipliers
charges_small n families rows potentials numbers good =
    let parts = sizes_parts families numbers in
    let low = sizes_low (take families numbers) in
    let sum = good.sum in omega (arith, ints, parts, low, sum)

-- ---- what good lists and rows keep

-- the nodes of good lists are customers
module _ (n depot : ℕ) where
  rest_of : (list : List ℕ) → All (IsCustomer n depot) list → All (IsCustomer n depot) (drop 1 list)
  rest_of [] all = λ k d lt. absurd (omega (arith, lt))
  rest_of (x ∷ xs) all = λ k d lt. all (suc k) d (omega (arith, lt))

  near_inside : (lists : List (List ℕ)) → ((place : ℕ) → place < length lists → All (IsCustomer n depot) (get_or lists place []))
      → (node : ℕ) → All (IsCustomer n depot) (near_of lists node)
  near_inside [] all node = λ k d lt. absurd (omega (arith, lt))
  near_inside (list ∷ lists) all node = at (owner_of list == node) (rest_of list (all 0 (omega arith)))
      (near_inside lists (λ place lt. all (suc place) (omega (arith, lt))) node)
    where
      at : (b : Bool) → All (IsCustomer n depot) (drop 1 list) → All (IsCustomer n depot) (near_of lists node)
          → All (IsCustomer n depot) (if b then drop 1 list else near_of lists node)
      at true own rest = own
      at false own rest = rest

  -- the depot remembers none
  near_depot : IsNode n depot → (lists : List (List ℕ))
      → ((place : ℕ) → place < length lists → All (IsCustomer n depot) (get_or lists place [])) → near_of lists depot ≡ []
  near_depot there [] all = refl
  near_depot there (list ∷ lists) all =
      let rest = near_depot there lists (λ place lt. all (suc place) (omega (arith, lt))) in
      elim (cases_eq (owner_of list) depot) [
        | inl same ↦ absurd (apart list (all 0 (omega arith)) same)
        | inr other ↦ ap (λ (b : Bool). if b then drop 1 list else near_of lists depot) (ne_eqb (owner_of list) depot other) ∙ rest
      ]
    where
      apart : (xs : List ℕ) → All (IsCustomer n depot) xs → owner_of xs ≡ depot → ⊥
      apart [] own same = let least = there.0 in omega (arith, least, same)
      apart (x ∷ xs) own same = (own 0 0 (omega arith)).1 same

  -- and keeps no row
  kept_depot : (rows : List SubsetRow) → AreGoodRows n depot rows → rows_kept rows depot ≡ 0
  kept_depot [] good = refl
  kept_depot (row ∷ rows) good =
      let own = good 0 (omega arith) in
      let off = sym (has_both row.set row.further depot)
      ∙ no_depot n depot (row.set ++ row.further) (recursion_from_All (IsCustomer n depot) (row.set ++ row.further) own.inside) in
      let rest = kept_depot rows (λ place lt. good (suc place) (omega (arith, lt))) in
      let here = ap (λ (b : Bool). (if b then 1 else 0) + rows_kept rows depot) off in
      omega (arith, here, rest)

-- as many keys of rows as rows are kept
keys_counted : (key : ℕ) (rows : List RowSets) (customer : ℕ)
    → length (row_keys key (free_rows rows) customer) ≡ rows_kept (map subset_row_of rows) customer
keys_counted key [] customer = refl
keys_counted key (row ∷ rows) customer = at (keeps (subset_row_of row) customer) (keys_counted (key + 1) rows customer)
  where
    at : (b : Bool) → length (row_keys (key + 1) (free_rows rows) customer) ≡ rows_kept (map subset_row_of rows) customer
        → length (if b then key ∷ row_keys (key + 1) (free_rows rows) customer else row_keys (key + 1) (free_rows rows) customer)
        ≡ (if b then 1 else 0) + rows_kept (map subset_row_of rows) customer
    at true same = omega (arith, same)
    at false same = omega (arith, same)

-- good lists and rows are memories that fit a word
pub good_memories : (n depot : ℕ) (lists : List (List ℕ)) (rows : List RowSets) (near : ℕ → List ℕ) → IsNode n depot
    → IsGoodMemory n depot lists (map subset_row_of rows) → ((node : ℕ) → node ≤ n → near node ≡ near_of lists node)
    → AreMemories n near (free_rows rows)
good_memories n depot lists rows near depot_in good same =
    let inside : (place : ℕ) → place < length lists → All (IsCustomer n depot) (get_or lists place []) =
    λ place lt. (good.lists_are place lt).inside in
    record {
      nodes_are = λ customer there. subst (All (IsNode n)) (sym (same customer there.1))
          (All-weaker (IsCustomer n depot) (IsNode n) (λ node is. is.0) (near_of lists customer) (near_inside n depot lists inside customer));
      few = λ customer there.
          let keys = length-append (near customer) (row_keys (n + 1) (free_rows rows) customer) in
          let count = keys_counted (n + 1) rows customer in
          let near_same = ap (λ (xs : List ℕ). length xs) (same customer there.1) in
          elim (cases_eq customer depot) [
            | inl it ↦
                let none : length (near_of lists customer) ≡ 0 = ap (λ (k : ℕ). length (near_of lists k)) it
                ∙ ap (λ (xs : List ℕ). length xs) (near_depot n depot depot_in lists inside) in
                let no_rows : rows_kept (map subset_row_of rows) customer ≡ 0 = ap (λ (k : ℕ). rows_kept (map subset_row_of rows) k) it
                ∙ kept_depot n depot (map subset_row_of rows) good.rows_are in
                omega (arith, keys, count, near_same, none, no_rows)
            | inr other ↦
                let fits = good.fits customer (there, other) in
                omega (arith, keys, count, near_same, fits)
          ];
    }

-- tables of memories stay those of other rules, if these remember the same
pub memories_for : (n : ℕ) (near other : ℕ → List ℕ) (depot : ℕ) (load : ℕ → ℕ) (room : ℕ) (weight : ℕ → ℕ → ℤ)
    (rows : List (SubsetRow × ℤ)) (count : ℕ) (keys : List (Vec MemoryKey)) (places : List (Vec ℕ))
    → ((node : ℕ) → IsNode n node → near node ≡ other node)
    → AreMemoriesOf (rules_by n 0 [] 0 [] near rows) count keys places
    → AreMemoriesOf (record { nodes = n; depot = depot; load = load; room = room; weight = weight; near = other; rows = rows })
    count keys places
memories_for n near other depot load room weight rows count keys places same given = record {
  near = λ node there. subst (All (IsNode n)) (same node there) (given.near node there);
  many = given.many;
  keys_are = λ node there. given.keys_are node there ∙ ap (λ (xs : List ℕ). xs ++ row_keys (n + 1) rows node) (same node there);
  members_are = given.members_are;
  places_are = λ node key there most. subst (λ (xs : List ℕ). IsKeyPlace (xs ++ row_keys (n + 1) rows node) (key_place_in places node key) key)
      (same node there) (given.places_are node key there most);
}

-- the sets of good rows can be counted
pub small_rows : (n depot : ℕ) (rows : List RowSets) → n ≤ most_nodes → AreGoodRows n depot (map subset_row_of rows)
    → All IsSmallRow rows
small_rows n depot rows few good = λ k d lt.
    let own : IsGoodRow n depot (subset_row_of (get_or rows k d)) =
    subst (IsGoodRow n depot) (get_or-map subset_row_of rows k d (record { set = []; further = [] }) lt)
    (good k (let long = length-map rows subset_row_of in omega (arith, long, lt))) in
    let set : List ℕ = (get_or rows k d).set.items in
    let further : List ℕ = (get_or rows k d).further.items in
    let long = length-append set further in
    let most = few_customers n depot (set ++ further)
    (All-weaker (IsCustomer n depot) (IsNode n) (λ node is. is.0) (set ++ further) own.inside) own.once in
    omega (arith, long, most, few)

-- ---- good numbers as they are read

-- if as many are read as there are nodes
pub run_numbers_read : (n p families rows : ℕ) (numbers : List ℤ) → p ≡ n
    → AreRunNumbers p families rows (as_leaf_numbers (take p numbers) (drop p numbers)) → AreRunNumbers n families rows (split_at n numbers)
run_numbers_read n p families rows numbers same good =
    subst (λ (k : ℕ). AreRunNumbers k families rows (split_at k numbers)) same good

-- the lists that are read from the numbers of a leaf: potentials, the multipliers of families, and the charges of rows
pub record IsLeafRead (n families rows : ℕ) (numbers potentials multipliers charges : List ℤ) : Type 0 where
  pub good : AreRunNumbers n families rows (split_at n numbers)
  pub potentials_are : potentials ≡ take n numbers
  pub multipliers_are : multipliers ≡ take families (drop n numbers)
  pub charges_are : charges ≡ drop families (drop n numbers)

pub leaf_read : (n p families rows : ℕ) (numbers both potentials multipliers charges : List ℤ) → p ≡ n
    → AreRunNumbers p families rows (as_leaf_numbers (take p numbers) (drop p numbers)) → potentials ≡ take p numbers
    → both ≡ drop p numbers → multipliers ≡ take families both → charges ≡ drop families both
    → IsLeafRead n families rows numbers potentials multipliers charges
leaf_read n p families rows numbers both potentials multipliers charges same good of_nodes of_both front back = record {
  good = run_numbers_read n p families rows numbers same good;
  potentials_are = of_nodes ∙ ap (λ (k : ℕ). take k numbers) same;
  multipliers_are = front ∙ (ap (λ (zs : List ℤ). take families zs) of_both ∙ ap (λ (k : ℕ). take families (drop k numbers)) same);
  charges_are = back ∙ (ap (λ (zs : List ℤ). drop families zs) of_both ∙ ap (λ (k : ℕ). drop families (drop k numbers)) same);
}

module _ (n families rows : ℕ) (numbers potentials multipliers charges : List ℤ)
    (read : IsLeafRead n families rows numbers potentials multipliers charges) where
  pub plan_read : ArePlanNumbers n families (as_leaf_numbers potentials multipliers)
  plan_read = subst (λ (ps : List ℤ). ArePlanNumbers n families (as_leaf_numbers ps multipliers)) (sym read.potentials_are)
      (subst (λ (ms : List ℤ). ArePlanNumbers n families (as_leaf_numbers (take n numbers) ms)) (sym read.multipliers_are)
      (family_part n families rows (take n numbers) (drop n numbers) read.good.plan))

  pub sizes_read : sizes_total charges ≤ℤ pos most_of_multipliers
  sizes_read = subst (λ (cs : List ℤ). sizes_total cs ≤ℤ pos most_of_multipliers) (sym read.charges_are)
      (charges_small n families rows (take n numbers) (drop n numbers) read.good.plan)

  pub signs_read : All (λ (charge : ℤ). pos 0 ≤ℤ charge) charges
  signs_read = subst (All (λ (charge : ℤ). pos 0 ≤ℤ charge)) (sym read.charges_are) read.good.signs

  pub count_read : length charges ≡ rows
  count_read =
      let long = length-drop families (drop n numbers) in
      let each = read.good.plan.each_family in
      let same = ap (λ (cs : List ℤ). length cs) read.charges_are in
      omega (arith, long, each, same)

-- what is found of a leaf is found of its numbers
module _ (tree : RunTree) (case : List Decision) (numbers potentials multipliers charges : List ℤ)
    (read : IsLeafRead tree.problem.nodes tree.family_count tree.row_count numbers potentials multipliers charges) where
  abbrev rules_of : List ℤ → List ℤ → List ℤ → RunRules
  rules_of ps ms cs = leaf_rules tree.problem tree.scale tree.unit tree.light tree.families (as_leaf_numbers ps ms)
      (near_of tree.lists) (charged_rows tree.rows cs)

  abbrev IsBound : List ℤ → List ℤ → List ℤ → ℤ → Type 0
  IsBound ps ms cs bound = IsRunBound tree.problem tree.scale tree.unit tree.light tree.families case (as_leaf_numbers ps ms)
      (near_of tree.lists) (charged_rows tree.rows cs) bound

  abbrev limit_of : List ℤ → ℤ
  limit_of ps = pos 2 *ℤ entry ps tree.problem.depot

  as_read : (P : List ℤ → List ℤ → List ℤ → Type 0) → P potentials multipliers charges
      → P (take tree.problem.nodes numbers) (take tree.family_count (drop tree.problem.nodes numbers))
      (drop tree.family_count (drop tree.problem.nodes numbers))
  as_read P is =
      subst (λ (ps : List ℤ). P ps (take tree.family_count (drop tree.problem.nodes numbers))
      (drop tree.family_count (drop tree.problem.nodes numbers))) read.potentials_are
      (subst (λ (ms : List ℤ). P potentials ms (drop tree.family_count (drop tree.problem.nodes numbers))) read.multipliers_are
      (subst (λ (cs : List ℤ). P potentials multipliers cs) read.charges_are is))

  pub many_found : HasTooManyStates (rules_of potentials multipliers charges) (limit_of potentials)
      → AreFewNumbers tree (split_at tree.problem.nodes numbers) → ⊥
  many_found many few = few.few (as_read (λ ps ms cs. HasTooManyStates (rules_of ps ms cs) (limit_of ps)) many)

  pub few_found : (bound : ℤ) → (HasTooManyStates (rules_of potentials multipliers charges) (limit_of potentials) → ⊥)
      → IsBound potentials multipliers charges bound
      → IsFoundOfCase (IsFoundByRuns tree) (AreFewNumbers tree) tree.problem.nodes case numbers (leaves.Found (Some bound))
  few_found bound few is = (
    record {
      good = read.good;
      few = as_read (λ ps ms cs. HasTooManyStates (rules_of ps ms cs) (limit_of ps) → ⊥) few;
    },
    plan_numbers_small tree.problem.nodes (tree.family_count + tree.row_count) numbers read.good.plan,
    (
      signs_of_charged tree.rows (drop tree.family_count (drop tree.problem.nodes numbers)) read.good.signs,
      ∣ as_read (λ ps ms cs. IsBound ps ms cs bound) is ∣₁,
    ),
  )

-- ---- the tables of memories serve every leaf

pub tables_for : (demands : Demands) (cost : ℕ → ℕ → ℤ) (scale : ℤ) (unit light : ℕ) (crossed : List Crossings)
    (families : List (List (List ℕ))) (lists : List (Vec ℕ)) (rows : List RowSets) (near : List (Vec ℕ)) (count : ℕ)
    (keys : List (Vec MemoryKey)) (places : List (Vec ℕ)) → count ≡ length rows → IsNearTable demands.nodes (item_lists lists) near
    → ((depot : ℕ) (loads : List ℕ) (room : ℕ) (links : List (Vec ℤ)) (priced : List (SubsetRow × ℤ))
    → map (λ (row : SubsetRow × ℤ). row.0) priced ≡ map subset_row_of rows
    → AreMemoriesOf (rules_by demands.nodes depot loads room links (near_in near) priced) (length rows) keys places)
    → AreTablesFor (tree_in demands cost scale unit light crossed families lists rows) count keys places
tables_for demands cost scale unit light crossed families lists rows near count keys places many table are numbers priced same =
    subst (λ (k : ℕ). AreMemoriesOf (leaf_rules (loads_problem demands cost) scale unit light (families_with crossed families) numbers
    (near_of (item_lists lists)) priced) k keys places) (sym many)
    (memories_for demands.nodes (near_in near) (near_of (item_lists lists)) _ _ _ _ priced (length rows) keys places
    (λ node there. table.are node there.1) (are 0 [] 0 [] priced same))
