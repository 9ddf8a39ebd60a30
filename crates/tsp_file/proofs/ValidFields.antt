-- What each test of Validity.antt says of a value, for src/validity.rt and src/table.rt, and that the first bad field
-- is the one that is found. tsp_read and tsp_text import it, too.
use Rattle.tsp_file.proofs.Prelude.{◌≡◌, ℕ, zero, suc, ◌+◌, [], ◌∷◌, ◌≤◌, Bool, true, false, List, length, map, refl, sym, ap, ◌∙◌, arith, ◌<◌, drop, ◌^◌, pos, ◌≤ℤ◌, to_z, of_z, FitsSigned, rules, ◌*◌, cond, Option, None, Some, subst, inl, inr, le-leb, false≢true, leb-true, eqb-true, and_parts, and_from, or_right, or_parts, ints, to_z-of_z, length-map, at_drop_more, list_all-map, list_all-from_AllPass, AllPass-from_list_all, w64, fold, list_all, sum_by, All, AllByRecursion, option_map, ◌&&◌, nat_le, replicate, ℤ, slice_index_or as get_or, not, ◌||◌, ◌==◌, IsTrue, IsSome, is_some, ◌⊎◌, neg_ℤ, int_le, Point, most_tour_nodes, most_families, most_family_nodes, most_rows, most_branches, most_changes, most_nodes, most_matrix_nodes, most_coordinate, most_weight, most_demand, most_capacity, most_scale, most_load_unit, most_potential, most_depots, most_fixed, most_triples, most_multiplier, most_difference, IsNode, cells, are_whole, branch_count, change_count, Step, SubsetRow, row_size, Branch, Leaf, IsFromTo, Field, WeightFormat, ByFunction, Listed, Layout, step_of, steps_of}
use Rattle.std.proofs.lemmas.Bool.Decides.{Decides-int_eq, nat_tests}
use Rattle.std.proofs.lemmas.List.Elements.{All-weaker}
use Rattle.std.specs.Global.{Vec}
use Rattle.tsp_format.proofs.Basics.{none_or, none_map}
use Rattle.tsp_format.specs.declared.keyword.Field.TheVariants as fields
use Rattle.tsp_format.specs.declared.keyword.Shape.TheVariants.{Points, SpacePoints}
use Rattle.tsp_format.specs.declared.kinds.Kind.{Kind}
use Rattle.tsp_format.specs.declared.kinds.Kind.TheVariants as kinds
use Rattle.tsp_format.specs.declared.steps.TreeStep.{TreeStep}
use Rattle.tsp_format.specs.declared.steps.TreeStep.TheVariants as listed
use Rattle.tsp_file.proofs.FieldLengths.{all_fit}
use Rattle.tsp_file.specs.Fields.{Fields, spatial}
use Rattle.tsp_file.specs.Rules.{standing_of, count_of, is_instance, is_routing, is_tour_file, is_potentials_file, is_branches_file, is_explicit, is_function, has_explicit_weights, is_there, asked_in_order, has_wrong_format, is_count, has_wrong_count, has_row_or_column, has_node_or_multiplier, end_fault, format_or_count, fault_of}
use Rattle.tsp_file.specs.Valid.{IsWithin, IsByNode, IsThird, IsPoint, IsDemand, IsPairOf, IsNodeList, AreDepots, AreFixed, IsTripleOf, AreTriples, AreWeights, AreTours, IsInRange, HasInstance, HasRouting, HasPotentials, IsSetOf, AreSets, AreFamilyLists, AreMemoryLists, IsRowOf, AreSubsetRows, IsChange, IsBranchOf, IsStep, AreTreeSteps, HasBranches}
use Rattle.tsp_file.specs.Validity.{is_node_list, are_tours, is_set_of, are_sets, are_family_lists, are_memory_lists, is_row_of, are_subset_rows, is_step, are_tree_steps, is_from_to, if_there, is_within, is_node, with_dimension, is_by_node, is_third, is_point, is_demand, section_fits, are_depots, is_pair_of, are_fixed, is_triple_of, are_triples, fit_matrix, is_change, is_branch_of, fits, first_failing, bad_field}
use Rattle.tsp_file.specs.declared.rules.DraftFault.TheVariants.{BadField, Rule}
use Rattle.tsp_file.specs.declared.rules.EndFault.TheVariants.{Missing, WrongFormat, WrongCount}
use Rattle.tsp_file.specs.states.Drafts.{families_of}

pub mapped_all : {X Y : Type 0} (h : Y → X) (p : X → Bool) (ys : List Y) (r : Bool) (most count : ℕ)
    → r ≡ list_all (λ y. p (h y)) ys → count ≤ most → count ≡ length ys
    → r ≡ (nat_le (length (map h ys)) most && list_all p (map h ys))
mapped_all h p ys r most count e le counted =
    let short : nat_le (length (map h ys)) most ≡ true = le-leb (length (map h ys)) most (omega (arith, length-map ys h, le, counted)) in
    e ∙ sym (list_all-map p h ys) ∙ sym (ap (λ (b : Bool). b && list_all p (map h ys)) short)

fold_mapped : {X Y : Type 0} (f : X → ℕ) (h : Y → X) (total : ℕ) (ys : List Y)
    → fold (λ a x. a + f x) total (map h ys) ≡ fold (λ a y. a + f (h y)) total ys
fold_mapped f h total [] = refl
fold_mapped f h total (y ∷ ys) = fold_mapped f h (total + f (h y)) ys

pub sum_by_mapped : {X Y : Type 0} (f : X → ℕ) (h : Y → X) (ys : List Y) → sum_by f (map h ys) ≡ sum_by (λ y. f (h y)) ys
sum_by_mapped f h ys = fold_mapped f h 0 ys

pub mapped_tours : (tours : List (Vec ℕ)) (r : Bool)
    → r ≡ (list_all (λ tour. is_node_list tour.items) tours && nat_le (sum_by (λ tour. length tour.items) tours) most_tour_nodes)
    → r ≡ are_tours (map (λ tour. tour.items) tours)
mapped_tours tours r e =
    e ∙ rw (list_all-map is_node_list (λ (tour : Vec ℕ). tour.items) tours, sum_by_mapped (λ (t : List ℕ). length t) (λ (tour : Vec ℕ). tour.items) tours) refl

-- ---- families

pub family_seen : (n : ℕ) (sets : List (Vec ℕ))
    → are_sets n (map (λ set. set.items) sets) ≡ (nat_le 1 (length sets) && list_all (λ set. is_set_of n set.items) sets)
family_seen n sets =
    rw (length-map sets (λ (set : Vec ℕ). set.items), list_all-map (is_set_of n) (λ (set : Vec ℕ). set.items) sets) refl

-- the number of nodes in the sets of families
nodes_seen : (families : List (Vec (Vec ℕ)))
    → sum_by (sum_by length) (families_of families) ≡ sum_by (λ family. sum_by (λ set. length set.items) family.items) families
nodes_seen families = sum_by_mapped (sum_by length) (λ (family : Vec (Vec ℕ)). map (λ set. set.items) family.items) families ∙ each families 0
  where
    each : (families : List (Vec (Vec ℕ))) (total : ℕ) → fold (λ a family. a + sum_by length (map (λ set. set.items) family.items)) total families
        ≡ fold (λ a family. a + sum_by (λ set. length set.items) family.items) total families
    each [] total = refl
    each (family ∷ families) total =
        rw (sum_by_mapped (λ (set : List ℕ). length set) (λ (set : Vec ℕ). set.items) family.items)
        (each families (total + sum_by (λ set. length set.items) family.items))

pub families_seen : (n : ℕ) (families : List (Vec (Vec ℕ))) → are_family_lists n (families_of families)
    ≡ (nat_le (length families) most_families && list_all (λ family. are_sets n (map (λ set. set.items) family.items)) families
    && nat_le (sum_by (λ family. sum_by (λ set. length set.items) family.items) families) most_family_nodes)
families_seen n families =
    rw (
      length-map families (λ (family : Vec (Vec ℕ)). map (λ set. set.items) family.items),
      list_all-map (are_sets n) (λ (family : Vec (Vec ℕ)). map (λ set. set.items) family.items) families,
      nodes_seen families,
    ) refl

-- ---- steps

all_four : (a b c d : Bool) → (a && b && c && d) ≡ (a && (b && c) && d)
all_four true b c d = refl
all_four false b c d = refl

pub steps_seen : (n : ℕ) (steps : List TreeStep) → are_tree_steps n (steps_of steps)
    ≡ (list_all (λ step. is_step n (step_of step)) steps
    && (nat_le (branch_count (steps_of steps)) most_branches && nat_le (change_count (steps_of steps)) most_changes)
    && are_whole 1 (steps_of steps))
steps_seen n steps = rw (list_all-map (is_step n) step_of steps)
    (all_four (list_all (λ step. is_step n (step_of step)) steps) (nat_le (branch_count (steps_of steps)) most_branches)
    (nat_le (change_count (steps_of steps)) most_changes) (are_whole 1 (steps_of steps)))

pub judged_steps : (n : ℕ) (steps : List TreeStep) (each few whole r : Bool)
    → each ≡ list_all (λ step. is_step n (step_of step)) steps
    → few ≡ (nat_le (branch_count (steps_of steps)) most_branches && nat_le (change_count (steps_of steps)) most_changes)
    → whole ≡ are_whole 1 (steps_of steps) → r ≡ (each && few && whole) → r ≡ are_tree_steps n (steps_of steps)
judged_steps n steps each few whole r of_each of_few of_whole is =
    is ∙ ap (λ (b : Bool). b && few && whole) of_each
    ∙ ap (λ (b : Bool). list_all (λ step. is_step n (step_of step)) steps && b && whole) of_few
    ∙ ap (λ (b : Bool). list_all (λ step. is_step n (step_of step)) steps
    && (nat_le (branch_count (steps_of steps)) most_branches && nat_le (change_count (steps_of steps)) most_changes) && b) of_whole
    ∙ sym (steps_seen n steps)

-- a list of equal elements, each mapped
pub map_replicate : {X Y : Type 0} (f : X → Y) (n : ℕ) (x : X) → map f (replicate n x) ≡ replicate n (f x)
map_replicate f zero x = refl
map_replicate f (suc n) x = ap (λ ys. f x ∷ ys) (map_replicate f n x)

-- ---- the steps of trees of cases, one after the other

-- if a tree is still to come, a branch makes one more
pub after_branch : (steps : List TreeStep) (i : ℕ) (d : TreeStep) (left first second : ℕ) → i < length steps
    → get_or steps i d ≡ listed.Branch first second → (left ≡ 0 → ⊥)
    → are_whole (left + 1) (steps_of (drop (i + 1) steps)) ≡ are_whole left (steps_of (drop i steps))
after_branch steps i d zero first second lt is some = absurd (some refl)
after_branch steps i d (suc left) first second lt is some =
    let more : suc (suc left) ≡ suc left + 1 = omega arith in
    sym (at_drop_more (λ rest. are_whole (suc left) (steps_of rest)) steps i d lt
    ∙ ap (λ (step : TreeStep). are_whole (suc left) (steps_of (step ∷ drop (i + 1) steps))) is
    ∙ ap (λ (k : ℕ). are_whole k (steps_of (drop (i + 1) steps))) more)

-- and a leaf one less
pub after_leaf : (steps : List TreeStep) (i : ℕ) (d : TreeStep) (left less : ℕ) (changes : Vec (ℕ × ℤ)) → i < length steps
    → get_or steps i d ≡ listed.Leaf changes → less + 1 ≡ left
    → are_whole less (steps_of (drop (i + 1) steps)) ≡ are_whole left (steps_of (drop i steps))
after_leaf steps i d left less changes lt is one =
    let more : suc less ≡ left = omega (arith, one) in
    sym (at_drop_more (λ rest. are_whole left (steps_of rest)) steps i d lt
    ∙ ap (λ (step : TreeStep). are_whole left (steps_of (step ∷ drop (i + 1) steps))) is
    ∙ ap (λ (k : ℕ). are_whole k (steps_of (listed.Leaf changes ∷ drop (i + 1) steps))) (sym more))

-- ---- the bits that some number of a list has give its range, without a comparison for each

-- a number without the highest bit has the value of its bits
pub own_bits : (z : ℤ) → FitsSigned w64 z → of_z w64 z < 2 ^ 63 → (pos 0 ≤ℤ z) × (z ≤ℤ pos (of_z w64 z))
own_bits z fits small = let same : to_z w64 (of_z w64 z) ≡ z = to_z-of_z w64 z fits in search rules

range_from_to : (low high z : ℤ) → low ≤ℤ z → z ≤ℤ high → is_from_to low high z ≡ true
range_from_to low high z under over = search rules

-- numbers from 0 to the number with all their bits are in each range that contains both of these
pub all_from_to : (low high : ℤ) (bits : ℕ) (numbers : List ℤ) → low ≤ℤ pos 0 → pos bits ≤ℤ high
    → All (λ number. (pos 0 ≤ℤ number) × (number ≤ℤ pos bits)) numbers → list_all (is_from_to low high) numbers ≡ true
all_from_to low high bits numbers under over all = list_all-from_AllPass (is_from_to low high) numbers
    (All-weaker (λ number. (pos 0 ≤ℤ number) × (number ≤ℤ pos bits)) (λ number. is_from_to low high number ≡ true)
    (λ number own. range_from_to low high number (omega (arith, ints, under, own.0)) (omega (arith, ints, over, own.1))) numbers all)

-- ---- a file without a fault has the fields that its TYPE wants, each in its range

-- ---- tests that hold

first_false : (a b : Bool) → (a && b) ≡ false → b ≡ true → a ≡ false
first_false true b e second = absurd cc
first_false false b e second = refl

second_false : (a b : Bool) → (a && b) ≡ false → a ≡ true → b ≡ false
second_false true b e first = e
second_false false b e first = absurd cc

-- the required fields are there
asked_there : (asked there : Bool) → (not asked || there) ≡ true → asked ≡ true → there ≡ true
asked_there true there e asked = e
asked_there false there e asked = absurd cc

not_chosen : {A : Type 0} (b : Bool) (x : A) (o : Option A) → cond b (Some x) o ≡ None → (b ≡ false) × (o ≡ None)
not_chosen true x o e = absurd cc
not_chosen false x o e = (refl, e)

not_false : (b : Bool) → not b ≡ false → b ≡ true
not_false true e = refl
not_false false e = absurd cc

-- if none of a list fails, each passes
all_pass : (test : Field → Bool) (xs : List Field) → first_failing test xs ≡ None → AllByRecursion (λ field. test field ≡ true) xs
all_pass test [] e = tt
all_pass test (x ∷ xs) e =
    let here = not_chosen (not (test x)) x (first_failing test xs) e in
    (not_false (test x) here.0, all_pass test xs here.1)

-- ---- the tests that a draft without a fault passes

no_end_fault : (f : Fields) → fault_of f ≡ None → end_fault (standing_of f) None ≡ None
no_end_fault f valid = none_map (λ fault. Rule fault) (end_fault (standing_of f) None)
    (none_or (option_map (λ field. BadField field) (bad_field f)) (option_map (λ fault. Rule fault) (end_fault (standing_of f) None)) valid).1

pub no_field_missing : (f : Fields) → fault_of f ≡ None → first_failing (is_there (standing_of f)) asked_in_order ≡ None
no_field_missing f valid = none_map (λ field. Missing field) (first_failing (is_there (standing_of f)) asked_in_order)
    (none_or (option_map (λ field. Missing field) (first_failing (is_there (standing_of f)) asked_in_order)) (format_or_count (standing_of f)) (no_end_fault f valid)).0

none_missing : (f : Fields) → fault_of f ≡ None → AllByRecursion (λ field. is_there (standing_of f) field ≡ true) asked_in_order
none_missing f valid = all_pass (is_there (standing_of f)) asked_in_order (no_field_missing f valid)

pub format_and_count : (f : Fields) → fault_of f ≡ None
    → (has_wrong_format (standing_of f) ≡ false) × (has_wrong_count (standing_of f) ≡ false)
format_and_count f valid =
    let s = standing_of f in
    let rest : format_or_count s ≡ None = (none_or (option_map (λ field. Missing field) (first_failing (is_there s) asked_in_order)) (format_or_count s) (no_end_fault f valid)).1 in
    let first = not_chosen (has_wrong_format s) WrongFormat (cond (has_wrong_count s) (Some WrongCount) None) rest in
    (first.0, (not_chosen (has_wrong_count s) WrongCount None first.1).0)

-- ---- the ranges that tests check

from_to : (low high z : ℤ) → is_from_to low high z ≡ true → IsFromTo low high z
from_to low high z e =
    let two = and_parts (int_le low z) (int_le z high) e in
    (grind (arith, ints, two.0), grind (arith, ints, two.1))

within : (most : ℕ) (z : ℤ) → is_within most z ≡ true → IsWithin most z
within most z e = from_to (neg_ℤ (pos most)) (pos most) z e

node : (n i : ℕ) → is_node n i ≡ true → IsNode n i
node n i e = let two = and_parts (nat_le 1 i) (nat_le i n) e in (leb-true 1 i two.0, leb-true i n two.1)

all_so : {A : Type 0} (test : A → Bool) (P : A → Type 0) → ((x : A) → test x ≡ true → P x) → (xs : List A)
    → list_all test xs ≡ true → All P xs
all_so test P so xs e = λ k d lt. so (get_or xs k d) (AllPass-from_list_all test xs e k d lt)

pair_of_nodes : (n : ℕ) (pair : ℕ × ℕ) → is_pair_of n pair ≡ true → IsPairOf n pair
pair_of_nodes n pair e =
    let first = and_parts (is_node n pair.0 && is_node n pair.1) (not (pair.0 == pair.1)) e in
    let nodes = and_parts (is_node n pair.0) (is_node n pair.1) first.0 in
    (node n pair.0 nodes.0, node n pair.1 nodes.1, λ same. grind (arith, nat_tests, first.1, same))

triple_of_nodes : (n : ℕ) (triple : ℕ × ℕ × ℤ) → is_triple_of n triple ≡ true → IsTripleOf n triple
triple_of_nodes n triple e =
    let two = and_parts (is_pair_of n (triple.0, triple.1)) (is_from_to (pos 0) (pos most_multiplier) triple.2) e in
    (pair_of_nodes n (triple.0, triple.1) two.0, from_to (pos 0) (pos most_multiplier) triple.2 two.1)

third : (in_space : Bool) (z : ℤ) → is_third in_space z ≡ true → IsThird in_space z
third true z e = within most_coordinate z e
third false z e = (Decides-int_eq z (pos 0)).0 e

point : (in_space : Bool) (p : Point) → is_point in_space p ≡ true → IsPoint in_space p
point in_space p e =
    let flat = and_parts (is_within most_coordinate p.x && is_within most_coordinate p.y) (is_third in_space p.z) e in
    let two = and_parts (is_within most_coordinate p.x) (is_within most_coordinate p.y) flat.0 in
    (within most_coordinate p.x two.0, within most_coordinate p.y two.1, third in_space p.z flat.1)

-- the points of nodes are judged by whether the file is spatial
pub nodes_fit : (f : Fields) (in_space : Bool) → section_fits f fields.NodeCoordPart (cond in_space SpacePoints Points)
    ≡ if_there (with_dimension (is_by_node (is_point in_space)) f.dimension) f.coords
nodes_fit f true = refl
nodes_fit f false = refl

-- ---- present fields

given : {A : Type 0} (test : A → Bool) (o : Option A) (x : A) → if_there test o ≡ true → o ≡ Some x → test x ≡ true
given test o x e stands = subst (λ v. if_there test v ≡ true) stands e

pub dimensioned : {A : Type 0} (test : ℕ → A → Bool) (dimension : Option ℕ) (x : A) → with_dimension test dimension x ≡ true
    → (n : ℕ) × (dimension ≡ Some n) × (test n x ≡ true)
dimensioned test None x e = absurd cc
dimensioned test (Some n) x e = (n, refl, e)

by_node : {A : Type 0} (f : Fields) (test : A → Bool) (P : A → Type 0) → ((x : A) → test x ≡ true → P x)
    → (o : Option (List A)) (xs : List A)
    → if_there (with_dimension (is_by_node test) f.dimension) o ≡ true → o ≡ Some xs → IsByNode P f xs
by_node f test P so o xs e stands =
    let held = dimensioned (is_by_node test) f.dimension xs (given (with_dimension (is_by_node test) f.dimension) o xs e stands) in
    let two = and_parts (length xs == held.0) (list_all test xs) held.2 in
    (held.1 ∙ ap Some (sym (eqb-true (length xs) held.0 two.0)), all_so test P so xs two.1)

depots_in : (f : Fields) (depots : List ℕ) → fits f fields.DepotPart ≡ true → f.depots ≡ Some depots → AreDepots f depots
depots_in f depots e stands =
    let held = dimensioned are_depots f.dimension depots (given (with_dimension are_depots f.dimension) f.depots depots e stands) in
    let two = and_parts (nat_le (length depots) most_depots) (list_all (is_node held.0) depots) held.2 in
    record { n = held.0; dimension = held.1; few = leb-true (length depots) most_depots two.0; nodes = all_so (is_node held.0) (IsNode held.0) (node held.0) depots two.1 }

fixed_in : (f : Fields) (pairs : List (ℕ × ℕ)) → fits f fields.FixedEdgesPart ≡ true → f.fixed ≡ Some pairs → AreFixed f pairs
fixed_in f pairs e stands =
    let held = dimensioned are_fixed f.dimension pairs (given (with_dimension are_fixed f.dimension) f.fixed pairs e stands) in
    let two = and_parts (nat_le (length pairs) most_fixed) (list_all (is_pair_of held.0) pairs) held.2 in
    record { n = held.0; dimension = held.1; few = leb-true (length pairs) most_fixed two.0; pairs_of_nodes = all_so (is_pair_of held.0) (IsPairOf held.0) (pair_of_nodes held.0) pairs two.1 }

triples_in : (f : Fields) (triples : List (ℕ × ℕ × ℤ)) → fits f fields.FixedEdgePotentialPart ≡ true
    → f.fixed_potentials ≡ Some triples
    → AreTriples f triples
triples_in f triples e stands =
    let given_so = given (with_dimension are_triples f.dimension) f.fixed_potentials triples e stands in
    let held = dimensioned are_triples f.dimension triples given_so in
    let two = and_parts (nat_le (length triples) most_triples) (list_all (is_triple_of held.0) triples) held.2 in
    record {
      n = held.0;
      dimension = held.1;
      few = leb-true (length triples) most_triples two.0;
      triples_of_nodes = all_so (is_triple_of held.0) (IsTripleOf held.0) (triple_of_nodes held.0) triples two.1;
    }

tours_in : (tours : List (List ℕ)) → are_tours tours ≡ true → AreTours tours
tours_in tours e =
    let two = and_parts (list_all is_node_list tours) (nat_le (sum_by length tours) most_tour_nodes) e in
    (all_so is_node_list IsNodeList listed tours two.0, leb-true (sum_by length tours) most_tour_nodes two.1)
  where
    listed : (tour : List ℕ) → is_node_list tour ≡ true → IsNodeList tour
    listed tour e =
        let two = and_parts (nat_le 1 (length tour)) (list_all (is_node most_nodes) tour) e in
        (leb-true 1 (length tour) two.0, all_so (is_node most_nodes) (IsNode most_nodes) (node most_nodes) tour two.1)

set_of : (n : ℕ) (set : List ℕ) → is_set_of n set ≡ true → IsSetOf n set
set_of n set e =
    let two = and_parts (nat_le 1 (length set)) (list_all (is_node n) set) e in
    (leb-true 1 (length set) two.0, all_so (is_node n) (IsNode n) (node n) set two.1)

sets_of : (n : ℕ) (family : List (List ℕ)) → are_sets n family ≡ true → AreSets n family
sets_of n family e =
    let two = and_parts (nat_le 1 (length family)) (list_all (is_set_of n) family) e in
    (leb-true 1 (length family) two.0, all_so (is_set_of n) (IsSetOf n) (set_of n) family two.1)

families_in : (f : Fields) (families : List (List (List ℕ))) → fits f fields.FamilyPart ≡ true → f.families ≡ Some families → AreFamilyLists f families
families_in f families e stands =
    let held = dimensioned are_family_lists f.dimension families (given (with_dimension are_family_lists f.dimension) f.families families e stands) in
    let few = nat_le (length families) most_families in
    let nodes = nat_le (sum_by (sum_by length) families) most_family_nodes in
    let two = and_parts (few && list_all (are_sets held.0) families) nodes held.2 in
    let first = and_parts few (list_all (are_sets held.0) families) two.0 in
    record {
      n = held.0;
      dimension = held.1;
      few = leb-true (length families) most_families first.0;
      sets = all_so (are_sets held.0) (AreSets held.0) (sets_of held.0) families first.1;
      few_nodes = leb-true (sum_by (sum_by length) families) most_family_nodes two.1;
    }

memories_in : (f : Fields) (lists : List (List ℕ)) → fits f fields.MemoryPart ≡ true → f.memories ≡ Some lists → AreMemoryLists f lists
memories_in f lists e stands =
    let held = dimensioned are_memory_lists f.dimension lists (given (with_dimension are_memory_lists f.dimension) f.memories lists e stands) in
    let two = and_parts (list_all (is_set_of held.0) lists) (nat_le (sum_by length lists) most_family_nodes) held.2 in
    record {
      n = held.0;
      dimension = held.1;
      each = all_so (is_set_of held.0) (IsSetOf held.0) (set_of held.0) lists two.0;
      few_nodes = leb-true (sum_by length lists) most_family_nodes two.1;
    }

row_in : (n : ℕ) (row : SubsetRow) → is_row_of n row ≡ true → IsRowOf n row
row_in n row e =
    let two = and_parts (is_set_of n row.set) (list_all (is_node n) row.further) e in
    (set_of n row.set two.0, all_so (is_node n) (IsNode n) (node n) row.further two.1)

rows_in : (f : Fields) (rows : List SubsetRow) → fits f fields.SubsetRowPart ≡ true → f.subset_rows ≡ Some rows → AreSubsetRows f rows
rows_in f rows e stands =
    let held = dimensioned are_subset_rows f.dimension rows (given (with_dimension are_subset_rows f.dimension) f.subset_rows rows e stands) in
    let few = nat_le (length rows) most_rows in
    let nodes = nat_le (sum_by row_size rows) most_family_nodes in
    let two = and_parts (few && list_all (is_row_of held.0) rows) nodes held.2 in
    let first = and_parts few (list_all (is_row_of held.0) rows) two.0 in
    record {
      n = held.0;
      dimension = held.1;
      few = leb-true (length rows) most_rows first.0;
      each = all_so (is_row_of held.0) (IsRowOf held.0) (row_in held.0) rows first.1;
      few_nodes = leb-true (sum_by row_size rows) most_family_nodes two.1;
    }

change : (n : ℕ) (entry : ℕ × ℤ) → is_change n entry ≡ true → IsChange n entry
change n entry e =
    let two = and_parts (is_node (n + most_families + most_rows) entry.0) (is_within most_difference entry.1) e in
    (node (n + most_families + most_rows) entry.0 two.0, within most_difference entry.1 two.1)

branch : (n : ℕ) (entry : ℕ × ℕ) → is_branch_of n entry ≡ true → IsBranchOf n entry
branch n entry e =
    let first = and_parts (is_node (n + most_families) entry.0 && is_node n entry.1) (not (entry.0 == entry.1)) e in
    let nodes = and_parts (is_node (n + most_families) entry.0) (is_node n entry.1) first.0 in
    (node (n + most_families) entry.0 nodes.0, node n entry.1 nodes.1, λ same. grind (arith, nat_tests, first.1, same))

step : (n : ℕ) (s : Step) → is_step n s ≡ true → IsStep n s
step n (Branch first second) e = branch n (first, second) e
step n (Leaf changes) e = all_so (is_change n) (IsChange n) (change n) changes e

steps_in : (f : Fields) (steps : List Step) → fits f fields.BranchPart ≡ true → f.branches ≡ Some steps → AreTreeSteps f steps
steps_in f steps e stands =
    let held = dimensioned are_tree_steps f.dimension steps (given (with_dimension are_tree_steps f.dimension) f.branches steps e stands) in
    let few = nat_le (branch_count steps) most_branches in
    let changes = nat_le (change_count steps) most_changes in
    let each = list_all (is_step held.0) steps in
    let third = and_parts (each && few && changes) (are_whole 1 steps) held.2 in
    let second = and_parts (each && few) changes third.0 in
    let first = and_parts each few second.0 in
    record {
      n = held.0;
      dimension = held.1;
      each = all_so (is_step held.0) (IsStep held.0) (step held.0) steps first.0;
      few = leb-true (branch_count steps) most_branches first.1;
      few_changes = leb-true (change_count steps) most_changes second.1;
      whole = third.1;
    }

-- the format of weights, once it is present and no function
listed_format : (format : Option WeightFormat) → is_some format ≡ true → is_function format ≡ false
    → (layout : Layout) × (format ≡ Some (Listed layout))
listed_format None there no_function = absurd cc
listed_format (Some ByFunction) there no_function = absurd cc
listed_format (Some (Listed layout)) there no_function = (layout, refl)

-- the count of weights, in a layout over n nodes
counted : (n : ℕ) (layout : Layout) (weights : List ℤ) (dimension : Option ℕ) (format : Option WeightFormat) (stand : Option (List ℤ))
    → is_count dimension format (count_of stand) ≡ true
    → dimension ≡ Some n → format ≡ Some (Listed layout) → stand ≡ Some weights → length weights ≡ length (cells layout n)
counted n layout weights dimension format stand e is_n is_layout fit_matrix = eqb-true (length weights) (length (cells layout n))
    (subst (λ o. is_count (Some n) (Some (Listed layout)) (count_of o) ≡ true) fit_matrix
    (subst (λ o. is_count (Some n) o (count_of stand) ≡ true) is_layout
    (subst (λ o. is_count o format (count_of stand) ≡ true) is_n e)))

weights_in : (f : Fields) (weights : List ℤ) → fault_of f ≡ None → f.weights ≡ Some weights → AreWeights f weights
weights_in f weights valid stands =
    let s = standing_of f in
    let held = dimensioned fit_matrix f.dimension weights (given (with_dimension fit_matrix f.dimension) f.weights weights (all_fit f valid fields.EdgeWeightPart) stands) in
    let most = and_parts (nat_le held.0 most_matrix_nodes && nat_le (length weights) (held.0 * held.0)) (list_all (is_within most_weight) weights) held.2 in
    let few = and_parts (nat_le held.0 most_matrix_nodes) (nat_le (length weights) (held.0 * held.0)) most.0 in
    let there : is_some f.weights ≡ true = ap is_some stands in
    let asked : (has_explicit_weights s || is_some f.weights) ≡ true = or_right (has_explicit_weights s) (is_some f.weights) there in
    let has_format : is_some f.weight_format ≡ true = asked_there (has_explicit_weights s || is_some f.weights) (is_some f.weight_format) (none_missing f valid).1.1.1.0 asked in
    let rules = format_and_count f valid in
    let right_format = or_parts (is_function f.weight_format && (has_explicit_weights s || is_some f.weights)) (is_potentials_file f.kind && has_node_or_multiplier s && has_row_or_column s) rules.0 in
    let format = listed_format f.weight_format has_format (first_false (is_function f.weight_format) (has_explicit_weights s || is_some f.weights) right_format.0 asked) in
    let right_count = not_false (is_count f.dimension f.weight_format (count_of f.weights))
    (second_false (is_some f.weights) (not (is_count f.dimension f.weight_format (count_of f.weights))) rules.1 there) in
    record {
      n = held.0;
      layout = format.0;
      dimension = held.1;
      format = format.1;
      few_nodes = leb-true held.0 most_matrix_nodes few.0;
      count = counted held.0 format.0 weights f.dimension f.weight_format f.weights right_count held.1 format.1 stands;
      sizes = all_so (is_within most_weight) (IsWithin most_weight) (within most_weight) weights most.1;
    }

pub in_range : (f : Fields) → fault_of f ≡ None → IsInRange f
in_range f valid = record {
  dimension = λ n stands. node most_nodes n (given (is_node most_nodes) f.dimension n (all_fit f valid fields.DimensionKey) stands);
  capacity = λ z stands. from_to (pos 1) (pos most_capacity) z (given (is_from_to (pos 1) (pos most_capacity)) f.capacity z (all_fit f valid fields.CapacityKey) stands);
  scale = λ z stands. from_to (pos 1) (pos most_scale) z (given (is_from_to (pos 1) (pos most_scale)) f.scale z (all_fit f valid fields.ScaleKey) stands);
  load_unit = λ z stands. from_to (pos 1) (pos most_load_unit) z (given (is_from_to (pos 1) (pos most_load_unit)) f.load_unit z (all_fit f valid fields.LoadUnitKey) stands);
  coords = λ points. by_node f (is_point (spatial f)) (IsPoint (spatial f)) (point (spatial f)) f.coords points
      (sym (nodes_fit f (spatial f)) ∙ all_fit f valid fields.NodeCoordPart);
  display = λ points. by_node f (is_point false) (IsPoint false) (point false) f.display points (all_fit f valid fields.DisplayDataPart);
  demands = λ demands. by_node f is_demand IsDemand (from_to (pos 0) (pos most_demand)) f.demands demands (all_fit f valid fields.DemandPart);
  depots = λ depots. depots_in f depots (all_fit f valid fields.DepotPart);
  fixed = λ pairs. fixed_in f pairs (all_fit f valid fields.FixedEdgesPart);
  weights = λ weights. weights_in f weights valid;
  tours = λ tours stands. tours_in tours (given are_tours f.tours tours (all_fit f valid fields.TourPart) stands);
  node_potentials = λ potentials. by_node f (is_within most_potential) (IsWithin most_potential) (within most_potential) f.node_potentials potentials (all_fit f valid fields.NodePotentialPart);
  row_potentials = λ potentials. by_node f (is_within most_potential) (IsWithin most_potential) (within most_potential) f.row_potentials potentials (all_fit f valid fields.RowPotentialPart);
  column_potentials = λ potentials. by_node f (is_within most_potential) (IsWithin most_potential) (within most_potential) f.column_potentials potentials
      (all_fit f valid fields.ColumnPotentialPart);
  fixed_potentials = λ triples. triples_in f triples (all_fit f valid fields.FixedEdgePotentialPart);
  families = λ families. families_in f families (all_fit f valid fields.FamilyPart);
  memories = λ lists. memories_in f lists (all_fit f valid fields.MemoryPart);
  subset_rows = λ rows. rows_in f rows (all_fit f valid fields.SubsetRowPart);
  branches = λ steps. steps_in f steps (all_fit f valid fields.BranchPart);
}

-- ---- presence

instance_is_no_tours : (kind : Option Kind) → is_instance kind ≡ true → not (is_tour_file kind) ≡ true
instance_is_no_tours None e = absurd cc
instance_is_no_tours (Some kinds.Tsp) e = refl
instance_is_no_tours (Some kinds.Atsp) e = refl
instance_is_no_tours (Some kinds.Cvrp) e = refl
instance_is_no_tours (Some kinds.Tour) e = absurd cc
instance_is_no_tours (Some kinds.Potentials) e = absurd cc
instance_is_no_tours (Some kinds.Branches) e = absurd cc

certificate_is_no_tours : (kind : Option Kind) → is_potentials_file kind ≡ true → not (is_tour_file kind) ≡ true
certificate_is_no_tours None e = absurd cc
certificate_is_no_tours (Some kinds.Tsp) e = absurd cc
certificate_is_no_tours (Some kinds.Atsp) e = absurd cc
certificate_is_no_tours (Some kinds.Cvrp) e = absurd cc
certificate_is_no_tours (Some kinds.Tour) e = absurd cc
certificate_is_no_tours (Some kinds.Potentials) e = refl
certificate_is_no_tours (Some kinds.Branches) e = absurd cc

tree_is_no_tours : (kind : Option Kind) → is_branches_file kind ≡ true → not (is_tour_file kind) ≡ true
tree_is_no_tours None e = absurd cc
tree_is_no_tours (Some kinds.Tsp) e = absurd cc
tree_is_no_tours (Some kinds.Atsp) e = absurd cc
tree_is_no_tours (Some kinds.Cvrp) e = absurd cc
tree_is_no_tours (Some kinds.Tour) e = absurd cc
tree_is_no_tours (Some kinds.Potentials) e = absurd cc
tree_is_no_tours (Some kinds.Branches) e = refl

pub has_kind : (f : Fields) → fault_of f ≡ None → IsSome f.kind
has_kind f valid = (none_missing f valid).0

pub has_instance : (f : Fields) → fault_of f ≡ None → IsTrue (is_instance f.kind) → HasInstance f
has_instance f valid is_one =
    let there = none_missing f valid in
    let kind_there = asked_there (is_instance f.kind) (is_some f.weight_kind) there.1.1.0 is_one in
    record {
      dimension = asked_there (not (is_tour_file f.kind)) (is_some f.dimension) there.1.0 (instance_is_no_tours f.kind is_one);
      weight_kind = kind_there;
      weights = λ explicit. asked_there (is_instance f.kind && is_explicit f.weight_kind) (is_some f.weights) there.1.1.1.1.1.1.0
          (and_from (is_instance f.kind) (is_explicit f.weight_kind) is_one explicit);
      coords = λ distance. asked_there (is_instance f.kind && is_some f.weight_kind && not (is_explicit f.weight_kind)) (is_some f.coords) there.1.1.1.1.1.0
          (and_from (is_instance f.kind && is_some f.weight_kind) (not (is_explicit f.weight_kind)) (and_from (is_instance f.kind) (is_some f.weight_kind) is_one kind_there) (ap not distance));
    }

pub has_routing : (f : Fields) → fault_of f ≡ None → IsTrue (is_routing f.kind) → HasRouting f
has_routing f valid is_one =
    let there = none_missing f valid in
    record {
      capacity = asked_there (is_routing f.kind) (is_some f.capacity) there.1.1.1.1.0 is_one;
      demands = asked_there (is_routing f.kind) (is_some f.demands) there.1.1.1.1.1.1.1.0 is_one;
      depots = asked_there (is_routing f.kind) (is_some f.depots) there.1.1.1.1.1.1.1.1.0 is_one;
    }

pub has_tours : (f : Fields) → fault_of f ≡ None → IsTrue (is_tour_file f.kind) → IsSome f.tours
has_tours f valid is_one = asked_there (is_tour_file f.kind) (is_some f.tours) (none_missing f valid).1.1.1.1.1.1.1.1.1.0 is_one

-- potentials of one sort
one_sort : (nodal : Option (List ℤ)) (multipliers : Option (List (ℕ × ℕ × ℤ))) (row column : Option (List ℤ))
    → (not (is_some row || is_some column) ≡ true → is_some nodal ≡ true)
    → (is_some column ≡ true → is_some row ≡ true) → (is_some row ≡ true → is_some column ≡ true)
    → ((is_some nodal || is_some multipliers) && (is_some row || is_some column)) ≡ false
    → (IsSome nodal × (row ≡ None) × (column ≡ None)) ⊎ ((nodal ≡ None) × (multipliers ≡ None) × IsSome row × IsSome column)
one_sort nodal multipliers None None nodes rows columns one = inl (nodes refl, refl, refl)
one_sort nodal multipliers None (Some c) nodes rows columns one = absurd (false≢true (rows refl))
one_sort nodal multipliers (Some r) None nodes rows columns one = absurd (false≢true (columns refl))
one_sort None None (Some r) (Some c) nodes rows columns one = inr (refl, refl, refl, refl)
one_sort None (Some m) (Some r) (Some c) nodes rows columns one = absurd (false≢true (sym one))
one_sort (Some p) multipliers (Some r) (Some c) nodes rows columns one = absurd (false≢true (sym one))

pub has_potentials : (f : Fields) → fault_of f ≡ None → IsTrue (is_potentials_file f.kind) → HasPotentials f
has_potentials f valid is_one =
    let there = none_missing f valid in
    let s = standing_of f in
    let no_node = not (is_some f.row_potentials || is_some f.column_potentials) in
    let right_format = or_parts (is_function f.weight_format && (has_explicit_weights s || is_some f.weights))
    (is_potentials_file f.kind && has_node_or_multiplier s && has_row_or_column s) (format_and_count f valid).0 in
    record {
      dimension = asked_there (not (is_tour_file f.kind)) (is_some f.dimension) there.1.0 (certificate_is_no_tours f.kind is_one);
      sort = one_sort f.node_potentials f.fixed_potentials f.row_potentials f.column_potentials
          (λ none. asked_there (is_potentials_file f.kind && no_node) (is_some f.node_potentials) there.1.1.1.1.1.1.1.1.1.1.0 (and_from (is_potentials_file f.kind) no_node is_one none))
          (λ column. asked_there (is_potentials_file f.kind && is_some f.column_potentials) (is_some f.row_potentials) there.1.1.1.1.1.1.1.1.1.1.1.0
          (and_from (is_potentials_file f.kind) (is_some f.column_potentials) is_one column))
          (λ row. asked_there (is_potentials_file f.kind && is_some f.row_potentials) (is_some f.column_potentials) there.1.1.1.1.1.1.1.1.1.1.1.1.0
          (and_from (is_potentials_file f.kind) (is_some f.row_potentials) is_one row))
          (subst (λ (b : Bool). (b && has_node_or_multiplier s && has_row_or_column s) ≡ false) is_one right_format.1);
    }

pub has_branches : (f : Fields) → fault_of f ≡ None → IsTrue (is_branches_file f.kind) → HasBranches f
has_branches f valid is_one =
    let there = none_missing f valid in
    record {
      dimension = asked_there (not (is_tour_file f.kind)) (is_some f.dimension) there.1.0 (tree_is_no_tours f.kind is_one);
      branches = asked_there (is_branches_file f.kind) (is_some f.branches) there.1.1.1.1.1.1.1.1.1.1.1.1.1.0 is_one;
    }
