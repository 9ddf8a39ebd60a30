-- A cycle is in one of the two cases of a branch, and uses no link that the decisions of its case forbid: the laws on
-- cases in src/laws.rt.
use Rattle.tsp_cases.proofs.Prelude.{◌≡◌, ℕ, ◌==◌, ◌&&◌, Bool, true, false, List, [], ◌∷◌, ℤ, ◌≤ℤ◌, ◌⊎◌, inl, inr, refl, sym, ap, ◌∙◌, subst, arith, ◌≢◌, zero, suc, ◌≤◌, ◌+ℤ◌, get_or, cases_Bool, both_ways, and_parts, and_from, eqb-true, eq-eqb, cases_eq, ne_eqb, ints, recursion_from_All, All-from_recursion, All-weaker, All-contains, Contains-get_or, Any-from_list_any, list_any_at, All, AllByRecursion, Contains, list_any, pos, IsNode, Laws, has_node, neighbours_or_not, sum_zero, one_if, none_or_one, sum_below, count_any, once, sum_int_by-le, IsCycle, links, Follows, Uses, links_to}
use Rattle.tsp_cases.specs.CaseTrees.{AllowsLink, Allows, LinksAreAllowed, NoLinkNoCycle, SumsAreBelowCycles}
use Rattle.tsp_cases.specs.Cases.{KeepsDecision, CyclesKeepLeaves, cycles, StacksHoldCases, KeepsPair}
use Rattle.tsp_cases.proofs.Solutions.{leaves_are_kept}

-- ---- whether a pair is used

-- the link is the pair
abbrev pub is_pair : ℕ × ℕ → ℕ × ℕ → Bool
is_pair pair link = (pair.0 == link.0) && (pair.1 == link.1)

follows_found : (nodes : List ℕ) (pair : ℕ × ℕ) → list_any (is_pair pair) (links nodes) ≡ true → Follows nodes pair
follows_found nodes pair h =
    let found = Any-from_list_any (is_pair pair) (links nodes) h in
    let link = found.1 in
    let here : Contains (links nodes) link = (found.0, found.2, found.3) in
    let same = and_parts (pair.0 == link.0) (pair.1 == link.1) found.4 in
    subst (λ (x : ℕ). Contains (links nodes) (x, pair.1)) (sym (eqb-true pair.0 link.0 same.0)) (subst (λ (y : ℕ). Contains (links nodes) (link.0, y)) (sym (eqb-true pair.1 link.1 same.1)) here)

pub found_follows : (nodes : List ℕ) (pair : ℕ × ℕ) → Follows nodes pair → list_any (is_pair pair) (links nodes) ≡ true
found_follows nodes pair c = list_any_at (is_pair pair) (links nodes) c.0 pair c.1 (ap (is_pair pair) c.2
    ∙ and_from (pair.0 == pair.0) (pair.1 == pair.1) (eq-eqb pair.0 pair.0 refl) (eq-eqb pair.1 pair.1 refl))

pub uses_or_not : (directed : Bool) (nodes : List ℕ) (pair : ℕ × ℕ) → Uses directed nodes pair ⊎ (Uses directed nodes pair → ⊥)
uses_or_not false nodes pair = neighbours_or_not nodes pair
uses_or_not true nodes pair = elim (cases_Bool (list_any (is_pair pair) (links nodes))) [
  | inl t ↦ inl (follows_found nodes pair t)
  | inr f ↦ inr (λ h. both_ways (list_any (is_pair pair) (links nodes)) f (found_follows nodes pair h))
]

-- ---- the tree of cases

pub cycles_keep_leaves : CyclesKeepLeaves
cycles_keep_leaves directed n cost = leaves_are_kept (List ℕ) (cycles directed n cost) (uses_or_not directed)

-- ---- the stack

pub stacks_hold_cases : StacksHoldCases
stacks_hold_cases given [] = refl
stacks_hold_cases given (d ∷ stack) = elim (cases_Bool d.taken) [
  | inl t ↦ rw t refl
  | inr f ↦ rw f (stacks_hold_cases given stack)
]

-- ---- a cycle has one link out of each node and one into it

-- ---- counts

-- ---- one link out, and one in

apart : (x y z : Bool) → (y ≡ true → z ≡ true → ⊥) → (one_if (x && y) +ℤ one_if (x && z)) ≤ℤ one_if x
apart false y z h = omega (arith, ints)
apart true true true h = absurd (h refl refl)
apart true true false h = omega (arith, ints)
apart true false z h = omega (arith, ints, (none_or_one z).1)

apart_second : (x y z : Bool) → (x ≡ true → y ≡ true → ⊥) → (one_if (x && z) +ℤ one_if (y && z)) ≤ℤ one_if z
apart_second true true z h = absurd (h refl refl)
apart_second true false z h = omega (arith, ints)
apart_second false y true h = one y
  where
    one : (b : Bool) → (one_if false +ℤ one_if (b && true)) ≤ℤ one_if true
    one true = omega (arith, ints)
    one false = omega (arith, ints)
apart_second false y false h = one y
  where
    one : (b : Bool) → (one_if false +ℤ one_if (b && false)) ≤ℤ one_if false
    one true = omega (arith, ints)
    one false = omega (arith, ints)

pub same_second : (n : ℕ) (nodes : List ℕ) (i j b : ℕ) → Laws → IsCycle n nodes → Follows nodes (i, j) → Follows nodes (i, b) → j ≡ b
same_second n nodes i j b laws cycle first second = elim (cases_eq j b) [
  | inl same ↦ same
  | inr other ↦
      let below = sum_below (λ (link : ℕ × ℕ). one_if (is_pair (i, j) link) +ℤ one_if (is_pair (i, b) link)) (λ (link : ℕ × ℕ). one_if (i == link.0)) (links nodes)
      (λ link. apart (i == link.0) (j == link.1) (b == link.1) (λ p q. other (eqb-true j link.1 p ∙ sym (eqb-true b link.1 q)))) in
      let split = laws.sum (λ x y. one_if (is_pair (i, j) (x, y))) (λ x y. one_if (is_pair (i, b) (x, y))) nodes in
      let own = laws.by_first (λ x. one_if (i == x)) nodes in
      let one = count_any (is_pair (i, j)) (links nodes) (found_follows nodes (i, j) first) in
      let two = count_any (is_pair (i, b)) (links nodes) (found_follows nodes (i, b) second) in
      absurd (omega (arith, ints, below, split, own, one, two, once i nodes cycle.once))
]

pub same_first : (n : ℕ) (nodes : List ℕ) (i a j : ℕ) → Laws → IsCycle n nodes → Follows nodes (i, j) → Follows nodes (a, j) → i ≡ a
same_first n nodes i a j laws cycle first second = elim (cases_eq i a) [
  | inl same ↦ same
  | inr other ↦
      let below = sum_below (λ (link : ℕ × ℕ). one_if (is_pair (i, j) link) +ℤ one_if (is_pair (a, j) link)) (λ (link : ℕ × ℕ). one_if (j == link.1)) (links nodes)
      (λ link. apart_second (i == link.0) (a == link.0) (j == link.1) (λ p q. other (eqb-true i link.0 p ∙ sym (eqb-true a link.0 q)))) in
      let split = laws.sum (λ x y. one_if (is_pair (i, j) (x, y))) (λ x y. one_if (is_pair (a, j) (x, y))) nodes in
      let own = laws.by_second (λ x. one_if (j == x)) nodes in
      let one = count_any (is_pair (i, j)) (links nodes) (found_follows nodes (i, j) first) in
      let two = count_any (is_pair (a, j)) (links nodes) (found_follows nodes (a, j) second) in
      absurd (omega (arith, ints, below, split, own, one, two, once j nodes cycle.once))
]

-- ---- to another node

ends_in : (P : ℕ → Type 0) (end node : ℕ) (nodes : List ℕ) → P end → AllByRecursion P (node ∷ nodes) → AllByRecursion (λ link. P link.0 × P link.1) (links_to end node nodes)
ends_in P end node [] e h = ((h.0, e), tt)
ends_in P end node (next ∷ nodes) e h = ((h.0, h.1.0), ends_in P end next nodes e h.1)

links_in : (P : ℕ → Type 0) (nodes : List ℕ) → AllByRecursion P nodes → AllByRecursion (λ link. P link.0 × P link.1) (links nodes)
links_in P [] h = tt
links_in P (first ∷ nodes) h = ends_in P first first nodes h.0 h

pub link_nodes : (n : ℕ) (nodes : List ℕ) (i j : ℕ) → IsCycle n nodes → Follows nodes (i, j) → IsNode n i × IsNode n j
link_nodes n nodes i j cycle h =
    All-contains (λ (link : ℕ × ℕ). IsNode n link.0 × IsNode n link.1) (links nodes) (i, j)
    (All-from_recursion (λ (link : ℕ × ℕ). IsNode n link.0 × IsNode n link.1) (links nodes) (links_in (IsNode n) nodes (recursion_from_All (IsNode n) nodes cycle.range))) h

pub link_differs : (n : ℕ) (nodes : List ℕ) (i j : ℕ) → Laws → 2 ≤ n → IsCycle n nodes → Follows nodes (i, j) → i ≢ j
link_differs n nodes i j laws more cycle h = λ same.
    let none = laws.no_loops n nodes (λ x y. one_if (x == y)) (λ x y. pos 0) more cycle (λ x y p q other. omega (arith, ints, ap one_if (ne_eqb x y other))) in
    let one = count_any (λ (link : ℕ × ℕ). link.0 == link.1) (links nodes) (list_any_at (λ (link : ℕ × ℕ). link.0 == link.1) (links nodes) h.0 (i, j) h.1
    (ap (λ (link : ℕ × ℕ). link.0 == link.1) h.2 ∙ eq-eqb i j same)) in
    omega (arith, ints, none, one, sum_zero (links nodes))

-- ---- allowed

allowed_by : (n : ℕ) (nodes : List ℕ) (i j : ℕ) (taken : Bool) (pair : ℕ × ℕ) → Laws → IsCycle n nodes → Follows nodes (i, j) → KeepsPair true nodes taken pair → AllowsLink taken pair i j
allowed_by n nodes i j true pair laws cycle here used = (
  λ same. same_second n nodes i j pair.1 laws cycle here (subst (λ (x : ℕ). Follows nodes (x, pair.1)) (sym same) used),
  λ same. same_first n nodes i pair.0 j laws cycle here (subst (λ (y : ℕ). Follows nodes (pair.0, y)) (sym same) used),
)
allowed_by n nodes i j false pair laws cycle here unused =
    λ first second. unused (subst (λ (x : ℕ). Follows nodes (x, pair.1)) first (subst (λ (y : ℕ). Follows nodes (i, y)) second here))

pub links_are_allowed : Laws → LinksAreAllowed
links_are_allowed laws n decisions nodes i j more cycle keeps here = (
  (link_nodes n nodes i j cycle here).0,
  record {
    node = (link_nodes n nodes i j cycle here).1;
    other = link_differs n nodes i j laws more cycle here;
    each = All-weaker (KeepsDecision true nodes) (Allows i j) (λ decision. allowed_by n nodes i j decision.taken decision.pair laws cycle here) decisions keeps;
  },
)

-- each node of a cycle has a link
leaves_each : (P : ℕ → Type 0) (end node : ℕ) (nodes : List ℕ) (x : ℕ) → Contains (node ∷ nodes) x → (j : ℕ) × Contains (links_to end node nodes) (x, j)
leaves_each P end node [] x (zero, lt, is) = (end, (zero, omega arith, ap (λ (z : ℕ). (z, end)) is))
leaves_each P end node [] x (suc k, lt, is) = absurd (omega (arith, lt))
leaves_each P end node (next ∷ nodes) x (zero, lt, is) = (next, (zero, omega arith, ap (λ (z : ℕ). (z, next)) is))
leaves_each P end node (next ∷ nodes) x (suc k, lt, is) =
    let rest = leaves_each P end next nodes x (k, omega (arith, lt), is) in
    (rest.0, (suc rest.1.0, omega (arith, rest.1.1), rest.1.2))

pub has_link : (nodes : List ℕ) (x : ℕ) → Contains nodes x → (j : ℕ) × Follows nodes (x, j)
has_link [] x c = absurd (omega (arith, c.1))
has_link (first ∷ nodes) x c = leaves_each (λ y. ℕ) first first nodes x c

-- ---- the least allowed links from all nodes weigh no more than a cycle of the case

pub no_link_no_cycle : Laws → LinksAreAllowed → NoLinkNoCycle
no_link_no_cycle laws allowed n decisions more none = λ nodes cycle keeps.
    let link = has_link nodes none.from (has_node n nodes none.from laws cycle none.node) in
    none.none link.0 (allowed n decisions nodes none.from link.0 more cycle keeps link.1).1

pub sums_are_below_cycles : Laws → LinksAreAllowed → SumsAreBelowCycles
sums_are_below_cycles laws allowed n w decisions sum nodes more is cycle keeps =
    let below = sum_int_by-le (λ (link : ℕ × ℕ). is.least link.0) (λ (link : ℕ × ℕ). w link.0 link.1) (links nodes)
    (recursion_from_All (λ (link : ℕ × ℕ). is.least link.0 ≤ℤ w link.0 link.1) (links nodes)
    (λ k d lt.
    let link = get_or (links nodes) k d in
    let here : Follows nodes link = Contains-get_or (links nodes) k d lt in
    let ok = allowed n decisions nodes link.0 link.1 more cycle keeps here in
    (is.each link.0 ok.0).below link.1 ok.1)) in
    let first = laws.by_first is.least nodes in
    let all = laws.sum_of_cycle n nodes is.least cycle in
    omega (arith, ints, below, first, all, is.sum_is)
