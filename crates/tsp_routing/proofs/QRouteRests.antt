-- For src/least_q_route.rt: each entry of its table is the least weight of the rest of a q-route from a node
-- (`entry_low`), and so its start finds the least q-route (`start_low`, `start_exact`).
use Rattle.tsp_routing.proofs.Prelude.{◌≡◌, ℕ, zero, suc, ◌<◌, List, [], ◌∷◌, ◌++◌, length, get_or, refl, arith, ◌≢◌, ◌-◌, ◌*◌, ◌≤◌, ◌==◌, sym, ap, ◌∙◌, subst, inl, inr, ◌+◌, add-one, suc-mul, mul-le-mul_right, cases_Bool, both_ways, eqb-true, eq-eqb, cases_eq, ints, recursion_from_All, All-from_recursion, Option, None, Some, MatchOption, if◌then◌else◌, ℤ, pos, ◌+ℤ◌, ◌≤ℤ◌, ◌⊎◌, neg_ℤ, IsNode, IsFromTo, sum_int_by, length_of, IsCustomer}
use Rattle.tsp_routing.specs.QRoutes.{IsLeastAmong, BeginsOther, IsQRoute, IsBelowQRoutes, onward_weight, IsQRouteRest, first_or_depot, QRouteEntry, least_from, IsAtMost, IsEntryBelowTo, IsStartBelow, IsLow, IsReal, IsStepTo, IsEntryMetTo, IsMet, IsStartMet}
use Rattle.tsp_routing.specs.declared.least_q_route.Onward.{Onward}
use Rattle.tsp_routing.specs.states.Demands.{AreLinks, IsChosen, entry_at, IsNearOrFar, IsEntryNumber, IsEntrySized, IsRowSized}

-- an element more at the end, with what holds of each by its place
pub places_push : {X : Type 0} (P : ℕ → X → Type 0) (xs : List X) (x : X)
    → ((k : ℕ) (d : X) → k < length xs → P k (get_or xs k d)) → P (length xs) x
    → (k : ℕ) (d : X) → k < length (xs ++ x ∷ []) → P k (get_or (xs ++ x ∷ []) k d)
places_push {X} P [] x all last zero d lt = last
places_push {X} P [] x all last (suc k) d lt = absurd (omega (arith, lt))
places_push {X} P (y ∷ xs) x all last zero d lt = all zero d (omega arith)
places_push {X} P (y ∷ xs) x all last (suc k) d lt =
    places_push (λ j. P (suc j)) xs x (λ j e short. all (suc j) e (omega (arith, short))) last k d (omega (arith, lt))

pub get_append_left : {X : Type 0} (xs : List X) (x : X) (k : ℕ) (d : X) → k < length xs → get_or (xs ++ x ∷ []) k d ≡ get_or xs k d
get_append_left [] x k d lt = absurd (omega (arith, lt))
get_append_left (y ∷ xs) x zero d lt = refl
get_append_left (y ∷ xs) x (suc k) d lt = get_append_left xs x k d (omega (arith, lt))

pub get_append_last : {X : Type 0} (xs : List X) (x : X) (k : ℕ) (d : X) → k ≡ length xs → get_or (xs ++ x ∷ []) k d ≡ x
get_append_last [] x zero d is = refl
get_append_last [] x (suc k) d is = absurd (omega (arith, is))
get_append_last (y ∷ xs) x zero d is = absurd (omega (arith, is))
get_append_last (y ∷ xs) x (suc k) d is = get_append_last xs x k d (omega (arith, is))

-- ---- the entries of the table of walks are at most what each walk weighs from a node on

pub loads_low : (load : ℕ → ℕ) (nodes : List ℕ) → pos 0 ≤ℤ sum_int_by (λ node. pos (load node)) nodes
loads_low load [] = omega (arith, ints)
loads_low load (x ∷ nodes) = omega (arith, ints, loads_low load nodes)

not_back : (n depot node : ℕ) (rest : List ℕ) → IsCustomer n depot node → BeginsOther node rest → first_or_depot depot rest ≢ node
not_back n depot node [] customer other = λ same. customer.1 (sym same)
not_back n depot node (next ∷ rest) customer other = λ same. other (sym same)

-- what a walk from a node weighs on from the next one
from_low : (entry : QRouteEntry) (from next : ℕ) (weight : ℤ) → IsAtMost entry next weight → next ≢ from → least_from entry from ≤ℤ weight
from_low entry from next weight low other = elim (cases_Bool (entry.next == from)) [
  | inl t ↦ rw t (low.1 (λ same. other (same ∙ eqb-true entry.next from t)))
  | inr f ↦ rw f low.0
]

more_than : (entry : QRouteEntry) (next : ℕ) (a b : ℤ) → IsAtMost entry next a → a ≤ℤ b → IsAtMost entry next b
more_than entry next a b low le = (
  let first = low.0 in omega (arith, ints, first, le),
  λ other. let second = low.1 other in omega (arith, ints, second, le),
)

-- one entry: the rests of the walks from the next nodes are known
pub entry_low : (n depot : ℕ) (w : ℕ → ℕ → ℤ) (load : ℕ → ℕ) (left node : ℕ) (known : ℕ → QRouteEntry) (entry : QRouteEntry)
    → (load node ≤ left → (next : ℕ) → IsCustomer n depot next → IsLow n depot w load (left - load node) next (known next))
    → (load node ≤ left → IsEntryBelowTo n depot w known node n entry) → IsLow n depot w load left node entry
entry_low n depot w load left node known entry lows below = λ rest is. at rest is
  where
    at : (rest : List ℕ) → IsQRouteRest n depot load left node rest
        → IsAtMost entry (first_or_depot depot rest) (onward_weight w depot node rest)
    at [] is =
        let fits = is.within in
        more_than entry depot (w node depot) (onward_weight w depot node []) (below (omega (arith, ints, fits))).back
        (omega (arith, ints))
    at (next ∷ rest) is =
        let fits = is.within in
        let low = loads_low load (next ∷ rest) in
        let here : load node ≤ left = omega (arith, ints, fits, low) in
        let after = lows here next is.customers.1.0 rest
        (record { customers = is.customers.1; within = omega (arith, ints, fits, here); straight = is.straight.1 }) in
        let on = from_low (known next) node (first_or_depot depot rest) (onward_weight w depot next rest) after
        (not_back n depot node rest is.customers.0 is.straight.0.1) in
        more_than entry next (w node next +ℤ least_from (known next) node) (onward_weight w depot node (next ∷ rest))
        ((below here).on next is.customers.1.0 is.straight.0.0 is.customers.1.0.0.1) (omega (arith, ints, on))

-- the start of a walk
pub start_low : (n depot : ℕ) (w : ℕ → ℕ → ℤ) (load : ℕ → ℕ) (room : ℕ) (known : ℕ → QRouteEntry) (each : ℤ)
    → ((node : ℕ) → IsCustomer n depot node → IsLow n depot w load room node (known node))
    → IsStartBelow n depot w known each → IsBelowQRoutes n depot load room w each
start_low n depot w load room known each low starts = λ nodes q_route. at nodes q_route
  where
    at : (nodes : List ℕ) → IsQRoute n depot load room nodes → each ≤ℤ length_of w (depot ∷ nodes)
    at [] q_route = absurd (q_route.some refl)
    at (next ∷ rest) q_route =
        let customers = recursion_from_All (IsCustomer n depot) (next ∷ rest) q_route.customers in
        let own = (low next customers.0 rest (record { customers = customers; within = q_route.within; straight = q_route.straight })).0 in
        let first = starts next customers.0 in
        omega (arith, ints, own, first)

-- ---- what walks have

begins_at : (depot node : ℕ) (rest : List ℕ) → first_or_depot depot rest ≢ node → BeginsOther node rest
begins_at depot node [] other = tt
begins_at depot node (next ∷ rest) other = λ same. other (sym same)

module _ (half n depot : ℕ) (w : ℕ → ℕ → ℤ) (load : ℕ → ℕ) (left node : ℕ) (known : ℕ → QRouteEntry)
    (here : load node ≤ left) (customer : IsCustomer n depot node)
    (mets : (next : ℕ) → IsCustomer n depot next → IsMet half n depot w load (left - load node) next (known next))
    (some : 1 ≤ half) where
  from_met : (next : ℕ) → IsCustomer n depot next → IsReal half (least_from (known next) node)
      → (rest : List ℕ) × IsQRouteRest n depot load (left - load node) next rest × (first_or_depot depot rest ≢ node)
      × (least_from (known next) node ≡ onward_weight w depot next rest)
  from_met next other real = elim (cases_Bool ((known next).next == node)) [
    | inl t ↦
        let is : least_from (known next) node ≡ (known next).other =
        ap (λ b. if b then (known next).other else (known next).least) t in
        let q_route = (mets next other).other (omega (arith, ints, is, real)) in (
          q_route.0,
          q_route.1,
          λ same. q_route.2 (same ∙ sym (eqb-true (known next).next node t)),
          (let weight = q_route.3 in omega (arith, ints, is, weight)),
        )
    | inr f ↦
        let is : least_from (known next) node ≡ (known next).least =
        ap (λ b. if b then (known next).other else (known next).least) f in
        let q_route = (mets next other).least (omega (arith, ints, is, real)) in (
          q_route.0,
          q_route.1,
          λ same. both_ways ((known next).next == node) f (eq-eqb (known next).next node (sym q_route.2 ∙ same)),
          (let weight = q_route.3 in omega (arith, ints, is, weight)),
        )
  ]

  step_q_route : (next : ℕ) (number : ℤ) → IsStepTo half n depot w known node next number → IsReal half number
      → (rest : List ℕ) × IsQRouteRest n depot load left node rest × (first_or_depot depot rest ≡ next)
      × (number ≡ onward_weight w depot node rest)
  step_q_route next number (inl back) real = (
    [],
    record { customers = (customer, tt); within = omega (arith, ints, here); straight = (tt, tt) },
    sym back.0,
    (let is = back.1 in omega (arith, ints, is)),
  )
  step_q_route next number (inr on) real =
      let q_route = from_met next on.0 (on.3 real) in (
        next ∷ q_route.0,
        record {
          customers = (customer, q_route.1.customers);
          within = let fits = q_route.1.within in omega (arith, ints, fits, here);
          straight = ((on.1, begins_at depot node q_route.0 q_route.2), q_route.1.straight);
        },
        refl,
        (let is = on.2 in let weight = q_route.3 in omega (arith, ints, is, weight)),
      )

  pub entry_met : (entry : QRouteEntry) (last : ℕ) → IsEntryMetTo half n depot w known node last entry → IsMet half n depot w load left node entry
  entry_met entry last met = record {
    least = λ real. step_q_route entry.next entry.least met.least real;
    other = λ real. elim met.other [
      | inl none ↦ absurd (omega (arith, ints, none, real, some))
      | inr has ↦
          let q_route = step_q_route has.0 entry.other has.2 real in
          (q_route.0, q_route.1, λ same. has.1 (sym q_route.2 ∙ same), q_route.3)
    ];
  }

pub nowhere_met : (half n depot : ℕ) (w : ℕ → ℕ → ℤ) (load : ℕ → ℕ) (left node : ℕ) (entry : QRouteEntry) → 1 ≤ half
    → entry.least ≡ pos (2 * half)
    → entry.other ≡ pos (2 * half) → IsMet half n depot w load left node entry
nowhere_met half n depot w load left node entry some least other = record {
  least = λ real. absurd (omega (arith, ints, some, least, real));
  other = λ real. absurd (omega (arith, ints, some, other, real));
}

-- the least walk
pub start_exact : (half n depot : ℕ) (w : ℕ → ℕ → ℤ) (load : ℕ → ℕ) (room : ℕ) (known : ℕ → QRouteEntry) (each : ℤ)
    → 1 ≤ half → IsBelowQRoutes n depot load room w each
    → ((node : ℕ) → IsCustomer n depot node → IsMet half n depot w load room node (known node))
    → IsStartMet half n depot w known each → IsReal half each
    → IsLeastAmong (IsQRoute n depot load room) (λ nodes. length_of w (depot ∷ nodes)) (Some each)
start_exact half n depot w load room known each some below mets (inl none) real = absurd (omega (arith, ints, some, none, real))
start_exact half n depot w load room known each some below mets (inr has) real =
    let q_route = (mets has.0 has.1).least (has.3 real) in (
      (
        has.0 ∷ q_route.0,
        record {
          some = not_empty has.0 q_route.0;
          customers = All-from_recursion (IsCustomer n depot) (has.0 ∷ q_route.0) q_route.1.customers;
          within = q_route.1.within;
          straight = q_route.1.straight;
        },
        (let is = has.2 in let weight = q_route.3 in omega (arith, ints, is, weight)),
      ),
      below,
    )
  where
    not_empty : (x : ℕ) (xs : List ℕ) → (x ∷ xs) ≢ []
    not_empty x xs = λ same. let long = ap (λ ys. length ys) same in omega (arith, long)

-- a walk to its first customer alone and back weighs no more than two links
pub no_number_no_q_route : (half link n depot : ℕ) (w : ℕ → ℕ → ℤ) (load : ℕ → ℕ) (room : ℕ) (each : ℤ)
    → IsNode n depot → AreLinks link n w → (2 * link) ≤ half
    → IsBelowQRoutes n depot load room w each → (IsReal half each → ⊥)
    → (nodes : List ℕ) → IsQRoute n depot load room nodes → ⊥
no_number_no_q_route half link n depot w load room each depot_in sizes fits below far [] q_route = q_route.some refl
no_number_no_q_route half link n depot w load room each depot_in sizes fits below far (next ∷ rest) q_route =
    let customers = recursion_from_All (IsCustomer n depot) (next ∷ rest) q_route.customers in
    let within = q_route.within in
    let others = loads_low load rest in
    let first = sizes depot next depot_in customers.0.0 in
    let back = sizes next depot customers.0.0 depot_in in
    let own = below (next ∷ []) (record {
      some = not_empty next [];
      customers = All-from_recursion (IsCustomer n depot) (next ∷ []) (customers.0, tt);
      within = omega (arith, ints, within, others);
      straight = (tt, tt);
    }) in
    far (omega (arith, ints, own, first.1, back.1, fits))
  where
    not_empty : (x : ℕ) (xs : List ℕ) → (x ∷ xs) ≢ []
    not_empty x xs = λ same. let long = ap (λ ys. length ys) same in omega (arith, long)

-- the least of some by a number that is it, or says that there is none
pub found_least : {X : Type 0} (P : X → Type 0) (f : X → ℤ) (half : ℕ) (value : ℤ) (found : Option ℤ)
    → MatchOption found (IsReal half value → ⊥) (λ weight. (weight ≡ value) × IsReal half value)
    → (IsReal half value → IsLeastAmong P f (Some value)) → ((IsReal half value → ⊥) → (x : X) → P x → ⊥) → IsLeastAmong P f found
found_least P f half value None is exact none = none is
found_least P f half value (Some weight) is exact none =
    subst (λ (z : ℤ). IsLeastAmong P f (Some z)) (sym is.0) (exact is.1)

-- ---- an entry of the table of walks, the least weight on from a node, with one next node more

-- ---- rows

-- an element more at the end, if all but the first have a property by their places
pub entry_pushed : {X : Type 0} (C : ℕ → Type 0) (P : ℕ → X → Type 0) (entries : List X) (own : X) (last : ℕ)
    → length entries ≡ last + 1 → ((k : ℕ) (d : X) → C k → k ≤ last → P k (get_or entries k d))
    → (C (last + 1) → P (last + 1) own)
    → (k : ℕ) (d : X) → C k → k ≤ last + 1 → P k (get_or (entries ++ own ∷ []) k d)
entry_pushed {X} C P entries own last long all here k d is high = elim (cases_eq k (last + 1)) [
  | inl same ↦
      subst (P k) (sym (get_append_last entries own k d (omega (arith, same, long))))
      (subst (λ (j : ℕ). P j own) (sym same) (here (subst C same is)))
  | inr other ↦
      subst (P k) (sym (get_append_left entries own k d (omega (arith, high, other, long)))) (all k d is (omega (arith, high, other)))
]

-- ---- entries

module _ (half n depot : ℕ) (w : ℕ → ℕ → ℤ) (known : ℕ → QRouteEntry) (node : ℕ) where
  -- at first there is the way back
  pub back_only : (entry : QRouteEntry) → depot ≡ entry.next → entry.least ≡ w node depot
      → IsEntryBelowTo n depot w known node 0 entry
  back_only entry here is = record {
    back = (omega (arith, ints, is), λ other. absurd (other here));
    on = λ next customer other few. absurd (omega (arith, customer.0.0, few));
  }

  pub below_more : (next : ℕ) (best new : QRouteEntry) → 1 ≤ next → ((key : ℕ) (z : ℤ) → IsAtMost best key z → IsAtMost new key z)
      → IsAtMost new next (w node next +ℤ least_from (known next) node)
      → IsEntryBelowTo n depot w known node (next - 1) best → IsEntryBelowTo n depot w known node next new
  below_more next best new some keeps own so_far = record {
    back = keeps depot (w node depot) so_far.back;
    on = λ key customer other few. elim (cases_eq key next) [
      | inl same ↦ subst (λ (k : ℕ). IsAtMost new k (w node k +ℤ least_from (known k) node)) (sym same) own
      | inr differs ↦ keeps key (w node key +ℤ least_from (known key) node)
          (so_far.on key customer other (omega (arith, few, differs)))
    ];
  }

  pub below_skip : (next : ℕ) (best : QRouteEntry) → (IsCustomer n depot next → node ≢ next → ⊥)
      → IsEntryBelowTo n depot w known node (next - 1) best → IsEntryBelowTo n depot w known node next best
  below_skip next best none so_far = record {
    back = so_far.back;
    on = λ key customer other few. elim (cases_eq key next) [
      | inl same ↦ absurd (none (subst (IsCustomer n depot) same customer) (λ is. other (is ∙ sym same)))
      | inr differs ↦ so_far.on key customer other (omega (arith, few, differs))
    ];
  }

  -- the same of the numbers that steps have
  at_step : (next same : ℕ) (number value : ℤ) → same ≡ next → value ≡ number → IsStepTo half n depot w known node next number
      → IsStepTo half n depot w known node same value
  at_step next same number value first second step =
      subst (λ (k : ℕ). IsStepTo half n depot w known node k value) (sym first)
      (subst (IsStepTo half n depot w known node next) (sym second) step)

  pub met_first : (entry : QRouteEntry) → entry.next ≡ depot → entry.least ≡ w node depot → entry.other ≡ pos (2 * half)
      → IsEntryMetTo half n depot w known node 0 entry
  met_first entry here is none = record { least = inl (here, is); other = inl none; tried = inl here }

  pub met_skip : (next : ℕ) (best : QRouteEntry) → IsEntryMetTo half n depot w known node (next - 1) best
      → IsEntryMetTo half n depot w known node next best
  met_skip next best met = record {
    least = met.least;
    other = met.other;
    tried = elim met.tried [
      | inl here ↦ inl here
      | inr le ↦ inr (omega (arith, le))
    ];
  }

  pub met_more : (next : ℕ) (weight : ℤ) (best new : QRouteEntry) → IsCustomer n depot next → node ≢ next
      → weight ≡ w node next +ℤ least_from (known next) node → (IsReal half weight → IsReal half (least_from (known next) node))
      → IsChosen best next weight new → IsEntryMetTo half n depot w known node (next - 1) best
      → IsEntryMetTo half n depot w known node next new
  met_more next weight best new customer other is real chosen met =
      elim chosen [
        | inl first ↦ record {
          least = at_step next new.next weight new.least first.1 first.0 step;
          other = inr (
            best.next,
            λ same. apart (same ∙ first.1),
            at_step best.next best.next best.least new.other refl first.2 met.least,
          );
          tried = inr (let at = first.1 in omega (arith, at));
        }
        | inr (inl second) ↦ record {
          least = at_step best.next new.next best.least new.least second.1 second.0 met.least;
          other = inr (
            next,
            λ same. apart (sym (same ∙ second.1)),
            at_step next next weight new.other refl second.2 step,
          );
          tried = tried_too new.next second.1;
        }
        | inr (inr neither) ↦ record {
          least = at_step best.next new.next best.least new.least neither.1 neither.0 met.least;
          other = elim met.other [
            | inl none ↦ inl (neither.2 ∙ none)
            | inr has ↦ inr (
              has.0,
              λ same. has.1 (same ∙ neither.1),
              at_step has.0 has.0 best.other new.other refl neither.2 has.2,
            )
          ];
          tried = tried_too new.next neither.1;
        }
      ]
    where
      step : IsStepTo half n depot w known node next weight
      step = inr (customer, other, is, real)

      apart : best.next ≢ next
      apart = elim met.tried [
        | inl here ↦ λ same. customer.1 (sym same ∙ here)
        | inr le ↦ λ same. let low = customer.0.0 in omega (arith, le, same, low)
      ]

      tried_too : (k : ℕ) → k ≡ best.next → (k ≡ depot) ⊎ (k ≤ next)
      tried_too k same = elim met.tried [
        | inl here ↦ inl (same ∙ here)
        | inr le ↦ inr (omega (arith, le, same))
      ]

-- a load above the capacity that is left
pub nowhere_low : (n depot : ℕ) (w : ℕ → ℕ → ℤ) (load : ℕ → ℕ) (left node : ℕ) (entry : QRouteEntry) → (load node ≤ left → ⊥)
    → IsLow n depot w load left node entry
nowhere_low n depot w load left node entry more =
    entry_low n depot w load left node (λ next. entry) entry (λ le. absurd (more le)) (λ le. absurd (more le))

-- ---- the two nodes that no walk goes on to from a node: itself and the depot

-- another node than these is neither
pub apart_from : (depot node first last next : ℕ) → ((first ≡ node) × (last ≡ depot)) ⊎ ((first ≡ depot) × (last ≡ node))
    → next ≢ first → next ≢ last → (next ≢ depot) × (node ≢ next)
apart_from depot node first last next (inl are) low high =
    (λ same. high (same ∙ sym are.1), λ same. low (sym (are.0 ∙ same)))
apart_from depot node first last next (inr are) low high =
    (λ same. low (same ∙ sym are.0), λ same. high (sym (are.1 ∙ same)))

-- neither of them is a next customer
pub no_way : (n depot node first last : ℕ) → ((first ≡ node) × (last ≡ depot)) ⊎ ((first ≡ depot) × (last ≡ node))
    → (IsCustomer n depot first → node ≢ first → ⊥) × (IsCustomer n depot last → node ≢ last → ⊥)
no_way n depot node first last (inl are) = (λ customer other. other (sym are.0), λ customer other. customer.1 are.1)
no_way n depot node first last (inr are) = (λ customer other. customer.1 are.0, λ customer other. other (sym are.1))

-- ---- how large the numbers in the table of walks are

pub get_same : {X : Type 0} (xs : List X) (k : ℕ) (d e : X) → k < length xs → get_or xs k d ≡ get_or xs k e
get_same [] k d e lt = absurd (omega (arith, lt))
get_same (x ∷ xs) zero d e lt = refl
get_same (x ∷ xs) (suc k) d e lt = get_same xs k d e (omega (arith, lt))

-- ---- numbers of links

-- one link more
pub links_more : (count link : ℕ) → (count + 1) * link ≡ count * link + link
links_more count link = ap (λ (k : ℕ). k * link) (add-one count) ∙ suc-mul count link

pub links_up : (count most link : ℕ) → count ≤ most → count * link ≤ most * link
links_up count most link le = mul-le-mul_right link le

-- ---- entries

pub number_up : (half size most : ℕ) (z : ℤ) → size ≤ most → IsEntryNumber half size z → IsEntryNumber half most z
number_up half size most z few own = (
  omega (arith, ints, few, own.0),
  own.1,
  elim own.2 [
    | inl near ↦ inl (omega (arith, ints, few, near))
    | inr far ↦ inr (omega (arith, ints, few, far))
  ],
)

pub entry_up : (half size most : ℕ) (entry : QRouteEntry) → size ≤ most → IsEntrySized half size entry → IsEntrySized half most entry
entry_up half size most entry few own = record {
  least = number_up half size most entry.least few own.least;
  other = number_up half size most entry.other few own.other;
}

pub known_sized : {S : Type 0} (value : S → ℤ) (half nodes size next : ℕ) (row : List (Onward S)) (d : Onward S) → IsNode nodes next
    → IsRowSized value half nodes size row → IsEntrySized half size (entry_at value row d next)
known_sized value half nodes size next row d node own = own.sizes next d (omega (arith, node.1, own.places))

-- ---- sums

module _ (half link size : ℕ) (a b sum : ℤ) (is : sum ≡ b +ℤ a) (small : IsFromTo (neg_ℤ (pos link)) (pos link) a)
    (own : IsEntryNumber half size b) where
  pub sum_low : neg_ℤ (pos (size + link)) ≤ℤ sum
  sum_low = omega (arith, ints, is, small.0, own.0)

  pub sum_near : IsNearOrFar half (size + link) sum
  sum_near = elim own.2 [
    | inl near ↦ inl (omega (arith, ints, is, small.1, near))
    | inr far ↦ inr (omega (arith, ints, is, small.0, far))
  ]

  -- a sum that a walk weighs has a part that one weighs
  pub sum_real : size + link < half → IsReal half sum → IsReal half b
  sum_real fits real = elim own.2 [
    | inl near ↦ omega (arith, ints, fits, near)
    | inr far ↦ absurd (omega (arith, ints, fits, is, small.0, far, real))
  ]

pub first_sized : (half link size : ℕ) (z : ℤ) → size + link < half → IsFromTo (neg_ℤ (pos link)) (pos link) z
    → IsEntryNumber half (size + link) z
first_sized half link size z fits small =
    (omega (arith, ints, small.0), omega (arith, ints, small.1, fits), inl (omega (arith, ints, small.1)))

pub none_sized : (half size : ℕ) → IsEntryNumber half size (pos (2 * half))
none_sized half size = (omega (arith, ints), omega (arith, ints), inr (omega (arith, ints)))

-- a number that a walk weighs is no larger than its half
pub real_sized : (half size : ℕ) (z : ℤ) → size < half → IsEntryNumber half size z → IsReal half z
    → IsFromTo (neg_ℤ (pos half)) (pos half) z
real_sized half size z fits own real = (omega (arith, ints, fits, own.0), real)
