-- For the law in src/one_verdict.rt: files have one verdict. Its reason has one rank and numbers, its length is that of
-- the tour or plan, its bound one number.
use Rattle.tsp_verdict.proofs.Prelude.{◌≡◌, ◌∙◌, ℕ, false, List, [], ◌∷◌, get_or, inl, inr, refl, sym, ap, ap₂, subst, arith, Option, None, Some, ℤ, false≢true, ints, Kind, Fields, nodes_of, cost, scale_in, multipliers_in, families_listed, length_of, IsAdjustedBound, IsDualBound, is_directed, routing_of, capacity_of, Crossings, NumbersAreUnique, decided_number, CertificateKind, Potentials, Branches, Reason, LengthClaimed, Verdict, IsPlanBoundFound, PlanBoundsFoundAreUnique, memories_listed, rows_listed, Ok, Err, BoundVerdict}
use Rattle.tsp_format.specs.declared.kinds.Kind.TheVariants as kinds
use Rattle.tsp_format.specs.Steps as listed
use Rattle.tsp_theory.proofs.Cycles.{one_bound as one_sum_bound}
use Rattle.tsp_cases.specs.CaseTrees.{IsCaseTreeBound, CaseTreeBoundsAreUnique}
use Rattle.tsp_report.specs.declared.verdict.KnownBound.{KnownBound}
use Rattle.tsp_report.specs.declared.verdict.Verdict.TheVariants.{Tour, Routes, No}
use Rattle.tsp_verdict.proofs.KnownBounds.{same_least, least_of_routes}
use Rattle.tsp_verdict.specs.SolutionVerdict.{IsFoundWith, IsLeastKnownBy, IsKnownBoundWith, IsVerdictBy, IsVerdictOn, IsUnclaimedVerdict, IsFirstAgainstGiven, HasLength, IsOfLength, IsClaimedVerdict, FilesHaveOneVerdict, FilesHaveOneBound, FilesHaveOneKnownBound, SolutionsHaveOneVerdict}
use Rattle.tsp_verdict.specs.Certified.{AppliesToInstance, AppliesToBounded, IsBoundVerdict, is_bounded, IsBoundBy, IsBoundOf, HasNoBoundBy, AppliesToCertificate, IsCertified, AppliesToCertified, IsCertifiedTourVerdict, AppliesToCertifiedRoutes, IsCertifiedRoutesVerdict, IsCertifiedVerdictBy, IsCertifiedVerdict}
use Rattle.tsp_verdict.specs.Certificates.{given_in, case_steps_in, families_with_numbers, HasBoundByBranches, IsBoundByNodes, IsBoundByDuals, unit_in, by_runs_in, HasBoundByQRoutes}
use Rattle.tsp_verdict.specs.SolutionReasons.{total_of, AppliesToRoutes, IsPlanned, IsRoutesVerdict, tours_of, AppliesToTour, IsTourVerdict}
use Rattle.tsp_verdict.proofs.FirstReasons.{one_first}
use Rattle.tsp_verdict.proofs.OneReason.{one_value, tours_by_rank, instance_by_rank, routes_by_rank, certificates_by_rank, certified_by_rank, certified_routes_by_rank, bounded_by_rank, one_crossed}

-- the laws of the crates below
pub record Laws : Type 0 where
  pub numbers : NumbersAreUnique
  pub leaves : CaseTreeBoundsAreUnique
  pub q_routes : PlanBoundsFoundAreUnique

-- ---- on its own

-- the one list of a list
one_list : (lists : List (List ℕ)) (a b : List ℕ) → lists ≡ a ∷ [] → lists ≡ b ∷ [] → a ≡ b
one_list lists a b one other = ap (λ found. get_or found 0 []) (sym one ∙ other)

one_tour : (inst sol : Fields) (one other : Verdict) → IsTourVerdict inst sol one → IsTourVerdict inst sol other → one ≡ other
one_tour inst sol (No a) (No b) one other = ap No (one_first (AppliesToTour inst sol) (tours_by_rank inst sol) a b one other)
one_tour inst sol (No a) (Tour found bound) one other = absurd (other.0 a one.applies)
one_tour inst sol (No a) (Routes found routes least bound_b) one other = absurd other
one_tour inst sol (Tour length bound) (No b) one other = absurd (one.0 b other.applies)
one_tour inst sol (Tour length bound) (Tour found least) one other =
    let same = one_list (tours_of sol) one.1.0 other.1.0 one.1.1 other.1.1 in
    ap₂ (λ length bound. Tour length bound) (one.1.3 ∙ ap (length_of (cost inst)) same ∙ sym other.1.3) (one.2 ∙ sym other.2)
one_tour inst sol (Tour length bound) (Routes found routes least bound_b) one other = absurd other
one_tour inst sol (Routes length routes least bound) other is none = absurd is

three : {X Y Z W : Type 0} (f : X → Y → Z → W) (x p : X) (y q : Y) (z r : Z) → x ≡ p → y ≡ q → z ≡ r → f x y z ≡ f p q r
three f x p y q z r first second third = ap (λ x. f x y z) first ∙ ap₂ (λ y z. f p y z) second third

-- routes of one plan, with one bound
one_planned : (inst : Fields) (plan : List (List ℕ)) (a b : ℤ) (count other fewest least : ℕ) (bound : Option ℤ)
    → IsPlanned inst plan a count fewest → IsPlanned inst plan b other least
    → Routes a count fewest bound ≡ Routes b other least bound
one_planned inst plan a b count other fewest least bound one second =
    three (λ length routes least. Routes length routes least bound) a b count other fewest least
    (one.measured ∙ sym second.measured) (one.counted ∙ sym second.counted)
    (same_least (total_of inst) (capacity_of inst) fewest least one.least_is second.least_is)

one_routes : (inst sol : Fields) (one other : Verdict) → IsRoutesVerdict inst sol one → IsRoutesVerdict inst sol other
    → one ≡ other
one_routes inst sol (No a) (No b) one other =
    ap No (one_first (AppliesToRoutes inst sol) (routes_by_rank inst sol) a b one other)
one_routes inst sol (No a) (Routes found routes least bound) one other = absurd (other.0 a one.applies)
one_routes inst sol (No a) (Tour found bound) one other = absurd other
one_routes inst sol (Routes length routes least bound) (No b) one other = absurd (one.0 b other.applies)
one_routes inst sol (Routes length routes least bound) (Routes found count fewest same) one other =
    one_planned inst (tours_of sol) length found routes count least fewest bound one.1 other.1
    ∙ ap (λ b. Routes found count fewest b) (one.2 ∙ sym other.2)
one_routes inst sol (Routes length routes least bound) (Tour found alone) one other = absurd other
one_routes inst sol (Tour length bound) other is none = absurd is

one_by_kind : (kind : Option Kind) (inst sol : Fields) (one other : Verdict) → IsVerdictBy kind inst sol one
    → IsVerdictBy kind inst sol other → one ≡ other
one_by_kind (Some kinds.Tsp) inst sol one other first second = one_tour inst sol one other first second
one_by_kind (Some kinds.Atsp) inst sol one other first second = one_tour inst sol one other first second
one_by_kind (Some kinds.Cvrp) inst sol one other first second = one_routes inst sol one other first second
one_by_kind (Some kinds.Tour) inst sol one other first second = absurd first
one_by_kind (Some kinds.Potentials) inst sol one other first second = absurd first
one_by_kind (Some kinds.Branches) inst sol one other first second = absurd first
one_by_kind None inst sol one other first second = absurd first

one_alone : (inst sol : Fields) (one other : Verdict) → IsVerdictOn inst sol one → IsVerdictOn inst sol other → one ≡ other
one_alone inst sol one other first second = one_by_kind inst.kind inst sol one other first second

-- ---- bounds

-- two minimum 1-trees weigh the same
one_adjusted : (n : ℕ) (cost : ℕ → ℕ → ℤ) (scale : ℤ) (potentials : List ℤ) (taken avoided : List (ℕ × ℕ × ℤ)) (a b : ℤ)
    → IsAdjustedBound n cost scale potentials taken avoided a → IsAdjustedBound n cost scale potentials taken avoided b → a ≡ b
one_adjusted n cost scale potentials taken avoided a b one other =
    let below = one.least.least other.tree other.least.tree in
    let above = other.least.least one.tree one.least.tree in
    let first = one.bound_is.least b (let own = other.bound_is.above in omega (arith, ints, own, below)) in
    let second = other.bound_is.least a (let own = one.bound_is.above in omega (arith, ints, own, above)) in
    omega (arith, ints, first, second)

one_by_nodes : (inst pot : Fields) (a b : ℤ) → IsBoundByNodes inst pot a → IsBoundByNodes inst pot b → a ≡ b
one_by_nodes inst pot a b one other =
    let same = one_value pot.node_potentials other.potentials one.potentials other.potentials_are one.potentials_are in
    one_adjusted (nodes_of inst) (cost inst) (scale_in pot) one.potentials (multipliers_in pot) [] a b one.of_tree
    (subst (λ numbers. IsAdjustedBound (nodes_of inst) (cost inst) (scale_in pot) numbers (multipliers_in pot) [] b) same
    other.of_tree)

one_by_duals : (inst pot : Fields) (a b : ℤ) → IsBoundByDuals inst pot a → IsBoundByDuals inst pot b → a ≡ b
one_by_duals inst pot a b one other =
    let rows = one_value pot.row_potentials other.rows one.rows other.rows_are one.rows_are in
    let columns = one_value pot.column_potentials other.columns one.columns other.columns_are one.columns_are in
    let of_rows = subst (λ numbers. IsDualBound (scale_in pot) numbers other.columns b) rows other.of_duals in
    let of_both = subst (λ numbers. IsDualBound (scale_in pot) one.rows numbers b) columns of_rows in
    one_sum_bound (scale_in pot) _ a b one.of_duals of_both

one_by_tree : Laws → (inst tree : Fields) (a b : Option ℤ) → HasBoundByBranches inst tree a → HasBoundByBranches inst tree b
    → a ≡ b
one_by_tree laws inst tree a b one other =
    let Bounds : List Crossings → List listed.Step → Type 0 =
    λ crossed steps. IsCaseTreeBound (is_directed inst.kind) (nodes_of inst) (cost inst)
    (scale_in tree) decided_number (families_with_numbers tree crossed) (given_in inst) (case_steps_in inst tree steps) b in
    let steps = one_value tree.branches other.steps one.steps other.steps_are one.steps_are in
    let crossed = one_crossed laws.numbers inst tree other.crossed one.crossed other.numbers one.numbers in
    let of_steps : Bounds other.crossed one.steps = subst (λ steps. Bounds other.crossed steps) steps other.bound in
    let moved : Bounds one.crossed one.steps = subst (λ crossed. Bounds crossed one.steps) crossed of_steps in
    laws.leaves (is_directed inst.kind) (nodes_of inst) (cost inst) (scale_in tree) decided_number
    (families_with_numbers tree one.crossed)
    (given_in inst) (case_steps_in inst tree one.steps) a b one.bound moved

one_by_q_routes : Laws → (inst tree : Fields) (a b : Option ℤ) → HasBoundByQRoutes inst tree a → HasBoundByQRoutes inst tree b → a ≡ b
one_by_q_routes laws inst tree a b one other =
    let Found : List listed.Step → Type 0 = λ steps. IsPlanBoundFound (by_runs_in tree) (routing_of inst) (scale_in tree) (unit_in tree)
    (families_listed tree) (memories_listed tree) (rows_listed tree) steps b in
    let steps = one_value tree.branches other.steps one.steps other.steps_are one.steps_are in
    let moved : Found one.steps = subst Found steps other.bound in
    laws.q_routes (by_runs_in tree) (routing_of inst) (scale_in tree) (unit_in tree) (families_listed tree) (memories_listed tree)
    (rows_listed tree) one.steps a b one.bound moved

of_some : (a b : ℤ) → Some a ≡ Some b → a ≡ b
of_some a b same = one_value (Some b) a b (sym same) refl

one_bound_by : Laws → (by : CertificateKind) (kind : Option Kind) (inst cert : Fields) (a b : ℤ) → IsBoundBy by kind inst cert a
    → IsBoundBy by kind inst cert b → a ≡ b
one_bound_by laws Potentials (Some kinds.Tsp) inst cert a b one other = one_by_nodes inst cert a b one other
one_bound_by laws Potentials (Some kinds.Atsp) inst cert a b one other = one_by_duals inst cert a b one other
one_bound_by laws Potentials (Some kinds.Cvrp) inst cert a b one other = absurd one
one_bound_by laws Potentials (Some kinds.Tour) inst cert a b one other = absurd one
one_bound_by laws Potentials (Some kinds.Potentials) inst cert a b one other = absurd one
one_bound_by laws Potentials (Some kinds.Branches) inst cert a b one other = absurd one
one_bound_by laws Potentials None inst cert a b one other = absurd one
one_bound_by laws Branches (Some kinds.Tsp) inst cert a b one other =
    of_some a b (one_by_tree laws inst cert (Some a) (Some b) one other)
one_bound_by laws Branches (Some kinds.Atsp) inst cert a b one other =
    of_some a b (one_by_tree laws inst cert (Some a) (Some b) one other)
one_bound_by laws Branches (Some kinds.Cvrp) inst cert a b one other =
    of_some a b (one_by_q_routes laws inst cert (Some a) (Some b) one other)
one_bound_by laws Branches (Some kinds.Tour) inst cert a b one other = absurd one
one_bound_by laws Branches (Some kinds.Potentials) inst cert a b one other = absurd one
one_bound_by laws Branches (Some kinds.Branches) inst cert a b one other = absurd one
one_bound_by laws Branches None inst cert a b one other = absurd one

-- a certificate has a bound or none, not both
some_or_none : (a : ℤ) → Some a ≡ None → ⊥
some_or_none a both = grind (arith, both)

bound_or_none : Laws → (by : CertificateKind) (kind : Option Kind) (inst cert : Fields) (a : ℤ) → IsBoundBy by kind inst cert a
    → HasNoBoundBy by kind inst cert → ⊥
bound_or_none laws Branches (Some kinds.Tsp) inst cert a one none =
    some_or_none a (one_by_tree laws inst cert (Some a) None one none)
bound_or_none laws Branches (Some kinds.Atsp) inst cert a one none =
    some_or_none a (one_by_tree laws inst cert (Some a) None one none)
bound_or_none laws Branches (Some kinds.Cvrp) inst cert a one none =
    some_or_none a (one_by_q_routes laws inst cert (Some a) None one none)
bound_or_none laws Branches (Some kinds.Tour) inst cert a one none = one
bound_or_none laws Branches (Some kinds.Potentials) inst cert a one none = one
bound_or_none laws Branches (Some kinds.Branches) inst cert a one none = one
bound_or_none laws Branches None inst cert a one none = one
bound_or_none laws Potentials (Some kinds.Tsp) inst cert a one none = none
bound_or_none laws Potentials (Some kinds.Atsp) inst cert a one none = none
bound_or_none laws Potentials (Some kinds.Cvrp) inst cert a one none = none
bound_or_none laws Potentials (Some kinds.Tour) inst cert a one none = none
bound_or_none laws Potentials (Some kinds.Potentials) inst cert a one none = none
bound_or_none laws Potentials (Some kinds.Branches) inst cert a one none = none
bound_or_none laws Potentials None inst cert a one none = none

never_none : Laws → (by : CertificateKind) (inst cert : Fields) (a : ℤ) → IsBoundVerdict by inst cert (Ok (Some a))
    → IsBoundVerdict by inst cert (Ok None) → ⊥
never_none laws by inst cert a one other =
    let certified : IsCertified by inst cert a = one.1 in bound_or_none laws by inst.kind inst cert a certified.0 other.1

pub one_bound : Laws → FilesHaveOneBound
one_bound laws by inst cert (Ok (Some a)) (Ok (Some b)) one other =
    let first : IsCertified by inst cert a = one.1 in
    let second : IsCertified by inst cert b = other.1 in
    ap (λ b. Ok (Some b)) (one_bound_by laws by inst.kind inst cert a b first.0 second.0)
one_bound laws by inst cert (Ok (Some a)) (Ok None) one other = absurd (never_none laws by inst cert a one other)
one_bound laws by inst cert (Ok (Some a)) (Err reason) one other = absurd (one.0 reason other.applies)
one_bound laws by inst cert (Ok None) (Ok (Some b)) one other = absurd (never_none laws by inst cert b other one)
one_bound laws by inst cert (Ok None) (Ok None) one other = refl
one_bound laws by inst cert (Ok None) (Err reason) one other = absurd (one.0 reason other.applies)
one_bound laws by inst cert (Err reason) (Ok (Some b)) one other = absurd (other.0 reason one.applies)
one_bound laws by inst cert (Err reason) (Ok None) one other = absurd (other.0 reason one.applies)
one_bound laws by inst cert (Err a) (Err b) one other =
    ap Err (one_first (AppliesToBounded by inst cert) (bounded_by_rank laws.numbers by inst cert) a b one other)

-- ---- with a certificate

one_certified_tour : Laws → (by : CertificateKind) (inst sol cert : Fields) (one other : Verdict) → IsCertifiedTourVerdict by inst sol cert one
    → IsCertifiedTourVerdict by inst sol cert other → one ≡ other
one_certified_tour laws by inst sol cert (No a) (No b) one other =
    ap No (one_first (AppliesToCertified by inst sol cert) (certified_by_rank laws.numbers by inst sol cert) a b one other)
one_certified_tour laws by inst sol cert (No a) (Tour length bound) one other = absurd (other.0 a one.applies)
one_certified_tour laws by inst sol cert (No a) (Routes length routes least bound) one other = absurd other
one_certified_tour laws by inst sol cert (Tour length bound) (No b) one other = absurd (one.0 b other.applies)
one_certified_tour laws by inst sol cert (Tour length bound) (Tour found least) one other =
    let same = one_list (tours_of sol) one.1.tour other.1.tour one.1.only other.1.only in
    let least = one_bound_by laws by inst.kind inst cert one.1.least other.1.least one.1.of_certificate other.1.of_certificate in
    ap₂ (λ length bound. Tour length bound) (one.1.measured ∙ ap (length_of (cost inst)) same ∙ sym other.1.measured)
    (one.1.bound_is ∙ ap Some least ∙ sym other.1.bound_is)
one_certified_tour laws by inst sol cert (Tour length bound) (Routes found routes least bound_b) one other = absurd other
one_certified_tour laws by inst sol cert (Routes length routes least bound) other is none = absurd is

one_certified_routes : Laws → (by : CertificateKind) (inst sol cert : Fields) (one other : Verdict)
    → IsCertifiedRoutesVerdict by inst sol cert one → IsCertifiedRoutesVerdict by inst sol cert other → one ≡ other
one_certified_routes laws by inst sol cert (No a) (No b) one other =
    ap No (one_first (AppliesToCertifiedRoutes by inst sol cert) (certified_routes_by_rank laws.numbers by inst sol cert) a b one
    other)
one_certified_routes laws by inst sol cert (No a) (Routes length routes least bound) one other = absurd (other.0 a one.applies)
one_certified_routes laws by inst sol cert (No a) (Tour length bound) one other = absurd other
one_certified_routes laws by inst sol cert (Routes length routes least bound) (No b) one other = absurd (one.0 b other.applies)
one_certified_routes laws by inst sol cert (Routes length routes least bound) (Routes found count fewest same) one other =
    let lower = one_bound_by laws by inst.kind inst cert one.1.least other.1.least one.1.of_certificate other.1.of_certificate in
    one_planned inst (tours_of sol) length found routes count least fewest bound one.1.planned other.1.planned
    ∙ ap (λ b. Routes found count fewest b) (one.1.bound_is ∙ ap Some lower ∙ sym other.1.bound_is)
one_certified_routes laws by inst sol cert (Routes length routes least bound) (Tour found alone) one other = absurd other
one_certified_routes laws by inst sol cert (Tour length bound) other is none = absurd is

one_certified_by : Laws → (kind : Option Kind) (by : CertificateKind) (inst sol cert : Fields) (one other : Verdict)
    → IsCertifiedVerdictBy kind by inst sol cert one → IsCertifiedVerdictBy kind by inst sol cert other → one ≡ other
one_certified_by laws (Some kinds.Tsp) by inst sol cert one other first second =
    one_certified_tour laws by inst sol cert one other first second
one_certified_by laws (Some kinds.Atsp) by inst sol cert one other first second =
    one_certified_tour laws by inst sol cert one other first second
one_certified_by laws (Some kinds.Cvrp) by inst sol cert one other first second =
    one_certified_routes laws by inst sol cert one other first second
one_certified_by laws (Some kinds.Tour) by inst sol cert one other first second =
    one_certified_tour laws by inst sol cert one other first second
one_certified_by laws (Some kinds.Potentials) by inst sol cert one other first second =
    one_certified_tour laws by inst sol cert one other first second
one_certified_by laws (Some kinds.Branches) by inst sol cert one other first second =
    one_certified_tour laws by inst sol cert one other first second
one_certified_by laws None by inst sol cert one other first second =
    one_certified_tour laws by inst sol cert one other first second

one_certified : Laws → (by : CertificateKind) (inst sol cert : Fields) (one other : Verdict) → IsCertifiedVerdict by inst sol cert one
    → IsCertifiedVerdict by inst sol cert other → one ≡ other
one_certified laws by inst sol cert one other first second = one_certified_by laws inst.kind by inst sol cert one other first second

one_unclaimed : Laws → (given : Option (CertificateKind × Fields)) (inst sol : Fields) (one other : Verdict)
    → IsUnclaimedVerdict given inst sol one → IsUnclaimedVerdict given inst sol other → one ≡ other
one_unclaimed laws None inst sol one other first second = one_alone inst sol one other first second
one_unclaimed laws (Some given) inst sol one other first second =
    one_certified laws given.0 inst sol given.1 one other first second

-- ---- with a claimed length

same_length : (verdict : Verdict) (a b : ℤ) → HasLength verdict a → HasLength verdict b → a ≡ b
same_length (Tour length bound) a b one other = one ∙ sym other
same_length (Routes length routes least bound) a b one other = one ∙ sym other
same_length (No reason) a b one other = absurd one

one_length : (inst sol : Fields) (a b : ℤ) → IsOfLength inst sol a → IsOfLength inst sol b → a ≡ b
one_length inst sol a b one other =
    let same = one_alone inst sol other.0 one.0 other.1 one.1 in
    same_length one.0 a b one.2 (subst (λ verdict. HasLength verdict b) same other.2)

-- a solution that has a length isn't rejected on its own
never_refused : (inst sol : Fields) (length : ℤ) (reason : Reason) → IsOfLength inst sol length → IsVerdictOn inst sol (No reason)
    → ⊥
never_refused inst sol length reason one refused =
    subst (λ verdict. HasLength verdict length) (one_alone inst sol one.0 (No reason) one.1 refused) one.2

-- a certificate gives no bound for other TYPEs
boundless : (by : CertificateKind) (kind : Option Kind) (inst cert : Fields) (least : ℤ) → is_bounded by kind ≡ false
    → IsBoundBy by kind inst cert least → ⊥
boundless Potentials (Some kinds.Tsp) inst cert least other bound = absurd (false≢true (sym other))
boundless Potentials (Some kinds.Atsp) inst cert least other bound = absurd (false≢true (sym other))
boundless Potentials (Some kinds.Cvrp) inst cert least other bound = bound
boundless Potentials (Some kinds.Tour) inst cert least other bound = bound
boundless Potentials (Some kinds.Potentials) inst cert least other bound = bound
boundless Potentials (Some kinds.Branches) inst cert least other bound = bound
boundless Potentials None inst cert least other bound = bound
boundless Branches (Some kinds.Tsp) inst cert least other bound = absurd (false≢true (sym other))
boundless Branches (Some kinds.Atsp) inst cert least other bound = absurd (false≢true (sym other))
boundless Branches (Some kinds.Cvrp) inst cert least other bound = absurd (false≢true (sym other))
boundless Branches (Some kinds.Tour) inst cert least other bound = bound
boundless Branches (Some kinds.Potentials) inst cert least other bound = bound
boundless Branches (Some kinds.Branches) inst cert least other bound = bound
boundless Branches None inst cert least other bound = bound

-- an accepted tour with a certificate is accepted on its own; so are accepted routes
alone_tour : (by : CertificateKind) (inst sol cert : Fields) (verdict : Verdict) (length : ℤ) → HasLength verdict length
    → IsCertifiedTourVerdict by inst sol cert verdict
    → (least : ℤ) × IsBoundOf by inst cert least × IsTourVerdict inst sol (Tour length None)
alone_tour by inst sol cert (Tour measured bound) length has accepted = (
  accepted.1.least,
  accepted.1.of_certificate,
  (
    λ reason applies. accepted.0 reason (inl applies),
    (accepted.1.tour, accepted.1.only, accepted.1.tour_of, has ∙ accepted.1.measured),
    refl,
  ),
)
alone_tour by inst sol cert (Routes measured routes least bound) length has accepted = absurd accepted
alone_tour by inst sol cert (No reason) length has accepted = absurd has

alone_routes : (by : CertificateKind) (inst sol cert : Fields) (verdict : Verdict) (length : ℤ) → HasLength verdict length
    → IsCertifiedRoutesVerdict by inst sol cert verdict
    → (yes : Verdict) × IsRoutesVerdict inst sol yes × HasLength yes length
alone_routes by inst sol cert (Routes measured routes least bound) length has accepted = (
  Routes measured routes least None,
  (λ reason applies. accepted.0 reason (inl applies), accepted.1.planned, refl),
  has,
)
alone_routes by inst sol cert (Tour measured bound) length has accepted = absurd accepted
alone_routes by inst sol cert (No reason) length has accepted = absurd has

-- of another TYPE no solution is accepted
alone_other : (by : CertificateKind) (kind : Option Kind) (inst sol cert : Fields) (verdict : Verdict) (length : ℤ)
    → kind ≡ inst.kind → is_bounded by kind ≡ false → HasLength verdict length
    → IsCertifiedTourVerdict by inst sol cert verdict → ⊥
alone_other by kind inst sol cert verdict length same other has accepted =
    let alone = alone_tour by inst sol cert verdict length has accepted in
    boundless by kind inst cert alone.0 other (subst (λ k. IsBoundBy by k inst cert alone.0) (sym same) alone.1)

none_bounded : (by : CertificateKind) → is_bounded by None ≡ false
none_bounded Potentials = refl
none_bounded Branches = refl

tour_file_unbounded : (by : CertificateKind) → is_bounded by (Some kinds.Tour) ≡ false
tour_file_unbounded Potentials = refl
tour_file_unbounded Branches = refl

potentials_unbounded : (by : CertificateKind) → is_bounded by (Some kinds.Potentials) ≡ false
potentials_unbounded Potentials = refl
potentials_unbounded Branches = refl

branches_unbounded : (by : CertificateKind) → is_bounded by (Some kinds.Branches) ≡ false
branches_unbounded Potentials = refl
branches_unbounded Branches = refl

alone_by_kind : (by : CertificateKind) (kind : Option Kind) (inst sol cert : Fields) (verdict : Verdict) (length : ℤ)
    → kind ≡ inst.kind → HasLength verdict length → IsCertifiedVerdictBy kind by inst sol cert verdict
    → (yes : Verdict) × IsVerdictBy kind inst sol yes × HasLength yes length
alone_by_kind by (Some kinds.Tsp) inst sol cert verdict length same has accepted =
    (Tour length None, (alone_tour by inst sol cert verdict length has accepted).2, refl)
alone_by_kind by (Some kinds.Atsp) inst sol cert verdict length same has accepted =
    (Tour length None, (alone_tour by inst sol cert verdict length has accepted).2, refl)
alone_by_kind by (Some kinds.Cvrp) inst sol cert verdict length same has accepted =
    alone_routes by inst sol cert verdict length has accepted
alone_by_kind by (Some kinds.Tour) inst sol cert verdict length same has accepted =
    absurd (alone_other by (Some kinds.Tour) inst sol cert verdict length same (tour_file_unbounded by) has accepted)
alone_by_kind by (Some kinds.Potentials) inst sol cert verdict length same has accepted =
    absurd (alone_other by (Some kinds.Potentials) inst sol cert verdict length same (potentials_unbounded by) has accepted)
alone_by_kind by (Some kinds.Branches) inst sol cert verdict length same has accepted =
    absurd (alone_other by (Some kinds.Branches) inst sol cert verdict length same (branches_unbounded by) has accepted)
alone_by_kind by None inst sol cert verdict length same has accepted =
    absurd (alone_other by None inst sol cert verdict length same (none_bounded by) has accepted)

accepted_alone : (given : Option (CertificateKind × Fields)) (inst sol : Fields) (verdict : Verdict) (length : ℤ)
    → HasLength verdict length
    → IsUnclaimedVerdict given inst sol verdict → IsOfLength inst sol length
accepted_alone None inst sol verdict length has accepted = (verdict, accepted, has)
accepted_alone (Some given) inst sol verdict length has accepted =
    alone_by_kind given.0 inst.kind inst sol given.1 verdict length refl has accepted

-- no reason applies to the certificate of an accepted solution
none_of_tour : (by : CertificateKind) (inst sol cert : Fields) (verdict : Verdict) (length : ℤ) (reason : Reason)
    → HasLength verdict length → IsCertifiedTourVerdict by inst sol cert verdict → AppliesToCertificate by inst cert reason → ⊥
none_of_tour by inst sol cert (Tour measured bound) length reason has accepted applies = accepted.0 reason (inr applies)
none_of_tour by inst sol cert (Routes measured routes least bound) length reason has accepted applies = accepted
none_of_tour by inst sol cert (No other) length reason has accepted applies = has

none_of_routes : (by : CertificateKind) (inst sol cert : Fields) (verdict : Verdict) (length : ℤ) (reason : Reason)
    → HasLength verdict length → IsCertifiedRoutesVerdict by inst sol cert verdict → AppliesToCertificate by inst cert reason
    → ⊥
none_of_routes by inst sol cert (Routes measured routes least bound) length reason has accepted applies =
    accepted.0 reason (inr applies)
none_of_routes by inst sol cert (Tour measured bound) length reason has accepted applies = accepted
none_of_routes by inst sol cert (No other) length reason has accepted applies = has

none_by_kind : (by : CertificateKind) (kind : Option Kind) (inst sol cert : Fields) (verdict : Verdict) (length : ℤ) (reason : Reason)
    → HasLength verdict length → IsCertifiedVerdictBy kind by inst sol cert verdict → AppliesToCertificate by inst cert reason
    → ⊥
none_by_kind by (Some kinds.Cvrp) inst sol cert verdict length reason has accepted applies =
    none_of_routes by inst sol cert verdict length reason has accepted applies
none_by_kind by (Some kinds.Tsp) inst sol cert verdict length reason has accepted applies =
    none_of_tour by inst sol cert verdict length reason has accepted applies
none_by_kind by (Some kinds.Atsp) inst sol cert verdict length reason has accepted applies =
    none_of_tour by inst sol cert verdict length reason has accepted applies
none_by_kind by (Some kinds.Tour) inst sol cert verdict length reason has accepted applies =
    none_of_tour by inst sol cert verdict length reason has accepted applies
none_by_kind by (Some kinds.Potentials) inst sol cert verdict length reason has accepted applies =
    none_of_tour by inst sol cert verdict length reason has accepted applies
none_by_kind by (Some kinds.Branches) inst sol cert verdict length reason has accepted applies =
    none_of_tour by inst sol cert verdict length reason has accepted applies
none_by_kind by None inst sol cert verdict length reason has accepted applies =
    none_of_tour by inst sol cert verdict length reason has accepted applies

none_against : (given : Option (CertificateKind × Fields)) (inst sol : Fields) (verdict : Verdict) (length : ℤ) (reason : Reason)
    → HasLength verdict length → IsUnclaimedVerdict given inst sol verdict → IsFirstAgainstGiven given inst reason → ⊥
none_against None inst sol verdict length reason has accepted first = first
none_against (Some given) inst sol verdict length reason has accepted first =
    none_by_kind given.0 inst.kind inst sol given.1 verdict length reason has accepted first.applies

never_both : (claim : ℤ) (given : Option (CertificateKind × Fields)) (inst sol : Fields) (reason : Reason) (verdict : Verdict)
    (length : ℤ)
    → HasLength verdict length → IsClaimedVerdict claim given inst sol (No reason) → IsUnclaimedVerdict given inst sol verdict
    → claim ≡ length → ⊥
never_both claim given inst sol reason verdict length has (inl refused) accepted is =
    never_refused inst sol length reason (accepted_alone given inst sol verdict length has accepted) refused
never_both claim given inst sol reason verdict length has (inr (inl other)) accepted is =
    other.2 (is ∙ one_length inst sol length other.0 (accepted_alone given inst sol verdict length has accepted) other.1)
never_both claim given inst sol reason verdict length has (inr (inr against)) accepted is =
    none_against given inst sol verdict length reason has accepted against.1

one_against_given : Laws → (given : Option (CertificateKind × Fields)) (inst : Fields) (a b : Reason)
    → IsFirstAgainstGiven given inst a
    → IsFirstAgainstGiven given inst b → a ≡ b
one_against_given laws None inst a b one other = absurd one
one_against_given laws (Some given) inst a b one other =
    one_first (AppliesToCertificate given.0 inst given.1) (certificates_by_rank laws.numbers given.0 inst given.1) a b one
    other

one_refused : Laws → (claim : ℤ) (given : Option (CertificateKind × Fields)) (inst sol : Fields) (a b : Reason)
    → IsClaimedVerdict claim given inst sol (No a) → IsClaimedVerdict claim given inst sol (No b) → No a ≡ No b
one_refused laws claim given inst sol a b (inl one) (inl other) = one_alone inst sol (No a) (No b) one other
one_refused laws claim given inst sol a b (inl one) (inr (inl other)) = absurd (never_refused inst sol other.0 a other.1 one)
one_refused laws claim given inst sol a b (inl one) (inr (inr other)) = absurd (never_refused inst sol claim a other.0 one)
one_refused laws claim given inst sol a b (inr (inl one)) (inl other) = absurd (never_refused inst sol one.0 b one.1 other)
one_refused laws claim given inst sol a b (inr (inl one)) (inr (inl other)) =
    ap No (one.3 ∙ ap LengthClaimed (one_length inst sol one.0 other.0 one.1 other.1) ∙ sym other.3)
one_refused laws claim given inst sol a b (inr (inl one)) (inr (inr other)) =
    absurd (one.2 (one_length inst sol claim one.0 other.0 one.1))
one_refused laws claim given inst sol a b (inr (inr one)) (inl other) = absurd (never_refused inst sol claim b one.0 other)
one_refused laws claim given inst sol a b (inr (inr one)) (inr (inl other)) =
    absurd (other.2 (one_length inst sol claim other.0 one.0 other.1))
one_refused laws claim given inst sol a b (inr (inr one)) (inr (inr other)) =
    ap No (one_against_given laws given inst a b one.1 other.1)

one_claimed : Laws → (claim : ℤ) (given : Option (CertificateKind × Fields)) (inst sol : Fields) (one other : Verdict)
    → IsClaimedVerdict claim given inst sol one → IsClaimedVerdict claim given inst sol other → one ≡ other
one_claimed laws claim given inst sol (No a) (No b) one other = one_refused laws claim given inst sol a b one other
one_claimed laws claim given inst sol (No a) (Tour length bound) one other =
    absurd (never_both claim given inst sol a (Tour length bound) length refl one other.0 other.1)
one_claimed laws claim given inst sol (No a) (Routes length routes least bound) one other =
    absurd (never_both claim given inst sol a (Routes length routes least bound) length refl one other.0 other.1)
one_claimed laws claim given inst sol (Tour length bound) (No b) one other =
    absurd (never_both claim given inst sol b (Tour length bound) length refl other one.0 one.1)
one_claimed laws claim given inst sol (Tour length bound) (Tour found least) one other =
    one_unclaimed laws given inst sol (Tour length bound) (Tour found least) one.0 other.0
one_claimed laws claim given inst sol (Tour length bound) (Routes found routes least bound_b) one other =
    one_unclaimed laws given inst sol (Tour length bound) (Routes found routes least bound_b) one.0 other.0
one_claimed laws claim given inst sol (Routes length routes least bound) (No b) one other =
    absurd (never_both claim given inst sol b (Routes length routes least bound) length refl other one.0 one.1)
one_claimed laws claim given inst sol (Routes length routes least bound) (Tour found none) one other =
    one_unclaimed laws given inst sol (Routes length routes least bound) (Tour found none) one.0 other.0
one_claimed laws claim given inst sol (Routes length routes least bound) (Routes found count fewest bound_b) one other =
    one_unclaimed laws given inst sol (Routes length routes least bound) (Routes found count fewest bound_b) one.0 other.0

pub one_verdict : Laws → FilesHaveOneVerdict
one_verdict laws given None inst sol one other first second = one_unclaimed laws given inst sol one other first second
one_verdict laws given (Some claim) inst sol one other first second = one_claimed laws claim given inst sol one other first second

-- ---- what is known of all solutions

one_found : Laws → (given : Option (CertificateKind × Fields)) (inst : Fields) (one other : Option BoundVerdict)
    → IsFoundWith given inst one → IsFoundWith given inst other → one ≡ other
one_found laws None inst None None one other = refl
one_found laws None inst None (Some (Ok bound)) one other = absurd other
one_found laws None inst None (Some (Err reason)) one other = absurd (one reason other.applies)
one_found laws None inst (Some (Ok bound)) other one second = absurd one
one_found laws None inst (Some (Err reason)) None one other = absurd (other reason one.applies)
one_found laws None inst (Some (Err reason)) (Some (Ok bound)) one other = absurd other
one_found laws None inst (Some (Err a)) (Some (Err b)) one other =
    ap (λ reason. Some (Err reason)) (one_first (AppliesToInstance inst) (instance_by_rank inst) a b one other)
one_found laws (Some given) inst None other one second = absurd one
one_found laws (Some given) inst (Some found) None one other = absurd other
one_found laws (Some given) inst (Some a) (Some b) one other = ap Some (one_bound laws given.0 inst given.1 a b one other)

one_least : (kind : Option Kind) (inst : Fields) (one other : Option ℕ) → IsLeastKnownBy kind inst one → IsLeastKnownBy kind inst other
    → one ≡ other
one_least (Some kinds.Cvrp) inst one (Some other) first second = least_of_routes inst one other second first
one_least (Some kinds.Cvrp) inst one None first second = absurd second
one_least (Some kinds.Tsp) inst one other first second = first ∙ sym second
one_least (Some kinds.Atsp) inst one other first second = first ∙ sym second
one_least (Some kinds.Tour) inst one other first second = first ∙ sym second
one_least (Some kinds.Potentials) inst one other first second = first ∙ sym second
one_least (Some kinds.Branches) inst one other first second = first ∙ sym second
one_least None inst one other first second = first ∙ sym second

abbrev known : Option ℕ → Option BoundVerdict → KnownBound
known least_is found_is = record { least = least_is; found = found_is }

one_known_bound_with : Laws → (given : Option (CertificateKind × Fields)) (inst : Fields) (one other : KnownBound) → IsKnownBoundWith given inst one
    → IsKnownBoundWith given inst other → one ≡ other
one_known_bound_with laws given inst one other first second =
    ap₂ known (one_least inst.kind inst one.least other.least first.0 second.0)
    (one_found laws given inst one.found other.found first.1 second.1)

pub one_known_bound : Laws → FilesHaveOneKnownBound
one_known_bound laws given inst one other first second = one_known_bound_with laws given inst one other first.1 second.1

pub one_of_solution : Laws → SolutionsHaveOneVerdict
one_of_solution laws given known_bound claimed inst sol one other is first second =
    one_verdict laws given claimed inst sol one other (first.1 given is) (second.1 given is)
