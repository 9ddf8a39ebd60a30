-- The verdict on a solution: with or without a certificate, a claimed length and `--strict`, and in a comparison by
-- what is known about the instance. src/solution_verdict.rt promises it, and the runs of tsp_judge report it. In no
-- circle of docs/trust.md: Accepted.antt in tsp_judge says what an accepted verdict means, without this file. tsp_c
-- imports it, too.
use Rattle.tsp_verdict.specs.Prelude.{Bool, Option, None, Some, option_map, ℤ, IsTrue, ℕ, Kind, Fields, is_instance, IsLeastRoutes, capacity_of, CertificateKind, Reason, LengthClaimed, Verdict, Ok, Err, BoundVerdict}
use Rattle.std.specs.Prelude.{◌≡◌, ◌≢◌, ◌⊎◌}
use Rattle.tsp_format.specs.declared.kinds.Kind.TheVariants as kinds
use Rattle.tsp_report.specs.declared.verdict.KnownBound.{KnownBound}
use Rattle.tsp_report.specs.declared.verdict.Verdict.TheVariants.{Tour, Routes, No}
use Rattle.tsp_verdict.specs.Certified.{is_bounded, AppliesToCertificate, IsCertifiedVerdict, AppliesToInstance, NoneAgainstInstance, IsBoundVerdict, NoneWithoutMemory}
use Rattle.tsp_verdict.specs.Strict.{strict_reason, strict_verdict, strict_bound, strict_known_bound}
use Rattle.tsp_verdict.specs.SolutionReasons.{IsFirstReason, IsRoutesVerdict, NoneOfRoutesBeforeRepeats, IsTourVerdict, NoneOfTourBeforeRepeats, total_of}

-- ---- without a certificate: a tour for TYPE TSP and ATSP, routes for TYPE CVRP

-- the verdict on a solution, for an instance of this TYPE
abbrev pub IsVerdictBy : Option Kind → Fields → Fields → Verdict → Type 0
IsVerdictBy (Some kinds.Tsp) instance solution verdict = IsTourVerdict instance solution verdict
IsVerdictBy (Some kinds.Atsp) instance solution verdict = IsTourVerdict instance solution verdict
IsVerdictBy (Some kinds.Cvrp) instance solution verdict = IsRoutesVerdict instance solution verdict
IsVerdictBy other instance solution verdict = ⊥

-- the verdict on a solution without a certificate
abbrev pub IsVerdictOn : Fields → Fields → Verdict → Type 0
IsVerdictOn instance solution verdict = IsVerdictBy instance.kind instance solution verdict

-- for an instance of this TYPE no reason applies that is judged before a node that comes twice: those are found without
-- memory
abbrev pub NoneBeforeRepeatsBy : Option Kind → Fields → Fields → Type 0
NoneBeforeRepeatsBy (Some kinds.Tsp) instance solution = NoneOfTourBeforeRepeats instance solution
NoneBeforeRepeatsBy (Some kinds.Atsp) instance solution = NoneOfTourBeforeRepeats instance solution
NoneBeforeRepeatsBy (Some kinds.Cvrp) instance solution = NoneOfRoutesBeforeRepeats instance solution
NoneBeforeRepeatsBy other instance solution = ⊥

-- the same by the instance
abbrev pub NoneBeforeRepeatsOn : Fields → Fields → Type 0
NoneBeforeRepeatsOn instance solution = NoneBeforeRepeatsBy instance.kind instance solution

-- ---- with a certificate or without

-- whether solutions of instances of this TYPE can be judged, with such a certificate or without one
abbrev pub is_judged : Option (CertificateKind × Fields) → Option Kind → Bool
is_judged None kind = is_instance kind
is_judged (Some given) kind = is_bounded given.0 kind

-- the verdict, with a certificate or without, if no length is claimed
abbrev pub IsUnclaimedVerdict : Option (CertificateKind × Fields) → Fields → Fields → Verdict → Type 0
IsUnclaimedVerdict None instance solution verdict = IsVerdictOn instance solution verdict
IsUnclaimedVerdict (Some given) instance solution verdict = IsCertifiedVerdict given.0 instance solution given.1 verdict

-- the first reason against the certificate, if there is one
abbrev pub IsFirstAgainstGiven : Option (CertificateKind × Fields) → Fields → Reason → Type 0
IsFirstAgainstGiven None instance reason = ⊥
IsFirstAgainstGiven (Some given) instance reason = IsFirstReason (AppliesToCertificate given.0 instance given.1) reason

-- ---- with a length that is claimed

-- no length is claimed, or this one
abbrev pub IsAsClaimed : Option ℤ → ℤ → Type 0
IsAsClaimed None length_is = Unit {0}
IsAsClaimed (Some claim) length_is = claim ≡ length_is

-- a length is claimed, and not this one
abbrev pub IsOtherClaimed : Option ℤ → ℤ → Type 0
IsOtherClaimed None length_is = ⊥
IsOtherClaimed (Some claim) length_is = claim ≢ length_is

-- the solution is accepted with this length
abbrev pub HasLength : Verdict → ℤ → Type 0
HasLength (Tour length_is bound) found = found ≡ length_is
HasLength (Routes length_is routes least bound) found = found ≡ length_is
HasLength (No reason) found = ⊥

-- the solution is rejected, so the verdict has no length
abbrev pub HasNoLength : Verdict → Type 0
HasNoLength (Tour length_is bound) = ⊥
HasNoLength (Routes length_is routes least bound) = ⊥
HasNoLength (No reason) = Unit {0}

-- without a certificate the solution is accepted, with this length
abbrev pub IsOfLength : Fields → Fields → ℤ → Type 0
IsOfLength instance solution found = (yes : Verdict) × IsVerdictOn instance solution yes × HasLength yes found

-- No, in this order: the first reason against the solution; or that it has another length than the claimed one; or the
-- first reason against the certificate. Tour and Routes: the solution is accepted without the claim too, and its length
-- is the claimed one.
abbrev pub IsClaimedVerdict : ℤ → Option (CertificateKind × Fields) → Fields → Fields → Verdict → Type 0
IsClaimedVerdict claim given instance solution (No reason) = IsVerdictOn instance solution (No reason)
    ⊎ ((found : ℤ) × IsOfLength instance solution found × (claim ≢ found) × (reason ≡ LengthClaimed found))
    ⊎ (IsOfLength instance solution claim × IsFirstAgainstGiven given instance reason)
IsClaimedVerdict claim given instance solution (Tour length_is bound) =
    IsUnclaimedVerdict given instance solution (Tour length_is bound) × (claim ≡ length_is)
IsClaimedVerdict claim given instance solution (Routes length_is routes least bound) =
    IsUnclaimedVerdict given instance solution (Routes length_is routes least bound) × (claim ≡ length_is)

-- the verdict on a solution, with a certificate or without, with a claimed length or without
abbrev pub IsVerdictWith : Option (CertificateKind × Fields) → Option ℤ → Fields → Fields → Verdict → Type 0
IsVerdictWith given None instance solution verdict = IsUnclaimedVerdict given instance solution verdict
IsVerdictWith given (Some claim) instance solution verdict = IsClaimedVerdict claim given instance solution verdict

-- ---- what is known about all solutions of an instance, before any is read

-- the least number of routes that carry all demands, for an instance of routes
abbrev pub IsLeastKnownBy : Option Kind → Fields → Option ℕ → Type 0
IsLeastKnownBy (Some kinds.Cvrp) instance None = ⊥
IsLeastKnownBy (Some kinds.Cvrp) instance (Some least) = IsLeastRoutes (total_of instance) (capacity_of instance) least
IsLeastKnownBy other instance least = least ≡ None

-- What is found. Without a certificate: the first reason against the instance, or nothing. With one: its bound, or that
-- there is no solution, or the first reason against the instance or the certificate.
abbrev pub IsFoundWith : Option (CertificateKind × Fields) → Fields → Option BoundVerdict → Type 0
IsFoundWith None instance None = NoneAgainstInstance instance
IsFoundWith None instance (Some (Ok bound)) = ⊥
IsFoundWith None instance (Some (Err reason)) = IsFirstReason (AppliesToInstance instance) reason
IsFoundWith (Some given) instance None = ⊥
IsFoundWith (Some given) instance (Some found) = IsBoundVerdict given.0 instance given.1 found

-- the known bound, with a certificate or without
abbrev pub IsKnownBoundWith : Option (CertificateKind × Fields) → Fields → KnownBound → Type 0
IsKnownBoundWith given instance known_bound = IsLeastKnownBy instance.kind instance known_bound.least
    × IsFoundWith given instance known_bound.found

-- the known bound of an instance whose TYPE the certificate, if there is one, can bound
abbrev pub IsKnownBound : Option (CertificateKind × Fields) → Fields → KnownBound → Type 0
IsKnownBound given instance known_bound = IsTrue (is_judged given instance.kind) × IsKnownBoundWith given instance known_bound

-- If memory runs out: no reason applies to the instance, and none that is found without memory applies to the
-- certificate. Without a certificate, no memory is taken.
abbrev pub NoneOfKnownBoundWithoutMemory : Option (CertificateKind × Fields) → Fields → Type 0
NoneOfKnownBoundWithoutMemory None instance = ⊥
NoneOfKnownBoundWithoutMemory (Some given) instance = NoneAgainstInstance instance × NoneWithoutMemory given.0 instance given.1

-- ---- a solution

-- an accepted solution has the bound that was found, and the least number of routes
abbrev pub IsAsFound : Verdict → Option ℕ → Option BoundVerdict → Type 0
IsAsFound (Tour length bound) least found = (least ≡ None) × (found ≡ option_map (λ b. Ok (Some b)) bound)
IsAsFound (Routes length routes own bound) least found = (least ≡ Some own) × (found ≡ option_map (λ b. Ok (Some b)) bound)
IsAsFound (No reason) least found = Unit {0}

-- it has those of the known bound
abbrev pub HasKnownBound : Verdict → KnownBound → Type 0
HasKnownBound verdict known_bound = IsAsFound verdict known_bound.least known_bound.found

-- the verdict on a solution by a known bound, with a claimed length or without: the same as with each certificate that
-- gives the instance this known bound
abbrev pub IsVerdictFrom : KnownBound → Option ℤ → Fields → Fields → Verdict → Type 0
IsVerdictFrom known_bound claimed instance solution verdict = HasKnownBound verdict known_bound
    × ((given : Option (CertificateKind × Fields)) → IsKnownBound given instance known_bound
    → IsVerdictWith given claimed instance solution verdict)

-- ---- with or without `--strict`

-- the verdict on a solution, with or without `--strict`
abbrev pub IsVerdictAsked : Bool → Option (CertificateKind × Fields) → Option ℤ → Fields → Fields → Verdict → Type 0
IsVerdictAsked strict given claimed instance solution verdict = (plain : Verdict)
    × IsVerdictWith given claimed instance solution plain × (verdict ≡ strict_verdict (strict_reason strict instance) plain)

-- the same for a bound without a solution
abbrev pub IsBoundAsked : Bool → CertificateKind → Fields → Fields → BoundVerdict → Type 0
IsBoundAsked strict by instance certificate found = (plain : BoundVerdict)
    × IsBoundVerdict by instance certificate plain × (found ≡ strict_bound (strict_reason strict instance) plain)

-- the same for a known bound
abbrev pub IsKnownBoundAsked : Bool → Option (CertificateKind × Fields) → Fields → KnownBound → Type 0
IsKnownBoundAsked strict given instance known_bound = (plain : KnownBound)
    × IsKnownBound given instance plain × (known_bound ≡ strict_known_bound (strict_reason strict instance) plain)

-- ---- that files have one verdict and one bound, for every TYPE and certificate

-- An instance and a solution, with a certificate or without, and with a claimed length or without, have one verdict.
abbrev pub FilesHaveOneVerdict : Type 0
FilesHaveOneVerdict = (given : Option (CertificateKind × Fields)) (claimed : Option ℤ) (instance solution : Fields)
    (one other : Verdict) → IsVerdictWith given claimed instance solution one
    → IsVerdictWith given claimed instance solution other → one ≡ other

-- An instance and a certificate have one bound, or no solution, or one first reason.
abbrev pub FilesHaveOneBound : Type 0
FilesHaveOneBound = (by : CertificateKind) (instance certificate : Fields) (one other : BoundVerdict)
    → IsBoundVerdict by instance certificate one → IsBoundVerdict by instance certificate other → one ≡ other

-- An instance has one known bound, with a certificate or without.
abbrev pub FilesHaveOneKnownBound : Type 0
FilesHaveOneKnownBound = (given : Option (CertificateKind × Fields)) (instance : Fields) (one other : KnownBound)
    → IsKnownBound given instance one → IsKnownBound given instance other → one ≡ other

-- So a solution of an instance whose known bound is known has one verdict: it has one line in a comparison.
abbrev pub SolutionsHaveOneVerdict : Type 0
SolutionsHaveOneVerdict = (given : Option (CertificateKind × Fields)) (known_bound : KnownBound) (claimed : Option ℤ)
    (instance solution : Fields) (one other : Verdict) → IsKnownBound given instance known_bound
    → IsVerdictFrom known_bound claimed instance solution one → IsVerdictFrom known_bound claimed instance solution other → one ≡ other
