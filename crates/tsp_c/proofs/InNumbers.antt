-- For src/picked_runs.rt: the numbers that C gets of a run on texts. Each fits, and they say the verdict or the fault
-- on these texts.
use Rattle.tsp_c.proofs.Prelude.{◌≡◌, ◌≢◌, ℕ, ◌≤◌, List, Bool, Result, Ok, Err, inl, inr, sym, subst, ◌∙◌, arith, Option, Some, None, ℤ, IfOk, ReadTrace, Sink, Fields, CertificateKind, Verdict, is_yes, RunFault, status_of_fault, Given, EndsWithout, IsRun, acceptance, EndsUnbounded, IsBoundRun, is_ok, BoundVerdict}
use Rattle.tsp_report.specs.Report.{IsSized}
use Rattle.tsp_report.specs.declared.verdict.Reason.{Reason}
use Rattle.tsp_verdict.specs.Certified.{IsBoundVerdict}
use Rattle.tsp_verdict.specs.SolutionVerdict.{IsVerdictWith}
use Rattle.tsp_verdict.specs.Strict.{strict_bound, strict_reason, strict_verdict}
use Rattle.tsp_judge.proofs.Yeses.{few}
use Rattle.tsp_judge.specs.declared.bound_run.Bounded.{Bounded}
use Rattle.tsp_judge.specs.declared.check_run.Judged.{Judged}
use Rattle.tsp_c.specs.declared.call_result.CallResult.{CallResult}
use Rattle.tsp_c.specs.NumberCalls.{without_devices, bound_answer, EndsOnTexts}
use Rattle.tsp_c.specs.Texts.{with_certificate}
use Rattle.tsp_c.specs.CallResult.{IsSizedBound, blank_result, result_of_run, result_of_bound_run, TellsTexts, TellsBound}
use Rattle.tsp_c.proofs.NamedTexts.{given_by}
use Rattle.tsp_c.proofs.PickedRuns.{fault_status, Reads2, Reads3, are_spelled, unchecked, no_relayout, unbounded, not_relaid, spelled}
use Rattle.tsp_c.proofs.HandleCalls.{not_two}
use Rattle.tsp_report.specs.declared.verdict.Verdict.TheVariants as verdicts

-- ---- bounds that fit

pub sized_bound : (by : CertificateKind) (instance certificate : Fields) (found : BoundVerdict) → IsBoundVerdict by instance certificate found
    → IsSizedBound found
sized_bound by instance certificate (Ok (Some bound)) is = few bound is.1.2
sized_bound by instance certificate (Ok None) is = tt
sized_bound by instance certificate (Err reason) is = tt

sized_bound_kept : (strict : Option Reason) (plain : BoundVerdict) → IsSizedBound plain → IsSizedBound (strict_bound strict plain)
sized_bound_kept None plain is = is
sized_bound_kept (Some reason) (Ok bound) is = tt
sized_bound_kept (Some reason) (Err other) is = tt

pub sized_bound_run : (by : CertificateKind) (strict : Bool) (first second : ReadTrace) (sink : Sink) (ended : Result Bounded RunFault)
    → IsBoundRun by strict first second sink ended → IfOk ended (λ bounded. IsSizedBound bounded.found)
sized_bound_run by strict first second sink (Ok bounded) run =
    let asked = run.2.1 in
    subst IsSizedBound (sym asked.2)
    (sized_bound_kept (strict_reason strict bounded.instance) asked.0 (sized_bound by bounded.instance bounded.certificate asked.0 asked.1))
sized_bound_run by strict first second sink (Err fault) run = tt

-- each verdict has a length and a bound that fit
abbrev AreSized : Type 0
AreSized = (given : Option (CertificateKind × Fields)) (claimed : Option ℤ) (instance solution : Fields) (verdict : Verdict)
    → IsVerdictWith given claimed instance solution verdict → IsSized verdict

-- a reason has no bound
sized_kept : (strict : Option Reason) (plain : Verdict) → IsSized plain → IsSized (strict_verdict strict plain)
sized_kept None plain is = is
sized_kept (Some reason) (verdicts.Tour length_is bound) is = tt
sized_kept (Some reason) (verdicts.Routes length_is routes least bound) is = tt
sized_kept (Some reason) (verdicts.No other) is = tt

pub sized_run : (given : Given) (claimed : Option ℤ) (strict : Bool) (first second : ReadTrace) (sink : Sink) (ended : Result Judged RunFault)
    → AreSized → IsRun given claimed strict first second sink ended → IfOk ended (λ judged. IsSized judged.verdict)
sized_run given claimed strict first second sink (Ok judged) sized run =
    let asked = run.1.1 in
    subst IsSized (sym asked.2)
    (sized_kept (strict_reason strict judged.instance) asked.0 (sized judged.certificate claimed judged.instance judged.solution asked.0 asked.1))
sized_run given claimed strict first second sink (Err fault) sized run = tt

-- ---- a fault

-- a fault whose status is 0 or 1 is that of a refused layout
low_status : (fault : RunFault) (written : List ℕ) (status : ℕ) (text : List ℕ) → EndsOnTexts (Err fault) written status text
    → status ≤ 1 → status_of_fault (without_devices fault) ≡ 1
low_status fault written status text (inl e) low =
    let says = fault_status fault in
    let some : 1 ≤ status_of_fault (without_devices fault) = says.some in
    let is : status ≡ status_of_fault (without_devices fault) = e.0 in
    omega (arith, some, is, low)
low_status fault written status text (inr e) low = let three : status ≡ 3 = e.0 in absurd (omega (arith, three, low))

fault_is : (fault : RunFault) (written : List ℕ) (status : ℕ) (text : List ℕ) → EndsOnTexts (Err fault) written status text
    → status ≡ 2 → status_of_fault (without_devices fault) ≡ 2
fault_is fault written status text (inl e) two = sym e.0 ∙ two
fault_is fault written status text (inr e) two = let three : status ≡ 3 = e.0 in absurd (omega (arith, three, two))

-- ---- the runs

-- plan: by the end of the run: a verdict, over the files of the texts (`are_spelled`); or a fault, by its status
-- (`unchecked`)
pub tells_texts : (by : Option CertificateKind) (claimed : Option ℤ) (strict : Bool) (first second third : ReadTrace) (sink : Sink) (ended : Result Judged RunFault)
    (one two three written : List ℕ) (status : ℕ) (text : List ℕ) (made numbers : CallResult) → Reads3 first second third one two three
    → IsRun (given_by by third) claimed strict first second sink ended → made ≡ result_of_run ended
    → (status ≢ 3 → numbers ≡ made) → (status ≡ 3 → numbers ≡ blank_result) → EndsOnTexts (acceptance ended) written status text → TellsTexts (with_certificate by three) claimed strict one two status numbers
tells_texts by claimed strict first second third sink (Ok judged) one two three written status text made numbers reads run is kept none e = record {
  judged = λ low. record {
    instance = judged.instance;
    solution = judged.solution;
    certificate = judged.certificate;
    verdict = judged.verdict;
    spelled = are_spelled by first second third one two three judged.instance judged.solution judged.certificate reads run.0;
    of_type = run.1.0;
    judged = run.1.1;
    numbers = kept (λ three. absurd (omega (arith, three, low))) ∙ is;
    status_is = e.0;
  };
  faulty = λ two_is. absurd (not_two (is_yes judged.verdict) status e.0 two_is);
  refused = none;
}
tells_texts by claimed strict first second third sink (Err fault) one two three written status text made numbers reads run is kept none e = record {
  judged = λ low.
      let refused = (fault_status fault).relayout (low_status fault written status text e low) in
      absurd (no_relayout by claimed strict first second third sink fault refused.0 refused.1 run);
  faulty = λ two_is.
      (fault, unchecked by claimed strict first second third sink one two three fault reads run (fault_is fault written status text e two_is), kept (λ three. absurd (omega (arith, three, two_is))) ∙ is);
  refused = none;
}

-- plan: by the end of the run: a bound, over the files of the texts (`spelled`); or a fault, by its status
-- (`unbounded`)
pub tells_bound : (by : CertificateKind) (strict : Bool) (first second : ReadTrace) (sink : Sink) (ended : Result Bounded RunFault)
    (one two written : List ℕ) (status : ℕ) (text : List ℕ) (made numbers : CallResult) → Reads2 first second one two
    → IsBoundRun by strict first second sink ended → made ≡ result_of_bound_run ended
    → (status ≢ 3 → numbers ≡ made) → (status ≡ 3 → numbers ≡ blank_result) → EndsOnTexts (bound_answer ended) written status text → TellsBound by strict one two status numbers
tells_bound by strict first second sink (Ok bounded) one two written status text made numbers reads run is kept none e = record {
  bounded = λ low. record {
    instance = bounded.instance;
    certificate = bounded.certificate;
    found = bounded.found;
    first_file = spelled first one bounded.instance reads.first_is run.0;
    second_file = spelled second two bounded.certificate reads.second_is run.1;
    of_type = run.2.0;
    judged = run.2.1;
    numbers = kept (λ three. absurd (omega (arith, three, low))) ∙ is;
    status_is = e.0;
  };
  faulty = λ two_is. absurd (not_two (is_ok bounded.found) status e.0 two_is);
  refused = none;
}
tells_bound by strict first second sink (Err fault) one two written status text made numbers reads run is kept none e = record {
  bounded = λ low.
      let refused = (fault_status fault).relayout (low_status fault written status text e low) in
      absurd (not_relaid by strict first second sink fault refused.0 refused.1 run);
  faulty = λ two_is.
      (fault, unbounded by strict first second sink one two fault reads run (fault_is fault written status text e two_is), kept (λ three. absurd (omega (arith, three, two_is))) ∙ is);
  refused = none;
}
