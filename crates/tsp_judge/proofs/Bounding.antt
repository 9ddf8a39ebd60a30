-- For src/bound_run.rt, src/convert_run.rt and src/opened.rt: runs of `tsp bound`, `show` and `convert`, and instances
-- that are open. tsp_c imports it, too.
use Rattle.tsp_judge.proofs.Prelude.{◌≡◌, ◌∙◌, length, Some, sym, Bool, true, false, Result, Ok, Err, refl, subst, inl, inr, Option, None, ℕ, List, IsTrue, ℤ, ReadTrace, IsUnread, Sink, IsUnwritten, Writes, Fields, IsFile, IsProblem, problem_of, routing_of, depots_of, bound_report_of, CertificateKind, AppliesToInstanceBy, AppliesToBounded, IsBoundVerdict, is_bounded, BoundsSolutionsBy, BoundsSolutions, HasNoSolutionBy, HasNoSolution, strict_reason, is_ok, BoundVerdict}
use Rattle.std.proofs.lemmas.Bool.{false≢true}
use Rattle.tsp_io.specs.declared.piece.WriteFault.{WriteFault}
use Rattle.tsp_io.specs.declared.piece.WriteFault.TheVariants as faults
use Rattle.tsp_format.specs.declared.kinds.Kind.TheVariants as kinds
use Rattle.tsp_format.specs.declared.layout.Layout.{Layout}
use Rattle.tsp_file.specs.CanonicalText.{text_of}
use Rattle.tsp_file.specs.Rules.{fault_of}
use Rattle.tsp_report.specs.Show.{shown}
use Rattle.tsp_report.specs.declared.verdict.Reason.{Reason}
use Rattle.tsp_report.specs.declared.verdict.Reason.TheVariants.{DepotCount}
use Rattle.tsp_judge.proofs.Yeses.{one_value, IsBoundedType, of_type, types_bounded, one_depot}
use Rattle.tsp_verdict.proofs.Unjudged.{bounded_before, judged_whole}
use Rattle.tsp_judge.specs.Accepted.{BoundsAll, HasNone, IsAcceptedAlone}
use Rattle.tsp_judge.specs.BoundRun.{BoundsFiles, EndsUnbounded, IsBoundRun, SaysBound, IsBoundRunOf}
use Rattle.tsp_judge.specs.CheckRun.{ReadsFile}
use Rattle.tsp_judge.specs.ConvertRun.{Becomes, IsConverted, IsConvertRun, IsShowRun}
use Rattle.tsp_judge.specs.Open.{Open, ReadsText, IsUnopened, IsUnbound, IsNotJudged}
use Rattle.tsp_judge.specs.declared.bound_run.Bounded.{Bounded}
use Rattle.tsp_judge.specs.declared.run_status.RunFault.{RunFault}
use Rattle.tsp_judge.specs.declared.run_status.RunFault.TheVariants.{File, WrongKind, Write, OutOfMemory, Relayout}

pub bound_first_stops : (strict : Bool) (by : CertificateKind) (first second : ReadTrace) (sink : Sink) (fault : RunFault) → ReadsFile 1 first (Err fault) → IsUnread second → IsUnwritten sink
    → EndsUnbounded by strict first second sink fault
bound_first_stops strict by first second sink (File place fault) stops two unwritten = (unwritten, inl (stops.0, stops.1, two))
bound_first_stops strict by first second sink WrongKind stops two unwritten = absurd stops
bound_first_stops strict by first second sink (Write fault) stops two unwritten = absurd stops
bound_first_stops strict by first second sink OutOfMemory stops two unwritten = absurd stops
bound_first_stops strict by first second sink (Relayout fault) stops two unwritten = absurd stops

pub bound_second_stops : (strict : Bool) (by : CertificateKind) (first second : ReadTrace) (instance : Fields) (sink : Sink) (fault : RunFault) → IsFile first instance → ReadsFile 2 second (Err fault)
    → IsUnwritten sink → EndsUnbounded by strict first second sink fault
bound_second_stops strict by first second instance sink (File place fault) one stops unwritten = (unwritten, inr (stops.0, (instance, one), stops.1))
bound_second_stops strict by first second instance sink WrongKind one stops unwritten = absurd stops
bound_second_stops strict by first second instance sink (Write fault) one stops unwritten = absurd stops
bound_second_stops strict by first second instance sink OutOfMemory one stops unwritten = absurd stops
bound_second_stops strict by first second instance sink (Relayout fault) one stops unwritten = absurd stops

-- a run of which no bound comes
pub ends_unbounded : (strict : Bool) (by : CertificateKind) (first second : ReadTrace) (instance certificate : Fields) (sink : Sink) (fault : RunFault) → IsFile first instance → IsFile second certificate
    → BoundsFiles by strict instance certificate sink (Err fault) → EndsUnbounded by strict first second sink fault
ends_unbounded strict by first second instance certificate sink (File place fault) one two bounds = absurd bounds
ends_unbounded strict by first second instance certificate sink WrongKind one two bounds = (instance, certificate, one, two, bounds)
ends_unbounded strict by first second instance certificate sink (Write fault) one two bounds = (instance, certificate, one, two, bounds)
ends_unbounded strict by first second instance certificate sink OutOfMemory one two bounds = (instance, certificate, one, two, bounds)
ends_unbounded strict by first second instance certificate sink (Relayout fault) one two bounds = (instance, certificate, one, two, bounds)

-- ---- what an accepted bound says

-- there is one depot, if no reason applies
depot_known : (by : CertificateKind) (instance certificate : Fields) → instance.kind ≡ Some kinds.Cvrp
    → ((reason : Reason) → AppliesToBounded by instance certificate reason → ⊥) → length (depots_of instance) ≡ 1
depot_known by instance certificate cvrp none =
    one_depot (length (depots_of instance)) (λ other. none DepotCount (inl (subst (λ k. AppliesToInstanceBy k instance DepotCount) (sym cvrp) other)))

below_all : (by : CertificateKind) (instance certificate : Fields) (bound : ℤ) → IsProblem instance → IsBoundedType instance.kind
    → ((reason : Reason) → AppliesToBounded by instance certificate reason → ⊥) → BoundsSolutions instance bound → BoundsAll instance bound
below_all by instance certificate bound problem (inl (inl tsp)) none below =
    inl (problem_of instance, problem.of_tours (inl tsp), subst (λ k. BoundsSolutionsBy k instance bound) tsp below)
below_all by instance certificate bound problem (inl (inr atsp)) none below =
    inl (problem_of instance, problem.of_tours (inr atsp), subst (λ k. BoundsSolutionsBy k instance bound) atsp below)
below_all by instance certificate bound problem (inr cvrp) none below =
    inr (routing_of instance, problem.of_routes cvrp (depot_known by instance certificate cvrp none), subst (λ k. BoundsSolutionsBy k instance bound) cvrp below)

none_at_all : (by : CertificateKind) (instance certificate : Fields) → IsProblem instance → IsBoundedType instance.kind
    → ((reason : Reason) → AppliesToBounded by instance certificate reason → ⊥) → HasNoSolution instance → HasNone instance
none_at_all by instance certificate problem (inl (inl tsp)) none without =
    inl (problem_of instance, problem.of_tours (inl tsp), subst (λ k. HasNoSolutionBy k instance) tsp without)
none_at_all by instance certificate problem (inl (inr atsp)) none without =
    inl (problem_of instance, problem.of_tours (inr atsp), subst (λ k. HasNoSolutionBy k instance) atsp without)
none_at_all by instance certificate problem (inr cvrp) none without =
    inr (routing_of instance, problem.of_routes cvrp (depot_known by instance certificate cvrp none), subst (λ k. HasNoSolutionBy k instance) cvrp without)

bound_accepted : (by : CertificateKind) (instance certificate : Fields) (found : BoundVerdict) → IsProblem instance → IsTrue (is_bounded by instance.kind)
    → IsBoundVerdict by instance certificate found → is_ok found ≡ true → IsAcceptedAlone by instance certificate found (bound_report_of instance found)
bound_accepted by instance certificate (Ok (Some bound)) problem type v is = record {
  certificate_type = of_type by instance certificate (λ reason applies. v.0 reason (inr applies));
  of_certificate = v.1.0;
  printed = refl;
  below = below_all by instance certificate bound problem (types_bounded by instance.kind type) v.0 v.1.1;
}
bound_accepted by instance certificate (Ok None) problem type v is = record {
  certificate_type = of_type by instance certificate (λ reason applies. v.0 reason (inr applies));
  printed = refl;
  none = none_at_all by instance certificate problem (types_bounded by instance.kind type) v.0 v.2;
}
bound_accepted by instance certificate (Err reason) problem type v is = absurd (false≢true is)

says_bound : (by : CertificateKind) (strict : Bool) (first second : ReadTrace) (sink : Sink) (bounded : Bounded) → IsProblem bounded.instance
    → IsBoundRun by strict first second sink (Ok bounded) → is_ok bounded.found ≡ true → SaysBound by strict first second sink bounded.found
says_bound by strict first second sink bounded problem run is =
    let b = run.2 in
    let asked = b.1 in
    let same = bounded_before (strict_reason strict bounded.instance) asked.0 (subst (λ v. is_ok v ≡ true) asked.2 is) in
    record {
      instance = bounded.instance;
      certificate = bounded.certificate;
      report = bound_report_of bounded.instance bounded.found;
      first_file = run.0;
      second_file = run.1;
      written = b.2;
      meaning = bound_accepted by bounded.instance bounded.certificate bounded.found problem b.0
          (subst (IsBoundVerdict by bounded.instance bounded.certificate) (sym (asked.2 ∙ same.0)) asked.1) is;
      all_judged = judged_whole strict bounded.instance same.1;
    }

-- the whole contract of a run with a bound, or a reason, and of one without either
pub bound_run_of : (strict : Bool) (by : CertificateKind) (first second : ReadTrace) (sink : Sink) (bounded : Bounded) → IsProblem bounded.instance
    → IsBoundRun by strict first second sink (Ok bounded) → IsBoundRunOf by strict first second sink (Ok bounded)
bound_run_of strict by first second sink bounded problem run = (
  run,
  λ other ended is.
      let same : bounded ≡ other = one_value {T = Bounded} {E = RunFault} (Ok bounded) bounded other refl ended in
      subst (λ (b : Bounded). is_ok b.found ≡ true → SaysBound by strict first second sink b.found) same (says_bound by strict first second sink bounded problem run) is,
)

pub bound_fault_of : (strict : Bool) (by : CertificateKind) (first second : ReadTrace) (sink : Sink) (fault : RunFault) → EndsUnbounded by strict first second sink fault
    → IsBoundRunOf by strict first second sink (Err fault)
bound_fault_of strict by first second sink fault ends = (ends, λ other ended is. absurd cc)

-- ---- how a run that converts a file ends

pub converted : (to : Option Layout) (read_trace : ReadTrace) (old new : Fields) → IsFile read_trace old → Becomes to old (Ok new) → fault_of new ≡ None → IsConverted to read_trace new
converted to read_trace old new whole becomes valid = record { old = old; whole = whole; becomes = becomes; valid = valid }

pub convert_stopped : (to : Option Layout) (read_trace : ReadTrace) (sink : Sink) (new : Fields) (fault : WriteFault) → IsConverted to read_trace new → Writes sink (text_of new) (Err fault)
    → IsConvertRun to read_trace sink (Err (Write fault))
convert_stopped to read_trace sink new faults.Device done w = (new, done, w)
convert_stopped to read_trace sink new faults.OutOfMemory done w = absurd w

-- a run that stops at its file
pub convert_stops : (to : Option Layout) (read_trace : ReadTrace) (sink : Sink) (fault : RunFault) → ReadsFile 1 read_trace (Err fault) → IsUnwritten sink
    → IsConvertRun to read_trace sink (Err fault)
convert_stops to read_trace sink (File place fault) stops unwritten = (stops.0, stops.1, unwritten)
convert_stops to read_trace sink WrongKind stops unwritten = absurd stops
convert_stops to read_trace sink (Write fault) stops unwritten = absurd stops
convert_stops to read_trace sink OutOfMemory stops unwritten = absurd stops
convert_stops to read_trace sink (Relayout fault) stops unwritten = absurd stops

-- ---- how a run that shows a file ends

pub show_stopped : (read_trace : ReadTrace) (sink : Sink) (file : Fields) (fault : WriteFault) → IsFile read_trace file → Writes sink (shown file) (Err fault)
    → IsShowRun read_trace sink (Err (Write fault))
show_stopped read_trace sink file faults.Device whole w = (file, whole, w)
show_stopped read_trace sink file faults.OutOfMemory whole w = absurd w

-- a run that stops at its file
pub show_stops : (read_trace : ReadTrace) (sink : Sink) (fault : RunFault) → ReadsFile 1 read_trace (Err fault) → IsUnwritten sink → IsShowRun read_trace sink (Err fault)
show_stops read_trace sink (File place fault) stops unwritten = (stops.0, stops.1, unwritten)
show_stops read_trace sink WrongKind stops unwritten = absurd stops
show_stops read_trace sink (Write fault) stops unwritten = absurd stops
show_stops read_trace sink OutOfMemory stops unwritten = absurd stops
show_stops read_trace sink (Relayout fault) stops unwritten = absurd stops

-- ---- the fault of a text that a call on an open instance reads

pub unopened : (text : List ℕ) (fault : RunFault) → ReadsText 1 text (Err fault) → IsUnopened text fault
unopened text (File file fault) stops = stops
unopened text WrongKind stops = absurd stops
unopened text (Write fault) stops = absurd stops
unopened text OutOfMemory stops = absurd stops
unopened text (Relayout fault) stops = absurd stops

pub unbound : (by : CertificateKind) (text : List ℕ) (opened : Open) (fault : RunFault) → ReadsText 2 text (Err fault) → IsUnbound by text opened fault
unbound by text opened (File file fault) stops = stops
unbound by text opened WrongKind stops = absurd stops
unbound by text opened (Write fault) stops = absurd stops
unbound by text opened OutOfMemory stops = absurd stops
unbound by text opened (Relayout fault) stops = absurd stops

pub not_judged : (text : List ℕ) (opened : Open) (fault : RunFault) → ReadsText 2 text (Err fault) → IsNotJudged text opened fault
not_judged text opened (File file fault) stops = stops
not_judged text opened WrongKind stops = absurd stops
not_judged text opened (Write fault) stops = absurd stops
not_judged text opened OutOfMemory stops = absurd stops
not_judged text opened (Relayout fault) stops = absurd stops
