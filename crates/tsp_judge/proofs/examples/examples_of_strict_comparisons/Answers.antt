-- The goals of `examples_of_strict_comparisons` in src/examples.rt: what it ensures.
use Rattle.tsp_judge.proofs.Prelude.{◌≡◌, List, [], ◌∷◌, ◌++◌, ℕ, None, Some, Ok, Err, Bool, true, false, refl, sym, ap, subst, ◌∙◌, codes, Result, HasWritten, Fields, StopsAt, ReadFault, head_of, is_clear, strict_reason, strict_known_bound}
use Rattle.std.specs.Prelude.{IfSome}
use Rattle.tsp_format.specs.declared.kinds.Kind.TheVariants as kinds
use Rattle.tsp_read.specs.declared.ReadFault.TheVariants as read_faults
use Rattle.tsp_report.specs.declared.verdict.KnownBound.{KnownBound}
use Rattle.tsp_report.specs.declared.verdict.Reason.TheVariants as reasons
use Rattle.tsp_report.specs.declared.verdict.Verdict.{Verdict}
use Rattle.tsp_verdict.specs.Examples.{with_unknown}
use Rattle.tsp_judge.proofs.Comparing.{all_judged}
use Rattle.tsp_judge.proofs.examples.examples_of_strict_comparisons.Goals as goal
use Rattle.tsp_judge.specs.CompareRun.{ComparesBy, all_solution_lines}

-- plan: `not_judged` by the law that all is judged (`all_judged`); the others are put together, and their texts computed
unknown : (lines : List (List ℕ × List ℕ)) (line : List ℕ × List ℕ) (rest : List (List ℕ × List ℕ)) → lines ≡ line ∷ rest → lines ≡ [] → ⊥
unknown lines line rest some none = cc

pub returns-clause-not_judged : goal.returns-clause-not_judged
returns-clause-not_judged c = λ common sink status instance_is bound_is compared.
    unknown common.instance.others (codes "VEHICLES", codes "5") [] (ap (λ f. f.others) instance_is)
    (all_judged common.certificate common.instance common.known_bound compared.0 (ap is_clear bound_is)).0

abbrev unknown_yet : KnownBound
unknown_yet = record { least = None; found = None }

head : (instance other : Fields) (known_bound same : KnownBound) → instance ≡ other → known_bound ≡ same → head_of instance known_bound ≡ head_of other same
head instance other known_bound same e f = ap (λ i. head_of i known_bound) e ∙ ap (λ k. head_of other k) f

pub returns-clause-reason : goal.returns-clause-reason
returns-clause-reason c = λ common sink instance_is bound_is known written.
    let refused = ap (λ f. strict_reason true f) instance_is in
    let same = ap (λ b. strict_known_bound b unknown_yet) refused in
    let text = head common.instance (with_unknown kinds.Atsp 4) common.known_bound (record { least = None; found = Some (Err reasons.NotJudged) }) instance_is bound_is in (
      (unknown_yet, known, bound_is ∙ sym same),
      subst (λ b. ComparesBy b (λ place read_trace. IfSome read_trace (StopsAt read_faults.TooLong)) (codes "a.tour" ∷ []) common sink (Ok 1)) (sym (ap is_clear bound_is))
          (subst (HasWritten sink) (sym text) written, refl),
    )

not_memory : read_faults.TooLong ≡ read_faults.OutOfMemory → ⊥
not_memory e = cc

pub returns-clause-judged : goal.returns-clause-judged
returns-clause-judged c = λ common sink read_trace instance_is bound_is known stops written.
    let found : List (Result Verdict ReadFault) = Err read_faults.TooLong ∷ [] in
    let text = head common.instance (with_unknown kinds.Atsp 4) common.known_bound unknown_yet instance_is bound_is in (
      (unknown_yet, known, bound_is),
      subst (λ b. ComparesBy b (λ place read_trace. IfSome read_trace (StopsAt read_faults.TooLong)) (codes "a.tour" ∷ []) common sink (Ok 2)) (sym (ap is_clear bound_is)) (
        found,
        ((read_trace, stops, (stops, not_memory)), tt),
        refl,
        subst (λ head. HasWritten sink (head ++ all_solution_lines found (codes "a.tour" ∷ []))) (sym text) written,
        refl,
      ),
    )
