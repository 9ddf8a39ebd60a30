-- A certificate that a C call may name, whose reader delivers a text in memory: a statement on the text is one on its
-- reader (`named_text`). For src/picked_runs.rt.
use Rattle.tsp_c.proofs.Prelude.{◌≡◌, ℕ, List, [], Option, None, Some, refl, sym, ap, subst, false, ReadTrace, CertificateKind, Given}
use Rattle.std.specs.Prelude.{MatchOption}
use Rattle.tsp_io.specs.declared.watched.Watched.{Watched}
use Rattle.tsp_io.specs.states.Watched.{watched, read_trace_of}
use Rattle.tsp_judge.specs.CheckRun.{TakesNamed}

-- the certificate with the read trace of a reader, or none
abbrev pub given_by : Option CertificateKind → ReadTrace → Given
given_by None third = None
given_by (Some by) third = Some (by, third)

-- a statement on the certificate that is named, whose reader delivers a text, is one on a read trace of such a reader
pub named_text : {R : Type 0} (bytes : R → List ℕ) (by : Option CertificateKind) (text : List ℕ)
    (named left : Option (CertificateKind × Watched R)) (Q : Given → Type 0)
    → MatchOption named (by ≡ None) (λ it. (by ≡ Some it.0) × (bytes (watched it.1) ≡ text))
    → TakesNamed (λ r. Some (bytes r)) named left Q → (third : ReadTrace) × (third.known ≡ Some text) × Q (given_by by third)
named_text bytes by text None None Q is taken =
    let none : ReadTrace = record { known = Some text; left = None; given = []; had_failed = false; failed = false } in
    (none, refl, subst (λ (b : Option CertificateKind). Q (given_by b none)) (sym is) taken)
named_text bytes by text None (Some left) Q is taken = absurd taken
named_text bytes by text (Some named) None Q is taken = absurd taken
named_text bytes by text (Some named) (Some left) Q is taken =
    let third : ReadTrace = read_trace_of (λ r. Some (bytes r)) named.1 left.1 taken.0 in
    (third, ap Some is.1, subst (λ (b : Option CertificateKind). Q (given_by b third)) (sym is.0) taken.2)
