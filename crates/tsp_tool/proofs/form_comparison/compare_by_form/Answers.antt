-- The goals of `compare_by_form` in src/form_comparison.rt, which compares solutions in some form: what it ensures.
use Rattle.std.proofs.Common.{Some, ap}
use Rattle.tsp_io.specs.Streams.{ReadTrace}
use Rattle.tsp_io.specs.states.Watched.{read_trace_of}
use Rattle.tsp_tool.proofs.form_comparison.compare_by_form.Goals as goal

-- plan: the reader of the instance has its text, and each solution is opened by what is known about all
pub returns-clause-text : goal.returns-clause-text
returns-clause-text g c =
    let run = c.run_compare.ensures.text in
    let first : ReadTrace = read_trace_of (λ s. Some s.now) c.new-first.result c.run_compare.new.inst run.0 in (
      c.known_by.result,
      c.known_by.ensures,
      (
        c.opened_certificate-certificate.result,
        c.run_compare.new.certificate,
        c.opened_certificate-certificate.ensures,
        (first, (ap (λ s. Some s.now) c.new-first.ensures.inner, c.new-first.ensures.sound), run.2),
        c.run_compare.ensures.asked.1,
      ),
    )
