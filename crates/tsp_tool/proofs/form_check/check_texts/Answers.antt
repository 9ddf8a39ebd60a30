-- The goals of `check_texts` in src/form_check.rt, which checks the texts of an instance and its solution: what it
-- ensures.
use Rattle.std.proofs.Common.{◌∙◌, ap, Some}
use Rattle.tsp_io.specs.Streams.{ReadTrace}
use Rattle.tsp_io.specs.states.Watched.{read_trace_of}
use Rattle.tsp_tool.proofs.form_check.check_texts.Goals as goal

-- plan: the readers of the check have these texts
pub returns : goal.returns
returns g c =
    let run = c.check_solution.ensures.answer in
    let first : ReadTrace = read_trace_of (λ s. Some s.now) c.new-first.result c.check_solution.new.inst run.0 in
    let second : ReadTrace = read_trace_of (λ s. Some s.now) c.new-second.result c.check_solution.new.sol run.2.0 in (
      c.opened_certificate-certificate.result,
      c.check_solution.new.certificate,
      c.opened_certificate-certificate.ensures,
      (
        first,
        second,
        (ap (λ s. Some s.now) c.new-first.ensures.inner, c.new-first.ensures.sound),
        (ap (λ s. Some s.now) c.new-second.ensures.inner, c.new-second.ensures.sound),
        run.2.2,
      ),
      c.check_solution.ensures.asked.2,
    )
