-- The goals of `unread` in src/form_comparison.rt, which gives the text in place of a file that can't be read: what it
-- ensures.
use Rattle.std.proofs.Common.{◌≡◌, ◌∙◌, ap, sym, subst}
use Rattle.tsp_text.specs.declared.fault.ReadFault.TheVariants.{TooLong}
use Rattle.tsp_solution.specs.declared.fault.SolutionFault.TheVariants.{File}
use Rattle.tsp_tool.specs.FormComparison.{HoldsUnread}
use Rattle.tsp_tool.proofs.form_comparison.unread.Goals as goal

-- plan: the file is too long, and so are the blanks in its place
pub returns-in_ok-too_many_blanks-in-File-TooLong : goal.returns-in_ok-too_many_blanks-in-File-TooLong
returns-in_ok-too_many_blanks-in-File-TooLong c =
    let long : c.in-File-TooLong.field-0 ≡ TooLong = rw c.in-File-TooLong.is at c.in-File-TooLong.field-0-is in
    subst (λ fault. HoldsUnread fault c.of.result) (sym (c.in-File-TooLong.is ∙ ap File long))
    (c.of.ensures.rest ∙ c.in_ok-too_many_blanks-in-File-TooLong.ensures, c.of.ensures.sound)
