-- The goals of `are_others` in src/table.rt, which says whether lines of unknown keywords can be kept and are few
-- enough: what it ensures.
use Rattle.tsp_file.proofs.Prelude.{ℕ, ◌∙◌, most_others}
use Rattle.std.specs.Global.{Vec}
use Rattle.tsp_file.specs.Validity.{is_other}
use Rattle.tsp_file.proofs.ValidFields.{mapped_all}
use Rattle.tsp_file.proofs.table.are_others.Goals as goal

-- plan: a line of an unknown keyword fits if its bytes do. So the test of the lines is that of the list of their bytes
-- (`mapped_all`)
pub returns-then-len-le-MOST_OTHERS : goal.returns-then-len-le-MOST_OTHERS
returns-then-len-le-MOST_OTHERS c =
    let kept = rw c.deref.ensures.value at c.are_other_lines.ensures in
    mapped_all (λ (p : Vec ℕ × Vec ℕ). (p.0.items, p.1.items)) is_other c.args.others.now.items c.are_other_lines.result most_others c.len.result kept
    c.if-len-le-MOST_OTHERS.true (c.len.ensures ∙ c.args.others.now.ok.0)
