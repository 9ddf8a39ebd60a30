-- The goals of `put_row_section` in src/writer.rt: what it ensures.
use Rattle.std.proofs.Common.{append_assoc}
use Rattle.tsp_file.proofs.writer.put_row_section.Goals as goal

-- plan: by whether the section is present: its word and its rows are added, or nothing
pub returns-in-Some : goal.returns-in-Some
returns-in-Some g c = λ start text h.
    let lines = rw c.deref.ensures.value at c.put_rows.ensures in
    let all = lines start _ (c.put_opening.ensures start text h) in
    rw c.in-Some.is (simp append_assoc at all)
