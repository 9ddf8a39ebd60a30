-- The goals of `put_end` in src/compared.rt, which adds the name of a fault at the end of a file: what it ensures.
use Rattle.tsp_report.proofs.Prelude.{◌++◌, subst, codes, Carried, way_of, carried_then}
use Rattle.tsp_report.proofs.compared.put_end.Goals as goal

-- plan: the words of the fault, one after the other (`carried_then`)
pub returns : goal.returns
returns g c =
    let start = way_of g.W.Takes.contents c.args.out.now c.args.piece.now.items in
    let begun = way_of g.W.Takes.contents c.put.new.out c.put.new.piece.items in
    let after_name = way_of g.W.Takes.contents c.put-2.new.out c.put-2.new.piece.items in
    let last = way_of g.W.Takes.contents c.put-3.new.out c.put-3.new.piece.items in
    let words = c.end_words.result in
    let name = rw c.as_bytes.ensures.value at c.put-2.ensures in
    let rest = rw c.as_bytes-2.ensures.value at c.put-3.ensures in
    subst (λ text. Carried start last (codes "end: " ++ text)) c.end_words.ensures
    (carried_then start begun last (codes "end: ") (words.0.now ++ words.1.now) c.put.ensures (carried_then begun after_name last words.0.now words.1.now name rest))
