-- The goals of `put_change` in src/writer.rt, which adds the index and the difference of a number: what it
-- ensures.
use Rattle.tsp_file.proofs.Prelude.{[], ◌++◌, rules, decimal, signed_decimal, way_of, carried_none, carried_then, w64, to_z-of_z, FitsSigned}
use Rattle.tsp_file.specs.CanonicalText.{before_blank}
use Rattle.tsp_file.proofs.writer.put_change.Goals as goal

-- plan: the index and the difference, each before a blank (`carried_then`)
pub returns : goal.returns
returns g c =
    let fits : FitsSigned w64 c.args.difference = search rules in
    let second = simp to_z-of_z at c.put_before_blank-2.ensures in
    let start = way_of g.W.Takes.contents c.args.out.now c.args.piece.now.items in
    let after_index = way_of g.W.Takes.contents c.put_before_blank.new.out c.put_before_blank.new.piece.items in
    let last = way_of g.W.Takes.contents c.put_before_blank-2.new.out c.put_before_blank-2.new.piece.items in
    let index = before_blank (decimal c.args.index) in
    let difference = before_blank (signed_decimal c.args.difference) in
    carried_then start after_index last index (difference ++ []) c.put_before_blank.ensures
    (carried_then after_index last last difference [] second (carried_none last))
