-- The goals of `put_leaf` in src/writer.rt: what it ensures.
use Rattle.tsp_file.proofs.Prelude.{◌++◌, codes, flat_map, way_of, carried_then}
use Rattle.tsp_file.specs.CanonicalText.{before_blank, change_words}
use Rattle.tsp_file.proofs.writer.put_leaf.Goals as goal

-- plan: the 0, the indices with their differences and the -1 are added one after the other (`carried_then`)
pub returns : goal.returns
returns g c =
    let start = way_of g.W.Takes.contents c.args.out.now c.args.piece.now.items in
    let begun = way_of g.W.Takes.contents c.put.new.out c.put.new.piece.items in
    let after_changes = way_of g.W.Takes.contents c.put_changes.new.out c.put_changes.new.piece.items in
    let last = way_of g.W.Takes.contents c.put-2.new.out c.put-2.new.piece.items in
    let changes = flat_map before_blank (flat_map change_words c.args.changes.now) in
    carried_then start after_changes last (codes "0 " ++ changes) (codes "-1\n")
    (carried_then start begun after_changes (codes "0 ") changes c.put.ensures c.put_changes.ensures)
    c.put-2.ensures
