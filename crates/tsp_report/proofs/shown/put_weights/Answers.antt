-- The goals of `put_weights` in src/shown.rt: what it ensures.
use Rattle.tsp_report.proofs.Prelude.{◌++◌, [], codes, way_of, carried_then}
use Rattle.std.specs.Option.{option_map_or}
use Rattle.tsp_format.specs.Words.{weight_kind_word}
use Rattle.tsp_report.specs.Show.{layout_part}
use Rattle.tsp_report.proofs.shown.put_weights.Goals as goal

-- plan: the weight type, and the layout of a matrix (`carried_then`)
pub returns : goal.returns
returns g c =
    let start = way_of g.W.Takes.contents c.args.out.now c.args.piece.now.items in
    let begun = way_of g.W.Takes.contents c.put.new.out c.put.new.piece.items in
    let after_word = way_of g.W.Takes.contents c.put_word.new.out c.put_word.new.piece.items in
    let after_layout = way_of g.W.Takes.contents c.put_layout.new.out c.put_layout.new.piece.items in
    let last = way_of g.W.Takes.contents c.put-2.new.out c.put-2.new.piece.items in
    let word = option_map_or weight_kind_word c.args.kind [] in
    let layout = layout_part c.args.kind c.args.format in
    carried_then start after_layout last (codes "weights " ++ word ++ layout) (codes "\n")
    (carried_then start after_word after_layout (codes "weights " ++ word) layout (carried_then start begun after_word (codes "weights ") word c.put.ensures c.put_word.ensures) c.put_layout.ensures)
    c.put-2.ensures
