-- The goals of `put_pairs` in src/writer/sections.rt: its loop and what it ensures.
use Rattle.tsp_file.proofs.Prelude.{ℕ, [], ◌∷◌, codes, flat_map, decimal, way_of, carried_none, carried_then, carried_all, carried_next_or}
use Rattle.tsp_file.specs.CanonicalText.{number_line}
use Rattle.tsp_file.proofs.writer.sections.put_pairs.Goals as goal

-- plan: one pair's line more (`carried_next_or`), and the -1 at the end (`carried_then`)
pub pairs-init : goal.pairs-init
pairs-init g c = carried_none (way_of g.W.Takes.contents c.args.out.now c.args.piece.now.items)

pub pairs-preserved : goal.pairs-preserved
pairs-preserved g c =
    let start = way_of g.W.Takes.contents c.args.out.now c.args.piece.now.items in
    let before = way_of g.W.Takes.contents c.pairs.out c.pairs.piece.items in
    let after = way_of g.W.Takes.contents c.put_pair_line.new.out c.put_pair_line.new.piece.items in
    carried_next_or (λ (pair : ℕ × ℕ). number_line (decimal pair.0) (decimal pair.1 ∷ [])) c.args.pairs.now c.pairs.first-index
    (0, 0)
    start before after c.pairs-test.true c.pairs.invariant c.put_pair_line.ensures

pub returns : goal.returns
returns g c =
    let start = way_of g.W.Takes.contents c.args.out.now c.args.piece.now.items in
    let after_lines = way_of g.W.Takes.contents c.pairs.out c.pairs.piece.items in
    let last = way_of g.W.Takes.contents c.put.new.out c.put.new.piece.items in
    let lines = λ (pair : ℕ × ℕ). number_line (decimal pair.0) (decimal pair.1 ∷ []) in
    carried_then start after_lines last (flat_map lines c.args.pairs.now) (codes "-1\n")
    (carried_all lines c.args.pairs.now c.pairs.first-index start after_lines c.pairs-test.false c.pairs.invariant) c.put.ensures
