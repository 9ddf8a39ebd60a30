-- The goals of `put_triples` in src/writer/sections.rt: its loop and what it ensures.
use Rattle.tsp_file.proofs.Prelude.{ℕ, [], ◌∷◌, rules, get_or, ℤ, pos, codes, FitsSigned, flat_map, decimal, signed_decimal, way_of, carried_none, carried_then, carried_all, carried_next_or, w64, to_z-of_z}
use Rattle.tsp_file.specs.CanonicalText.{number_line}
use Rattle.tsp_file.proofs.writer.sections.put_triples.Goals as goal

-- plan: one triple's line more (`carried_next_or`), and the -1 at the end (`carried_then`)
pub triples-init : goal.triples-init
triples-init g c = carried_none (way_of g.W.Takes.contents c.args.out.now c.args.piece.now.items)

pub triples-preserved : goal.triples-preserved
triples-preserved g c =
    let fits : FitsSigned w64 (get_or c.args.triples.now c.triples.first-index (0, 0, pos 0)).2 = search rules in
    let line = simp to_z-of_z at c.put_triple_line.ensures in
    let start = way_of g.W.Takes.contents c.args.out.now c.args.piece.now.items in
    let before = way_of g.W.Takes.contents c.triples.out c.triples.piece.items in
    let after = way_of g.W.Takes.contents c.put_triple_line.new.out c.put_triple_line.new.piece.items in
    carried_next_or (λ (triple : ℕ × ℕ × ℤ). number_line (decimal triple.0) (decimal triple.1 ∷ signed_decimal triple.2 ∷ []))
    c.args.triples.now c.triples.first-index (0, 0, pos 0)
    start before after c.triples-test.true c.triples.invariant line

pub returns : goal.returns
returns g c =
    let start = way_of g.W.Takes.contents c.args.out.now c.args.piece.now.items in
    let after_lines = way_of g.W.Takes.contents c.triples.out c.triples.piece.items in
    let last = way_of g.W.Takes.contents c.put.new.out c.put.new.piece.items in
    let lines = λ (triple : ℕ × ℕ × ℤ). number_line (decimal triple.0) (decimal triple.1 ∷ signed_decimal triple.2 ∷ []) in
    carried_then start after_lines last (flat_map lines c.args.triples.now) (codes "-1\n")
    (carried_all lines c.args.triples.now c.triples.first-index start after_lines c.triples-test.false c.triples.invariant)
    c.put.ensures
