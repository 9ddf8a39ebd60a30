-- The goals of `put_changes` in src/writer.rt, which adds the differences of a leaf: its loop and what it ensures.
use Rattle.tsp_file.proofs.Prelude.{ℕ, List, sym, subst, arith, rules, get_or, ℤ, pos, FitsSigned, flat_map, Carried, way_of, carried_all, carried_none, carried_next_or, w64, to_z-of_z}
use Rattle.tsp_file.specs.CanonicalText.{before_blank, change_words}
use Rattle.tsp_file.proofs.WrittenLines.{flat_of_flat}
use Rattle.tsp_file.proofs.writer.put_changes.Goals as goal

pub changes-init : goal.changes-init
changes-init g c = carried_none (way_of g.W.Takes.contents c.args.out.now c.args.piece.now.items)

-- plan: one index more is added with its difference, unless the writer has failed (`carried_next_or`)
pub changes-preserved : goal.changes-preserved
changes-preserved g c =
    let fits : FitsSigned w64 (get_or c.args.changes.now c.changes.index-index (0, pos 0)).1 = search rules in
    let words = simp to_z-of_z at c.put_change.ensures in
    let start = way_of g.W.Takes.contents c.args.out.now c.args.piece.now.items in
    let before = way_of g.W.Takes.contents c.changes.out c.changes.piece.items in
    let after = way_of g.W.Takes.contents c.put_change.new.out c.put_change.new.piece.items in
    carried_next_or (λ (change : ℕ × ℤ). flat_map before_blank (change_words change)) c.args.changes.now c.changes.index-index
    (0, pos 0)
    start before after c.changes-test.true c.changes.invariant words

pub returns : goal.returns
returns g c =
    let start = way_of g.W.Takes.contents c.args.out.now c.args.piece.now.items in
    let last = way_of g.W.Takes.contents c.changes.out c.changes.piece.items in
    let all = carried_all (λ (change : ℕ × ℤ). flat_map before_blank (change_words change)) c.args.changes.now
    c.changes.index-index start last (omega arith) c.changes.invariant in
    subst (λ (text : List ℕ). Carried start last text) (sym (flat_of_flat before_blank change_words c.args.changes.now)) all
