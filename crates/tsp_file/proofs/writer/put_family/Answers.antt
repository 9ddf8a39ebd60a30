-- The goals of `put_family` in src/writer.rt: its loop and what it ensures.
use Rattle.tsp_file.proofs.Prelude.{map, arith, codes, flat_map, way_of, carried_then, carried_mapped, carried_none, carried_next}
use Rattle.tsp_file.specs.CanonicalText.{set_line}
use Rattle.tsp_file.proofs.writer.put_family.Goals as goal

-- plan: one set more (`carried_next`), and the -1 at the end (`carried_then`)
pub sets-init : goal.sets-init
sets-init g c = carried_none (way_of g.W.Takes.contents c.args.out.now c.args.piece.now.items)

pub sets-preserved : goal.sets-preserved
sets-preserved g c =
    let start = way_of g.W.Takes.contents c.args.out.now c.args.piece.now.items in
    let before = way_of g.W.Takes.contents c.sets.out c.sets.piece.items in
    let after = way_of g.W.Takes.contents c.put_set.new.out c.put_set.new.piece.items in
    let text = rw c.deref.ensures.value at c.put_set.ensures in
    carried_next (λ set. set_line set.items) c.args.family.now c.sets.set-index c.set-item.result start before after
    c.sets-test.true c.set-item.is c.sets.invariant text

pub returns : goal.returns
returns g c =
    let start = way_of g.W.Takes.contents c.args.out.now c.args.piece.now.items in
    let after_sets = way_of g.W.Takes.contents c.sets.out c.sets.piece.items in
    let last = way_of g.W.Takes.contents c.put.new.out c.put.new.piece.items in
    carried_then start after_sets last (flat_map set_line (map (λ set. set.items) c.args.family.now)) (codes "-1\n")
    (carried_mapped set_line (λ set. set.items) c.args.family.now c.sets.set-index start after_sets (omega arith) c.sets.invariant)
    c.put.ensures
