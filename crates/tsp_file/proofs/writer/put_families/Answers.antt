-- The goals of `put_families` in src/writer.rt: its loop and what it ensures.
use Rattle.tsp_file.proofs.Prelude.{map, arith, codes, flat_map, way_of, carried_then, carried_mapped, carried_none, carried_next}
use Rattle.tsp_file.specs.states.Drafts.{families_of}
use Rattle.tsp_file.specs.CanonicalText.{family_lines}
use Rattle.tsp_file.proofs.writer.put_families.Goals as goal

-- plan: one family more (`carried_next`), and the -1 at the end (`carried_then`)
pub families-init : goal.families-init
families-init g c = carried_none (way_of g.W.Takes.contents c.args.out.now c.args.piece.now.items)

pub families-preserved : goal.families-preserved
families-preserved g c =
    let start = way_of g.W.Takes.contents c.args.out.now c.args.piece.now.items in
    let before = way_of g.W.Takes.contents c.families.out c.families.piece.items in
    let after = way_of g.W.Takes.contents c.put_family.new.out c.put_family.new.piece.items in
    let text = rw c.deref.ensures.value at c.put_family.ensures in
    carried_next (λ family. family_lines (map (λ set. set.items) family.items)) c.args.families.now c.families.family-index c.family-item.result
    start before after c.families-test.true c.family-item.is c.families.invariant text

pub returns : goal.returns
returns g c =
    let start = way_of g.W.Takes.contents c.args.out.now c.args.piece.now.items in
    let after_families = way_of g.W.Takes.contents c.families.out c.families.piece.items in
    let last = way_of g.W.Takes.contents c.put.new.out c.put.new.piece.items in
    carried_then start after_families last (flat_map family_lines (families_of c.args.families.now)) (codes "-1\n")
    (carried_mapped family_lines (λ family. map (λ set. set.items) family.items) c.args.families.now c.families.family-index start after_families
    (omega arith) c.families.invariant) c.put.ensures
