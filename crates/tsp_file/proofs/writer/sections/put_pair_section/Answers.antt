-- The goals of `put_pair_section` in src/writer/sections.rt: what it ensures.
use Rattle.tsp_file.proofs.Prelude.{way_of, carried_none}
use Rattle.tsp_file.specs.CanonicalText.{pair_list}
use Rattle.tsp_file.proofs.WrittenLines.{opened}
use Rattle.tsp_file.proofs.writer.sections.put_pair_section.Goals as goal

-- plan: by whether the section is present: its word and its lines are added (`opened`), or nothing
pub returns-in-Some : goal.returns-in-Some
returns-in-Some g c =
    let start = way_of g.W.Takes.contents c.args.out.now c.args.piece.now.items in
    let after_opening = way_of g.W.Takes.contents c.put_opening.new.out c.put_opening.new.piece.items in
    let last = way_of g.W.Takes.contents c.put_pairs.new.out c.put_pairs.new.piece.items in
    let lines = rw c.deref.ensures.value at c.put_pairs.ensures in
    rw c.in-Some.is (opened start after_opening last c.args.field (pair_list c.in-Some.pairs.items) c.put_opening.ensures lines)

pub returns-in_default : goal.returns-in_default
returns-in_default g c = rw c.in_default.is (carried_none (way_of g.W.Takes.contents c.args.out.now c.args.piece.now.items))
