-- The goals of `put_memory` in src/shown.rt: what it ensures.
use Rattle.tsp_report.proofs.Prelude.{◌++◌, length, ℕ, subst, sym, map, codes, Carried, way_of, carried_then, carried_none, decimal, length-map}
use Rattle.tsp_report.proofs.shown.put_memory.Goals as goal

-- plan: by whether the section is present (`carried_none`)
pub returns-in-Some : goal.returns-in-Some
returns-in-Some g c =
    let start = way_of g.W.Takes.contents c.args.out.now c.args.piece.now.items in
    let after_number = way_of g.W.Takes.contents c.put_named.new.out c.put_named.new.piece.items in
    let last = way_of g.W.Takes.contents c.put.new.out c.put.new.piece.items in
    let named = subst (λ (n : ℕ). Carried start after_number (codes "memory " ++ decimal n))
    (sym (length-map c.in-Some.lists.now (λ list. list.items))) c.put_named.ensures in
    rw c.in-Some.is (carried_then start after_number last (codes "memory " ++ decimal (length (map (λ list. list.items) c.in-Some.lists.now))) (codes "\n") named c.put.ensures)

pub returns-in_default : goal.returns-in_default
returns-in_default g c = rw c.in_default.is (carried_none (way_of g.W.Takes.contents c.args.out.now c.args.piece.now.items))
