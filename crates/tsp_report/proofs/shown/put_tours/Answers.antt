-- The goals of `put_tours` in src/shown.rt: what it ensures.
use Rattle.tsp_report.proofs.Prelude.{◌++◌, ℕ, subst, sym, length, map, codes, decimal, enumerate_from, flat_map, length-map, Carried, way_of, carried_then}
use Rattle.tsp_report.specs.Show.{tour_line}
use Rattle.tsp_report.proofs.shown.put_tours.Goals as goal

-- plan: how many tours there are, then a line for each (`carried_then`)
pub returns : goal.returns
returns g c =
    let start = way_of g.W.Takes.contents c.args.out.now c.args.piece.now.items in
    let after_count = way_of g.W.Takes.contents c.put_named.new.out c.put_named.new.piece.items in
    let after_line = way_of g.W.Takes.contents c.put.new.out c.put.new.piece.items in
    let last = way_of g.W.Takes.contents c.put_each_tour.new.out c.put_each_tour.new.piece.items in
    let tours = map (λ tour. tour.items) c.args.tours.now in
    let named = subst (λ (n : ℕ). Carried start after_count (codes "tours " ++ decimal n)) (sym (length-map c.args.tours.now (λ tour. tour.items))) c.put_named.ensures in
    let text = codes "tours " ++ decimal (length tours) in
    carried_then start after_line last (text ++ codes "\n") (flat_map tour_line (enumerate_from 1 tours))
    (carried_then start after_count after_line text (codes "\n") named c.put.ensures) c.put_each_tour.ensures
