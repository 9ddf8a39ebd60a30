-- The goals of `put_each` in src/writer/matrix.rt, which adds weights one by one: its loop and what it ensures.
use Rattle.tsp_file.proofs.Prelude.{List, ℕ, ◌∷◌, arith, rules, get_or, ℤ, pos, FitsSigned, w64, to_z-of_z, signed_decimal, way_of, carried_next_or, carried_all, carried_none}
use Rattle.tsp_file.proofs.writer.matrix.put_each.Goals as goal

pub weights-init : goal.weights-init
weights-init g c = carried_none (way_of g.W.Takes.contents c.args.out.now c.args.piece.now.items)

-- plan: one weight more is added after a blank, unless the writer has failed (`carried_next_or`)
pub weights-preserved : goal.weights-preserved
weights-preserved g c =
    let fits : FitsSigned w64 (get_or c.args.weights.now c.weights.weight-index (pos 0)) = search rules in
    let number = simp to_z-of_z at c.put_next_number.ensures in
    let before = way_of g.W.Takes.contents c.weights.out c.weights.piece.items in
    let after = way_of g.W.Takes.contents c.put_next_number.new.out c.put_next_number.new.piece.items in
    carried_next_or (λ (weight : ℤ). 32 ∷ signed_decimal weight) c.args.weights.now c.weights.weight-index (pos 0)
    (way_of g.W.Takes.contents c.args.out.now c.args.piece.now.items) before after (omega arith) c.weights.invariant number

pub returns : goal.returns
returns g c = carried_all (λ (weight : ℤ). 32 ∷ signed_decimal weight) c.args.weights.now c.weights.weight-index
    (way_of g.W.Takes.contents c.args.out.now c.args.piece.now.items)
    (way_of g.W.Takes.contents c.weights.out c.weights.piece.items) (omega arith) c.weights.invariant
