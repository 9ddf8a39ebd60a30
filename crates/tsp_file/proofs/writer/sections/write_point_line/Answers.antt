-- The goals of `write_point_line` in src/writer/sections.rt, which writes the line of a node with its coordinates: what
-- its calls require and what it ensures.
use Rattle.tsp_file.proofs.Prelude.{[], ◌∷◌, ◌++◌, ℕ, List, cond, ap, sym, ◌∙◌, append_assoc, arith, rules, flat_map, decimal, spelling}
use Rattle.std.proofs.lemmas.Fmt.{length-decimal-le}
use Rattle.tsp_file.specs.CanonicalText.{line_end}
use Rattle.tsp_file.proofs.writer.sections.write_point_line.Goals as goal

pub write_digits-requires : goal.write_digits-requires
write_digits-requires c =
    let digits = length-decimal-le 20 c.args.node (omega arith) (omega arith) (omega arith) in
    (omega (arith, digits, c.write_coordinate-first.ensures.short, c.write_coordinate-second.ensures.short, c.write_line_end-third.ensures.short), search rules)

-- plan: the line is written from its end: the coordinates, then the node, each before the bytes that the last call
-- wrote
pub returns-clause-written : goal.returns-clause-written
returns-clause-written c =
    let x : List ℕ = 32 ∷ spelling c.args.point.x in
    let y : List ℕ = 32 ∷ spelling c.args.point.y in
    let z : List ℕ = flat_map (λ word. 32 ∷ word) (cond c.args.spatial (spelling c.args.point.z ∷ []) []) in
    let node : List ℕ = decimal c.args.node in
    c.write_digits.ensures.written
    ∙ ap (λ (t : List ℕ). node ++ t) (c.write_coordinate-first.ensures.written
    ∙ ap (λ (t : List ℕ). x ++ t) (c.write_coordinate-second.ensures.written
    ∙ ap (λ (t : List ℕ). y ++ t) c.write_line_end-third.ensures.written)
    ∙ sym (append_assoc x (y ++ z) line_end ∙ ap (λ (t : List ℕ). x ++ t) (append_assoc y z line_end)))
