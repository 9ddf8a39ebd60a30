-- The goals of `put_tree` in src/shown.rt: what it ensures.
use Rattle.tsp_report.proofs.Prelude.{◌≡◌, ◌++◌, subst, Option, ℕ, List, [], rules, unwrap_or, ℤ, Carried, way_of, carried_then}
use Rattle.tsp_format.specs.Steps.{Step}
use Rattle.tsp_format.specs.states.TreeSteps.{steps_of}
use Rattle.tsp_report.specs.Show.{scale_line, load_unit_line, part_lines, leaves_line}
use Rattle.tsp_report.proofs.shown.put_tree.Goals as goal

-- plan: the scale, the load unit, the parts and the leaves (`carried_then`)
pub returns : goal.returns
returns g c =
    let f = c.args.file.now in
    let start = way_of g.W.Takes.contents c.args.out.now c.args.piece.now.items in
    let after_scale = way_of g.W.Takes.contents c.put_scale.new.out c.put_scale.new.piece.items in
    let after_unit = way_of g.W.Takes.contents c.put_load_unit.new.out c.put_load_unit.new.piece.items in
    let after_parts = way_of g.W.Takes.contents c.put_parts.new.out c.put_parts.new.piece.items in
    let last = way_of g.W.Takes.contents c.put_leaves.new.out c.put_leaves.new.piece.items in
    let scale = subst (λ (scale : Option ℤ). Carried start after_scale (scale_line scale)) c.scale.ensures c.put_scale.ensures in
    let unit = subst (λ (unit : Option ℤ). Carried after_scale after_unit (load_unit_line unit)) c.load_unit.ensures c.put_load_unit.ensures in
    let steps : steps_of c.unwrap_or.result.now ≡ unwrap_or c.args.file.now.branches [] = search rules in
    let leaves = subst (λ (steps : List Step). Carried after_parts last (leaves_line steps)) steps c.put_leaves.ensures in
    let leaves_of = leaves_line (unwrap_or f.branches []) in
    carried_then start after_scale last (scale_line f.scale) (load_unit_line f.load_unit ++ (part_lines f ++ leaves_of)) scale
    (carried_then after_scale after_unit last (load_unit_line f.load_unit) (part_lines f ++ leaves_of) unit
    (carried_then after_unit after_parts last (part_lines f) leaves_of c.put_parts.ensures leaves))
