-- The goals of `put_costs` in src/shown.rt, which adds the lines that instances alone have: what it ensures.
use Rattle.tsp_report.proofs.Prelude.{◌++◌, ◌∙◌, ap, subst, Option, ℕ, List, rules, ℤ, FitsSigned, w64, to_z-of_z, Carried, way_of, carried_then}
use Rattle.tsp_file.specs.Fields.{Fields}
use Rattle.tsp_report.specs.Show.{weights_line, canonical_line, canonical_of, fixed_line}
use Rattle.tsp_report.proofs.shown.put_costs.Goals as goal

-- plan: the weights, the canonical length and the fixed pairs (`carried_then`)
pub returns : goal.returns
returns g c =
    let f = c.args.instance.now in
    let start = way_of g.W.Takes.contents c.args.out.now c.args.piece.now.items in
    let after_weights = way_of g.W.Takes.contents c.put_weights.new.out c.put_weights.new.piece.items in
    let after_canonical = way_of g.W.Takes.contents c.put_canonical.new.out c.put_canonical.new.piece.items in
    let last = way_of g.W.Takes.contents c.put_fixed.new.out c.put_fixed.new.piece.items in
    let weights = subst (λ (file : Fields). Carried start after_weights (weights_line file.weight_kind file.weight_format)) c.file-file.ensures.value
    (rw (c.weight_kind.ensures, c.weight_format.ensures) at c.put_weights.ensures) in
    let fits : FitsSigned w64 c.canonical_length.result = search rules in
    let canonical = subst (λ (length : ℤ). Carried after_weights after_canonical (canonical_line length)) c.canonical_length.ensures (simp to_z-of_z at c.put_canonical.ensures) in
    let fixed = subst (λ (pairs : Option (List (ℕ × ℕ))). Carried after_canonical last (fixed_line pairs))
    (c.fixed.ensures ∙ ap (λ (file : Fields). file.fixed) c.file-file.ensures.value) c.put_fixed.ensures in
    carried_then start after_weights last (weights_line f.weight_kind f.weight_format) (canonical_line (canonical_of f) ++ fixed_line f.fixed) weights
    (carried_then after_weights after_canonical last (canonical_line (canonical_of f)) (fixed_line f.fixed) canonical fixed)
