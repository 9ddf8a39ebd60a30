-- The goals of `put_instance` in src/report.rt, which adds the lines on an instance: what it ensures.
use Rattle.tsp_report.proofs.Prelude.{◌++◌, ◌∙◌, ap, subst, Option, ℕ, List, unwrap_or, Carried, way_of, carried_then}
use Rattle.tsp_report.specs.Report.{type_line, nodes_line, not_judged}
use Rattle.tsp_format.specs.declared.kinds.Kind.{Kind}
use Rattle.tsp_report.proofs.report.put_instance.Goals as goal

-- plan: the type, the nodes and the unknown keywords (`carried_then`)
pub returns : goal.returns
returns g c =
    let f = c.args.instance.now in
    let start = way_of g.W.Takes.contents c.args.out.now c.args.piece.now.items in
    let after_type = way_of g.W.Takes.contents c.put_type.new.out c.put_type.new.piece.items in
    let after_nodes = way_of g.W.Takes.contents c.put_nodes.new.out c.put_nodes.new.piece.items in
    let last = way_of g.W.Takes.contents c.put_others.new.out c.put_others.new.piece.items in
    let type = subst (λ (kind : Option Kind). Carried start after_type (type_line kind)) c.kind.ensures c.put_type.ensures in
    let nodes = subst (λ (n : ℕ). Carried after_type after_nodes (nodes_line n)) (c.unwrap_or.ensures ∙ ap (λ (n : Option ℕ). unwrap_or n 0) c.dimension.ensures) c.put_nodes.ensures in
    let others = subst (λ (lines : List (List ℕ × List ℕ)). Carried after_nodes last (not_judged lines)) c.others.ensures c.put_others.ensures in
    carried_then start after_nodes last (type_line f.kind ++ nodes_line (unwrap_or f.dimension 0)) (not_judged f.others)
    (carried_then start after_type after_nodes (type_line f.kind) (nodes_line (unwrap_or f.dimension 0)) type nodes) others
