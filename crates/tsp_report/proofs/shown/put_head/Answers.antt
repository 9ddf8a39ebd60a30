-- The goals of `put_head` in src/shown.rt, which adds the lines that every file has: what it ensures.
use Rattle.tsp_report.proofs.Prelude.{◌++◌, subst, Option, ℕ, List, [], Carried, way_of, carried_then}
use Rattle.std.specs.Option.{option_map_or}
use Rattle.tsp_report.specs.Report.{type_line, nodes_line}
use Rattle.tsp_report.specs.Show.{name_line}
use Rattle.tsp_format.specs.declared.kinds.Kind.{Kind}
use Rattle.tsp_report.proofs.shown.put_head.Goals as goal

-- plan: the name, the type and the nodes (`carried_then`)
pub returns : goal.returns
returns g c =
    let f = c.args.file.now in
    let start = way_of g.W.Takes.contents c.args.out.now c.args.piece.now.items in
    let after_name = way_of g.W.Takes.contents c.put_name.new.out c.put_name.new.piece.items in
    let after_type = way_of g.W.Takes.contents c.put_type.new.out c.put_type.new.piece.items in
    let last = way_of g.W.Takes.contents c.put_dimension.new.out c.put_dimension.new.piece.items in
    let name = subst (λ (name : Option (List ℕ)). Carried start after_name (name_line name)) c.name.ensures c.put_name.ensures in
    let type = subst (λ (kind : Option Kind). Carried after_name after_type (type_line kind)) c.kind.ensures c.put_type.ensures in
    let nodes = subst (λ (n : Option ℕ). Carried after_type last (option_map_or nodes_line n [])) c.dimension.ensures c.put_dimension.ensures in
    carried_then start after_name last (name_line f.name) (type_line f.kind ++ option_map_or nodes_line f.dimension []) name
    (carried_then after_name after_type last (type_line f.kind) (option_map_or nodes_line f.dimension []) type nodes)
