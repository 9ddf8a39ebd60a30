-- The goals of `File::relayout` in src/relayout.rt, which lists the weights in another layout, or says why not: what it
-- ensures.
use Rattle.std.proofs.Common.{subst, ap, sym, ◌∙◌}
use Rattle.tsp_file.specs.Fields.{Fields, nodes_of}
use Rattle.tsp_file.specs.Cost.{cost}
use Rattle.tsp_file.specs.Relayout.{with_weights, costs_in}
use Rattle.tsp_file.specs.states.Drafts.{LeadsTo}
use Rattle.tsp_file.proofs.Relaid.{relaid, already}
use Rattle.tsp_file.proofs.file.File.relayout.Goals as goal

-- plan: by how the weights get there: they are in this layout already (`already`), or are listed anew with the same
-- costs (`relaid`)
pub returns-in-Ok-Already : goal.returns-in-Ok-Already
returns-in-Ok-Already c =
    let f : Fields = c.args.self in
    let same = subst (LeadsTo f c.args.to) c.in-Ok-Already.field-0-is c.in-Ok-Already.ensures.1 in
    already f c.args.to c.in-Ok-Already.ensures.0 same.0 same.1

pub returns-in-Ok-Within : goal.returns-in-Ok-Within
returns-in-Ok-Within c = relaid c.args.self c.args.to _ c.in-Ok-Within.ensures.0 c.with_half.ensures

pub returns-in-Ok-Anew : goal.returns-in-Ok-Anew
returns-in-Ok-Anew c =
    let f : Fields = c.args.self in
    let laid = subst (LeadsTo f c.args.to) c.in-Ok-Anew.field-0-is c.in-Ok-Anew.ensures.1 in
    relaid f c.args.to _ c.in-Ok-Anew.ensures.0 (c.with_weights.ensures ∙ ap (with_weights f c.args.to) laid.0)

pub returns-in-Ok : goal.returns-in-Ok
returns-in-Ok c =
    let f : Fields = c.args.self in
    let across = subst (LeadsTo f c.args.to) c.in-Ok-Across.field-0-is c.in-Ok-Across.ensures.1 in
    relaid f c.args.to c.in-Ok.file c.in-Ok-Across.ensures.0
    (c.in-Ok.ensures ∙ ap (λ layout. with_weights f layout (costs_in layout (nodes_of f) (cost f))) (sym across.0))
