-- The goals of `put_rest` in src/shown.rt, which adds the lines that depend on TYPE, and unknown keywords: what it
-- ensures.
use Rattle.tsp_report.proofs.Prelude.{ap, ◌∙◌, map, way_of}
use Rattle.tsp_file.specs.Fields.{Fields}
use Rattle.tsp_report.proofs.Texts.{rest_of_instance, rest_of_other}
use Rattle.tsp_report.proofs.shown.put_rest.Goals as goal

pub returns-in-Ok : goal.returns-in-Ok
returns-in-Ok g c = rest_of_instance c.args.file c.in-Ok.instance (map (λ line. (line.0.items, line.1.items)) c.others.result.now)
    (way_of g.W.Takes.contents c.args.out.now c.args.piece.now.items)
    (way_of g.W.Takes.contents c.put_costs.new.out c.put_costs.new.piece.items) (way_of g.W.Takes.contents c.put_others.new.out c.put_others.new.piece.items)
    c.in-Ok.ensures.0 c.in-Ok.ensures.1 (c.others.ensures ∙ ap (λ (f : Fields). f.others) c.file.ensures.value) c.put_costs.ensures c.put_others.ensures

-- plan: by whether the file is an instance (`rest_of_instance`, `rest_of_other`)
pub returns-in-Err : goal.returns-in-Err
returns-in-Err g c = rest_of_other c.args.file c.in-Err.file (map (λ line. (line.0.items, line.1.items)) c.others-in-Err.result.now)
    (way_of g.W.Takes.contents c.args.out.now c.args.piece.now.items)
    (way_of g.W.Takes.contents c.put_solution.new.out c.put_solution.new.piece.items)
    (way_of g.W.Takes.contents c.put_others-in-Err.new.out c.put_others-in-Err.new.piece.items) c.in-Err.ensures.1 c.others-in-Err.ensures c.put_solution.ensures
    c.put_others-in-Err.ensures
