-- The goals of `put_value` in src/writer.rt, which adds the line of a keyword with its value: what it ensures.
use Rattle.tsp_file.proofs.Prelude.{[], ◌∷◌, ◌++◌, sym, ◌∙◌, codes, Carried, way_of, carried_none, carried_then}
use Rattle.tsp_file.proofs.WrittenLines.{no_value, some_value}
use Rattle.tsp_file.specs.CanonicalText.{blank_before, line_end}
use Rattle.tsp_file.proofs.writer.put_value.Goals.{then-not-is_empty, else-not-is_empty}
use Rattle.tsp_file.proofs.writer.put_value.Goals as goal

-- plan: by whether the value has bytes: a blank and these are added (`some_value`), or nothing (`no_value`)
pub returns : goal.returns
returns g c =
    let start = way_of g.W.Takes.contents c.args.out.now c.args.piece.now.items in
    let after_keyword = way_of g.W.Takes.contents c.put.new.out c.put.new.piece.items in
    let after_colon = way_of g.W.Takes.contents c.put-2.new.out c.put-2.new.piece.items in
    let after_value = way_of g.W.Takes.contents c.if-not-is_empty.out c.if-not-is_empty.piece.items in
    let last = way_of g.W.Takes.contents c.put-3.new.out c.put-3.new.piece.items in
    let value : Carried after_colon after_value (blank_before c.args.value.now) =
    elim c.if-not-is_empty.branch [
      | then-not-is_empty w ↦
          let blank_before = way_of g.W.Takes.contents w.put-then-not-is_empty.new.out w.put-then-not-is_empty.new.piece.items in
          some_value after_colon after_value c.args.value.now (sym c.is_empty.ensures ∙ w.if-not-is_empty.true)
          (carried_then after_colon blank_before after_value (32 ∷ []) c.args.value.now w.put-then-not-is_empty.ensures
          (rw (w.piece-is, w.out-is) w.put-then-not-is_empty-2.ensures))
      | else-not-is_empty w ↦ no_value after_colon after_value c.args.value.now (sym c.is_empty.ensures ∙ w.if-not-is_empty.false)
          (rw (w.piece-is, w.out-is) (carried_none after_colon))
    ]
    in
    carried_then start after_keyword last c.args.keyword.now (codes " :" ++ (blank_before c.args.value.now ++ line_end))
    c.put.ensures
    (carried_then after_keyword after_colon last (codes " :") (blank_before c.args.value.now ++ line_end) c.put-2.ensures
    (carried_then after_colon after_value last (blank_before c.args.value.now) line_end value c.put-3.ensures))
