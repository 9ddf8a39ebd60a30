-- The goals of `move_to_end` in src/section_builder.rt, which moves a list to the end of others: what it ensures.
use Rattle.tsp_read.proofs.Prelude.{◌≡◌, ◌∙◌, ap, ◌-◌, length, [], ◌∷◌, ◌++◌, arith, slice_set}
use Rattle.std.proofs.Math.Seq.{set-append_seam}
use Rattle.tsp_read.proofs.section_builder.move_to_end.Goals as goal

-- plan: the list that was gathered is the last one, and the gathered one is empty
pub returns-clause-lists : goal.returns-clause-lists
returns-clause-lists g c =
    let lists = c.args.lists.now.items in
    let last : c.len-last.result - 1 ≡ length lists = omega (arith, c.len-last.ensures, c.in_ok-push.ensures.len) in
    ap (λ items. slice_set items (c.len-last.result - 1) c.replace.result) c.in_ok-push.ensures.items
    ∙ ap (λ i. slice_set (lists ++ c.new.result ∷ []) i c.replace.result) last
    ∙ set-append_seam lists c.new.result [] c.replace.result
    ∙ ap (λ list. lists ++ list ∷ []) c.replace.ensures.value
