-- The goals of `are_comments` in src/table.rt, which says whether comments can be kept and are few enough: what it
-- ensures.
use Rattle.tsp_file.proofs.Prelude.{ℕ, ◌∙◌, CommentKey, field_word, most_comments}
use Rattle.std.specs.Global.{Vec}
use Rattle.tsp_file.specs.Validity.{is_kept}
use Rattle.tsp_file.proofs.ValidFields.{mapped_all}
use Rattle.tsp_file.proofs.table.are_comments.Goals as goal

-- plan: a value fits if its bytes do, so the test of the values is that of the list of their bytes (`mapped_all`)
pub returns-then-len-le-MOST_COMMENTS : goal.returns-then-len-le-MOST_COMMENTS
returns-then-len-le-MOST_COMMENTS c =
    let kept = rw c.deref.ensures.value at c.are_kept.ensures in
    mapped_all (λ (v : Vec ℕ). v.items) (is_kept (field_word CommentKey)) c.args.comments.now.items c.are_kept.result most_comments c.len.result kept
    c.if-len-le-MOST_COMMENTS.true (c.len.ensures ∙ c.args.comments.now.ok.0)
