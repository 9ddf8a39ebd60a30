-- The goals of `put_comments` in src/writer.rt: its loop and what it ensures.
use Rattle.tsp_file.proofs.Prelude.{arith, CommentKey, way_of, carried_mapped, carried_none, carried_next}
use Rattle.tsp_file.specs.CanonicalText.{keyword_line}
use Rattle.tsp_file.proofs.writer.put_comments.Goals as goal

pub loop-comment-init : goal.loop-comment-init
loop-comment-init g c = carried_none (way_of g.W.Takes.contents c.args.out.now c.args.piece.now.items)

-- plan: the line of one comment more is added (`carried_next`)
pub loop-comment-preserved : goal.loop-comment-preserved
loop-comment-preserved g c =
    let start = way_of g.W.Takes.contents c.args.out.now c.args.piece.now.items in
    let before = way_of g.W.Takes.contents c.loop-comment.out c.loop-comment.piece.items in
    let after = way_of g.W.Takes.contents c.put_value.new.out c.put_value.new.piece.items in
    let text = rw (c.as_bytes.ensures.value, c.word.ensures, c.deref.ensures.value) at c.put_value.ensures in
    carried_next (λ v. keyword_line CommentKey v.items) c.args.comments.now c.loop-comment.comment-index c.comment-item.result
    start before after c.loop-comment-test.true c.comment-item.is c.loop-comment.invariant text

pub returns : goal.returns
returns g c = carried_mapped (keyword_line CommentKey) (λ v. v.items) c.args.comments.now c.loop-comment.comment-index
    (way_of g.W.Takes.contents c.args.out.now c.args.piece.now.items)
    (way_of g.W.Takes.contents c.loop-comment.out c.loop-comment.piece.items)
    (omega arith) c.loop-comment.invariant
