-- The loop of `put_comments` in src/writer.rt.
use Rattle.tsp_file.proofs.Prelude.{take, flat_map, CommentKey, way_of, Carried}
use Rattle.tsp_file.specs.CanonicalText.{keyword_line}
use Rattle.tsp_file.proofs.writer.put_comments.Given as goal

-- the bytes added so far are the lines of the comments before this one
abbrev pub invariant-loop-comment : goal.invariant-loop-comment
invariant-loop-comment g l =
    Carried (way_of g.W.Takes.contents l.initial.out l.initial.piece.items) (way_of g.W.Takes.contents l.out l.piece.items)
    (flat_map (λ v. keyword_line CommentKey v.items) (take l.comment-index l.comments))
