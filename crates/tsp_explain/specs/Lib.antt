-- How an explanation shows bytes of a file, for src/text.rt, and which comments claim a length in brackets. In no circle
-- of docs/trust.md.
pub mod CommentClaims
pub mod ShownBytes
