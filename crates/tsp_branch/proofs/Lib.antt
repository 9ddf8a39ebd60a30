-- Lemmas on leaves, over boxes and over rows (BoxedLeaves, CaseLeaves), on the rows that leaves share (RowsKept), and on
-- the verdict that is put together from them (Judging), which proofs in tsp_verdict use, too.
mod Prelude
mod BoxedLeaves
mod RowsKept
mod CaseLeaves
pub mod Judging
