-- Definitions that look into structs of the code: rows of weights that leaves share (KeptRows), and a leaf's own rows
-- (LeafRows), for src/leaf_rows.rt, src/case_leaf.rt and src/boxed.rt. No circle rests on them.
pub mod KeptRows
pub mod LeafRows
