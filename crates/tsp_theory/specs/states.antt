-- Definitions of what code has on the way: what Prim's algorithm keeps of a node, and the entries of a row of weights.
-- No circle rests on them.
pub mod Nearest
