-- Definitions that look into structs of the code: of families (GoodFamilies, Sets), and of the pass over a tree
-- (OpenCases). No circle rests on them, but contracts of tsp_branch and tsp_routing use some, too.
pub mod GoodFamilies
pub mod Sets
pub mod OpenCases
