-- Definitions that look into structs of the code: of what both bounds share (Demands, Judged, LeafWeights), of the
-- lists in a certificate (JudgedMemory, RunJudged), of memories as words (MemoryTables), and of kept states (RunTables,
-- KeptLists). No circle rests on them.
pub mod LeafWeights
pub mod Demands
pub mod Judged
pub mod RunTables
pub mod MemoryTables
pub mod KeptLists
pub mod JudgedMemory
pub mod RunJudged
