-- Definitions that look into structs of the code: of tours and routes while they are judged (Marks, PairSets), of what
-- is known before a solution is judged (TourKnownBounds), and of verdicts on trees (TreeFound, MemoryReasons). No
-- circle rests on them.
pub mod TourKnownBounds
pub mod Marks
pub mod PairSets
pub mod MemoryReasons
pub mod TreeFound
