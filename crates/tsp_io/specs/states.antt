-- Definitions that look into structs of the code: a writer (Output) and a reader (Watched), by which contracts of all
-- crates above say what was written and read. No circle rests on them.
pub mod Output
pub mod Watched
