-- Definitions that look into structs of the code: a draft and its lists (Drafts), which the contracts of the reader
-- use, too, and listed costs (Weights). No circle rests on them.
pub mod Drafts
pub mod Weights
