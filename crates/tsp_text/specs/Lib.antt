-- Definitions from the bytes of a text to its file or its first fault, in this order: Items, Earlier, SectionWords,
-- Groups and MemoryWords, FaultRows, ParsesTo. tsp_read is proved to find this file or fault.
pub mod Prelude
pub mod ParsesTo
pub mod Items
pub mod Earlier
pub mod SectionWords
pub mod Groups
pub mod MemoryWords
pub mod FaultRows
pub mod Examples
