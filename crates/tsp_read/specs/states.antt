-- Definitions of the reader's state: the words of an open section (Parts, HeldParts), the draft and the section between
-- two items (Holds), what is left of a text (Left), pieces of it (Onward), and runs of numbers (PlainNumbers). No
-- circle rests on them.
pub mod Parts
pub mod HeldParts
pub mod Holds
pub mod Onward
pub mod Left
pub mod PlainNumbers
