-- Definitions that look into structs of the code: an input file (src/input.rt), and a text in
-- memory (src/held_text.rt). No circle rests on them.
pub mod InputFile
pub mod HeldText
