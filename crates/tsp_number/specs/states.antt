-- Definitions of what this crate's code sees on the way: roots (Rounding) and the digits of number words (Digits). No
-- circle rests on them.
pub mod Rounding
pub mod Digits
