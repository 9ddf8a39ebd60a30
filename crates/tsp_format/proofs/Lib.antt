-- Lemmas on the cells of a matrix and their places, and a few on lists that std lacks (Basics). Proofs in most crates
-- above import some.
pub mod Basics
pub mod Pairs
pub mod Places
