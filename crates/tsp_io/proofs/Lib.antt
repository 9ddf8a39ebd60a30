-- Lemmas on texts that reach a writer in parts. Public, because crates that write lines are proved by them.
pub mod Carrying
