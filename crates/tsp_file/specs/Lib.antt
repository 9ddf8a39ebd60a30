-- Definitions for a file as a record of fields: which are valid (Validity, Valid, Rules), which costs they mean (Cost,
-- ByInequalities), and their text (CanonicalText). All crates above that name a file state their contracts by them.
pub mod Prelude
pub mod states
pub mod Cost
pub mod Rules
pub mod Fields
pub mod Valid
pub mod Validity
pub mod Examples
pub mod ByInequalities
pub mod Relayout
pub mod CanonicalText
