-- Lemmas on the fields of a file, on matrices that change their layout, and on the text that is written. What a crate
-- above needs of them is public.
mod Prelude
pub mod ValidFields
mod SeenLists
pub mod TextLengths
pub mod FileFields
pub mod Relaid
mod Spread
pub mod FieldLengths
mod WrittenLines
