-- Lemmas for the reader, one word, item or piece further (the files ..Steps, and Onwards), and for the law that
-- canonical texts are read back (the others). Proofs in tsp_judge and tsp_solution import PieceSteps and BegunSteps.
mod Prelude
mod ListSteps
mod SectionLists
mod GroupSteps
mod CoordSteps
mod PlainNumbers
mod TextSteps
mod KeywordSteps
mod LeftSteps
mod Onwards
mod IntakeSteps
pub mod BegunSteps
mod FeedSteps
pub mod PieceSteps
mod SectionSteps
mod Text
mod Onto
mod NumbersReadBack
mod Groups
mod SectionFields
mod Words
mod FamilyWords
mod MemoryBack
mod TreeWords
mod Shapes
mod Stages
mod KeyFields
