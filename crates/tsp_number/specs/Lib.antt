-- Definitions of decimals, distances and number words. Crates above may import all of them, and tsp_file, tsp_text and
-- tsp_cost do; those in `states` are about the code of this crate.
pub mod states
pub mod Decimal
pub mod Distances
pub mod Examples
pub mod NumberWord
