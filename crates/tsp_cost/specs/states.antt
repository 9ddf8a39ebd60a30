-- Definitions that look into structs of the code: of the weight types that are distances (Metrics), and of an instance
-- and its views (Views), by which tsp_verdict sees costs. No circle rests on them.
pub mod Metrics
pub mod Views
