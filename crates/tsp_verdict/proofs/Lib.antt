-- Lemmas on reasons and their order (FirstReasons, OneReason, TreeReasons), on tours (TourVerdicts, GivenPairs), on
-- routes (RouteFiles, RouteVerdicts) and bounds (CarriedBounds), and that files have one verdict (OneVerdict). Proofs
-- in tsp_judge and tsp_c import KnownBounds and Unjudged; the other files are for this crate.
mod Prelude
mod CarriedBounds
mod FirstReasons
mod RouteFiles
mod TourVerdicts
pub mod KnownBounds
mod GivenPairs
mod RouteVerdicts
mod TreeReasons
mod OneReason
pub mod Unjudged
mod OneVerdict
