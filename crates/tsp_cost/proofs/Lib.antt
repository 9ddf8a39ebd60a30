-- Lemmas on the costs that the code looks up or computes, and on the one problem of an instance. No other crate imports
-- them.
mod Prelude
mod CoarseRoots
mod Ways
mod OneProblem
