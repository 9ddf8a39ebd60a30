-- Lemmas on the run of `tsp solution`. No other crate imports them.
mod Instances
