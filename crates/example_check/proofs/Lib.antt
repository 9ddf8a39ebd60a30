-- The lemma file of the example. No crate is above this one.
mod OnTexts
