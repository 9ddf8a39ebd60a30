-- Lemmas on calls on texts (NamedTexts, PickedRuns), on calls on a handle (HandleCalls), and on results in numbers
-- (InNumbers). No other crate uses tsp_c.
mod Prelude
mod HandleCalls
mod NamedTexts
mod PickedRuns
mod InNumbers
