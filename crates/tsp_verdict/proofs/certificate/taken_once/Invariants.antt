-- The loop of `taken_once` in src/certificate.rt.
use Rattle.std.proofs.Common.{take}
use Rattle.tsp_verdict.specs.states.PairSets.{HasKeys}
use Rattle.tsp_verdict.proofs.GivenPairs.{IsTakenSoFar}
use Rattle.tsp_verdict.proofs.certificate.taken_once.Given as goal

-- the pairs taken so far, and those left that are new, are all that have to be taken; `seen` has the earlier pairs
abbrev pub invariant-pairs : goal.invariant-pairs
invariant-pairs l = record {
  has : HasKeys l.directed l.seen (take l.pair-index l.pairs);
  so_far : IsTakenSoFar l.directed l.pairs l.taken.items l.pair-index;
}
