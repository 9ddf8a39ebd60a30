-- The loop of `set_of` in src/potentials_certificate.rt.
use Rattle.std.proofs.Common.{take}
use Rattle.tsp_verdict.specs.states.PairSets.{HasPairs}
use Rattle.tsp_verdict.proofs.potentials_certificate.set_of.Given as goal

-- the set has the pairs before this one, in either direction, and no other
abbrev pub invariant-pairs : goal.invariant-pairs
invariant-pairs l = HasPairs (λ pair. pair) l.set (take l.pair-index l.pairs)
