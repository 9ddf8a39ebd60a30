-- The loop of `bring` in src/prim.rt.
use Rattle.tsp_theory.specs.states.Nearest.{least_at}
use Rattle.tsp_bound.proofs.GrowingTrees.{IsPassed, FindsLeast}
use Rattle.tsp_bound.proofs.prim.bring.Given as goal

-- the places before this one have the nearer one of two nodes, and `nearest` is the least place of them
abbrev pub invariant-places : goal.invariant-places
invariant-places l = record {
  passed : IsPassed l.next (least_at l.row) l.outside l.place l.fn.near l.fn.least l.near l.least;
  found : FindsLeast l.place l.least l.best l.nearest;
}
