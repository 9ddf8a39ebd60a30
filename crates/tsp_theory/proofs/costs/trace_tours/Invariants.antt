-- The loop of `trace_tours` in src/costs.rt.
use Rattle.std.proofs.Common.{◌≡◌, map, take}
use Rattle.tsp_theory.specs.Tour.{length_of}
use Rattle.tsp_theory.proofs.costs.trace_tours.Given as goal

-- the lengths so far are those of the tours before this one
abbrev pub invariant-tours : goal.invariant-tours
invariant-tours g l = l.lengths.items ≡ map (λ tour. length_of (g.C.Costs.at l.c) tour.items) (take l.tour-index l.tours)
