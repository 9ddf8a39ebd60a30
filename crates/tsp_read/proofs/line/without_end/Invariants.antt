-- The loop of `without_end` in src/line.rt.
use Rattle.tsp_read.proofs.Prelude.{◌≡◌, length, without_end}
use Rattle.tsp_read.proofs.line.without_end.Given as goal

-- the text without the blanks at its end is `front` without those at its end
abbrev pub invariant-loop-last : goal.invariant-loop-last
invariant-loop-last l = without_end l.front ≡ without_end l.text

-- each round takes the last byte off `front`
abbrev pub decreases-loop-last : goal.decreases-loop-last
decreases-loop-last l = length l.front
