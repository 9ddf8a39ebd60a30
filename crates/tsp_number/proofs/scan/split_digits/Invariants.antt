-- The loop of `split_digits` in src/scan.rt.
use Rattle.std.proofs.Common.{length, ◌-◌}
use Rattle.tsp_number.proofs.Scaling.{HasRead}
use Rattle.tsp_number.proofs.scan.split_digits.Given as goal

-- the bytes before `end` are digits; those behind them go on with the digits and with the value
abbrev pub invariant-loop-end : goal.invariant-loop-end
invariant-loop-end l = HasRead l.bytes l.fn.before l.end l.value

-- each round reads one byte more
abbrev pub decreases-loop-end : goal.decreases-loop-end
decreases-loop-end l = length l.bytes - l.end
