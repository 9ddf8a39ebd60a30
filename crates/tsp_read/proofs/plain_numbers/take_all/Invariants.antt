-- The loop of `take_all` in src/plain_numbers.rt.
use Rattle.std.proofs.Common.{length}
use Rattle.tsp_read.specs.states.PlainNumbers.{RunsTo}
use Rattle.tsp_read.proofs.plain_numbers.take_all.Given as goal

-- the words and line ends before `rest` are taken and counted
abbrev pub invariant-run : goal.invariant-run
invariant-run g l = RunsTo (g.L.PlainNumberList.part l.fn.list) l.fn.count l.text (g.L.PlainNumberList.part l.list) l.counted l.rest

-- each word or line end has a byte or more, which `rest` loses
abbrev pub decreases-run : goal.decreases-run
decreases-run g l = length l.rest
