-- The goals of `take_all` in src/plain_numbers.rt, which takes words and line ends as long as the list takes them: its
-- loop, what its calls require and what it ensures.
use Rattle.std.proofs.Common.{◌<◌, length, arith}
use Rattle.tsp_read.specs.states.PlainNumbers.{RunsTo}
use Rattle.tsp_read.proofs.PlainNumbers.{same_run, run_then}
use Rattle.tsp_read.proofs.plain_numbers.take_all.Goals as goal

-- plan: one step more of the run (`run_then`), which leaves fewer bytes
pub run-init : goal.run-init
run-init g c = same_run (g.L.PlainNumberList.part c.args.list.now) c.args.count c.args.text.now

pub take_one-requires-clause-line : goal.take_one-requires-clause-line
take_one-requires-clause-line g c = omega (arith, c.run.invariant.line, c.requires.line)

pub take_one-requires-clause-words : goal.take_one-requires-clause-words
take_one-requires-clause-words g c = omega (arith, c.run.invariant.words, c.requires.words)

pub run-smaller : goal.run-smaller
run-smaller g c = let step = rw c.in-Some.is at c.take_one.ensures in step.1

pub run-preserved : goal.run-preserved
run-preserved g c =
    let step = rw c.in-Some.is at c.take_one.ensures in
    run_then (g.L.PlainNumberList.part c.args.list.now) (g.L.PlainNumberList.part c.run.list) (g.L.PlainNumberList.part c.take_one.new.list)
    c.args.count c.run.counted c.take_one.new.count c.args.text.now c.run.rest.now c.in-Some.after.now c.run.invariant step.0

pub returns : goal.returns
returns g c =
    let step = rw c.in_default.is at c.take_one.ensures in
    run_then (g.L.PlainNumberList.part c.args.list.now) (g.L.PlainNumberList.part c.run.list) (g.L.PlainNumberList.part c.take_one.new.list)
    c.args.count c.run.counted c.take_one.new.count c.args.text.now c.run.rest.now c.run.rest.now c.run.invariant step
