-- The goals of `send_what_goes` in src/explained.rt, which sends a text to standard error as far as that takes it: its
-- loop.
use Rattle.tsp_tool.proofs.Prelude.{rules, ◌++◌, take, Appends-trans}
use Rattle.tsp_tool.proofs.explained.send_what_goes.Goals as goal

pub parts-preserved : goal.parts-preserved
parts-preserved g c =
    let sent = c.parts.invariant in
    (sent.0 ++ take c.in-Ok.count c.parts.rest.now, Appends-trans _ _ _ _ _ sent.1 c.in-Ok.ensures.bytes)
