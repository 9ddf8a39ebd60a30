-- The goals of `tsp_open` in src/lib.rt, which opens a handle on an instance: what it ensures.
use Rattle.tsp_c.proofs.tsp_open.Goals as goal

-- plan: the call that opens the handle ensures the status, which is returned as a number
pub returns : goal.returns
returns c = rw c.number.ensures c.open_text.ensures
