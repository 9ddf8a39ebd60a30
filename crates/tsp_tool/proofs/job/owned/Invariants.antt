-- The loop of `owned` in src/job.rt.
use Rattle.tsp_tool.proofs.Prelude.{◌≡◌, map, take, string_bytes}
use Rattle.tsp_tool.proofs.job.owned.Given as goal

-- the copies so far have the bytes of the texts before this one
abbrev pub invariant-texts : goal.invariant-texts
invariant-texts l = map string_bytes l.owned.items ≡ map (λ text. text.now) (take l.text-index l.texts)
