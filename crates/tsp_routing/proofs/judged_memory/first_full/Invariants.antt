-- The loop of `first_full` in src/judged_memory.rt.
use Rattle.tsp_routing.proofs.Prelude.{◌≤◌, ℕ, IsCustomer}
use Rattle.tsp_routing.specs.states.JudgedMemory.{IsKeptWithin}
use Rattle.tsp_routing.proofs.judged_memory.first_full.Given as goal

-- the customers up to this one keep no more than is allowed
abbrev pub invariant-nodes : goal.invariant-nodes
invariant-nodes l = (customer : ℕ) → IsCustomer l.demands.nodes l.demands.depot customer → customer ≤ l.index
    → IsKeptWithin l.near l.counts customer
