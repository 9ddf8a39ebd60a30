-- The goals of `add_near` in src/memories.rt, which adds the keys of customers: its loop and what it ensures.
use Rattle.tsp_routing.proofs.Prelude.{◌≡◌, ◌++◌, ℕ, List, [], ◌∷◌, map, drop, length, ap, sym, ◌∙◌, append-nil, drop_all}
use Rattle.tsp_routing.specs.declared.memories.MemoryKey.{MemoryKey}
use Rattle.tsp_routing.specs.states.MemoryTables.{key_of_node}
use Rattle.tsp_routing.proofs.GivenTables.{near_pushed}
use Rattle.tsp_routing.proofs.memories.add_near.Goals as goal

-- plan: customer by customer
pub customers-preserved : goal.customers-preserved
customers-preserved c =
    near_pushed c.customers.keys.items _ _ c.args.near.now c.customers.index c.customers-test.true
    (c.in_ok-push.ensures.items ∙ ap (λ (key : MemoryKey). c.customers.keys.items ++ key ∷ []) c.near_key.ensures) c.customers.invariant
