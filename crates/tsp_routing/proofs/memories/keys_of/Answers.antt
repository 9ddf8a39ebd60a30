-- The goals of `keys_of` in src/memories.rt, which lists what a node keeps: what it ensures.
use Rattle.std.proofs.Common.{◌≡◌, ◌+◌, ◌++◌, ℕ, List, map, ap, ◌∙◌}
use Rattle.tsp_routing.specs.declared.memories.MemoryKey.{MemoryKey}
use Rattle.tsp_routing.specs.states.MemoryTables.{key_of_node, kept_keys}
use Rattle.tsp_routing.proofs.GivenTables.{all_keys}
use Rattle.tsp_routing.proofs.memories.keys_of.Goals as goal

-- plan: first the customers, then the rows
pub returns : goal.returns
returns c = λ lists same.
    let near : List ℕ = c.args.near.now in
    let later : List MemoryKey = kept_keys (c.args.nodes + 1) c.args.rows.now c.args.node in
    all_keys c.args.nodes lists near c.args.rows.now c.args.node c.add_rows.new.keys.items same c.requires.near
    (c.in_ok-add_rows.ensures
    ∙ ap (λ (xs : List MemoryKey). xs ++ later)
    (c.in_ok-add_near.ensures ∙ ap (λ (xs : List MemoryKey). xs ++ map key_of_node near) c.new-keys.ensures.items))
