-- The goals of `memories_of` in src/memories.rt, which makes the tables of memories: its loop, what its calls require
-- and what it ensures.
use Rattle.tsp_routing.proofs.Prelude.{◌≡◌, ◌≤◌, ◌+◌, ◌∙◌, ◌++◌, ℕ, ℤ, List, [], ◌∷◌, map, length, ap, sym, subst, arith, length-append, Vec, All, All-weaker, IsNode}
use Rattle.tsp_routing.specs.declared.memories.MemoryKey.{MemoryKey}
use Rattle.tsp_format.specs.declared.steps.RowSets.{RowSets}
use Rattle.tsp_routing.specs.states.MemoryTables.{IsKeyIn, near_in, AreKeysOf, ArePlacesTo, AreTablesTo}
use Rattle.tsp_routing.proofs.GivenTables.{tables_pushed, memories_are, few_keys, tables_are}
use Rattle.tsp_routing.proofs.memories.memories_of.Goals as goal

-- plan: one node more
pub places_of-requires-clause-few : goal.places_of-requires-clause-few
places_of-requires-clause-few c =
    let near : ℕ → List ℕ = near_in c.args.near.now in
    let node : ℕ = c.nodes.index + 1 in
    let there : IsNode c.args.nodes node = (omega arith, omega (arith, c.nodes-test.true)) in
    subst (λ (xs : List MemoryKey). length xs ≤ 64) (sym c.deref.ensures.value)
    (few_keys c.args.nodes near c.args.rows.now node c.in_ok-own.own.items c.requires.memories there
    (c.in_ok-own.ensures near (sym c.near_at.ensures)))

pub places_of-requires-clause-keys : goal.places_of-requires-clause-keys
places_of-requires-clause-keys c =
    let near : ℕ → List ℕ = near_in c.args.near.now in
    let last : ℕ = c.args.nodes + length c.args.rows.now in
    subst (All (λ (key : MemoryKey). key.key ≤ last)) (sym c.deref.ensures.value)
    (All-weaker (IsKeyIn c.args.nodes (length c.args.rows.now)) (λ (key : MemoryKey). key.key ≤ last) (λ key is. is.most)
    c.in_ok-own.own.items (c.in_ok-own.ensures near (sym c.near_at.ensures)).are)

pub nodes-preserved : goal.nodes-preserved
nodes-preserved c =
    let nodes : ℕ = c.args.nodes in
    let rows : List RowSets = c.args.rows.now in
    let near : ℕ → List ℕ = near_in c.args.near.now in
    let keys : List (Vec MemoryKey) = c.nodes.keys.items in
    let places : List (Vec ℕ) = c.nodes.places.items in
    let own : Vec MemoryKey = c.in_ok-own.own in
    let own_places : Vec ℕ = c.in_ok-own_places.own_places in
    let pushed : c.push-in-nodes.new.list.items ≡ keys ++ own ∷ [] = c.in_ok-push-3.ensures.items in
    let placed : c.push-in-nodes-2.new.list.items ≡ places ++ own_places ∷ [] = c.in_ok-push-4.ensures.items in
    let long = length-append keys (own ∷ []) in
    let h = c.nodes.invariant in
    record {
      long = ap (λ (xs : List (Vec MemoryKey)). length xs) pushed ∙ omega (arith, long, h.long);
      tables = subst (λ (xs : List (Vec MemoryKey)). AreTablesTo nodes near rows xs c.push-in-nodes-2.new.list.items) (sym pushed)
          (subst (AreTablesTo nodes near rows (keys ++ own ∷ [])) (sym placed)
          (tables_pushed nodes near rows keys places own own_places
          (subst (λ (k : ℕ). AreKeysOf nodes near rows k own.items) (sym h.long) (c.in_ok-own.ensures near (sym c.near_at.ensures)))
          (subst (λ (xs : List MemoryKey). ArePlacesTo (map (λ (key : MemoryKey). key.key) xs) (length xs) (nodes + length rows) own_places.items)
          c.deref.ensures.value c.in_ok-own_places.ensures) h.tables));
    }

pub returns-clause-are : goal.returns-clause-are
returns-clause-are c = λ depot loads room links priced same.
    let end : c.nodes.index ≡ c.args.nodes = omega (arith, c.nodes-test.false, c.nodes.auto.index-end) in
    let long = c.nodes.invariant.long in
    memories_are c.args.nodes (near_in c.args.near.now) c.args.rows.now priced same depot loads room links c.nodes.keys.items
    c.nodes.places.items c.requires.memories c.nodes.invariant.tables (omega (arith, end, long))

pub near_at-requires : goal.near_at-requires
near_at-requires c =
    let lists = c.requires.lists in
    let less = c.nodes-test.true in omega (arith, lists, less)

pub keys_of-requires-clause-nodes : goal.keys_of-requires-clause-nodes
keys_of-requires-clause-nodes c = c.requires.nodes

pub keys_of-requires-clause-rows : goal.keys_of-requires-clause-rows
keys_of-requires-clause-rows c = c.requires.rows

pub places_of-requires-clause-last : goal.places_of-requires-clause-last
places_of-requires-clause-last c =
    let nodes = c.requires.nodes in
    let rows = c.requires.rows in omega (arith, nodes, rows)

pub keys_of-requires-clause-near : goal.keys_of-requires-clause-near
keys_of-requires-clause-near c =
    subst (All (IsNode c.args.nodes)) (sym c.near_at.ensures)
    (c.requires.memories.nodes_are (c.nodes.index + 1) (omega arith, omega (arith, c.nodes-test.true)))

-- there is only a place 0 at first
pub nodes-init : goal.nodes-init
nodes-init c =
    let pushed = ap (λ (xs : List (Vec MemoryKey)). length xs) c.in_ok-push.ensures.items in
    let none = ap (λ (xs : List (Vec MemoryKey)). length xs) c.in_ok-keys.ensures.items in
    let pushed_places = ap (λ (xs : List (Vec ℕ)). length xs) c.in_ok-push-2.ensures.items in
    let no_places = ap (λ (xs : List (Vec ℕ)). length xs) c.in_ok-places.ensures.items in
    let long : length c.push.new.list.items ≡ 1 = omega (arith, length-append {A = Vec MemoryKey}, pushed, none) in
    record {
      long = long;
      tables = record {
        as_many = omega (arith, length-append {A = Vec ℕ}, pushed_places, no_places, long);
        keys_are = λ node some lt. absurd (omega (arith, some, lt, long));
        places_are = λ node some lt. absurd (omega (arith, some, lt, long));
      };
    }

pub invariant_of-result : goal.invariant_of-result
invariant_of-result c =
    let end : c.nodes.index ≡ c.args.nodes = omega (arith, c.nodes-test.false, c.nodes.auto.index-end) in
    let long = c.nodes.invariant.long in
    record {
      tables = tables_are c.args.nodes (near_in c.args.near.now) c.args.rows.now c.nodes.keys.items c.nodes.places.items c.requires.nodes
          c.requires.rows c.requires.memories c.nodes.invariant.tables (omega (arith, end, long));
    }
