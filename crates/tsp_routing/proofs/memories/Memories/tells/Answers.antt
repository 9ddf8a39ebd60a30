-- The goals of `tells` in src/memories.rt, which reads one thing of a memory: what it ensures.
use Rattle.tsp_routing.proofs.Prelude.{◌≡◌, ◌≤◌, ℕ, Bool, List, map, length, get_or, false, ap, subst, sym, ◌∙◌, arith, length-map, IsNode}
use Rattle.tsp_routing.specs.Memories.{keys_of, told, memory_of}
use Rattle.tsp_routing.specs.declared.memories.MemoryKey.{MemoryKey}
use Rattle.tsp_routing.specs.states.MemoryTables.{keys_in, IsKeyPlace}
use Rattle.tsp_routing.proofs.MemoryWords.{place_tells}
use Rattle.tsp_routing.proofs.memories.Memories.tells.Goals as goal

-- plan: the bit of the key is what the state tells of it; a key without a bit is nothing that the state tells
pub returns : goal.returns
returns c = λ rules state same are remembers at.
    let self = c.args.self.now in
    let node : IsNode rules.nodes c.args.last = subst (λ (k : ℕ). IsNode k c.args.last) (sym same) c.requires.last in
    let keys : List ℕ = keys_of rules.nodes rules.near rules.rows c.args.last in
    let key_list : List MemoryKey = keys_in self.keys.items c.args.last in
    let as_many = ap (λ (xs : List ℕ). length xs) (are.keys_are c.args.last node) in
    let as_long = length-map key_list (λ (key : MemoryKey). key.key) in
    let fewest = self.tables.few c.args.last c.requires.last in
    let few : length (keys_of rules.nodes rules.near rules.rows state.last) ≤ 64 =
    subst (λ (v : ℕ). length (keys_of rules.nodes rules.near rules.rows v) ≤ 64) (sym at) (omega (arith, as_many, as_long, fewest)) in
    let bits_few = length-map (keys_of rules.nodes rules.near rules.rows state.last) (told rules.nodes rules.rows state) in
    let place : IsKeyPlace (keys_of rules.nodes rules.near rules.rows state.last) c.place.result c.args.key =
    subst (λ (v : ℕ). IsKeyPlace (keys_of rules.nodes rules.near rules.rows v) c.place.result c.args.key) (sym at)
    (subst (λ (k : ℕ). IsKeyPlace keys k c.args.key) (sym c.place.ensures)
    (are.places_are c.args.last c.args.key node (omega (arith, c.requires.key, same)))) in
    c.has_bit.ensures (memory_of rules state) (omega (arith, bits_few, few)) remembers.is
    ∙ place_tells rules state c.args.word c.args.key c.place.result remembers few place
