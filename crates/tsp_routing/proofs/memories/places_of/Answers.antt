-- The goals of `places_of` in src/memories.rt, which finds the place of each key: its loop and what it ensures.
use Rattle.tsp_routing.proofs.Prelude.{◌≡◌, ◌≤◌, ◌<◌, ◌+◌, ℕ, List, map, take, length, get_or, false, refl, sym, ap, ◌∙◌, subst, arith, inl, length-map, length-set, length-replicate, get_or-replicate, get_or-map, take_all, All-get_or}
use Rattle.tsp_routing.specs.declared.memories.MemoryKey.{MemoryKey}
use Rattle.tsp_routing.specs.states.MemoryTables.{ArePlacesTo}
use Rattle.tsp_routing.proofs.GivenTables.{place_goes_on}
use Rattle.tsp_routing.proofs.memories.places_of.Goals as goal

-- plan: no key has a place; then one after the other has its own
pub keys-preserved : goal.keys-preserved
keys-preserved c =
    let keys : List MemoryKey = c.args.keys.now in
    let list : List ℕ = map (λ (key : MemoryKey). key.key) keys in
    let places : List ℕ = c.keys.places.items in
    let index : ℕ = c.keys.index in
    let last : ℕ = c.key_number_at-key.result in
    let h = c.keys.invariant in
    let long = length-map keys (λ (key : MemoryKey). key.key) in
    let lt : index < length keys = omega (arith, c.keys-test.true) in
    let other : MemoryKey = record { key = 0; is_member = false } in
    let few : (get_or keys index other).key ≤ c.args.last =
    All-get_or (λ (key : MemoryKey). key.key ≤ c.args.last) keys index other lt c.requires.keys in
    let is = c.key_number_at-key.ensures other in
    let at : last ≡ get_or list index 0 = is ∙ sym (get_or-map (λ (key : MemoryKey). key.key) keys index other 0 lt) in
    record {
      long = length-set places last _ ∙ h.long;
      each = λ key most. place_goes_on list places index key last (omega (arith, lt, long)) at (omega (arith, is, few, h.long)) (h.each key most);
    }

pub index_mut-requires : goal.index_mut-requires
index_mut-requires c =
    let keys : List MemoryKey = c.args.keys.now in
    let index : ℕ = c.keys.index in
    let other : MemoryKey = record { key = 0; is_member = false } in
    let few : (get_or keys index other).key ≤ c.args.last =
    All-get_or (λ (key : MemoryKey). key.key ≤ c.args.last) keys index other (omega (arith, c.keys-test.true)) c.requires.keys in
    let is = c.key_number_at-key.ensures other in
    let long = c.keys.invariant.long in
    omega (arith, is, few, long)

pub returns : goal.returns
returns c =
    let keys : List MemoryKey = c.args.keys.now in
    let end : c.keys.index ≡ length keys = omega (arith, c.keys-test.false, c.keys.auto.index-end) in
    subst (λ (n : ℕ). ArePlacesTo (map (λ (key : MemoryKey). key.key) keys) n c.args.last c.keys.places.items) end c.keys.invariant
