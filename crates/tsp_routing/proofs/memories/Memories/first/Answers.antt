-- The goals of `first` in src/memories.rt, which makes the memory after the first customer: its loop and what it ensures.
use Rattle.tsp_routing.proofs.Prelude.{◌≡◌, ◌≤◌, ◌<◌, ◌+◌, ◌-◌, ◌*◌, ◌^◌, ℕ, Bool, List, [], ◌∷◌, map, drop, length, get_or, refl, ap, ap₂, subst, sym, ◌∙◌, arith, if◌then◌else◌, length-map, length-drop, drop_more, drop_all, get_or_read, recursion_from_All, IsNode}
use Rattle.tsp_routing.specs.Runs.{first_state}
use Rattle.tsp_routing.specs.Memories.{memory_word, is_member_of, told, memory_of}
use Rattle.tsp_routing.specs.declared.memories.MemoryKey.{MemoryKey}
use Rattle.tsp_routing.specs.states.MemoryTables.{keys_in}
use Rattle.tsp_routing.proofs.MemoryWords.{word_below, first_bits, first_remembers}
use Rattle.tsp_routing.proofs.memories.Memories.first.Goals as goal

-- plan: one bit more below the others, from the last key to the first
pub with_bit-word-requires : goal.with_bit-word-requires
with_bit-word-requires c =
    let keys : List MemoryKey = c.keys-keys.result.now in
    let few = c.args.self.now.tables.few c.args.customer c.requires in
    let long = ap (λ (xs : List MemoryKey). length xs) c.keys-keys.ensures in
    let rest : List MemoryKey = drop (length keys - c.bits.index) keys in
    let left = length-drop (length keys - c.bits.index) keys in
    let bits = length-map rest (λ (key : MemoryKey). key.is_member) in
    subst (λ (n : ℕ). n < 2 ^ 63) (sym c.bits.invariant)
    (word_below (map (λ (key : MemoryKey). key.is_member) rest) 63 (omega (arith, few, long, left, bits, c.bits-test.true)))

pub bits-preserved : goal.bits-preserved
bits-preserved c =
    let keys : List MemoryKey = c.keys-keys.result.now in
    let own : MemoryKey = c.key_from_last-key.result in
    let at : ℕ = length keys - 1 - c.bits.index in
    let lt : at < length keys = omega (arith, c.bits-test.true) in
    let next : length keys - (c.bits.index + 1) ≡ at = omega arith in
    let rest : at + 1 ≡ length keys - c.bits.index = omega (arith, c.bits-test.true) in
    let split : drop (length keys - (c.bits.index + 1)) keys ≡ own ∷ drop (length keys - c.bits.index) keys =
    ap (λ (n : ℕ). drop n keys) next
    ∙ (drop_more keys at own lt
    ∙ ap₂ (λ (key : MemoryKey) (n : ℕ). key ∷ drop n keys) (sym (c.key_from_last-key.ensures own)) rest) in
    c.with_bit-word.ensures
    ∙ (ap (λ (n : ℕ). (if own.is_member then 1 else 0) + 2 * n) c.bits.invariant
    ∙ sym (ap (λ (xs : List MemoryKey). memory_word (map (λ (key : MemoryKey). key.is_member) xs)) split))

pub returns : goal.returns
returns c = λ rules same are.
    let keys : List MemoryKey = c.keys-keys.result.now in
    let node : IsNode rules.nodes c.args.customer = subst (λ (k : ℕ). IsNode k c.args.customer) (sym same) c.requires in
    let none : length keys - c.bits.index ≡ 0 = omega (arith, c.bits-test.false) in
    let all : drop (length keys - c.bits.index) keys ≡ keys = ap (λ (n : ℕ). drop n keys) none in
    let list : List MemoryKey = keys_in c.args.self.now.keys.items c.args.customer in
    let members : map (λ (key : MemoryKey). key.is_member) (drop (length keys - c.bits.index) keys)
    ≡ map (λ (key : MemoryKey). key.is_member) list =
    ap (λ (xs : List MemoryKey). map (λ (key : MemoryKey). key.is_member) xs) (all ∙ c.keys-keys.ensures) in
    let bits = first_bits rules c.args.customer list
    (recursion_from_All (λ (key : MemoryKey). key.is_member ≡ is_member_of rules.nodes rules.rows c.args.customer key.key) list
    (are.members_are c.args.customer node)) in
    let keyed = ap (λ (ks : List ℕ). map (told rules.nodes rules.rows (first_state rules c.args.customer)) ks) (are.keys_are c.args.customer node) in
    let bits_are : map (λ (key : MemoryKey). key.is_member) (drop (length keys - c.bits.index) keys)
    ≡ memory_of rules (first_state rules c.args.customer) = members ∙ (bits ∙ keyed) in
    first_remembers rules c.args.customer c.bits.word (c.bits.invariant ∙ ap (λ (bits : List Bool). memory_word bits) bits_are)
