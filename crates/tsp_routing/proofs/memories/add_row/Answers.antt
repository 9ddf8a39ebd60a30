-- The goals of `add_row` in src/memories.rt, which adds the key of a row: what its call requires and what it ensures.
use Rattle.tsp_routing.proofs.Prelude.{◌≡◌, ◌++◌, ℕ, Bool, true, false, List, [], ◌∷◌, ap, sym, ◌∙◌, rules, append-nil, has}
use Rattle.tsp_routing.specs.declared.memories.MemoryKey.{MemoryKey}
use Rattle.tsp_routing.proofs.GivenTables.{not_kept, is_kept}
use Rattle.tsp_routing.proofs.memories.add_row.Goals as goal

-- plan: by whether the customer keeps the row
pub is_kept-requires : goal.is_kept-requires
is_kept-requires c = c.has_node-is_member.ensures ∙ ap (λ (xs : List ℕ). has xs c.args.node) c.deref.ensures.value

pub returns-then-not-is_kept : goal.returns-then-not-is_kept
returns-then-not-is_kept c =
    let off : c.is_kept.result ≡ false = search rules in
    let keys : List MemoryKey = c.args.keys.now.items in
    sym (ap (λ (xs : List MemoryKey). keys ++ xs) (not_kept c.args.key c.args.row.now c.args.node (sym c.is_kept.ensures ∙ off)) ∙ append-nil keys)

pub returns : goal.returns
returns c =
    let on : c.is_kept.result ≡ true = search rules in
    let keys : List MemoryKey = c.args.keys.now.items in
    let is : c.has_node-is_member.result ≡ has c.args.row.now.set.items c.args.node =
    c.has_node-is_member.ensures ∙ ap (λ (xs : List ℕ). has xs c.args.node) c.deref.ensures.value in
    c.in_ok-push.ensures.items
    ∙ (ap (λ (b : Bool). keys ++ record { key = c.args.key; is_member = b } ∷ []) is
    ∙ sym (ap (λ (xs : List MemoryKey). keys ++ xs) (is_kept c.args.key c.args.row.now c.args.node (sym c.is_kept.ensures ∙ on))))
