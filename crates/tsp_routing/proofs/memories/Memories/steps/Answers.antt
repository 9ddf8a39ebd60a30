-- The goals of `steps` in src/memories.rt, which makes the steps of all keys: what its call requires, its loop and what it
-- ensures.
use Rattle.tsp_routing.proofs.Prelude.{◌≡◌, ◌≤◌, ◌<◌, ◌+◌, ◌++◌, ℕ, ℤ, List, [], ◌∷◌, map, drop, length, get_or, ap, ap₂, subst, sym, ◌∙◌, arith, append-nil, drop_all, All, All-get_or}
use Rattle.tsp_routing.specs.declared.memories.MemoryKey.{MemoryKey}
use Rattle.tsp_routing.specs.declared.memories.StepKey.{StepKey}
use Rattle.tsp_routing.specs.states.MemoryTables.{keys_in, key_places_in, IsKeyIn, step_key_of}
use Rattle.tsp_routing.proofs.RunSteps.{step_pushed}
use Rattle.tsp_routing.proofs.memories.Memories.steps.Goals as goal

-- plan: key by key
pub step_key-key-requires-clause-key : goal.step_key-key-requires-clause-key
step_key-key-requires-clause-key c =
    let self = c.args.self.now in
    let keys : List MemoryKey = c.keys-keys.result.now in
    let own : MemoryKey = c.key_at.result in
    subst (λ (k : ℕ). IsKeyIn self.nodes k own) (sym c.requires.charges)
    (subst (IsKeyIn self.nodes self.count) (sym (c.key_at.ensures own))
    (All-get_or (IsKeyIn self.nodes self.count) keys c.keys.index own c.keys-test.true
    (subst (All (IsKeyIn self.nodes self.count)) (sym c.keys-keys.ensures) (self.tables.are c.args.next c.requires.next))))

pub step_key-key-requires-clause-places : goal.step_key-key-requires-clause-places
step_key-key-requires-clause-places c =
    let self = c.args.self.now in
    let long = self.tables.long c.args.last c.requires.last in
    let same = ap (λ (xs : List ℕ). length xs) c.places-places.ensures in
    omega (arith, long, same, c.requires.charges)

pub keys-preserved : goal.keys-preserved
keys-preserved c =
    step_pushed c.keys.steps.items _ _ (step_key_of c.args.self.now.nodes c.args.charges.now c.places-places.result.now c.args.last)
    c.keys-keys.result.now c.keys.index c.key_at.result c.keys-test.true (c.key_at.ensures c.key_at.result)
    (c.in_ok-push.ensures.items ∙ ap (λ (step : StepKey). c.keys.steps.items ++ step ∷ []) c.step_key-key.ensures) c.keys.invariant

pub returns : goal.returns
returns c =
    let self = c.args.self.now in
    let keys : List MemoryKey = c.keys-keys.result.now in
    let f = step_key_of self.nodes c.args.charges.now c.places-places.result.now c.args.last in
    sym (ap (λ (xs : List MemoryKey). c.keys.steps.items ++ map f xs) (drop_all c.keys.index keys c.keys-test.false)
    ∙ append-nil c.keys.steps.items)
    ∙ (c.keys.invariant
    ∙ ap₂ (λ (places : List ℕ) (xs : List MemoryKey). map (step_key_of self.nodes c.args.charges.now places c.args.last) xs)
    c.places-places.ensures c.keys-keys.ensures)
