-- For src/run_steps.rt: the entry of a next state, or none, by whether the run has seen the customer, and by the
-- completion; and entries from which nothing goes on, so that they can be passed over.
use Rattle.tsp_format.specs.Steps.{SubsetRow}
use Rattle.tsp_routing.proofs.KeptStarts.{pays, completions_tell_kept_states}
use Rattle.tsp_routing.proofs.MemoryWords.{at_node}
use Rattle.tsp_routing.proofs.Prelude.{◌≡◌, ◌≢◌, ℕ, ◌+◌, ◌≤◌, Bool, true, false, sym, ap, ◌∙◌, subst, arith, Some, None, ℤ, pos, ◌+ℤ◌, ◌≤ℤ◌, ◌<ℤ◌, both_ways, ints, recursion_from_All, IsCustomer, List, ◌-ℤ◌}
use Rattle.tsp_routing.specs.KeptStates.{IsCompletion}
use Rattle.tsp_routing.specs.Memories.{told, Remembers}
use Rattle.tsp_routing.specs.Runs.{RunRules, RunState, next_state, MayServe, charged, AreCharges}
use Rattle.tsp_routing.specs.Starts.{step_weight}
use Rattle.tsp_routing.specs.declared.kept_states.KeptState.{KeptState}
use Rattle.tsp_routing.specs.declared.run_leaf.RunLeaf.{RunLeaf}
use Rattle.tsp_routing.specs.states.Demands.{load_at}
use Rattle.tsp_routing.specs.states.KeptLists.{IsNextEntry, rules_of, IsLeafOf}
use Rattle.tsp_routing.specs.states.RunTables.{link_in, home_in}

-- no way home ends below the limit, even if the step pays nothing
pub none_at_first : (rules : RunRules) (limit : ℤ) (state : RunState) (weight link home : ℤ) (next : ℕ) → AreCharges rules.rows
    → rules.weight state.last next ≡ link → IsCompletion rules (state.load + rules.load next) next home
    → limit ≤ℤ ((weight +ℤ (link +ℤ pos 0)) +ℤ home) → IsNextEntry rules limit state weight next None
none_at_first rules limit state weight link home next signs link_is completion beyond = λ may kept.
    let under = (completions_tell_kept_states rules limit (next_state rules state next) (weight +ℤ step_weight rules state next) home
    completion).0 kept in
    let low = pays rules.rows state next (recursion_from_All (λ (priced : SubsetRow × ℤ). pos 0 ≤ℤ priced.1) rules.rows signs) in
    omega (arith, ints, under, low, link_is, beyond)

-- the run has seen the customer
pub none_if_seen : (rules : RunRules) (limit : ℤ) (state : RunState) (weight : ℤ) (next : ℕ) (is_told : Bool) → next ≤ rules.nodes
    → is_told ≡ told rules.nodes rules.rows state next → is_told ≡ true → IsNextEntry rules limit state weight next None
none_if_seen rules limit state weight next is_told node is seen = λ may kept.
    both_ways (state.seen next) may.unseen (sym (at_node rules.nodes rules.rows state next node) ∙ (sym is ∙ seen))

-- no way home ends below the limit
pub none_at_last : (rules : RunRules) (limit : ℤ) (state : RunState) (weight link charge home : ℤ) (next : ℕ)
    → rules.weight state.last next ≡ link → charge ≡ charged rules state next
    → IsCompletion rules (state.load + rules.load next) next home
    → limit ≤ℤ ((weight +ℤ (link +ℤ charge)) +ℤ home) → IsNextEntry rules limit state weight next None
none_at_last rules limit state weight link charge home next link_is charge_is completion beyond = λ may kept.
    let under = (completions_tell_kept_states rules limit (next_state rules state next) (weight +ℤ step_weight rules state next) home
    completion).0 kept in
    omega (arith, ints, under, link_is, charge_is, beyond)

-- the entry
pub next_is : (rules : RunRules) (limit : ℤ) (state : RunState) (weight link charge home : ℤ) (next : ℕ) (is_told : Bool)
    (entry : KeptState) → IsCustomer rules.nodes rules.depot next → state.last ≢ next → state.load + rules.load next ≤ rules.room
    → is_told ≡ told rules.nodes rules.rows state next → is_told ≡ false
    → rules.weight state.last next ≡ link → charge ≡ charged rules state next
    → IsCompletion rules (state.load + rules.load next) next home
    → ((weight +ℤ (link +ℤ charge)) +ℤ home) <ℤ limit → Remembers rules (next_state rules state next) entry.word
    → entry.weight ≡ weight +ℤ (link +ℤ charge) → IsNextEntry rules limit state weight next (Some entry)
next_is rules limit state weight link charge home next is_told entry customer other within is unseen link_is charge_is completion under
    remembers weight_is =
    let may : MayServe rules state next = record {
      customer = customer;
      other = other;
      unseen = sym (at_node rules.nodes rules.rows state next customer.0.1) ∙ (sym is ∙ unseen);
      within = within;
    } in (
      may,
      remembers,
      omega (arith, ints, weight_is, link_is, charge_is),
      (completions_tell_kept_states rules limit (next_state rules state next) entry.weight home completion).1
          (omega (arith, ints, under, weight_is)),
    )

-- ---- entries that can be passed over

-- no way home ends below the limit, even if the step pays nothing
pub none_beyond : (leaf : RunLeaf) (near : ℕ → List ℕ) (rows : List (SubsetRow × ℤ)) (state : RunState) (weight most link home : ℤ)
    (before last left : ℕ) → IsLeafOf leaf near rows → state.last ≡ before
    → state.load + load_at leaf.nodes.now.loads.now last + left ≡ leaf.nodes.now.room
    → IsCustomer leaf.nodes.now.nodes leaf.nodes.now.depot last → left ≤ leaf.nodes.now.room
    → link ≡ link_in leaf.nodes.now.rows.now before last → home ≡ home_in leaf.homes.now left last
    → most ≡ (leaf.limit -ℤ link) -ℤ home → most ≤ℤ weight → IsNextEntry (rules_of leaf near rows) leaf.limit state weight last None
none_beyond leaf near rows state weight most link home before last left leaf_of at full customer fits link_is home_is most_is beyond =
    let rules = rules_of leaf near rows in
    let own : rules.weight state.last last ≡ link = ap (λ (v : ℕ). link_in leaf.nodes.now.rows.now v last) at ∙ sym link_is in
    let completion : IsCompletion rules (state.load + load_at leaf.nodes.now.loads.now last) last home =
    subst (IsCompletion rules (state.load + load_at leaf.nodes.now.loads.now last) last) (sym home_is)
    (leaf_of.homes left (omega (arith, leaf.long, fits)) (state.load + load_at leaf.nodes.now.loads.now last) last full customer) in
    none_at_first rules leaf.limit state weight link home last leaf_of.signs own completion (omega (arith, ints, most_is, beyond))
