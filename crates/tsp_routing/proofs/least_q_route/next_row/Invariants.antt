-- The loop of `next_row` in src/least_q_route.rt.
use Rattle.tsp_routing.proofs.Prelude.{◌≡◌, ◌≤◌, ◌+◌, ◌*◌, ℕ, length, All, IsCustomer}
use Rattle.tsp_routing.specs.QRoutes.{IsLow, IsMet}
use Rattle.tsp_routing.specs.declared.least_q_route.Onward.{Onward}
use Rattle.tsp_routing.specs.states.Demands.{load_at, onward_entry, entry_at, IsEntrySized, AreRowsLow, AreRowsMet}
use Rattle.tsp_routing.proofs.least_q_route.next_row.Given as goal

-- if the rows before are right, so are the entries of this row for the customers up to `index`
abbrev pub invariant-nodes : goal.invariant-nodes
invariant-nodes g l =
    let value = g.S.Sum.value in
    let half : ℕ = g.S.Sum.half in
    let n : ℕ = l.q_routes.nodes in
    let depot : ℕ = l.q_routes.depot in
    let w = g.W.Weights.at l.q_routes.weights.now in
    let load = load_at l.q_routes.loads.now in
    record {
      long : length l.next.items ≡ l.index + 1;
      room : length l.row ≡ n + 1;
      low : AreRowsLow value n depot w load l.table → (node : ℕ) (default : Onward g.row.S.Denot) → IsCustomer n depot node → node ≤ l.index
          → IsLow n depot w load (length l.table) node (entry_at value l.next.items default node);
      met : AreRowsMet value half n depot w load l.table → (node : ℕ) (default : Onward g.row.S.Denot) → IsCustomer n depot node
          → node ≤ l.index → IsMet half n depot w load (length l.table) node (entry_at value l.next.items default node);
      sizes : All (λ onward. IsEntrySized half ((length l.table + 1) * g.S.Sum.link) (onward_entry value onward)) l.next.items;
    }
