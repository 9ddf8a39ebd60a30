-- The loop of `start_by` in src/least_q_route.rt.
use Rattle.tsp_routing.proofs.Prelude.{◌≡◌, ◌<◌, ◌≤◌, ℕ, ◌+◌, ℤ, ◌+ℤ◌, ◌≤ℤ◌, IsNode, IsCustomer, least_at}
use Rattle.tsp_routing.specs.QRoutes.{IsStartMet}
use Rattle.tsp_routing.specs.declared.least_q_route.Onward.{Onward}
use Rattle.tsp_routing.specs.states.Demands.{entry_at, IsEntryNumber, IsRowSized}
use Rattle.tsp_routing.proofs.least_q_route.start_by.Given as goal

-- `least` is at most what a step from the depot to each customer up to `index` weighs with its entry. One of them
-- weighs that, or there is none
abbrev pub invariant-nodes : goal.invariant-nodes
invariant-nodes g l =
    let value = g.S.Sum.value in
    let half : ℕ = g.S.Sum.half in
    let link : ℕ = g.S.Sum.link in
    record {
      below : (next : ℕ) (default : Onward g.row.S.Denot) → IsCustomer l.q_routes.nodes l.q_routes.depot next → next ≤ l.index
          → value l.least ≤ℤ (least_at l.row next +ℤ (entry_at value l.known default next).least);
      met : (w : ℕ → ℕ → ℤ) (default : Onward g.row.S.Denot)
          → ((next : ℕ) → IsNode l.q_routes.nodes next → least_at l.row next ≡ w l.q_routes.depot next)
          → IsStartMet half l.q_routes.nodes l.q_routes.depot w (entry_at value l.known default) (value l.least);
      size : (size : ℕ) → size + link < half → IsRowSized value half l.q_routes.nodes size l.known
          → IsEntryNumber half (size + link) (value l.least);
    }
