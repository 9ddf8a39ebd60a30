-- The loop of `entry_with` in src/least_q_route.rt.
use Rattle.tsp_routing.proofs.Prelude.{◌≡◌, ◌<◌, ◌≤◌, ℕ, ◌+◌, ℤ, ◌≤ℤ◌, IsNode, least_at}
use Rattle.tsp_routing.specs.QRoutes.{IsEntryBelowTo, IsEntryMetTo}
use Rattle.tsp_routing.specs.declared.least_q_route.Onward.{Onward}
use Rattle.tsp_routing.specs.states.Demands.{onward_entry, entry_at, IsEntrySized, IsRowSized}
use Rattle.tsp_routing.proofs.least_q_route.entry_with.Given as goal

-- if `begun` is the entry by steps to the depot and to customers up to `after`, `best` is that by steps up to `index`
abbrev pub invariant-nodes : goal.invariant-nodes
invariant-nodes g l =
    let value = g.S.Sum.value in
    let half : ℕ = g.S.Sum.half in
    let link : ℕ = g.S.Sum.link in
    let n : ℕ = l.q_routes.nodes in
    let depot : ℕ = l.q_routes.depot in
    record {
      above : l.after ≤ l.index;
      below : (w : ℕ → ℕ → ℤ) (default : Onward g.row.S.Denot)
          → ((next : ℕ) → IsNode n next → least_at l.row next ≡ w l.node next)
          → IsEntryBelowTo n depot w (entry_at value l.known default) l.node l.after (onward_entry value l.fn.begun)
          → IsEntryBelowTo n depot w (entry_at value l.known default) l.node l.index (onward_entry value l.best);
      met : (w : ℕ → ℕ → ℤ) (default : Onward g.row.S.Denot)
          → ((next : ℕ) → IsNode n next → least_at l.row next ≡ w l.node next)
          → IsEntryMetTo half n depot w (entry_at value l.known default) l.node l.after (onward_entry value l.fn.begun)
          → IsEntryMetTo half n depot w (entry_at value l.known default) l.node l.index (onward_entry value l.best);
      size : (size : ℕ) → size + link < half → IsRowSized value half n size l.known
          → IsEntrySized half (size + link) (onward_entry value l.fn.begun)
          → IsEntrySized half (size + link) (onward_entry value l.best);
      order : value l.best.least ≤ℤ value l.best.other;
    }
