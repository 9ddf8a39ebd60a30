-- The goals of `next_row` in src/least_q_route.rt, which makes the row of the next load: its loop and what it ensures.
use Rattle.tsp_routing.proofs.Prelude.{◌≡◌, ◌+◌, ◌*◌, ◌∙◌, ℕ, List, [], ◌∷◌, ◌++◌, length, subst, sym, ap, arith, length-append, All, All-push, All-from_recursion, IsCustomer}
use Rattle.tsp_routing.specs.QRoutes.{IsLow, IsMet}
use Rattle.tsp_routing.specs.declared.least_q_route.Onward.{Onward}
use Rattle.tsp_routing.specs.states.Demands.{load_at, onward_entry, entry_at, IsEntrySized}
use Rattle.tsp_routing.proofs.QRouteRests.{entry_pushed}
use Rattle.tsp_routing.proofs.least_q_route.next_row.Goals as goal

-- plan: the entries so far are those of the nodes so far, each by the rows of smaller loads
pub nodes-init : goal.nodes-init
nodes-init g c =
    let value = g.S.Sum.value in
    let size : ℕ = (length c.args.table.now + 1) * g.S.Sum.link in
    let P : Onward g.row.S.Denot → Type 0 = λ onward. IsEntrySized g.S.Sum.half size (onward_entry value onward) in
    let is : c.push.new.list.items ≡ c.nowhere.result ∷ [] =
    c.in_ok-push.ensures.items ∙ ap (λ xs. xs ++ c.nowhere.result ∷ []) c.in_ok-next.ensures.items in
    record {
      long = ap (λ xs. length xs) is;
      room = c.requires.room;
      low = λ rows node default customer high. absurd (omega (arith, customer.0.0, high));
      met = λ rows node default customer high. absurd (omega (arith, customer.0.0, high));
      sizes = subst (All P) (sym is) (All-from_recursion P (c.nowhere.result ∷ []) (c.nowhere.ensures.size size, tt));
    }

pub nodes-preserved : goal.nodes-preserved
nodes-preserved g c =
    let value = g.S.Sum.value in
    let half : ℕ = g.S.Sum.half in
    let n : ℕ = c.args.q_routes.now.nodes in
    let depot : ℕ = c.args.q_routes.now.depot in
    let w = g.W.Weights.at c.args.q_routes.now.weights.now in
    let load = load_at c.args.q_routes.now.loads.now in
    let left : ℕ = length c.args.table.now in
    let entries : List (Onward g.row.S.Denot) = c.nodes.next.items in
    let own : Onward g.row.S.Denot = c.entry-entry.result in
    let pushed : c.push-in-nodes.new.list.items ≡ entries ++ own ∷ [] = c.in_ok-push-2.ensures.items in
    let long = length-append entries (own ∷ []) in
    let P : Onward g.row.S.Denot → Type 0 = λ onward. IsEntrySized half ((left + 1) * g.S.Sum.link) (onward_entry value onward) in
    let h = c.nodes.invariant in
    record {
      long = ap (λ xs. length xs) pushed ∙ omega (arith, long, h.long);
      room = c.entry-entry.ensures.room ∙ h.room;
      low = λ rows node default customer high.
          subst (λ (xs : List (Onward g.row.S.Denot)). IsLow n depot w load left node (entry_at value xs default node)) (sym pushed)
          (entry_pushed (IsCustomer n depot) (λ k onward. IsLow n depot w load left k (onward_entry value onward)) entries own
          c.nodes.index h.long (h.low rows) (λ other. c.entry-entry.ensures.low rows other) node default customer high);
      met = λ rows node default customer high.
          subst (λ (xs : List (Onward g.row.S.Denot)). IsMet half n depot w load left node (entry_at value xs default node)) (sym pushed)
          (entry_pushed (IsCustomer n depot) (λ k onward. IsMet half n depot w load left k (onward_entry value onward)) entries own
          c.nodes.index h.long (h.met rows) (λ other. c.entry-entry.ensures.met rows other) node default customer high);
      sizes = subst (All P) (sym pushed) (All-push P entries own h.sizes c.entry-entry.ensures.size);
    }

pub returns-clause-low : goal.returns-clause-low
returns-clause-low g c = λ rows node default customer.
    c.nodes.invariant.low rows node default customer (omega (arith, customer.0.1, c.nodes-test.false))

pub returns-clause-met : goal.returns-clause-met
returns-clause-met g c = λ rows node default customer.
    c.nodes.invariant.met rows node default customer (omega (arith, customer.0.1, c.nodes-test.false))
