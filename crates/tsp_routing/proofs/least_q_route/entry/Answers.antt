-- The goals of `entry` in src/least_q_route.rt, which finds the entry of a node for the next load: that an index is in
-- range, what its call requires and what it ensures.
use Rattle.tsp_routing.proofs.Prelude.{◌≡◌, ◌+◌, ◌-◌, ◌*◌, ◌<◌, ◌∙◌, ℕ, length, get_or, ap, subst, sym, arith, Vec}
use Rattle.tsp_routing.specs.declared.least_q_route.Onward.{Onward}
use Rattle.tsp_routing.specs.states.Demands.{load_at, onward_entry, entry_at, IsRowSized, IsRowLow, IsRowMet}
use Rattle.tsp_routing.proofs.QRouteRests.{links_more, links_up, entry_up, nowhere_low, entry_low, entry_met, nowhere_met}
use Rattle.tsp_routing.proofs.least_q_route.entry.Goals as goal

-- plan: no walk goes to the depot, or to a load above what is left; else the best entry by those of the next nodes
pub returns-then-node-q_routes-clause-low : goal.returns-then-node-q_routes-clause-low
returns-then-node-q_routes-clause-low g c = λ rows customer. absurd (customer.1 c.if-node-q_routes.true)

pub returns-then-node-q_routes-clause-met : goal.returns-then-node-q_routes-clause-met
returns-then-node-q_routes-clause-met g c = λ rows customer. absurd (customer.1 c.if-node-q_routes.true)

pub returns-then-load-table-clause-low : goal.returns-then-load-table-clause-low
returns-then-load-table-clause-low g c = λ rows customer.
    nowhere_low c.args.q_routes.now.nodes c.args.q_routes.now.depot (g.W.Weights.at c.args.q_routes.now.weights.now)
    (load_at c.args.q_routes.now.loads.now) (length c.args.table.now) c.args.node
    (onward_entry g.S.Sum.value c.nowhere-then-load-table.result) (λ le. omega (arith, le, c.if-load-table.true))

pub returns-then-load-table-clause-met : goal.returns-then-load-table-clause-met
returns-then-load-table-clause-met g c = λ rows customer.
    let fits = g.met.S.Sum.fits 0 (omega arith) in
    nowhere_met g.S.Sum.half c.args.q_routes.now.nodes c.args.q_routes.now.depot (g.W.Weights.at c.args.q_routes.now.weights.now)
    (load_at c.args.q_routes.now.loads.now) (length c.args.table.now) c.args.node
    (onward_entry g.S.Sum.value c.nowhere-then-load-table.result) (omega (arith, fits)) c.nowhere-then-load-table.ensures.least
    c.nowhere-then-load-table.ensures.other

pub bounds-table-table : goal.bounds-table-table
bounds-table-table g c =
    let some = c.args.q_routes.now.some c.args.node (c.requires.node, c.if-node-q_routes.false) in
    omega (arith, some, c.if-load-table.false)

pub weighed_entry-requires-clause-sizes : goal.weighed_entry-requires-clause-sizes
weighed_entry-requires-clause-sizes g c =
    let value = g.S.Sum.value in
    let half : ℕ = g.S.Sum.half in
    let link : ℕ = g.S.Sum.link in
    let n : ℕ = c.args.q_routes.now.nodes in
    let depot : ℕ = c.args.q_routes.now.depot in
    let w = g.W.Weights.at c.args.q_routes.now.weights.now in
    let load = load_at c.args.q_routes.now.loads.now in
    let some = c.args.q_routes.now.some c.args.node (c.requires.node, c.if-node-q_routes.false) in
    let left : ℕ = length c.args.table.now - load c.args.node in
    let lt : left < length c.args.table.now = omega (arith, some, c.if-load-table.false) in
    let is : c.as_slice-known.result.now ≡ (get_or c.args.table.now left c.index-table-table.result).items =
    c.as_slice-known.ensures.value ∙ ap (λ (v : Vec (Onward g.row.S.Denot)). v.items) c.index-table-table.is in (
      (left + 1) * link,
      g.met.S.Sum.fits (left + 1) (omega (arith, lt, c.requires.few)),
      subst (IsRowSized value half n ((left + 1) * link)) (sym is) (c.requires.sizes left c.index-table-table.result lt),
    )

pub returns-clause-low : goal.returns-clause-low
returns-clause-low g c = λ rows customer.
    let value = g.S.Sum.value in
    let half : ℕ = g.S.Sum.half in
    let link : ℕ = g.S.Sum.link in
    let n : ℕ = c.args.q_routes.now.nodes in
    let depot : ℕ = c.args.q_routes.now.depot in
    let w = g.W.Weights.at c.args.q_routes.now.weights.now in
    let load = load_at c.args.q_routes.now.loads.now in
    let some = c.args.q_routes.now.some c.args.node (c.requires.node, c.if-node-q_routes.false) in
    let left : ℕ = length c.args.table.now - load c.args.node in
    let lt : left < length c.args.table.now = omega (arith, some, c.if-load-table.false) in
    let is : c.as_slice-known.result.now ≡ (get_or c.args.table.now left c.index-table-table.result).items =
    c.as_slice-known.ensures.value ∙ ap (λ (v : Vec (Onward g.row.S.Denot)). v.items) c.index-table-table.is in
    let low : IsRowLow value n depot w load left c.as_slice-known.result.now =
    subst (IsRowLow value n depot w load left) (sym is) (rows left c.index-table-table.result lt) in
    let zero : Onward g.row.S.Denot = c.weighed_entry.result in
    entry_low n depot w load (length c.args.table.now) c.args.node (entry_at value c.as_slice-known.result.now zero)
    (onward_entry value c.weighed_entry.result) (λ le next other. low next zero other) (λ le. c.weighed_entry.ensures.below zero)

pub returns-clause-met : goal.returns-clause-met
returns-clause-met g c = λ rows customer.
    let value = g.S.Sum.value in
    let half : ℕ = g.S.Sum.half in
    let link : ℕ = g.S.Sum.link in
    let n : ℕ = c.args.q_routes.now.nodes in
    let depot : ℕ = c.args.q_routes.now.depot in
    let w = g.W.Weights.at c.args.q_routes.now.weights.now in
    let load = load_at c.args.q_routes.now.loads.now in
    let some = c.args.q_routes.now.some c.args.node (c.requires.node, c.if-node-q_routes.false) in
    let left : ℕ = length c.args.table.now - load c.args.node in
    let lt : left < length c.args.table.now = omega (arith, some, c.if-load-table.false) in
    let is : c.as_slice-known.result.now ≡ (get_or c.args.table.now left c.index-table-table.result).items =
    c.as_slice-known.ensures.value ∙ ap (λ (v : Vec (Onward g.row.S.Denot)). v.items) c.index-table-table.is in
    let low : IsRowMet value half n depot w load left c.as_slice-known.result.now =
    subst (IsRowMet value half n depot w load left) (sym is) (rows left c.index-table-table.result lt) in
    let zero : Onward g.row.S.Denot = c.weighed_entry.result in
    let fits = g.met.S.Sum.fits 0 (omega arith) in
    entry_met half n depot w load (length c.args.table.now) c.args.node (entry_at value c.as_slice-known.result.now zero)
    c.if-load-table.false customer (λ next other. low next zero other) (omega (arith, fits)) (onward_entry value c.weighed_entry.result) n
    (c.weighed_entry.ensures.met zero)

pub returns-clause-size : goal.returns-clause-size
returns-clause-size g c =
    let value = g.S.Sum.value in
    let half : ℕ = g.S.Sum.half in
    let link : ℕ = g.S.Sum.link in
    let n : ℕ = c.args.q_routes.now.nodes in
    let depot : ℕ = c.args.q_routes.now.depot in
    let w = g.W.Weights.at c.args.q_routes.now.weights.now in
    let load = load_at c.args.q_routes.now.loads.now in
    let some = c.args.q_routes.now.some c.args.node (c.requires.node, c.if-node-q_routes.false) in
    let left : ℕ = length c.args.table.now - load c.args.node in
    let lt : left < length c.args.table.now = omega (arith, some, c.if-load-table.false) in
    let is : c.as_slice-known.result.now ≡ (get_or c.args.table.now left c.index-table-table.result).items =
    c.as_slice-known.ensures.value ∙ ap (λ (v : Vec (Onward g.row.S.Denot)). v.items) c.index-table-table.is in
    let more = links_more (left + 1) link in
    let up = links_up (left + 1 + 1) (length c.args.table.now + 1) link (omega (arith, lt)) in
    entry_up half ((left + 1) * link + link) ((length c.args.table.now + 1) * link) (onward_entry value c.weighed_entry.result)
    (omega (arith, more, up))
    (c.weighed_entry.ensures.size ((left + 1) * link) (g.met.S.Sum.fits (left + 1) (omega (arith, lt, c.requires.few)))
    (subst (IsRowSized value half n ((left + 1) * link)) (sym is) (c.requires.sizes left c.index-table-table.result lt)))
