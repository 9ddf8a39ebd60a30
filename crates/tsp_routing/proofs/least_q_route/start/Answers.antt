-- The goals of `start` in src/least_q_route.rt, which finds the least weight of a walk by the last row: what its call
-- requires and what it ensures.
use Rattle.tsp_routing.proofs.Prelude.{◌≡◌, ◌+◌, ◌-◌, ◌*◌, ◌<◌, ◌∙◌, ℕ, length, get_or, ap, subst, sym, arith, pos, neg_ℤ, Vec, IsNode, IsFromTo, least_at}
use Rattle.tsp_routing.specs.declared.least_q_route.Onward.{Onward}
use Rattle.tsp_routing.specs.states.Demands.{load_at, entry_at, IsRowSized, IsRowLow, IsRowMet}
use Rattle.tsp_routing.proofs.QRouteRests.{real_sized, start_low, start_exact}
use Rattle.tsp_routing.proofs.least_q_route.start.Goals as goal

-- plan: the last row has the entries with the whole capacity left, so a step from the depot and such an entry are a
-- walk
pub start_by-requires-clause-links : goal.start_by-requires-clause-links
start_by-requires-clause-links g c = λ next there.
    let links = IsFromTo (neg_ℤ (pos g.S.Sum.link)) (pos g.S.Sum.link) in
    subst links (sym (c.fill.ensures.values next (subst (λ (k : ℕ). IsNode k next) (sym c.args.q_routes.now.same) there)))
    (c.requires.links c.args.q_routes.now.depot next c.args.q_routes.now.depot_in there)

pub start_by-requires-clause-sizes : goal.start_by-requires-clause-sizes
start_by-requires-clause-sizes g c =
    let value = g.S.Sum.value in
    let half : ℕ = g.S.Sum.half in
    let link : ℕ = g.S.Sum.link in
    let n : ℕ = c.args.q_routes.now.nodes in
    let depot : ℕ = c.args.q_routes.now.depot in
    let w = g.W.Weights.at c.args.q_routes.now.weights.now in
    let load = load_at c.args.q_routes.now.loads.now in
    let left : ℕ = length c.args.table.now - 1 in
    let lt : left < length c.args.table.now = omega (arith, c.requires.some) in
    let is : c.as_slice.result.now ≡ (get_or c.args.table.now left c.index-table-table.result).items =
    c.as_slice.ensures.value ∙ ap (λ (v : Vec (Onward g.row.S.Denot)). v.items) c.index-table-table.is in (
      (left + 1) * link,
      g.met.S.Sum.fits (left + 1) (omega (arith, lt, c.requires.few)),
      subst (IsRowSized value half n ((left + 1) * link)) (sym is) (c.requires.sizes left c.index-table-table.result lt),
    )

pub returns-clause-below : goal.returns-clause-below
returns-clause-below g c = λ lows.
    let value = g.S.Sum.value in
    let half : ℕ = g.S.Sum.half in
    let link : ℕ = g.S.Sum.link in
    let n : ℕ = c.args.q_routes.now.nodes in
    let depot : ℕ = c.args.q_routes.now.depot in
    let w = g.W.Weights.at c.args.q_routes.now.weights.now in
    let load = load_at c.args.q_routes.now.loads.now in
    let left : ℕ = length c.args.table.now - 1 in
    let lt : left < length c.args.table.now = omega (arith, c.requires.some) in
    let is : c.as_slice.result.now ≡ (get_or c.args.table.now left c.index-table-table.result).items =
    c.as_slice.ensures.value ∙ ap (λ (v : Vec (Onward g.row.S.Denot)). v.items) c.index-table-table.is in
    let row : (next : ℕ) → IsNode n next → least_at c.fill.new.row next ≡ w depot next = λ next there.
    c.fill.ensures.values next (subst (λ (k : ℕ). IsNode k next) (sym c.args.q_routes.now.same) there) in
    let zero : Onward g.row.S.Denot = record { least = c.start_by.result; next = 0; other = c.start_by.result } in
    let known = entry_at value c.as_slice.result.now zero in
    let low : IsRowLow value n depot w load left c.as_slice.result.now =
    subst (IsRowLow value n depot w load left) (sym is) (lows left c.index-table-table.result lt) in
    start_low n depot w load left known (value c.start_by.result) (λ node customer. low node zero customer)
    (c.start_by.ensures.below w zero row)

pub returns-clause-met : goal.returns-clause-met
returns-clause-met g c = λ lows mets real.
    let value = g.S.Sum.value in
    let half : ℕ = g.S.Sum.half in
    let link : ℕ = g.S.Sum.link in
    let n : ℕ = c.args.q_routes.now.nodes in
    let depot : ℕ = c.args.q_routes.now.depot in
    let w = g.W.Weights.at c.args.q_routes.now.weights.now in
    let load = load_at c.args.q_routes.now.loads.now in
    let left : ℕ = length c.args.table.now - 1 in
    let lt : left < length c.args.table.now = omega (arith, c.requires.some) in
    let is : c.as_slice.result.now ≡ (get_or c.args.table.now left c.index-table-table.result).items =
    c.as_slice.ensures.value ∙ ap (λ (v : Vec (Onward g.row.S.Denot)). v.items) c.index-table-table.is in
    let row : (next : ℕ) → IsNode n next → least_at c.fill.new.row next ≡ w depot next = λ next there.
    c.fill.ensures.values next (subst (λ (k : ℕ). IsNode k next) (sym c.args.q_routes.now.same) there) in
    let zero : Onward g.row.S.Denot = record { least = c.start_by.result; next = 0; other = c.start_by.result } in
    let known = entry_at value c.as_slice.result.now zero in
    let low : IsRowLow value n depot w load left c.as_slice.result.now =
    subst (IsRowLow value n depot w load left) (sym is) (lows left c.index-table-table.result lt) in
    let met : IsRowMet value half n depot w load left c.as_slice.result.now =
    subst (IsRowMet value half n depot w load left) (sym is) (mets left c.index-table-table.result lt) in
    let fits = g.met.S.Sum.fits 0 (omega arith) in
    let below = start_low n depot w load left known (value c.start_by.result) (λ node customer. low node zero customer)
    (c.start_by.ensures.below w zero row) in
    start_exact half n depot w load left known (value c.start_by.result) (omega (arith, fits)) below
    (λ node customer. met node zero customer) (c.start_by.ensures.met w zero row) real

pub returns-clause-size : goal.returns-clause-size
returns-clause-size g c = λ real.
    let value = g.S.Sum.value in
    let half : ℕ = g.S.Sum.half in
    let link : ℕ = g.S.Sum.link in
    let n : ℕ = c.args.q_routes.now.nodes in
    let depot : ℕ = c.args.q_routes.now.depot in
    let w = g.W.Weights.at c.args.q_routes.now.weights.now in
    let load = load_at c.args.q_routes.now.loads.now in
    let left : ℕ = length c.args.table.now - 1 in
    let lt : left < length c.args.table.now = omega (arith, c.requires.some) in
    let is : c.as_slice.result.now ≡ (get_or c.args.table.now left c.index-table-table.result).items =
    c.as_slice.ensures.value ∙ ap (λ (v : Vec (Onward g.row.S.Denot)). v.items) c.index-table-table.is in
    let fits = g.met.S.Sum.fits (left + 1) (omega (arith, lt, c.requires.few)) in
    let size = c.start_by.ensures.size ((left + 1) * link) fits
    (subst (IsRowSized value half n ((left + 1) * link)) (sym is) (c.requires.sizes left c.index-table-table.result lt)) in
    real_sized half ((left + 1) * link + link) (value c.start_by.result) fits size real
