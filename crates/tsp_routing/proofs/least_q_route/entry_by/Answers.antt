-- The goals of `entry_by` in src/least_q_route.rt, which improves an entry by one next node: what its calls
-- require, and what it ensures.
use Rattle.tsp_routing.proofs.Prelude.{◌≡◌, ◌+◌, ◌<◌, ◌∙◌, ℕ, length, ap, sym, subst, arith, rules, pos, neg_ℤ, FitsSigned, w64, to_z-of_z, IsFromTo, ℤ, ◌+ℤ◌, ints, least_at}
use Rattle.tsp_routing.specs.declared.least_q_route.Onward.{Onward}
use Rattle.tsp_routing.specs.QRoutes.{QRouteEntry, least_from, IsReal}
use Rattle.tsp_routing.specs.states.Demands.{onward_entry, entry_at, IsEntrySized}
use Rattle.tsp_routing.proofs.QRouteRests.{get_same, known_sized, sum_low, sum_near, sum_real, below_more, met_more}
use Rattle.tsp_routing.proofs.least_q_route.entry_by.Goals as goal

-- plan: a step to the next node, and its least weight on, or the other one if that comes back to this node
pub returns-clause-below : goal.returns-clause-below
returns-clause-below g c = λ w default row so_far.
    let value = g.S.Sum.value in
    let sizes = c.requires.sizes in
    let own = c.index-known-next.result in
    let long : c.args.next < length c.args.known.now = omega (arith, c.requires.next.0.1, sizes.2.places) in
    let known : ℕ → QRouteEntry = entry_at value c.args.known.now default in
    let same = c.index-known-next.is ∙ get_same c.args.known.now c.args.next own default long in
    let second : value c.least_onward-onward.result ≡ least_from (known c.args.next) c.args.node =
    c.least_onward-onward.ensures.value
    ∙ ap (λ (e : Onward g.row.S.Denot). least_from (onward_entry value e) c.args.node) same in
    below_more g.S.Sum.half c.args.q_routes.now.nodes c.args.q_routes.now.depot w known c.args.node c.args.next
    (onward_entry value c.args.best) (onward_entry value c.improved.result) c.requires.next.0.0 c.improved.ensures.keeps
    (c.improved.ensures.own (w c.args.node c.args.next +ℤ least_from (known c.args.next) c.args.node)
    (omega (arith, ints, c.plus.ensures, c.weight_in.ensures, second, row))) so_far

pub returns-clause-met : goal.returns-clause-met
returns-clause-met g c = λ w default row so_far.
    let value = g.S.Sum.value in
    let half : ℕ = g.S.Sum.half in
    let link : ℕ = g.S.Sum.link in
    let sizes = c.requires.sizes in
    let own = c.index-known-next.result in
    let n : ℕ = c.args.q_routes.now.nodes in
    let long : c.args.next < length c.args.known.now = omega (arith, c.requires.next.0.1, sizes.2.places) in
    let known : ℕ → QRouteEntry = entry_at value c.args.known.now default in
    let same = c.index-known-next.is ∙ get_same c.args.known.now c.args.next own default long in
    let second : value c.least_onward-onward.result ≡ least_from (known c.args.next) c.args.node =
    c.least_onward-onward.ensures.value
    ∙ ap (λ (e : Onward g.row.S.Denot). least_from (onward_entry value e) c.args.node) same in
    let sized : IsEntrySized half sizes.0 (onward_entry value own) =
    subst (λ (e : Onward g.row.S.Denot). IsEntrySized half sizes.0 (onward_entry value e)) (sym c.index-known-next.is)
    (known_sized value half n sizes.0 c.args.next c.args.known.now own c.requires.next.0 sizes.2) in
    let is : value c.plus.result ≡ value c.least_onward-onward.result +ℤ least_at c.args.row.now c.args.next =
    omega (arith, ints, c.plus.ensures, c.weight_in.ensures) in
    met_more half n c.args.q_routes.now.depot w known c.args.node c.args.next (value c.plus.result) (onward_entry value c.args.best)
    (onward_entry value c.improved.result) c.requires.next c.requires.other
    (omega (arith, ints, is, second, row))
    (λ real. subst (IsReal half) second
    (sum_real half link sizes.0 (least_at c.args.row.now c.args.next) (value c.least_onward-onward.result) (value c.plus.result) is
    c.requires.link (c.least_onward-onward.ensures.size sizes.0 sized) sizes.1 real))
    c.improved.ensures.chosen so_far

pub returns-clause-size : goal.returns-clause-size
returns-clause-size g c = λ size fits rows best.
    let value = g.S.Sum.value in
    let half : ℕ = g.S.Sum.half in
    let link : ℕ = g.S.Sum.link in
    let own = c.index-known-next.result in
    let sized : IsEntrySized half size (onward_entry value own) =
    subst (λ (e : Onward g.row.S.Denot). IsEntrySized half size (onward_entry value e)) (sym c.index-known-next.is)
    (known_sized value half c.args.q_routes.now.nodes size c.args.next c.args.known.now own c.requires.next.0 rows) in
    let number = c.least_onward-onward.ensures.size size sized in
    let a : ℤ = least_at c.args.row.now c.args.next in
    let is : value c.plus.result ≡ value c.least_onward-onward.result +ℤ a = omega (arith, ints, c.plus.ensures, c.weight_in.ensures) in
    c.improved.ensures.size (size + link) best
    (sum_low half link size a (value c.least_onward-onward.result) (value c.plus.result) is c.requires.link number)
    (sum_near half link size a (value c.least_onward-onward.result) (value c.plus.result) is c.requires.link number)

pub bounds-known-next : goal.bounds-known-next
bounds-known-next g c = let sizes = c.requires.sizes in omega (arith, c.requires.next.0.1, sizes.2.places)

pub plus-requires-clause-weight : goal.plus-requires-clause-weight
plus-requires-clause-weight g c =
    let fits : FitsSigned w64 c.weight_in.result = search rules in
    rw (to_z-of_z w64 c.weight_in.result fits)
    (subst (IsFromTo (neg_ℤ (pos g.S.Sum.link)) (pos g.S.Sum.link)) (sym c.weight_in.ensures) c.requires.link)

pub plus-requires-clause-sum : goal.plus-requires-clause-sum
plus-requires-clause-sum g c =
    let value = g.S.Sum.value in
    let half : ℕ = g.S.Sum.half in
    let sizes = c.requires.sizes in
    let own = c.index-known-next.result in
    let sized : IsEntrySized half sizes.0 (onward_entry value own) =
    subst (λ (e : Onward g.row.S.Denot). IsEntrySized half sizes.0 (onward_entry value e)) (sym c.index-known-next.is)
    (known_sized value half c.args.q_routes.now.nodes sizes.0 c.args.next c.args.known.now own c.requires.next.0 sizes.2) in
    let number = c.least_onward-onward.ensures.size sizes.0 sized in
    let low = number.0 in
    let small = sizes.1 in (omega (arith, ints, low, small), number.1)

pub improved-requires : goal.improved-requires
improved-requires g c = record { order = c.requires.order }

pub returns-clause-order : goal.returns-clause-order
returns-clause-order g c = c.improved.ensures.order
