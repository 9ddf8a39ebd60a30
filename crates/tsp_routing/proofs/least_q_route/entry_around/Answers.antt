-- The goals of `entry_around` in src/least_q_route.rt, which finds the entry with every next node but the node itself
-- and the depot: what its calls require and what it ensures.
use Rattle.tsp_routing.proofs.Prelude.{◌≡◌, ◌≢◌, ◌<◌, ℕ, sym, ◌∙◌, arith, inl, inr, IsCustomer}
use Rattle.tsp_routing.specs.QRoutes.{IsEntryBelowTo, IsEntryMetTo}
use Rattle.tsp_routing.specs.states.Demands.{onward_entry, entry_at}
use Rattle.tsp_routing.proofs.QRouteRests.{below_skip, met_skip, apart_from, no_way}
use Rattle.tsp_routing.proofs.least_q_route.entry_around.Goals as goal

-- plan: the nodes below, between and above two: the node itself and the depot, which are passed over
pub entry_with-low-requires-clause-others : goal.entry_with-low-requires-clause-others
entry_with-low-requires-clause-others g c = λ next after to.
    apart_from c.args.q_routes.now.depot c.args.node c.args.first c.args.last next c.requires.are
    (λ same. omega (arith, same, to, c.requires.first.0)) (λ same. omega (arith, same, to, c.requires.apart))

pub entry_with-middle-requires-clause-others : goal.entry_with-middle-requires-clause-others
entry_with-middle-requires-clause-others g c = λ next after to.
    apart_from c.args.q_routes.now.depot c.args.node c.args.first c.args.last next c.requires.are
    (λ same. omega (arith, same, after)) (λ same. omega (arith, same, to, c.requires.apart))

pub entry_with-requires-clause-others : goal.entry_with-requires-clause-others
entry_with-requires-clause-others g c = λ next after to.
    apart_from c.args.q_routes.now.depot c.args.node c.args.first c.args.last next c.requires.are
    (λ same. omega (arith, same, after, c.requires.apart)) (λ same. omega (arith, same, after))

pub returns-clause-below : goal.returns-clause-below
returns-clause-below g c = λ w default rows begun.
    let value = g.S.Sum.value in
    let n : ℕ = c.args.q_routes.now.nodes in
    let depot : ℕ = c.args.q_routes.now.depot in
    let node : ℕ = c.args.node in
    let known = entry_at value c.args.known.now default in
    let none = no_way n depot node c.args.first c.args.last c.requires.are in
    let low = below_skip g.S.Sum.half n depot w known node c.args.first (onward_entry value c.entry_with-low.result) none.0
    (c.entry_with-low.ensures.below w default rows begun) in
    let middle = below_skip g.S.Sum.half n depot w known node c.args.last (onward_entry value c.entry_with-middle.result) none.1
    (c.entry_with-middle.ensures.below w default rows low) in
    c.entry_with.ensures.below w default rows middle

pub returns-clause-met : goal.returns-clause-met
returns-clause-met g c = λ w default rows begun.
    let value = g.S.Sum.value in
    let half : ℕ = g.S.Sum.half in
    let n : ℕ = c.args.q_routes.now.nodes in
    let depot : ℕ = c.args.q_routes.now.depot in
    let node : ℕ = c.args.node in
    let known = entry_at value c.args.known.now default in
    let low = met_skip half n depot w known node c.args.first (onward_entry value c.entry_with-low.result)
    (c.entry_with-low.ensures.met w default rows begun) in
    let middle = met_skip half n depot w known node c.args.last (onward_entry value c.entry_with-middle.result)
    (c.entry_with-middle.ensures.met w default rows low) in
    c.entry_with.ensures.met w default rows middle

pub returns-clause-size : goal.returns-clause-size
returns-clause-size g c = λ size fits rows begun.
    c.entry_with.ensures.size size fits rows
    (c.entry_with-middle.ensures.size size fits rows (c.entry_with-low.ensures.size size fits rows begun))
