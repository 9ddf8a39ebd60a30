-- The goals of `only_back` in src/least_q_route.rt, which is the entry with the way back to the depot alone: what it
-- ensures.
use Rattle.tsp_routing.proofs.Prelude.{◌≡◌, ℕ, ◌+◌, subst, sym, refl, arith, pos, neg_ℤ, ints, IsFromTo, least_at}
use Rattle.tsp_routing.specs.states.Demands.{onward_entry, IsEntryNumber}
use Rattle.tsp_routing.proofs.QRouteRests.{first_sized, none_sized, back_only, met_first}
use Rattle.tsp_routing.proofs.least_q_route.only_back.Goals as goal

-- plan: at first there is the way back, and no other
pub returns-clause-below : goal.returns-clause-below
returns-clause-below g c = λ w known row.
    let value = g.S.Sum.value in
    let first = c.of.ensures in
    let weight = c.weight_in.ensures in
    back_only g.S.Sum.half c.args.q_routes.now.nodes c.args.q_routes.now.depot w known c.args.node
    (record { least = value c.of.result; next = c.args.q_routes.now.depot; other = value c.none.result }) refl
    (omega (arith, ints, first, weight, row))

pub returns-clause-met : goal.returns-clause-met
returns-clause-met g c = λ w known row.
    let value = g.S.Sum.value in
    let first = c.of.ensures in
    let weight = c.weight_in.ensures in
    met_first g.S.Sum.half c.args.q_routes.now.nodes c.args.q_routes.now.depot w known c.args.node
    (record { least = value c.of.result; next = c.args.q_routes.now.depot; other = value c.none.result }) refl
    (omega (arith, ints, first, weight, row)) c.none.ensures

pub returns-clause-size : goal.returns-clause-size
returns-clause-size g c = λ size fits.
    let value = g.S.Sum.value in
    let half : ℕ = g.S.Sum.half in
    let link : ℕ = g.S.Sum.link in
    let first = c.of.ensures in
    let weight = c.weight_in.ensures in
    let is : value c.of.result ≡ least_at c.args.row.now c.args.q_routes.now.depot = omega (arith, ints, first, weight) in
    record {
      least = first_sized half link size (value c.of.result) fits
          (subst (IsFromTo (neg_ℤ (pos link)) (pos link)) (sym is) c.requires.link);
      other = subst (IsEntryNumber half (size + link)) (sym c.none.ensures) (none_sized half (size + link));
    }

pub returns-clause-order : goal.returns-clause-order
returns-clause-order g c =
    let first = c.of.ensures in
    let weight = c.weight_in.ensures in
    let none = c.none.ensures in
    let fits = g.met.S.Sum.fits 0 (omega arith) in
    omega (arith, ints, first, weight, none, fits, c.requires.link)
