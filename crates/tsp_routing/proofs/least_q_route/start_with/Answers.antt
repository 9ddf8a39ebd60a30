-- The goals of `start_with` in src/least_q_route.rt, which improves the least weight by the walk to one customer and
-- on: what a call requires, and what it ensures.
use Rattle.tsp_routing.proofs.Prelude.{◌≡◌, ◌<◌, ℕ, length, get_or, ap, sym, subst, arith, rules, pos, neg_ℤ, FitsSigned, w64, to_z-of_z, IsFromTo, inr, ℤ, ◌+ℤ◌, ints, least_at}
use Rattle.tsp_routing.specs.declared.least_q_route.Onward.{Onward}
use Rattle.tsp_routing.proofs.QRouteRests.{get_same, known_sized, sum_low, sum_near, sum_real}
use Rattle.tsp_routing.proofs.least_q_route.start_with.Goals as goal

-- plan: the lower one of the least weight so far and that of walks whose first customer is this node
pub returns-then-is_below-clause-met : goal.returns-then-is_below-clause-met
returns-then-is_below-clause-met g c = λ w default row so_far.
    let value = g.S.Sum.value in
    let sizes = c.requires.sizes in
    let own = c.index-known-next.result in
    let long : c.args.next < length c.args.known.now = omega (arith, c.requires.next.1, sizes.2.places) in
    let least = ap (λ (e : Onward g.row.S.Denot). value e.least) (get_same c.args.known.now c.args.next own default long) in
    let b : ℤ = value (get_or c.args.known.now c.args.next default).least in
    let sum = c.plus-weight.ensures in
    let row_is = c.weight_in.ensures in
    let is : value c.plus-weight.result ≡ b +ℤ least_at c.args.row.now c.args.next = omega (arith, ints, sum, row_is, least) in
    let sized = known_sized value g.S.Sum.half c.args.q_routes.now.nodes sizes.0 c.args.next c.args.known.now default c.requires.next
    sizes.2 in
    inr (
      c.args.next,
      (c.requires.next, c.if-next-q_routes.false),
      omega (arith, ints, is, row),
      λ real. sum_real g.S.Sum.half g.S.Sum.link sizes.0 (least_at c.args.row.now c.args.next) b (value c.plus-weight.result) is
          c.requires.link sized.least sizes.1 real,
    )

pub returns-then-is_below-clause-size : goal.returns-then-is_below-clause-size
returns-then-is_below-clause-size g c = λ size fits rows best.
    let value = g.S.Sum.value in
    let own = c.index-known-next.result in
    let b : ℤ = value (get_or c.args.known.now c.args.next own).least in
    let sum = c.plus-weight.ensures in
    let row_is = c.weight_in.ensures in
    let is : value c.plus-weight.result ≡ b +ℤ least_at c.args.row.now c.args.next = omega (arith, ints, sum, row_is) in
    let sized = known_sized value g.S.Sum.half c.args.q_routes.now.nodes size c.args.next c.args.known.now own c.requires.next rows in
    let half : ℕ = g.S.Sum.half in
    let link : ℕ = g.S.Sum.link in
    let a : ℤ = least_at c.args.row.now c.args.next in (
      sum_low half link size a b (value c.plus-weight.result) is c.requires.link sized.least,
      omega (arith, ints, best.1, c.is_below.ensures, c.if-is_below.true),
      sum_near half link size a b (value c.plus-weight.result) is c.requires.link sized.least,
    )

-- the depot is no first customer
pub returns-then-next-q_routes-clause-keeps : goal.returns-then-next-q_routes-clause-keeps
returns-then-next-q_routes-clause-keeps g c = omega (arith, ints)

pub returns-then-next-q_routes-clause-own : goal.returns-then-next-q_routes-clause-own
returns-then-next-q_routes-clause-own g c = λ default other. absurd (other c.if-next-q_routes.true)

pub returns-then-next-q_routes-clause-met : goal.returns-then-next-q_routes-clause-met
returns-then-next-q_routes-clause-met g c = λ w default row so_far. so_far

pub returns-then-next-q_routes-clause-size : goal.returns-then-next-q_routes-clause-size
returns-then-next-q_routes-clause-size g c = λ size fits rows best. best

pub plus-weight-requires-clause-weight : goal.plus-weight-requires-clause-weight
plus-weight-requires-clause-weight g c =
    let fits : FitsSigned w64 c.weight_in.result = search rules in
    rw (to_z-of_z w64 c.weight_in.result fits)
    (subst (IsFromTo (neg_ℤ (pos g.S.Sum.link)) (pos g.S.Sum.link)) (sym c.weight_in.ensures) c.requires.link)

pub plus-weight-requires-clause-sum : goal.plus-weight-requires-clause-sum
plus-weight-requires-clause-sum g c =
    let sizes = c.requires.sizes in
    let own = c.index-known-next.result in
    let sized = known_sized g.S.Sum.value g.S.Sum.half c.args.q_routes.now.nodes sizes.0 c.args.next c.args.known.now own
    c.requires.next sizes.2 in
    let number = sized.least in
    let low = number.0 in
    let small = sizes.1 in (omega (arith, ints, low, small), number.1)

pub returns-then-is_below-clause-keeps : goal.returns-then-is_below-clause-keeps
returns-then-is_below-clause-keeps g c = omega (arith, ints)

pub returns-then-is_below-clause-own : goal.returns-then-is_below-clause-own
returns-then-is_below-clause-own g c = λ default other.
    let sizes = c.requires.sizes in
    let long : c.args.next < length c.args.known.now = omega (arith, c.requires.next.1, sizes.2.places) in
    let least = ap (λ (e : Onward g.row.S.Denot). g.S.Sum.value e.least) (get_same c.args.known.now c.args.next c.index-known-next.result default long) in
    omega (arith, ints, c.plus-weight.ensures, c.weight_in.ensures, least)

pub returns-else-is_below-clause-keeps : goal.returns-else-is_below-clause-keeps
returns-else-is_below-clause-keeps g c = omega (arith, ints)

pub returns-else-is_below-clause-own : goal.returns-else-is_below-clause-own
returns-else-is_below-clause-own g c = λ default other.
    let sizes = c.requires.sizes in
    let long : c.args.next < length c.args.known.now = omega (arith, c.requires.next.1, sizes.2.places) in
    let least = ap (λ (e : Onward g.row.S.Denot). g.S.Sum.value e.least) (get_same c.args.known.now c.args.next c.index-known-next.result default long) in
    omega (arith, ints, c.plus-weight.ensures, c.weight_in.ensures, least)

pub returns-else-is_below-clause-met : goal.returns-else-is_below-clause-met
returns-else-is_below-clause-met g c = λ w default row so_far. so_far

pub returns-else-is_below-clause-size : goal.returns-else-is_below-clause-size
returns-else-is_below-clause-size g c = λ size fits rows best. best
