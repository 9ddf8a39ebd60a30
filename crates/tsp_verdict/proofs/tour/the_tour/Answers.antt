-- The goals of `the_tour` in src/tour.rt, which returns the one tour of a solution, or a reason: what it ensures.
use Rattle.tsp_verdict.proofs.Prelude.{◌≡◌, List, ℕ, ◌∷◌, [], length, sym, ap, ◌∙◌, arith, nodes_of}
use Rattle.tsp_verdict.specs.SolutionReasons.{tours_of}
use Rattle.tsp_verdict.proofs.TourVerdicts.{one_tour, tour_found}
use Rattle.tsp_verdict.proofs.tour.the_tour.Goals as goal

-- plan: by the lists: there is one (`one_tour`), of as many nodes (`tour_found`), or a reason
pub returns : goal.returns
returns c =
    let tour : List ℕ = c.as_slice.result.now in
    let one : length c.args.tours.now ≡ 1 = omega (arith, c.in-len1.len_at_least, c.in-len1.len_below) in
    let only : tours_of c.args.sol.now ≡ tour ∷ [] =
    sym c.requires.tours.value ∙ one_tour c.args.tours.now c.tour-item.result one c.tour-item.is
    ∙ ap (λ (xs : List ℕ). xs ∷ []) (sym c.as_slice.ensures.value) in
    let full : length tour ≡ nodes_of c.args.inst.now =
    omega (arith, c.as_slice.ensures.len, c.if-len-count.false, c.count.ensures.value) in
    let found = tour_found c.args.inst.now c.args.sol.now tour only full (rw (← c.requires.tours.nodes) c.requires.tours.range)
    c.requires.before in
    (found.0, found.1, found.2, λ place. found.3)
