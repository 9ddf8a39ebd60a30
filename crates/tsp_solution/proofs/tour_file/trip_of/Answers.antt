-- The goals of `trip_of` in src/tour_file.rt, which finds a tour that may have copies of the depot: what it ensures.
use Rattle.std.proofs.Common.{◌≡◌, ◌∙◌, sym, true, not}
use Rattle.std.specs.Prelude.{nat_le}
use Rattle.std.specs.List.{list_all}
use Rattle.std.proofs.lemmas.List.Folds.{list_all-map}
use Rattle.tsp_solution.proofs.tour_file.trip_of.Goals as goal

-- plan: if no node is above the instance's, the test of the tours says so (`list_all-map`)
pub returns-in-Some : goal.returns-in-Some
returns-in-Some c = λ given.
    let listed = rw c.in-Some.is at c.tours.ensures in
    let within = rw (← listed) at given in
    let all : c.are_within.result ≡ true =
    c.are_within.ensures ∙ (sym (list_all-map (list_all (λ node. nat_le node c.args.nodes)) (λ tour. tour.items) c.in-Some.tours.now) ∙ within) in
    let bad = rw all at c.if-not-are_within.true in cc
