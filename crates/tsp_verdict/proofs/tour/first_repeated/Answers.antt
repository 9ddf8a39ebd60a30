-- The goals of `first_repeated` in src/tour.rt, which finds the first place whose node is at an earlier one:
-- what it ensures.
use Rattle.std.proofs.Common.{◌≡◌, ◌+◌, ℕ, Bool, false, List, replicate, sym, subst, rules}
use Rattle.tsp_verdict.specs.states.Marks.{Marked}
use Rattle.tsp_verdict.proofs.TourVerdicts.{none_marked, stands_whole, found_whole}
use Rattle.tsp_verdict.proofs.tour.first_repeated.Goals as goal

-- plan: at first no node is marked (`none_marked`), so the place found is the first of the list (`found_whole`)
pub returns : goal.returns
returns c =
    let nodes : List ℕ = c.args.nodes.now in
    let blank : c.in_ok-seen.seen.items ≡ replicate (c.args.n + 1) false = search rules in
    let fresh : Marked nodes c.in_ok-seen.seen.items 0 =
    subst (λ (xs : List Bool). Marked nodes xs 0) (sym blank) (none_marked nodes (c.args.n + 1)) in
    found_whole nodes c.mark.new.seen.items c.mark.result (c.mark.ensures.marks nodes 0 (stands_whole nodes) fresh)
