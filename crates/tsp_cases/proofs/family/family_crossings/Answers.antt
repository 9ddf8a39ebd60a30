-- The goals of `family_crossings` in src/family.rt, which finds how often cycles cross a family: what it ensures.
use Rattle.tsp_cases.proofs.Prelude.{◌≡◌, ℕ, Bool, List, length, arith, ap, sym, ◌∙◌, subst, pos, ◌≤◌, All}
use Rattle.tsp_cases.specs.Crossings.{sets_of, sets_crossed, IsLeastLength, IsMostCost, ArePartsOf, AreMemberships, IsLargest, lists_of, cost_by_rows, as_whole}
use Rattle.tsp_cases.proofs.LeastCycles.{small_cycle, small_largest}
use Rattle.tsp_cases.proofs.Divisions.{places_from, least_between, most_between, few_parts, sets_long}
use Rattle.tsp_cases.proofs.family.family_crossings.Goals as goal

-- plan: nodes of one part are crossed alike. So the best cycle of the parts gives the least crossings
-- (`least_between`), and the largest cell the most of two nodes (`most_between`)
pub returns-clause-least : goal.returns-clause-least
returns-clause-least c =
    let n : ℕ = c.args.family.now.nodes in
    let sets : List (ℕ → Bool) = sets_of (lists_of c.args.family.now.sets.now) in
    let memberships : List ℕ = c.deref.result.now in
    let firsts : List ℕ = c.deref-2.result.now in
    let costs : List ℕ = c.deref-3.result.now in
    let least : ℕ = c.in_ok-least.least in
    let found : ArePartsOf n sets c.in-Some.parts.firsts.items = rw c.in-Some.is at c.in_ok-found.ensures.parts in
    let told : AreMemberships n sets c.in-Some.parts.memberships.items = rw c.in-Some.is at c.in_ok-found.ensures.memberships in
    let parts : ArePartsOf n sets firsts = subst (ArePartsOf n sets) (sym c.deref-2.ensures.value) found in
    let are : AreMemberships n sets memberships = subst (AreMemberships n sets) (sym c.deref.ensures.value) told in
    let count : c.len.result ≡ length firsts = c.len.ensures ∙ sym c.deref-2.ensures.len in
    let shortest : IsLeastLength (length firsts) (as_whole (cost_by_rows (length firsts) costs)) (pos least) =
    subst (λ (m : ℕ). IsLeastLength m (as_whole (cost_by_rows m costs)) (pos least)) count c.in_ok-least.ensures in
    let listed = subst (λ (xs : List ℕ). IsLeastLength (length firsts) (as_whole (cost_by_rows (length firsts) xs)) (pos least)) c.deref-3.ensures.value shortest in
    let whole = least_between n sets memberships firsts c.in_ok-costs.costs.items are (places_from n sets memberships firsts are parts.nodes) c.in_ok-costs.ensures.values (pos least) listed in
    c.parts_tell_cycles.ensures n sets firsts (pos least) c.args.family.now.some parts whole

pub returns-clause-most : goal.returns-clause-most
returns-clause-most c =
    let n : ℕ = c.args.family.now.nodes in
    let sets : List (ℕ → Bool) = sets_of (lists_of c.args.family.now.sets.now) in
    let memberships : List ℕ = c.deref.result.now in
    let firsts : List ℕ = c.deref-2.result.now in
    let costs : List ℕ = c.in_ok-costs.costs.items in
    let found : ArePartsOf n sets c.in-Some.parts.firsts.items = rw c.in-Some.is at c.in_ok-found.ensures.parts in
    let told : AreMemberships n sets c.in-Some.parts.memberships.items = rw c.in-Some.is at c.in_ok-found.ensures.memberships in
    let parts : ArePartsOf n sets firsts = subst (ArePartsOf n sets) (sym c.deref-2.ensures.value) found in
    let are : AreMemberships n sets memberships = subst (AreMemberships n sets) (sym c.deref.ensures.value) told in
    let most : IsLargest costs c.largest.result = subst (λ (xs : List ℕ). IsLargest xs c.largest.result) c.deref-3.ensures.value c.largest.ensures in
    subst (λ (z : ℕ). IsMostCost n (sets_crossed sets) (pos z)) (sym c.from-most.ensures)
    (most_between n sets memberships firsts costs are (places_from n sets memberships firsts are parts.nodes) c.in_ok-costs.ensures.values c.largest.result
    c.args.family.now.some c.in_ok-costs.ensures.long parts most)

pub returns-clause-few : goal.returns-clause-few
returns-clause-few c =
    let costs : List ℕ = c.deref-3.result.now in
    let small : All (λ cost. cost ≤ 64) costs = subst (All (λ cost. cost ≤ 64)) (sym c.deref-3.ensures.value) c.in_ok-costs.ensures.small in
    let least = small_cycle c.len.result 64 c.in_ok-least.least costs small c.in_ok-least.ensures in
    let few : length c.in-Some.parts.firsts.items ≤ 14 = rw c.in-Some.is at c.in_ok-found.ensures.few in
    let count : c.len.result ≡ length c.in-Some.parts.firsts.items = c.len.ensures ∙ sym c.deref-2.ensures.len ∙ ap length c.deref-2.ensures.value in
    let largest : IsLargest c.in_ok-costs.costs.items c.largest.result = subst (λ (xs : List ℕ). IsLargest xs c.largest.result) c.deref-3.ensures.value c.largest.ensures in
    let most = small_largest c.largest.result 64 c.in_ok-costs.costs.items c.in_ok-costs.ensures.small largest in
    (omega (arith, least, few, count), omega (arith, most, c.from-most.ensures))

pub returns-clause-known : goal.returns-clause-known
returns-clause-known c =
    let sets : List (ℕ → Bool) = sets_of (lists_of c.args.family.now.sets.now) in
    let found : ArePartsOf c.args.family.now.nodes sets c.in-Some.parts.firsts.items = rw c.in-Some.is at c.in_ok-found.ensures.parts in
    let few : length c.in-Some.parts.firsts.items ≤ 14 = rw c.in-Some.is at c.in_ok-found.ensures.few in
    let long = sets_long c.args.family.now.sets.now in
    few_parts c.args.family.now.nodes sets c.in-Some.parts.firsts.items (omega (arith, long, c.if-family-gt-MOST_SETS.false)) found few
