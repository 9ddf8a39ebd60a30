-- The goals of `other_crossings` in src/good_families.rt, which finds the crossings of a family that is no comb: what
-- it ensures.
use Rattle.tsp_cases.proofs.Prelude.{arith, iff_false}
use Rattle.tsp_cases.specs.Crossings.{lists_of}
use Rattle.tsp_cases.proofs.GoodFamilies.{other_found, too_many, one_part}
use Rattle.tsp_cases.proofs.good_families.other_crossings.Goals as goal

-- plan: by how the search ends: a set has a node twice, there are too many parts (`too_many`), all nodes are in one
-- part (`one_part`), or the crossings are known
pub returns-then-not-once-clause-found : goal.returns-then-not-once-clause-found
returns-then-not-once-clause-found c = λ unknown good. iff_false c.in_ok-once.ensures c.if-not-once.true good.once

pub returns-in_default-clause-found : goal.returns-in_default-clause-found
returns-in_default-clause-found c = λ unknown. too_many c.args.family.now.nodes (lists_of c.args.family.now.sets.now) unknown (rw c.in_default.is at c.in_ok-found.ensures.least)

pub returns-then-own-eq0-clause-found : goal.returns-then-own-eq0-clause-found
returns-then-own-eq0-clause-found c = λ unknown.
    one_part c.args.family.now.nodes c.in-Some.own.most (lists_of c.args.family.now.sets.now) c.most_costs_are_unique.ensures unknown c.if-own-eq0.true (rw c.in-Some.is at c.in_ok-found.ensures.most)

pub returns-clause-found : goal.returns-clause-found
returns-clause-found c = λ unknown.
    other_found c.args.family.now.nodes (lists_of c.args.family.now.sets.now) c.in-Some.own unknown (c.in_ok-once.ensures.0 c.if-not-once.false) (rw c.in-Some.is at c.in_ok-found.ensures.known)
    (omega (arith, c.if-own-eq0.false)) (rw c.in-Some.is at c.in_ok-found.ensures.least) (rw c.in-Some.is at c.in_ok-found.ensures.most)
