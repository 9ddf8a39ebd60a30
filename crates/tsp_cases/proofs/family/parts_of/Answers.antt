-- The goals of `parts_of` in src/family.rt, which finds the parts of a family: what it ensures.
use Rattle.tsp_cases.proofs.Prelude.{◌≡◌, ℕ, List, length, subst, All}
use Rattle.tsp_cases.specs.Crossings.{sets_of, AreFirsts, IsNodePlace, AreDifferent, lists_of}
use Rattle.tsp_cases.proofs.Divisions.{parts_from, unlike_from}
use Rattle.tsp_cases.proofs.family.parts_of.Goals as goal

pub returns-in-Some-clause-parts : goal.returns-in-Some-clause-parts
returns-in-Some-clause-parts c =
    parts_from c.args.family.now.nodes (sets_of (lists_of c.args.family.now.sets.now)) c.in_ok-memberships.memberships.items c.in-Some.firsts.items c.in_ok-memberships.ensures
    (subst (λ (memberships : List ℕ). AreFirsts memberships c.in-Some.firsts.items) c.deref.ensures.value (rw c.in-Some.is at c.in_ok-found.ensures.firsts))

-- plan: by how the search ends: the first nodes of all parts (`parts_from`), or more nodes in different sets than there
-- may be parts (`unlike_from`)
pub returns-in-None-clause-parts : goal.returns-in-None-clause-parts
returns-in-None-clause-parts c =
    unlike_from c.args.family.now.nodes 15 (sets_of (lists_of c.args.family.now.sets.now)) c.in_ok-memberships.memberships.items c.in_ok-memberships.ensures
    (subst (λ (memberships : List ℕ). (nodes : List ℕ) × (length nodes ≡ 15) × All (IsNodePlace memberships) nodes × AreDifferent memberships nodes) c.deref.ensures.value
    (rw c.in-None.is at c.in_ok-found.ensures.firsts))
