-- The rectangle with the sides 3 and 4 as a routing problem, and certificates for it. Only for src/examples.rt and its
-- lemmas.
use Rattle.tsp_routing.specs.Prelude.{ℕ, true, false, List, [], Option, ℤ, pos, negsuc, Step, Branch, Leaf, RoutingProblem, Decision, Family, family_with}
use Rattle.std.specs.Prelude.{◌∷◌}
use Rattle.tsp_cases.specs.Examples.{cost_in}
use Rattle.tsp_routing.specs.PlanVerdicts.{ArePlanNumbers, routing_with, IsBoundFound}
use Rattle.tsp_routing.specs.PlanLinks.{load_in, capacity_in_parts}
use Rattle.tsp_routing.specs.PlanBounds.{IsPlanBound}
use Rattle.tsp_routing.specs.QRoutes.{IsQRoute}

-- The sides are 1 2 and 3 4, of length 3, and 2 3 and 4 1, of length 4; the diagonals are 5. The depot is node 1, each
-- of the customers 2, 3 and 4 demands 4, and a route carries this much.
abbrev pub rectangle_with : ℤ → RoutingProblem
rectangle_with capacity = routing_with 4 (cost_in ((3 ∷ 5 ∷ 4 ∷ []) ∷ (4 ∷ 5 ∷ []) ∷ (3 ∷ []) ∷ [])) 1
    (pos 0 ∷ pos 4 ∷ pos 4 ∷ pos 4 ∷ []) capacity

-- a family of one set of these customers, which a plan crosses this often at least
abbrev pub lone_cut : ℕ → List ℕ → Family
lone_cut least customers = family_with (record { least = least; most = 1 }) (customers ∷ [])

-- ---- limits

-- the limit that a plan crosses the set with this number at most 2t times
abbrev pub at_most : ℕ → ℕ → Decision
at_most set half = record { pair = (set, half); taken = true }

-- the limit that it crosses the set at least 2t + 2 times
abbrev pub above : ℕ → ℕ → Decision
above set half = record { pair = (set, half); taken = false }

-- ---- walks

-- a walk in which each customer loads 4, if a route carries 8
abbrev pub IsQRouteByDemand : List ℕ → Type 0
IsQRouteByDemand nodes = IsQRoute 4 1 (load_in (rectangle_with (pos 8)) 1 0) (capacity_in_parts (rectangle_with (pos 8)) 1 0) nodes

-- a walk in units of 5, in which each customer loads 1, if a route carries 7
abbrev pub IsQRouteInFives : List ℕ → Type 0
IsQRouteInFives nodes = IsQRoute 4 1 (load_in (rectangle_with (pos 8)) 5 3) (capacity_in_parts (rectangle_with (pos 8)) 5 3) nodes

-- ---- leaves

-- the potential 0 at each of the four nodes
abbrev pub no_potentials : List ℤ
no_potentials = pos 0 ∷ pos 0 ∷ pos 0 ∷ pos 0 ∷ []

-- with these potentials, these multipliers of so many families make a good leaf
abbrev pub AreGoodMultipliers : List ℤ → ℕ → Type 0
AreGoodMultipliers multipliers families =
    ArePlanNumbers 4 families (record { potentials = no_potentials; multipliers = multipliers })

-- the bound of a leaf with the set 3 4: from its case, its multiplier, and the least weight of a walk
abbrev pub LeafHas : List Decision → ℤ → ℤ → ℤ → Type 0
LeafHas case multiplier each bound = IsPlanBound (rectangle_with (pos 8)) (pos 1) no_potentials
    (lone_cut 2 (3 ∷ 4 ∷ []) ∷ []) (multiplier ∷ []) case each bound

-- ---- certificates

-- a leaf with this potential at each customer
abbrev pub three_potentials : ℤ → List Step
three_potentials each = Leaf ((2, each) ∷ (3, each) ∷ (4, each) ∷ []) ∷ []

-- the bound of a certificate at the scale 1, which counts demands in units of 1
abbrev pub CertificateHas : ℤ → List (List (List ℕ)) → List Step → Option ℤ → Type 0
CertificateHas capacity families steps found = IsBoundFound (rectangle_with capacity) (pos 1) 1 families steps found

-- A branch on the set 3 4: if a plan crosses it at most twice, its multiplier is -1; if it does at least four
-- times, it is 2.
abbrev pub branch_on_two : List Step
branch_on_two = Branch 5 1 ∷ Leaf ((5, negsuc 0) ∷ []) ∷ Leaf ((5, pos 3) ∷ []) ∷ []
