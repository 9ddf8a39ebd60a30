-- Small costs, cycles, trees and duals for src/examples.rt here, and for the examples of crates above. No other
-- contract uses them.
use Rattle.std.specs.Prelude.{ℕ, ◌+◌, ◌-◌, ◌*◌, ◌/◌, ◌==◌, if◌then◌else◌, min, max, List, [], ◌∷◌, slice_index_or, ℤ, pos, negsuc, ◌≡◌}
use Rattle.tsp_theory.specs.Tour.{length_of}

-- symmetric costs, from those between 2 and 1, 3 and 1, 3 and 2, 4 and 1, 4 and 2, 4 and 3
abbrev pub symmetric_costs : List ℤ → ℕ → ℕ → ℤ
symmetric_costs costs i j = slice_index_or costs ((max i j - 1) * (max i j - 2) / 2 + (min i j - 1)) (pos 0)

-- the straight distances of the points (0,0), (3,0), (3,4) and (0,4)
abbrev pub rectangle_costs : List ℤ
rectangle_costs = pos 3 ∷ pos 5 ∷ pos 4 ∷ pos 4 ∷ pos 5 ∷ pos 3 ∷ []

-- the costs between these points
abbrev pub rectangle : ℕ → ℕ → ℤ
rectangle = symmetric_costs rectangle_costs

-- node 2 is at 1 from each other node, and the others are at 2 from each other
abbrev pub star_costs : List ℤ
star_costs = pos 1 ∷ pos 2 ∷ pos 1 ∷ pos 2 ∷ pos 1 ∷ pos 2 ∷ []

-- the costs between these nodes
abbrev pub star : ℕ → ℕ → ℤ
star = symmetric_costs star_costs

-- the same with 10 taken off each cost
abbrev pub costs_below_zero : List ℤ
costs_below_zero = negsuc 8 ∷ negsuc 7 ∷ negsuc 8 ∷ negsuc 7 ∷ negsuc 8 ∷ negsuc 7 ∷ []

-- the costs between these nodes
abbrev pub star_below_zero : ℕ → ℕ → ℤ
star_below_zero = symmetric_costs costs_below_zero

-- three nodes, by rows: 9999 1 10, 10 9999 2, 3 10 9999
abbrev pub directed_costs : List ℤ
directed_costs = pos 9999 ∷ pos 1 ∷ pos 10 ∷ pos 10 ∷ pos 9999 ∷ pos 2 ∷ pos 3 ∷ pos 10 ∷ pos 9999 ∷ []

-- the costs between these nodes, which depend on the direction
abbrev pub directed : ℕ → ℕ → ℤ
directed i j = slice_index_or directed_costs (3 * (i - 1) + (j - 1)) (pos 0)

-- two nodes at 1 from each other, each at -1 from itself
abbrev pub with_loops : ℕ → ℕ → ℤ
with_loops i j = if i == j then negsuc 0 else pos 1

-- numbers of three nodes
abbrev pub three_numbers : ℤ → ℤ → ℤ → List ℤ
three_numbers a b c = a ∷ b ∷ c ∷ []

-- the number 0 of each of three nodes
abbrev pub three_zeros : List ℤ
three_zeros = three_numbers (pos 0) (pos 0) (pos 0)

-- numbers of four nodes
abbrev pub four_numbers : ℤ → ℤ → ℤ → ℤ → List ℤ
four_numbers a b c d = a ∷ three_numbers b c d

-- the number 0 of each of four nodes
abbrev pub zeros : List ℤ
zeros = four_numbers (pos 0) (pos 0) (pos 0) (pos 0)

-- the number 1 of node 2, and 0 of the others
abbrev pub one_on_two : List ℤ
one_on_two = four_numbers (pos 0) (pos 1) (pos 0) (pos 0)

-- two pairs at node 1 with these nodes, and two more pairs
abbrev pub pairs_of : ℕ → ℕ → ℕ × ℕ → ℕ × ℕ → List (ℕ × ℕ)
pairs_of first second p q = (1, first) ∷ (1, second) ∷ p ∷ q ∷ []

-- a number on the pair 1 and 3, and one on 2 and 4
abbrev pub on_diagonals : ℤ → ℤ → List (ℕ × ℕ × ℤ)
on_diagonals a b = (1, 3, a) ∷ (4, 2, b) ∷ []

-- ---- lists of two to four nodes

-- a list of two nodes
abbrev pub two : ℕ → ℕ → List ℕ
two a b = a ∷ b ∷ []

-- a list of three nodes
abbrev pub three : ℕ → ℕ → ℕ → List ℕ
three a b c = a ∷ two b c

-- a list of four nodes
abbrev pub four : ℕ → ℕ → ℕ → ℕ → List ℕ
four a b c d = a ∷ three b c d

-- the cycle through these nodes has this length under costs that depend on the direction
abbrev pub HasDirectedLength : List ℕ → ℤ → Type 0
HasDirectedLength nodes length = length_of directed nodes ≡ length
