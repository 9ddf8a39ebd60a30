-- The goals of `examples_of_trees` in src/examples.rt: what it ensures.
use Rattle.tsp_theory.proofs.Prelude.{◌==◌, rules, arith, refl, pos, negsuc, list_any, both_ways}
use Rattle.tsp_theory.specs.Tree.{crosses, inner_pairs, IsLeastOneTree}
use Rattle.tsp_theory.specs.Examples.{rectangle_costs, star_costs, costs_below_zero, rectangle, zeros, four_numbers, one_on_two, pairs_of}
use Rattle.tsp_theory.proofs.SmallTrees.{tree_so, bound_so, costs_even}
use Rattle.tsp_theory.proofs.examples.examples_of_trees.Goals as goal

rectangle_tree : IsLeastOneTree 4 rectangle (pairs_of 2 4 (2, 3) (3, 4))
rectangle_tree = tree_so rectangle 4 3 (costs_even rectangle_costs) (search rules)

-- plan: each tree is least by its joins (`tree_so`), and its weight gives the bound (`bound_so`)
pub returns-clause-tree : goal.returns-clause-tree
returns-clause-tree c = rectangle_tree.tree

-- no pair leaves the part of node 4 alone
pub returns-clause-one_node_left_out : goal.returns-clause-one_node_left_out
returns-clause-one_node_left_out c =
    λ tree. both_ways (list_any (crosses (λ x. x == 4)) (inner_pairs (pairs_of 2 4 (2, 3) (2, 3)))) refl
    (tree.joined (λ x. x == 4) 4 2 (omega arith, omega arith) (omega arith, omega arith) refl refl)

pub returns-clause-least : goal.returns-clause-least
returns-clause-least c = rectangle_tree

pub returns-clause-rectangle_at_zero : goal.returns-clause-rectangle_at_zero
returns-clause-rectangle_at_zero c = bound_so rectangle_costs (pos 1) zeros 4 3 (pos 14) (search rules) (search rules)

pub returns-clause-star_at_zero : goal.returns-clause-star_at_zero
returns-clause-star_at_zero c = bound_so star_costs (pos 1) zeros 3 2 (pos 5) (search rules) (search rules)

pub returns-clause-star_at_ones : goal.returns-clause-star_at_ones
returns-clause-star_at_ones c =
    bound_so star_costs (pos 1) (four_numbers (pos 1) (pos 1) (pos 1) (pos 1)) 3 2 (pos 5) (search rules) (search rules)

pub returns-clause-star_at_a_half : goal.returns-clause-star_at_a_half
returns-clause-star_at_a_half c = bound_so star_costs (pos 2) one_on_two 3 2 (pos 6) (search rules) (search rules)

pub returns-clause-below_zero : goal.returns-clause-below_zero
returns-clause-below_zero c = bound_so costs_below_zero (pos 2) zeros 3 2 (negsuc 34) (search rules) (search rules)

pub returns-clause-below_zero_at_a_half : goal.returns-clause-below_zero_at_a_half
returns-clause-below_zero_at_a_half c = bound_so costs_below_zero (pos 2) one_on_two 3 2 (negsuc 33) (search rules) (search rules)
