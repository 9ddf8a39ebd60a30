-- The goals of `examples_of_sections` in src/examples.rt: what it ensures.
use Rattle.tsp_file.proofs.Prelude.{rules, refl, digits, decimals, nodes_to, cells_of_line}
use Rattle.tsp_file.proofs.examples.examples_of_sections.Goals as goal

-- plan: the text of each small file is computed
pub returns-clause-coords : goal.returns-clause-coords
unfolding digits decimals nodes_to cells_of_line
returns-clause-coords c = search rules

pub returns-clause-display : goal.returns-clause-display
unfolding digits decimals nodes_to cells_of_line
returns-clause-display c = search rules

pub returns-clause-demands : goal.returns-clause-demands
unfolding digits decimals nodes_to cells_of_line
returns-clause-demands c = search rules

pub returns-clause-depots : goal.returns-clause-depots
unfolding digits decimals nodes_to cells_of_line
returns-clause-depots c = search rules

pub returns-clause-fixed : goal.returns-clause-fixed
unfolding digits decimals nodes_to cells_of_line
returns-clause-fixed c = search rules

pub returns-clause-weights : goal.returns-clause-weights
unfolding digits decimals nodes_to cells_of_line
returns-clause-weights c = search rules

pub returns-clause-no_line_without_weights : goal.returns-clause-no_line_without_weights
unfolding digits decimals nodes_to cells_of_line
returns-clause-no_line_without_weights c = search rules

pub returns-clause-tours : goal.returns-clause-tours
unfolding digits decimals nodes_to cells_of_line
returns-clause-tours c = search rules

pub returns-clause-node_potentials : goal.returns-clause-node_potentials
unfolding digits decimals nodes_to cells_of_line
returns-clause-node_potentials c = search rules

pub returns-clause-row_potentials : goal.returns-clause-row_potentials
unfolding digits decimals nodes_to cells_of_line
returns-clause-row_potentials c = search rules

pub returns-clause-column_potentials : goal.returns-clause-column_potentials
unfolding digits decimals nodes_to cells_of_line
returns-clause-column_potentials c = search rules

pub returns-clause-fixed_potentials : goal.returns-clause-fixed_potentials
unfolding digits decimals nodes_to cells_of_line
returns-clause-fixed_potentials c = search rules

pub returns-clause-families : goal.returns-clause-families
unfolding digits decimals nodes_to cells_of_line
returns-clause-families c = search rules

pub returns-clause-memories : goal.returns-clause-memories
unfolding digits decimals nodes_to cells_of_line
returns-clause-memories c = search rules

pub returns-clause-subset_rows : goal.returns-clause-subset_rows
unfolding digits decimals nodes_to cells_of_line
returns-clause-subset_rows c = search rules

pub returns-clause-branches : goal.returns-clause-branches
unfolding digits decimals nodes_to cells_of_line
returns-clause-branches c = search rules

pub returns-clause-no_families : goal.returns-clause-no_families
unfolding digits decimals nodes_to cells_of_line
returns-clause-no_families c = search rules

pub returns-clause-no_memories : goal.returns-clause-no_memories
unfolding digits decimals nodes_to cells_of_line
returns-clause-no_memories c = search rules

pub returns-clause-no_rows : goal.returns-clause-no_rows
unfolding digits decimals nodes_to cells_of_line
returns-clause-no_rows c = search rules

pub returns-clause-in_space : goal.returns-clause-in_space
unfolding digits decimals nodes_to cells_of_line
returns-clause-in_space c = search rules

pub returns-clause-shown : goal.returns-clause-shown
unfolding digits decimals nodes_to cells_of_line
returns-clause-shown c = search rules

pub returns-clause-whole : goal.returns-clause-whole
unfolding digits decimals nodes_to cells_of_line
returns-clause-whole c = search rules

pub returns-clause-all_fields : goal.returns-clause-all_fields
unfolding digits decimals nodes_to cells_of_line
returns-clause-all_fields c = refl
