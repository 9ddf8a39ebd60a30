-- The goals of `examples_of_verdicts` in src/examples.rt: what it ensures.
use Rattle.std.proofs.Common.{false, true, [], ◌∷◌, refl, inl, inr}
use Rattle.tsp_cases.specs.Examples.{with_pair, branches, branches_apart, on_both_sides}
use Rattle.tsp_cases.proofs.SmallCaseTrees.{no_sets, one_tooth, two_teeth, node_twice, teeth_meet, tooth_inside, tooth_outside, lone_set, no_node, all_nodes, lone_node_twice, never_twice}
use Rattle.tsp_cases.proofs.Passes.{first_twice_by_place}
use Rattle.tsp_cases.proofs.examples.examples_of_verdicts.Goals as goal

-- plan: each example breaks one condition of a comb, of a lone set or of a tree, or has all of them
pub returns : goal.returns
returns c = record {
  no_sets = no_sets;
  one_tooth = one_tooth;
  two_teeth = two_teeth;
  node_twice = node_twice;
  teeth_meet = teeth_meet;
  tooth_inside = tooth_inside;
  tooth_outside = tooth_outside;
  lone_set = lone_set;
  no_node = no_node;
  all_nodes = all_nodes;
  lone_node_twice = lone_node_twice;
  again = first_twice_by_place false [] (branches 1 2 1 2) 2 (inr (refl, inl (refl, refl)));
  again_turned = first_twice_by_place false [] (branches 1 2 2 1) 2 (inr (refl, inl (refl, refl)));
  given = first_twice_by_place false (with_pair 3 4 ∷ []) (branches 1 2 4 3) 2 (inr (refl, inl (refl, refl)));
  arc_again = first_twice_by_place true [] (branches 1 2 1 2) 2 (inr (refl, inl (refl, refl)));
  other_arc = λ branch twice. never_twice branch twice;
  without_it = λ changes. first_twice_by_place false [] (branches_apart 1 2 1 2 changes) 2 (inr (refl, inl (refl, refl)));
  sides = λ changes. first_twice_by_place false [] (on_both_sides changes) 4 (inr (refl, inr (refl, inr (refl, inl (refl, refl)))));
}
