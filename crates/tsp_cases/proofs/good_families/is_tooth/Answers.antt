-- The goals of `is_tooth` in src/good_families.rt, which says whether nodes are a tooth of the marked handle: what it
-- ensures.
use Rattle.std.proofs.lemmas.Bool.{both_ways, iff_false}
use Rattle.tsp_cases.specs.states.GoodFamilies.{is_marked}
use Rattle.tsp_cases.proofs.GoodFamilies.{tooth_found, tooth_inside, tooth_outside}
use Rattle.tsp_cases.proofs.good_families.is_tooth.Goals as goal

-- plan: the marks of the handle say whether a node is inside (`tooth_inside`) and one outside (`tooth_outside`)
pub returns-then-has_node : goal.returns-then-has_node
returns-then-has_node c = λ n are. (
  λ outside. tooth_found n (is_marked c.args.handles.now c.args.mark) c.args.nodes.now are (c.has_node.ensures.0 c.if-has_node.true) (c.has_node-then-has_node.ensures.0 outside),
  λ is. c.has_node-then-has_node.ensures.1 (tooth_outside n (is_marked c.args.handles.now c.args.mark) c.args.nodes.now is),
)

pub returns-else-has_node : goal.returns-else-has_node
returns-else-has_node c = λ n are. (
  λ impossible. absurd (both_ways c.has_node.result c.if-has_node.false impossible),
  λ is. absurd (iff_false c.has_node.ensures c.if-has_node.false (tooth_inside n (is_marked c.args.handles.now c.args.mark) c.args.nodes.now is)),
)
