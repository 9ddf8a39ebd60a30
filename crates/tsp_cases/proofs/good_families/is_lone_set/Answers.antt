-- The goals of `is_lone_set` in src/good_families.rt, which says whether marked nodes are a lone set: what it ensures.
use Rattle.std.proofs.Common.{length, rules}
use Rattle.tsp_cases.specs.states.GoodFamilies.{is_marked}
use Rattle.tsp_cases.proofs.GoodFamilies.{lone_by_marks, lone_left_out}
use Rattle.tsp_cases.proofs.good_families.is_lone_set.Goals as goal

-- plan: by the marks of nodes: the set has a node, has none twice, and leaves one out (`lone_by_marks`)
pub returns-then-not-is_empty : goal.returns-then-not-is_empty
returns-then-not-is_empty c = λ n long are same. (
  λ found. lone_by_marks n (length c.args.handles.now) (is_marked c.args.handles.now c.args.mark) c.args.nodes.now long are same (search rules) (c.leaves_one_out.ensures.0 found),
  λ lone. c.leaves_one_out.ensures.1 (lone_left_out n (length c.args.handles.now) (is_marked c.args.handles.now c.args.mark) c.args.nodes.now long same lone),
)
