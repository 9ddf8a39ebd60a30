-- The goals of `each_node_has_one_group` in src/laws.rt. A section by node that isn't incomplete has one group for
-- each node.
use Rattle.tsp_text.proofs.EachOnce.{each_once}
use Rattle.tsp_text.proofs.laws.each_node_has_one_group.Goals as goal

-- plan: each group has begun with a new node, and there are as many groups as nodes, so each node comes once
-- (`each_once`)
pub returns : goal.returns
returns c = λ items field clean by_node stands whole. each_once items field clean by_node stands whole
