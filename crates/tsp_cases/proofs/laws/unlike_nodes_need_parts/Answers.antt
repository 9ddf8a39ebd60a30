-- The goals of `unlike_nodes_need_parts` in src/laws.rt: what it ensures.
use Rattle.tsp_cases.proofs.PartWalks.{unlike_nodes_need_parts}
use Rattle.tsp_cases.proofs.laws.unlike_nodes_need_parts.Goals as goal

-- plan: nodes of which no two are in the same sets are in different parts, so there are at least as many parts
pub returns : goal.returns
returns c = unlike_nodes_need_parts
