-- The goals of `PointList::push_coordinate` in src/node_sections.rt, which takes the coordinate of a word, if a group
-- has begun: what it ensures.
use Rattle.tsp_read.proofs.node_sections.PointList.push_coordinate.Goals as goal

pub returns-in-Some-clause-taken : goal.returns-in-Some-clause-taken
returns-in-Some-clause-taken c = λ taken in_space n words word read h. c.put.ensures in_space n words word h read
