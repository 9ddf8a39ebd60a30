-- The goals of `put_section` in src/writer.rt, which adds the text of a section that is present: what it ensures.
use Rattle.tsp_file.proofs.writer.put_section.Goals as goal

-- plan: by the shape of the section: the call that writes this shape ensures its text
pub returns-in-Numbers : goal.returns-in-Numbers
returns-in-Numbers g c = rw c.in-Numbers.is (rw c.numbers.ensures at c.put_number_section.ensures)

pub returns-in-Points : goal.returns-in-Points
returns-in-Points g c = rw c.in-Points.is (rw c.points.ensures at c.put_point_section.ensures)

pub returns-in-SpacePoints : goal.returns-in-SpacePoints
returns-in-SpacePoints g c =
    rw c.in-SpacePoints.is (rw c.points-in-SpacePoints.ensures at c.put_point_section-in-SpacePoints.ensures)

pub returns-in-Depots : goal.returns-in-Depots
returns-in-Depots g c = rw c.in-Depots.is c.put_node_section.ensures

pub returns-in-Pairs : goal.returns-in-Pairs
returns-in-Pairs g c = rw c.in-Pairs.is c.put_pair_section.ensures

pub returns-in-Weights : goal.returns-in-Weights
returns-in-Weights g c = rw c.in-Weights.is c.put_weight_section.ensures

pub returns-in-Tours : goal.returns-in-Tours
returns-in-Tours g c = rw c.in-Tours.is c.put_tour_section.ensures

pub returns-in-Triples : goal.returns-in-Triples
returns-in-Triples g c = rw c.in-Triples.is c.put_triple_section.ensures

pub returns-in-Families : goal.returns-in-Families
returns-in-Families g c = rw c.in-Families.is c.put_family_section.ensures

pub returns-in-Memories : goal.returns-in-Memories
returns-in-Memories g c = rw c.in-Memories.is c.put_memory_section.ensures

pub returns-in-SubsetRows : goal.returns-in-SubsetRows
returns-in-SubsetRows g c = rw c.in-SubsetRows.is c.put_row_section.ensures

pub returns-in-Steps : goal.returns-in-Steps
returns-in-Steps g c = rw c.in-Steps.is c.put_step_section.ensures
