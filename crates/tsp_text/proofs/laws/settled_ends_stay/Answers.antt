-- The goals of `settled_ends_stay` in src/laws.rt. A settled end line ends every longer text.
use Rattle.tsp_text.proofs.SettledFaults.{part_kept, ended_kept}
use Rattle.tsp_text.proofs.laws.settled_ends_stay.Goals as goal

-- plan: settled items begin those of every longer text (`part_kept`), and what follows the end line has no fault
-- (`ended_kept`)
pub returns-clause-part : goal.returns-clause-part
returns-clause-part c = λ bytes more clean ended. part_kept bytes more clean ended

pub returns-clause-fault : goal.returns-clause-fault
returns-clause-fault c = λ bytes more clean ended. ended_kept bytes more clean ended
