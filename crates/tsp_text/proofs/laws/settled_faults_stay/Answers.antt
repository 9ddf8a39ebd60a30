-- The goals of `settled_faults_stay` in src/laws.rt. A settled fault stays the fault of every longer text.
use Rattle.tsp_text.proofs.SettledFaults.{fault_kept, settled_kept}
use Rattle.tsp_text.proofs.laws.settled_faults_stay.Goals as goal

-- plan: settled items begin those of every longer text, so their fault is its first (`fault_kept`) and stays settled
-- (`settled_kept`)
pub returns-clause-stays : goal.returns-clause-stays
returns-clause-stays c = λ bytes more found e. fault_kept bytes more found e

pub returns-clause-settled : goal.returns-clause-settled
returns-clause-settled c = λ bytes more found e. settled_kept bytes more found e
