-- The goals of `distance_laws` in src/laws.rt: what it ensures.
use Rattle.tsp_number.proofs.RoundedRoots.{euc_2d_laws, ceil_2d_laws, man_2d_laws, max_2d_laws, att_laws}
use Rattle.tsp_number.proofs.Comparisons.{euc_3d_laws, man_3d_laws, max_3d_laws}
use Rattle.tsp_number.proofs.laws.distance_laws.Goals as goal

-- plan: for each distance: it is the least number that passes a test of squares or sums, so there is one; it is
-- symmetric as the differences are
pub returns-clause-euc_2d : goal.returns-clause-euc_2d
returns-clause-euc_2d c = euc_2d_laws

pub returns-clause-ceil_2d : goal.returns-clause-ceil_2d
returns-clause-ceil_2d c = ceil_2d_laws

pub returns-clause-man_2d : goal.returns-clause-man_2d
returns-clause-man_2d c = man_2d_laws

pub returns-clause-max_2d : goal.returns-clause-max_2d
returns-clause-max_2d c = max_2d_laws

pub returns-clause-att : goal.returns-clause-att
returns-clause-att c = att_laws

pub returns-clause-euc_3d : goal.returns-clause-euc_3d
returns-clause-euc_3d c = euc_3d_laws

pub returns-clause-man_3d : goal.returns-clause-man_3d
returns-clause-man_3d c = man_3d_laws

pub returns-clause-max_3d : goal.returns-clause-max_3d
returns-clause-max_3d c = max_3d_laws
