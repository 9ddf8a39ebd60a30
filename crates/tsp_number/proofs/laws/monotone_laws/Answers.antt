-- The goals of `monotone_laws` in src/laws.rt: what it ensures.
use Rattle.tsp_number.proofs.Comparisons.{euc_2d-grows, ceil_2d-grows, man_2d-grows, max_2d-grows, att-grows, euc_3d-grows, man_3d-grows, max_3d-grows}
use Rattle.tsp_number.proofs.laws.monotone_laws.Goals as goal

-- plan: for each distance: larger differences have a larger square, sum or maximum, and each rounding grows with it
pub returns-clause-euc_2d : goal.returns-clause-euc_2d
returns-clause-euc_2d c = euc_2d-grows

pub returns-clause-ceil_2d : goal.returns-clause-ceil_2d
returns-clause-ceil_2d c = ceil_2d-grows

pub returns-clause-man_2d : goal.returns-clause-man_2d
returns-clause-man_2d c = man_2d-grows

pub returns-clause-max_2d : goal.returns-clause-max_2d
returns-clause-max_2d c = max_2d-grows

pub returns-clause-att : goal.returns-clause-att
returns-clause-att c = att-grows

pub returns-clause-euc_3d : goal.returns-clause-euc_3d
returns-clause-euc_3d c = euc_3d-grows

pub returns-clause-man_3d : goal.returns-clause-man_3d
returns-clause-man_3d c = man_3d-grows

pub returns-clause-max_3d : goal.returns-clause-max_3d
returns-clause-max_3d c = max_3d-grows
