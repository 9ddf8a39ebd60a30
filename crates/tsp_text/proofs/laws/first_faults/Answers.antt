-- The goals of `first_faults` in src/laws.rt. The first fault of items is that of the first item to which a row
-- applies.
use Rattle.tsp_text.proofs.SettledFaults.{found_first, first_found, none_has_row, clean_items}
use Rattle.tsp_text.proofs.laws.first_faults.Goals as goal

-- plan: item by item: a fault of an earlier item stays the first; else the row of the next item decides
pub returns-clause-found : goal.returns-clause-found
returns-clause-found c = λ items found e. found_first items found e

pub returns-clause-first : goal.returns-clause-first
returns-clause-first c = λ items found first. first_found items found first

pub returns-clause-clean : goal.returns-clause-clean
returns-clause-clean c = λ items clean. none_has_row items clean

pub returns-clause-none : goal.returns-clause-none
returns-clause-none c = λ items none. clean_items items none
