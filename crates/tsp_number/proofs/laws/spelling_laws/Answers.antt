-- The goals of `spelling_laws` in src/laws.rt: what it ensures.
use Rattle.tsp_number.proofs.Spelled.{stands_for, round_trip}
use Rattle.tsp_number.proofs.laws.spelling_laws.Goals as goal

-- plan: a whole part and its decimals mean the number (`stands_for`); a word means one number, so reading gives it
-- (`round_trip`)
pub returns-clause-stands : goal.returns-clause-stands
returns-clause-stands c = stands_for

pub returns-clause-round_trip : goal.returns-clause-round_trip
returns-clause-round_trip c = round_trip
