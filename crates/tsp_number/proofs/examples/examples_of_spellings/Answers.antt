-- The goals of `examples_of_spellings` in src/examples.rt: what it ensures.
use Rattle.std.proofs.Common.{rules}
use Rattle.std.specs.Fmt.{digits}
use Rattle.tsp_number.specs.NumberWord.{decimals}
use Rattle.tsp_number.proofs.examples.examples_of_spellings.Goals as goal

-- plan: each example is computed from the definition
pub returns-clause-zero : goal.returns-clause-zero
unfolding digits decimals
returns-clause-zero c = search rules

pub returns-clause-whole : goal.returns-clause-whole
unfolding digits decimals
returns-clause-whole c = search rules

pub returns-clause-half : goal.returns-clause-half
unfolding digits decimals
returns-clause-half c = search rules

pub returns-clause-below_one : goal.returns-clause-below_one
unfolding digits decimals
returns-clause-below_one c = search rules

pub returns-clause-finest : goal.returns-clause-finest
unfolding digits decimals
returns-clause-finest c = search rules

pub returns-clause-negative : goal.returns-clause-negative
unfolding digits decimals
returns-clause-negative c = search rules

pub returns-clause-largest : goal.returns-clause-largest
unfolding digits decimals
returns-clause-largest c = search rules
