-- The goals of `examples_of_validity` in src/examples.rt whose lists are long: they are computed.
use Rattle.std.proofs.Common.{refl}
use Rattle.tsp_file.proofs.examples.examples_of_validity.Goals as goal

-- plan: each list is as long as its limit, or by one longer, and the test of it is computed
pub returns-clause-longest_name : goal.returns-clause-longest_name
returns-clause-longest_name c = refl

pub returns-clause-longer_name : goal.returns-clause-longer_name
returns-clause-longer_name c = refl

pub returns-clause-most_comments : goal.returns-clause-most_comments
returns-clause-most_comments c = refl

pub returns-clause-more_comments : goal.returns-clause-more_comments
returns-clause-more_comments c = refl

pub returns-clause-most_others : goal.returns-clause-most_others
returns-clause-most_others c = refl

pub returns-clause-more_others : goal.returns-clause-more_others
returns-clause-more_others c = refl

pub returns-clause-most_depots : goal.returns-clause-most_depots
returns-clause-most_depots c = refl

pub returns-clause-more_depots : goal.returns-clause-more_depots
returns-clause-more_depots c = refl

pub returns-clause-most_pairs : goal.returns-clause-most_pairs
returns-clause-most_pairs c = refl

pub returns-clause-more_pairs : goal.returns-clause-more_pairs
returns-clause-more_pairs c = refl

pub returns-clause-most_triples : goal.returns-clause-most_triples
returns-clause-most_triples c = refl

pub returns-clause-more_triples : goal.returns-clause-more_triples
returns-clause-more_triples c = refl
