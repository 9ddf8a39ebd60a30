-- The goals of `texts_have_one_answer` in src/laws.rt. Every text has exactly one answer.
use Rattle.tsp_text.proofs.SettledFaults.{one_answer, never_both, one_file, fault_of_text}
use Rattle.tsp_text.proofs.laws.texts_have_one_answer.Goals as goal

-- plan: by whether the text has a fault, which is then the answer; else the one file that its items give
pub returns-clause-one : goal.returns-clause-one
returns-clause-one c = λ bytes. one_answer bytes

pub returns-clause-never_both : goal.returns-clause-never_both
returns-clause-never_both c = λ bytes file found parses_to. never_both bytes file found parses_to

pub returns-clause-one_file : goal.returns-clause-one_file
returns-clause-one_file c = λ bytes file other parses_to also. one_file bytes file other parses_to also

pub returns-clause-of_text : goal.returns-clause-of_text
returns-clause-of_text c = λ bytes found e. fault_of_text bytes found e
