-- The goals of `files_have_one_verdict` in src/one_verdict.rt: what it ensures.
use Rattle.tsp_verdict.proofs.OneVerdict.{Laws, one_verdict, one_bound, one_known_bound, one_of_solution}
use Rattle.tsp_verdict.proofs.one_verdict.files_have_one_verdict.Goals as goal

-- plan: each part is unique, given the laws of the crates below as a record (`Laws`)
pub returns : goal.returns
returns c =
    let laws : Laws = record {
      numbers = c.numbers_are_unique.ensures;
      leaves = c.case_tree_bounds_are_unique.ensures;
      q_routes = c.plan_bounds_are_unique.ensures;
    } in
    record {
      verdict = one_verdict laws;
      bound = one_bound laws;
      known_bound = one_known_bound laws;
      solution = one_of_solution laws;
    }
