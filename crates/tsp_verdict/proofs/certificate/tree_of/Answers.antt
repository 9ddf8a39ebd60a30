-- The goals of `tree_of` in src/certificate.rt, which returns the tree of a certificate, or the first reason: what
-- it ensures.
use Rattle.tsp_verdict.proofs.Prelude.{◌≡◌, ◌≢◌, false, true, rules, nodes_of, is_branches_file}
use Rattle.tsp_verdict.proofs.TreeReasons.{no_branches, other_dimension}
use Rattle.tsp_verdict.proofs.certificate.tree_of.Goals as goal

-- plan: each field of the tree is one of the file, whose facts its rules give
pub returns-then-ne : goal.returns-then-ne
returns-then-ne c =
    let sort : is_branches_file c.args.branches.now.kind ≡ true = search rules in
    let other : nodes_of c.args.branches.now ≢ nodes_of c.args.instance.now = search rules in
    other_dimension c.args.instance.now c.args.branches.now sort other
