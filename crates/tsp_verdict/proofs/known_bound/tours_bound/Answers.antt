-- The goals of `tours_bound` in src/known_bound.rt, which bounds the tours of an instance by a certificate: what it
-- ensures if a reason applies to the instance.
use Rattle.tsp_verdict.proofs.OneReason.{tours_refused}
use Rattle.tsp_verdict.proofs.known_bound.tours_bound.Goals as goal

pub returns-in-Err : goal.returns-in-Err
returns-in-Err c =
    tours_refused c.args.by c.args.instance.now c.args.certificate.now c.in-Err.reason c.requires c.in-Err.ensures
