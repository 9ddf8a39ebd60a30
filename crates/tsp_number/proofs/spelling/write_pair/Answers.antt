-- The goals of `write_pair` in src/spelling.rt, which writes two digits at a place: what it ensures.
use Rattle.tsp_number.proofs.Prelude.{◌≡◌, ◌+◌, ◌%◌, set, arith, length-set, set_comm, drop-set}
use Rattle.tsp_number.proofs.Spelled.{PAIRS_at}
use Rattle.tsp_number.proofs.spelling.write_pair.Goals as goal

-- plan: both bytes are the table's (`PAIRS_at`), and what follows them is as it was (`drop-set`)
pub returns : goal.returns
returns c =
    let p = PAIRS_at c.args.pair c.requires.few in
    let at = c.args.at in
    let block = c.args.block.now in
    let e : at + 1 + 1 ≡ at + 2 = omega arith in
    rw (
      p.0,
      p.1,
      set_comm block at (at + 1) _ _ (λ x. omega arith),
      drop-set (set block (at + 1) (48 + c.args.pair % 10)) at _ (omega (arith, length-set block (at + 1) (48 + c.args.pair % 10))),
      drop-set block (at + 1) _ (omega arith),
      e,
    )
