-- The goals of `refit` in src/boxes.rt, which fits a box to its halves: what it ensures.
use Rattle.tsp_bound.proofs.Prelude.{◌≡◌, ◌*◌, ◌+◌, Option, arith, sym, subst, refl, get_or_read}
use Rattle.tsp_bound.specs.declared.area.Area.{Area}
use Rattle.tsp_bound.specs.states.Boxes.{HoldsNode, area_at}
use Rattle.tsp_bound.proofs.boxes.refit.Goals as goal

-- plan: a place of either half is within the joined area
pub returns-clause-refit : goal.returns-clause-refit
returns-clause-refit c = λ place number.
    let left : c.index.result.now ≡ area_at c.args.areas.now.items (2 * c.args.v) = get_or_read c.args.areas.now.items (2 * c.args.v) c.index.result.now (omega arith) c.index.ensures _ in
    let right : c.index-2.result.now ≡ area_at c.args.areas.now.items (2 * c.args.v + 1) =
    get_or_read c.args.areas.now.items (2 * c.args.v + 1) c.index-2.result.now (omega arith) c.index-2.ensures _ in
    record {
      box = c.joined-area.result;
      is = refl;
      left = λ p h. c.joined-area.ensures.left place number p (subst (λ (a : Option Area). HoldsNode place number a p) (sym left) h);
      right = λ p h. c.joined-area.ensures.right place number p (subst (λ (a : Option Area). HoldsNode place number a p) (sym right) h);
    }
