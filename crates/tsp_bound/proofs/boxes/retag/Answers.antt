-- The goals of `retag` in src/boxes.rt, which tags a box by its halves: what it ensures.
use Rattle.tsp_bound.proofs.Prelude.{◌≡◌, ◌*◌, ◌+◌, ℕ, arith, sym, subst, refl, get_or_read}
use Rattle.tsp_bound.specs.states.Boxes.{box_at}
use Rattle.tsp_bound.specs.states.Components.{IsTagOf}
use Rattle.tsp_bound.proofs.boxes.retag.Goals as goal

-- plan: a place of either half has the tag that both halves share
pub returns-clause-refit : goal.returns-clause-refit
returns-clause-refit c =
    let left : c.index.result.now ≡ box_at 0 c.args.tags.now.items (2 * c.args.v) = get_or_read c.args.tags.now.items (2 * c.args.v) c.index.result.now (omega arith) c.index.ensures _ in
    let right : c.index-2.result.now ≡ box_at 0 c.args.tags.now.items (2 * c.args.v + 1) =
    get_or_read c.args.tags.now.items (2 * c.args.v + 1) c.index-2.result.now (omega arith) c.index-2.ensures _ in
    record {
      box = c.shared-tag.result;
      is = refl;
      left = λ p h. c.shared-tag.ensures.left p (subst (λ (a : ℕ). IsTagOf a p) (sym left) h);
      right = λ p h. c.shared-tag.ensures.right p (subst (λ (a : ℕ). IsTagOf a p) (sym right) h);
    }
