-- The goals of `row_of` in src/leaf_weights.rt, which makes the row of a node: what a call requires, and what it
-- ensures.
use Rattle.tsp_routing.proofs.Prelude.{◌+◌, ◌∙◌, ℕ, ℤ, List, pos, neg_ℤ, length, ap, sym, subst, IsFromTo, least_at, written}
use Rattle.tsp_routing.specs.PlanBounds.{most_link}
use Rattle.tsp_routing.proofs.leaf_weights.row_of.Goals as goal

-- plan: the row is the one that was written over it
pub fill_row-requires-clause-room : goal.fill_row-requires-clause-room
fill_row-requires-clause-room g c = c.deref_mut.ensures.len ∙ (c.in_ok-row.ensures.len ∙ ap (λ (k : ℕ). k + 1) c.requires.count)

pub returns : goal.returns
returns g c =
    let row_is = written c.in_ok-row.row.len c.fill_row.new.row _ (c.fill_row.auto.row ∙ c.deref_mut.ensures.len) in
    record {
      places = ap length row_is ∙ (c.fill_row.auto.row
          ∙ (c.deref_mut.ensures.len ∙ (c.in_ok-row.ensures.len ∙ ap (λ (k : ℕ). k + 1) c.requires.count)));
      values = λ x there. ap (λ (xs : List ℤ). least_at xs x) row_is ∙ c.fill_row.ensures.values x there;
      sizes = λ x there.
          subst (λ (xs : List ℤ). IsFromTo (neg_ℤ (pos most_link)) (pos most_link) (least_at xs x)) (sym row_is)
          (c.fill_row.ensures.sizes x there);
    }
