-- The goals of `NumberList::open` in src/node_sections.rt, which begins the section: what it ensures.
use Rattle.tsp_read.proofs.Prelude.{[], arith, rules, w64, to_z-of_z, pos, number_value}
use mir.Val.{SFits}
use Rattle.tsp_read.proofs.GroupSteps.{none_so_far}
use Rattle.tsp_read.proofs.node_sections.NumberList.open.Goals as goal

-- plan: no words have come (`none_so_far`)
pub returns : goal.returns
returns c =
    let low_fits : SFits w64 c.args.low = search rules in
    let high_fits : SFits w64 c.args.high = search rules in record {
      from = to_z-of_z w64 c.args.low low_fits;
      to = to_z-of_z w64 c.args.high high_fits;
      read = none_so_far 2 (number_value c.args.low c.args.high) (pos 0) [] [] c.in_ok-filled.field-0.items c.in_ok-filled-2.field-0.items c.args.n (omega arith)
          (c.in_ok-filled.ensures.items_if_clones_equal (λ y h. h)) (c.in_ok-filled-2.ensures.items_if_clones_equal (λ y h. h)) tt;
    }
