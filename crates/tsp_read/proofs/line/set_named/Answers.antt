-- The goals of `set_named` in src/line.rt, which sets the value that a line names: what it ensures.
use Rattle.tsp_read.proofs.Prelude.{refl, ◌∙◌, sym, is_some, first_word, is_left_out}
use Rattle.tsp_read.proofs.ListSteps.{fault_of_value}
use Rattle.tsp_read.proofs.line.set_named.Goals as goal

-- plan: by the value: it is named, or has the fault of its row (`fault_of_value`)
pub returns-in-Err : goal.returns-in-Err
returns-in-Err g c =
    let word = first_word c.args.value.now in (
      refl,
      fault_of_value (is_some c.args.slot.now) (is_left_out c.args.field word) _
          c.args.late c.in-Err.fault (sym c.is_some.ensures ∙ c.if-is_some.false) c.in-Err.ensures,
    )
