-- The goals of `no_numbers_without_memory` in src/examples.rt: what it ensures.
use Rattle.tsp_c.proofs.Prelude.{◌≡◌, refl, arith, RunFault, File, WrongKind, Write, OutOfMemory, Relayout, status_of_fault}
use Rattle.tsp_text.specs.declared.fault.ReadFault.TheVariants as read_faults
use Rattle.tsp_c.specs.CallResult.{blank_result, result_of_fault}
use Rattle.tsp_c.proofs.examples.no_numbers_without_memory.Goals as goal

no_numbers : (fault : RunFault) → status_of_fault fault ≡ 3 → result_of_fault fault ≡ blank_result
no_numbers (File file (read_faults.Line line word found)) is = absurd (omega (arith, is))
no_numbers (File file (read_faults.End found)) is = absurd (omega (arith, is))
no_numbers (File file read_faults.TooLong) is = absurd (omega (arith, is))
no_numbers (File file read_faults.OutOfMemory) is = refl
no_numbers (File file read_faults.Device) is = refl
no_numbers WrongKind is = absurd (omega (arith, is))
no_numbers OutOfMemory is = refl
no_numbers (Relayout refused) is = refl
no_numbers (Write found) is = refl

-- plan: by the fault of the run: one whose status is 3 has no numbers (`no_numbers`)
pub returns : goal.returns
returns c = no_numbers
