-- The loop of `are_teeth` in src/good_families.rt, which tests whether sets are teeth of a handle.
use Rattle.tsp_cases.proofs.Prelude.{◌≡◌, ℕ, length, drop, ◌↔◌}
use Rattle.tsp_cases.specs.Crossings.{AreSetsOf, lists_of}
use Rattle.tsp_cases.specs.states.GoodFamilies.{is_marked, AddsNoOther, AreTeeth}
use Rattle.tsp_cases.proofs.good_families.are_teeth.Given as goal

-- the sets left are teeth, with the marks now, exactly if all are, with the marks at the call
abbrev pub invariant-teeth : goal.invariant-teeth
invariant-teeth l = record {
  long : length l.used ≡ length l.fn.used;
  others : AddsNoOther l.mark l.fn.used l.used;
  rest : (n : ℕ) → AreSetsOf n l.teeth → AreTeeth n (is_marked l.handles l.mark) (is_marked l.used l.mark) (lists_of (drop l.tooth-index l.teeth))
      ↔ AreTeeth n (is_marked l.handles l.mark) (is_marked l.fn.used l.mark) (lists_of l.teeth);
}
