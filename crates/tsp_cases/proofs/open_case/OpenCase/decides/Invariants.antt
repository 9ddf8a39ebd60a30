-- The loop of `OpenCase::decides` in src/open_case.rt, which tests whether a pair is decided.
use Rattle.tsp_cases.proofs.Prelude.{◌≡◌, ◌<◌, ℕ, false, slice_index_or}
use Rattle.tsp_cases.specs.declared.decision.Decision.{Decision}
use Rattle.tsp_cases.specs.Cases.{is_same}
use Rattle.tsp_cases.proofs.open_case.OpenCase.decides.Given as goal

-- no decision before this one is on the pair
abbrev pub invariant-decisions : goal.invariant-decisions
invariant-decisions l = (k : ℕ) (d : Decision) → k < l.decision-index → is_same l.self.by_node.directed l.pair (slice_index_or l.own k d).pair ≡ false
