-- Which writes fail, and that a failed write left a writer in its state: the cause of `output: device`. src/watched.rt
-- promises it, and so does the clause `cause` of each run. In no circle of docs/trust.md, because no `yes` rests on it.
-- tsp_judge imports it, too.
use Rattle.std.specs.Prelude.{◌≡◌, ℕ, Bool, true, List, length, Result, Ok, Err, ◌&&◌, ◌==◌, nat_lt}
use Rattle.std.specs.declared.io.Error.{Error}

-- a write fails by an error, or by taking no byte of a text that isn't empty
abbrev pub write_fails : {E : Type 0} → Result ℕ E → List ℕ → Bool
write_fails (Ok count) text = (count == 0) && nat_lt 0 (length text)
write_fails (Err e) text = true

-- one write of a text to the writer `before` returned this result, which is a failure, and left the writer `left`
pub record LeftByFailedWrite {W : Type 0} (takes : W → List ℕ → Result ℕ Error → W → Type 0) (left : W) : Type 0 where
  pub before : W
  pub text : List ℕ
  pub answer : Result ℕ Error
  pub fails : write_fails answer text ≡ true
  pub asked : takes before text answer left
