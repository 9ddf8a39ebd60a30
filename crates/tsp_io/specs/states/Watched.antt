-- What a reader that remembers a failed read holds (`Watched`), and the trace of a call on it (`read_trace_of`): the
-- bytes that it delivered, and whether it failed. `src/watched.rt` promises what it holds. A change reaches every
-- contract that says what was read: `tsp_read/src/api.rt`, and the runs in tsp_solution, tsp_judge and tsp_tool. tsp_c
-- imports it, too.
use Rattle.std.specs.Prelude.{◌≡◌, ℕ, Bool, List, Option, Result, Ok, ◌++◌, ◌⊎◌, [], ◌∷◌}
use Rattle.std.specs.declared.io.Error.{Error}
use denote.Param.Members.{Once}
use denote.Ref.{MutBor}
use Rattle.tsp_io.specs.Streams.{ReadTrace}
use Rattle.tsp_io.specs.declared.watched.Script.{Script}
use Rattle.tsp_io.specs.declared.watched.Watched.{Watched}

-- the reader inside
abbrev pub watched : {T : Type 0} → Watched T → T
watched w = w.inner

-- whether a read of it has failed
abbrev pub has_failed : {T : Type 0} → Watched T → Bool
has_failed w = w.failed

-- one call at a `&mut` to x and one to y; it may return r, and leave x' and y' there
pub record Calls {F T B R : Type 0} (g : Once F (MutBor T × (MutBor B × Unit {0})) (R × (MutBor T × (MutBor B × Unit {0}))))
    (f : F) (x : T) (y : B) (r : R) (x' : T) (y' : B) : Type 0 where
  pub first : MutBor T
  pub second : MutBor B
  pub shows : (first.now ≡ x) × (second.now ≡ y)
  pub first_left : MutBor T
  pub second_left : MutBor B
  pub met : g.post f (first, (second, tt)) (r, (first_left, (second_left, tt)))
  pub leaves : (first_left.now ≡ x') × (second_left.now ≡ y')

-- ---- the read trace of a call

-- the read trace of a watched reader
abbrev pub read_trace_of : {R : Type 0} → (R → Option (List ℕ)) → Watched R → Watched R → List ℕ → ReadTrace
read_trace_of remaining old new given = record {
  known = remaining (watched old);
  left = remaining (watched new);
  given = given;
  had_failed = has_failed old;
  failed = has_failed new;
}

-- ---- a reader whose answers are a list

-- the answers that it has left; the last of the list comes first
abbrev pub answers_of : Script → List (Result ℕ Error)
answers_of script = script.answers.items

-- this is the next answer, and the others are left; without an answer it is 0, the end of a text
abbrev pub AnswersNext : List (Result ℕ Error) → Result ℕ Error → List (Result ℕ Error) → Type 0
AnswersNext old answer new = (old ≡ new ++ answer ∷ []) ⊎ ((old ≡ []) × (new ≡ []) × (answer ≡ Ok 0))
