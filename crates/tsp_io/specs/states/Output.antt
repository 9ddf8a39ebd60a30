-- What a writer that remembers a failed write holds (`Output`), the sink that contracts see (`sink_of`), and how a
-- function adds bytes to a text on its way out (`Puts`). `src/watched.rt` and `src/piece.rt` promise them. All that is
-- written rests on them: `Puts` is in the contract of every function in tsp_file and tsp_report that writes a line, and
-- `sink_of` in those of all runs in tsp_judge and tsp_tool. tsp_c and tsp_solution import it, too.
use Rattle.std.specs.Io.KnownBytes.{Appends}
use Rattle.std.specs.IoError.{error_kind}
use Rattle.std.specs.Prelude.{◌≡◌, ℕ, ◌<◌, Bool, true, false, List, Option, Some, Result, Ok, Err, ◌++◌}
use Rattle.std.specs.declared.io.Error.{Error}
use Rattle.std.specs.declared.io.ErrorKind.TheVariants as kinds
use Rattle.arrayvec.specs.ArrayVec.{ArrayVec}
use Rattle.tsp_io.specs.Streams.{Sink}
use Rattle.tsp_io.specs.Writing.{LeftByFailedWrite}
use Rattle.tsp_io.specs.declared.watched.Output.{Output}

-- the writer inside
abbrev pub writer_of : {W : Type 0} {T : _} → Output W T → W
writer_of out = out.inner

-- whether a write of it has failed
abbrev pub output_failed : {W : Type 0} {T : _} → Output W T → Bool
output_failed out = out.failed

-- the error of the system at the failure, if it is known
abbrev pub output_error : {W : Type 0} {T : _} → Output W T → Option Error
output_error out = out.error

-- the error after a write of a part: that of the write; one of the kind WriteZero if it took nothing; otherwise the one
-- from before
abbrev pub KeepsError : Result ℕ Error → Option Error → Option Error → Type 0
KeepsError (Err error) old new = new ≡ Some error
KeepsError (Ok count) old new = (count ≡ 0 → (error : Error) × (new ≡ Some error) × (error_kind error ≡ kinds.WriteZero))
    × (0 < count → new ≡ old)

-- If the writer has failed, a write left it so that returned an error or took nothing.
abbrev pub FailsByWrite : {W : Type 0} {T : _} → (W → List ℕ → Result ℕ Error → W → Type 0) → Output W T → Type 0
FailsByWrite takes out = output_failed out ≡ true → ∥ LeftByFailedWrite takes (writer_of out) ∥₁

-- the sink of a writer
abbrev pub sink_of : {W : Type 0} {T : _} → (W → Option (List ℕ)) → Output W T → Output W T → Sink
sink_of contents old new = record {
  held = contents (writer_of old);
  holds = contents (writer_of new);
  had_failed = output_failed old;
  failed = output_failed new;
}

-- ---- how far a text has come on its way to a writer

-- the bytes that the writer has, if they are known; whether it has failed; and the buffer's bytes, which wait to be
-- written
pub record Way : Type 0 where
  pub held : Option (List ℕ)
  pub failed : Bool
  pub piece : List ℕ

-- the same for a writer and its buffer
abbrev pub way_of : {W : Type 0} {T : _} → (W → Option (List ℕ)) → Output W T → List ℕ → Way
way_of contents out piece = record { held = contents (writer_of out); failed = output_failed out; piece = piece }

-- A prefix of the text has come to the writer that had `start`, and nothing else. While the writer hasn't failed, the
-- buffer has the rest of the text.
pub record Carries (start : Option (List ℕ)) (way : Way) (text : List ℕ) : Type 0 where
  pub front : List ℕ
  pub rest : List ℕ
  pub parts : front ++ rest ≡ text
  pub written : Appends start way.held front
  pub waits : way.failed ≡ false → rest ≡ way.piece

-- from `old` to `new` these bytes were added to whatever text was on its way
abbrev pub Carried : Way → Way → List ℕ → Type 0
Carried old new bytes = (start : Option (List ℕ)) (text : List ℕ)
    → Carries start old text → Carries start new (text ++ bytes)

-- a call with a writer and its buffer added these bytes to whatever text was on its way
abbrev pub Puts : {W : Type 0} {T : _} → (W → Option (List ℕ))
    → Output W T → ArrayVec ℕ → Output W T → ArrayVec ℕ → List ℕ → Type 0
Puts contents out piece new_out new_piece bytes =
    Carried (way_of contents out piece.items) (way_of contents new_out new_piece.items) bytes
