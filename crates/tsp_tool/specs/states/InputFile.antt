-- What a task reads from (`InputFile`): standard input, an opened file, or the error of a file that couldn't be opened;
-- and what one call on it returns (`IsAskedOnce`, `GivesOnce`). `src/input.rt` promises it, and opens files so
-- (`IsInputFileOf`).
use Rattle.std.specs.Prelude.{◌≡◌, ℕ, ℤ, Bool, true, false, List, Option, None, Some, Result, Err}
use Rattle.std.specs.IoError.{error_kind, raw_os_error}
use Rattle.std.specs.declared.io.Error.{Error}
use denote.Ref.{MutBor}
use denote.Param.Members.{Once}
use Rattle.tsp_io.specs.states.Watched.{Calls}
use Rattle.tsp_tool.specs.declared.job.InputPath.{InputPath}
use Rattle.tsp_tool.specs.declared.job.InputPath.TheVariants as input_paths
use Rattle.tsp_tool.specs.declared.input.InputFile.{InputFile}
use Rattle.tsp_tool.specs.declared.input.InputFile.TheVariants.{Input, Opened, Missing}

-- whether the file is missing
abbrev pub is_missing : {I F : Type 0} → InputFile I F → Bool
is_missing (Input input) = false
is_missing (Opened file) = false
is_missing (Missing error) = true

-- the bytes that it has left, if these are known
abbrev pub remaining_of : {I F : Type 0} → (I → Option (List ℕ)) → (F → Option (List ℕ)) → InputFile I F → Option (List ℕ)
remaining_of of_input of_file (Input input) = of_input input
remaining_of of_input of_file (Opened file) = of_file file
remaining_of of_input of_file (Missing error) = None

-- `-` is given standard input, and a path a file that was opened or is missing
abbrev pub IsInputFileOf : {I F : Type 0} → InputPath → InputFile I F → Type 0
IsInputFileOf input_paths.Input (Input input) = Unit {0}
IsInputFileOf input_paths.Input (Opened file) = ⊥
IsInputFileOf input_paths.Input (Missing error) = ⊥
IsInputFileOf (input_paths.Path path) (Input input) = ⊥
IsInputFileOf (input_paths.Path path) (Opened file) = Unit {0}
IsInputFileOf (input_paths.Path path) (Missing error) = Unit {0}

-- ---- what a read does

-- the other error has the same number of the system; if that has none, it is of the same kind
abbrev pub HasSystemCode : Option ℤ → Error → Error → Type 0
HasSystemCode (Some code) error other = raw_os_error other ≡ Some code
HasSystemCode None error other = error_kind other ≡ error_kind error

-- the two errors are the same in this respect
abbrev pub IsSameError : Error → Error → Type 0
IsSameError error other = HasSystemCode (raw_os_error error) error other

-- a call on a reader and a buffer, each by `&mut`, that returns an R
abbrev pub Asking : Type 0 → Type 0 → Type 0 → Type 0 → Type 1
Asking Call T B R = Once Call (MutBor T × (MutBor B × Unit {0})) (R × (MutBor T × (MutBor B × Unit {0})))

-- Standard input or the file is asked by its call, once, and this is its result, as it is. A missing file returns an
-- error that is the same as its own.
abbrev pub IsAskedOnce : {I F B A OfInput OfFile : Type 0} → Asking OfInput I B (Result A Error) → OfInput
    → Asking OfFile F B (Result A Error) → OfFile → InputFile I F → B → Result A Error → InputFile I F → B → Type 0
IsAskedOnce asks_input of_input asks_file of_file (Input old) room answer (Input new) filled =
    Calls asks_input of_input old room answer new filled
IsAskedOnce asks_input of_input asks_file of_file (Opened old) room answer (Opened new) filled =
    Calls asks_file of_file old room answer new filled
IsAskedOnce asks_input of_input asks_file of_file (Missing error) room (Err found) (Missing left) filled = IsSameError error found
    × (left ≡ error) × (filled ≡ room)
IsAskedOnce asks_input of_input asks_file of_file old room answer new filled = ⊥

-- how a read may end: from a reader and a buffer, the result, the buffer and the reader after it
abbrev pub Giving : Type 0 → Type 1
Giving R = R → List ℕ → Result ℕ Error → List ℕ → R → Type 0

-- A read is one of standard input or of the file, and returns what that returns. A missing file returns its own error.
abbrev pub GivesOnce : {I F : Type 0} → Giving I → Giving F → InputFile I F → List ℕ → Result ℕ Error → List ℕ → InputFile I F → Type 0
GivesOnce of_input of_file (Input old) room answer filled (Input new) = of_input old room answer filled new
GivesOnce of_input of_file (Opened old) room answer filled (Opened new) = of_file old room answer filled new
GivesOnce of_input of_file (Missing error) room (Err found) filled (Missing left) = IsSameError error found × (left ≡ error)
    × (filled ≡ room)
GivesOnce of_input of_file old room answer filled new = ⊥
