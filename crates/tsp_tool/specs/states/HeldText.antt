-- A text in memory that is read in place of a solution's file. `src/held_text.rt` promises how it is read, and
-- `specs/FormComparison.antt` says which text stands for which file.
use Rattle.std.specs.Prelude.{ℕ, Bool, List, Option, Some, drop}
use Rattle.tsp_tool.specs.declared.held_text.HeldText.{HeldText}

-- the bytes that it has left
abbrev pub rest_of : HeldText → List ℕ
rest_of held = drop held.taken held.text.items

-- whether each read fails
abbrev pub fails_of : HeldText → Bool
fails_of held = held.fails

-- the bytes that it has left, as a reader whose bytes are known
abbrev pub held_remaining : HeldText → Option (List ℕ)
held_remaining held = Some (rest_of held)
