-- Whole command lines, on which the definitions are evaluated, for src/examples.rt alone.
use Rattle.std.specs.Prelude.{◌≡◌, List, [], Option, None, Some}
use Rattle.std.specs.Option.{option_map, option_map_or}
use Rattle.clap.specs.Words.{Text, first_of, fault_of, subcommand_of}
use Rattle.tsp_tool.specs.Grammar.{tsp, values_of}

-- the words are accepted, and are of this verb
abbrev pub IsWholeLine : Text → List Text → Type 0
IsWholeLine verb words = (fault_of tsp words ≡ []) × (option_map (λ found. found.0) (subcommand_of tsp words) ≡ Some verb)

-- the value that the words give to an argument or option
abbrev pub found_value : Text → List Text → Option Text
found_value id words = option_map_or (λ found. first_of id found.1) (subcommand_of tsp words) None

-- the values that the words give to an argument, in order
abbrev pub all_values : Text → List Text → List Text
all_values id words = option_map_or (λ found. values_of id found.1) (subcommand_of tsp words) []
