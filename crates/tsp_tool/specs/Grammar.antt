-- The commands, arguments and options of the program `tsp`, and which verb and values the words of a command line give,
-- or why they are refused. src/grammar.rt is proved to describe these commands to `clap`, which decides what is
-- refused. In no circle of docs/trust.md.
use Rattle.std.specs.Prelude.{◌≡◌, Bool, true, false, Some, codes, ◌≢◌, List, [], Option, None, Result, Ok, Err, ⊤, map, option_map, unwrap_or, String, IsTrue, ◌↔◌}
use Rattle.std.specs.String.{string_bytes}
use Rattle.clap.specs.Kinds.{IsAmong}
use Rattle.clap.specs.Simple.{on_top}
use Rattle.clap.specs.Words.{App, Rule, Text, app_of, new_app, new_rule, with_rule, with_subcommand, Row, all_of, first_of, kind_of, fault_of, subcommand_of}
use Rattle.clap.specs.declared.builder.action.ArgAction.TheVariants.{Append, SetTrue}
use Rattle.clap.specs.declared.builder.command.Command.{Command}
use Rattle.clap.specs.declared.builder.command.Command.TheViews.{out-Command}
use Rattle.clap.specs.declared.error.kind.ErrorKind.{ErrorKind}
use Rattle.clap.specs.declared.error.kind.ErrorKind.TheVariants as kinds
use Rattle.tsp_tool.specs.declared.job.Job.{Job}
use Rattle.tsp_tool.specs.declared.job.JobFault.{JobFault}
use Rattle.tsp_tool.specs.declared.job.JobFault.TheVariants.{Refused, OutOfMemory}
use Rattle.tsp_tool.specs.declared.job.Verb.{Verb}
use Rattle.tsp_tool.specs.declared.job.Verb.TheVariants.{Show, Convert, Check, Compare, Bound, Solution}

-- ---- the commands, arguments and options of the program `tsp`

-- a path that has to be there, given as a word alone
abbrev pub path : Text → Rule
path id = record (new_rule id) { required = true }

-- one path at least, and as many more as there are words; help names them differently from one path
abbrev pub several_paths : Text → Rule
several_paths id = record (path id) { action = Some Append; value_names = 1 }

-- a path that may be there, given as a word alone
abbrev pub optional_path : Text → Rule
optional_path id = new_rule id

-- an option with a value: the two words `--long VALUE`, or the one `--long=VALUE`
abbrev pub option : Text → Text → Rule
option id long = record (new_rule id) { long = Some long }

-- an option without a value: it is given or not
abbrev pub flag : Text → Text → Rule
flag id long = record (new_rule id) { long = Some long; action = Some SetTrue }

-- [--explain], which each verb has
abbrev pub explain : Rule
explain = flag (codes "E") (codes "explain")

-- [--strict], which the three verbs have that judge
abbrev pub strict : Rule
strict = flag (codes "U") (codes "strict")

-- show F [--explain]
abbrev pub show : App
show = with_rule (with_rule (new_app (codes "show")) (path (codes "F"))) explain

-- convert F [--layout L] [--explain]
abbrev pub convert : App
convert = with_rule (with_rule (with_rule (new_app (codes "convert")) (path (codes "F"))) (option (codes "L") (codes "layout")))
    explain

-- [--potentials P]
abbrev pub of_potentials : Rule
of_potentials = option (codes "P") (codes "potentials")

-- [--branches B]
abbrev pub of_branches : Rule
of_branches = option (codes "B") (codes "branches")

-- check F T
abbrev pub check_files : App
check_files = with_rule (with_rule (new_app (codes "check")) (path (codes "F"))) (path (codes "T"))

-- check F T [--potentials P] [--branches B]
abbrev pub check_certified : App
check_certified = with_rule (with_rule check_files of_potentials) of_branches

-- check F T [--potentials P] [--branches B] [--length N] [--form NAME]
abbrev pub check_claimed : App
check_claimed = with_rule (with_rule check_certified (option (codes "N") (codes "length"))) (option (codes "NAME") (codes "form"))

-- check F T [--potentials P] [--branches B] [--length N] [--form NAME] [--strict] [--explain]
abbrev pub check : App
check = with_rule (with_rule check_claimed strict) explain

-- compare F S..
abbrev pub compare_files : App
compare_files = with_rule (with_rule (new_app (codes "compare")) (path (codes "F"))) (several_paths (codes "S"))

-- compare F S.. [--potentials P] [--branches B]
abbrev pub compare_certified : App
compare_certified = with_rule (with_rule compare_files of_potentials) of_branches

-- compare F S.. [--potentials P] [--branches B] [--form NAME]
abbrev pub compare_formed : App
compare_formed = with_rule compare_certified (option (codes "NAME") (codes "form"))

-- compare F S.. [--potentials P] [--branches B] [--form NAME] [--strict] [--explain]
abbrev pub compare : App
compare = with_rule (with_rule compare_formed strict) explain

-- bound F
abbrev pub bound_files : App
bound_files = with_rule (new_app (codes "bound")) (path (codes "F"))

-- bound F [--potentials P] [--branches B]
abbrev pub bound_certified : App
bound_certified = with_rule (with_rule bound_files of_potentials) of_branches

-- bound F [--potentials P] [--branches B] [--strict] [--explain]
abbrev pub bound : App
bound = with_rule (with_rule bound_certified strict) explain

-- solution [T] [--of F]
abbrev pub solution_files : App
solution_files = with_rule (with_rule (new_app (codes "solution")) (optional_path (codes "T"))) (option (codes "F") (codes "of"))

-- solution [T] [--of F] [--form NAME] [--first 0|1] [--depot D]
abbrev pub solution_hints : App
solution_hints = with_rule (with_rule (with_rule solution_files (option (codes "NAME") (codes "form")))
    (option (codes "0|1") (codes "first"))) (option (codes "D") (codes "depot"))

-- solution [T] [--of F] [--form NAME] [--first 0|1] [--depot D] [--forms] [--explain]
abbrev pub solution_verb : App
solution_verb = with_rule (with_rule solution_hints (flag (codes "A") (codes "forms"))) explain

-- the program, whose words don't begin with its own name, and which knows its version, at each verb too
abbrev pub start : App
start = on_top (λ top. record top { no_binary_name = true; has_version = true; propagate_version = true }) (new_app (codes "tsp"))

-- and its six subcommands, at one level
abbrev pub tsp : App
tsp = with_subcommand (with_subcommand (with_subcommand (with_subcommand (with_subcommand (with_subcommand start show.top)
    convert.top) check.top) compare.top) bound.top) solution_verb.top

-- some argument of the command counts in its subcommands too
abbrev pub has_globals : Command → Bool
has_globals command = (out-Command command).has_globals

-- the command reads words as this one does
abbrev pub IsCommandOf : App → Command → Type 0
IsCommandOf app command = (app_of command ≡ app) × (has_globals command ≡ false)

-- ---- which verb and which values the words of a command line give, or which fault

-- the subcommand of a verb
abbrev pub word_of : Verb → Text
word_of Show = codes "show"
word_of Convert = codes "convert"
word_of Check = codes "check"
word_of Compare = codes "compare"
word_of Bound = codes "bound"
word_of Solution = codes "solution"

-- the verb has this word, or no verb has
abbrev pub IsVerbOf : Text → Option Verb → Type 0
IsVerbOf word (Some verb) = word ≡ word_of verb
IsVerbOf word None = (verb : Verb) → word ≢ word_of verb

-- the bytes of a string, if there is one
abbrev pub text_in : {Z : Type 0} → Option (String Z) → Option Text
text_in = option_map string_bytes

-- the values that were found for an argument, in order
abbrev pub values_of : Text → List Row → List Text
values_of id rows = unwrap_or (all_of id rows) []

-- the job has the values of F, T, L, P, B, N, NAME, 0|1 and D, if they were found, and all of S; it is strict if U
-- was given, lists the forms if A was, and is explained if E was
abbrev pub HasValues : List Row → Job → Type 0
HasValues rows job = (text_in job.file ≡ first_of (codes "F") rows)
    × (text_in job.solution ≡ first_of (codes "T") rows)
    × (map string_bytes job.solutions.items ≡ values_of (codes "S") rows)
    × (text_in job.layout ≡ first_of (codes "L") rows) × (text_in job.potentials ≡ first_of (codes "P") rows)
    × (text_in job.branches ≡ first_of (codes "B") rows) × (text_in job.length ≡ first_of (codes "N") rows)
    × (text_in job.form ≡ first_of (codes "NAME") rows) × (text_in job.first ≡ first_of (codes "0|1") rows)
    × (text_in job.depot ≡ first_of (codes "D") rows) × (IsTrue job.forms ↔ (first_of (codes "A") rows ≡ Some (codes "true")))
    × (IsTrue job.strict ↔ (first_of (codes "U") rows ≡ Some (codes "true")))
    × (IsTrue job.explain ↔ (first_of (codes "E") rows ≡ Some (codes "true")))

-- the job is that of a verb with its values, or has no verb and no values
abbrev pub IsJobOf : Option (Text × List Row) → Job → Type 0
IsJobOf (Some (name, rows)) job = (option_map word_of job.verb ≡ Some name) × HasValues rows job
IsJobOf None job = (job.verb ≡ None) × HasValues [] job

-- the fault is out of memory exactly if clap's kind of error is
abbrev pub IsFaultOf : ErrorKind → JobFault → Type 0
IsFaultOf kind (Refused refusal) = (kind_of refusal ≡ kind) × (kind ≢ kinds.OutOfMemory)
IsFaultOf kind OutOfMemory = kind ≡ kinds.OutOfMemory

-- the refusal isn't for memory, or is `OutOfMemory` itself
abbrev pub IsOtherRefusal : JobFault → Type 0
IsOtherRefusal (Refused refusal) = kind_of refusal ≢ kinds.OutOfMemory
IsOtherRefusal OutOfMemory = ⊤

-- Words that clap accepts give their job; refused ones one of the first faults. Out of memory may come in place of
-- either.
abbrev pub GivesJob : List Text → Result Job JobFault → Type 0
GivesJob words (Ok job) = (fault_of tsp words ≡ []) × IsJobOf (subcommand_of tsp words) job
GivesJob words (Err (Refused refusal)) = IsAmong (kind_of refusal) (fault_of tsp words) × (kind_of refusal ≢ kinds.OutOfMemory)
GivesJob words (Err OutOfMemory) = ⊤
