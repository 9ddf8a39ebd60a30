-- The goals of `job_of` in src/job.rt, which reads the words of a command line: what it ensures.
use Rattle.tsp_tool.proofs.Prelude.{◌≡◌, ◌∙◌, refl, sym, ap, subst, Box, List, map, [], None, Option, Some, option_map, App, HasKind, Row, Text, fault_of, found_of, is_simple, rows_of, subcommand_of, subcommand_rows_of}
use Rattle.std.specs.Box.{box_value}
use Rattle.clap.specs.Faults.{is_simple_and_free}
use Rattle.clap.specs.Simple.{subcommand_rows}
use Rattle.clap.specs.declared.parser.matches.ArgMatches.TheViews.{out-SubCommand}
use Rattle.clap.specs.declared.parser.matches.SubCommand.{SubCommand}
use Rattle.clap.specs.declared.parser.matches.ArgMatches.TheViews.{out-ArgMatches}
use Rattle.tsp_tool.specs.Grammar.{tsp, IsJobOf, word_of}
use Rattle.tsp_tool.proofs.Subcommands.{word_refused, both, named, verb_found}
use Rattle.tsp_tool.proofs.job.job_of.Goals as goal

-- plan: by the answer of clap: a parse enters the subcommand of a verb (`named`), whose job is returned (`verb_found`);
-- or a refusal is returned
pub returns-in-Ok-job_with : goal.returns-in-Ok-job_with
returns-in-Ok-job_with c =
    let words : List Text = map (λ word. word.now) c.args.words.now in
    let made = c.in-Ok.ensures.0 in
    let matches = c.in-Ok-try_get_matches_from.matches in
    let parse = c.in-Ok-try_get_matches_from.ensures in
    let clean : fault_of tsp words ≡ [] = ap (λ (a : App). fault_of a words) (sym made) ∙ parse.kinds (ap is_simple_and_free made) in
    let stated : subcommand_rows_of matches ≡ subcommand_of tsp words = (parse.matches (ap is_simple made)).1 ∙ ap (λ (a : App). subcommand_of a words) made in
    let name : Text = c.in-Some.name.now in
    let rows : List Row = rows_of (found_of c.in-Some.found.now) in
    let met : subcommand_rows_of matches ≡ Some (name, rows) = both (out-ArgMatches matches).subcommand name rows
    (sym c.subcommand.ensures.name ∙ ap (option_map (λ p. p.0.now)) c.in-Some.is)
    (sym c.subcommand.ensures.rows ∙ ap (option_map (λ p. rows_of (found_of p.1.now))) c.in-Some.is) in
    let entered : subcommand_of tsp words ≡ Some (name, rows) = sym stated ∙ met in
    let verb = named words name rows clean entered in
    let job = c.in-Ok-job_with.job in
    let told = ap (option_map word_of) c.in-Ok-job_with.ensures.verb ∙ verb_found name c.of_word.result verb.0 verb.1 c.of_word.ensures in
    (clean, subst (λ o. IsJobOf o job) (sym entered) (told, c.in-Ok-job_with.ensures.values))

-- a parse that enters no subcommand
none_of : {Z : Type 0} (o : Option (Box SubCommand Z)) → option_map (λ b. (out-SubCommand (box_value b)).name.now) o ≡ None
    → subcommand_rows o ≡ None
none_of None is = refl
none_of (Some b) is = cc

pub returns-in_default-subcommand : goal.returns-in_default-subcommand
returns-in_default-subcommand c =
    let words : List Text = map (λ word. word.now) c.args.words.now in
    let made = c.in-Ok.ensures.0 in
    let matches = c.in-Ok-try_get_matches_from.matches in
    let parse = c.in-Ok-try_get_matches_from.ensures in
    let clean : fault_of tsp words ≡ [] = ap (λ (a : App). fault_of a words) (sym made) ∙ parse.kinds (ap is_simple_and_free made) in
    let stated : subcommand_rows_of matches ≡ subcommand_of tsp words = (parse.matches (ap is_simple made)).1 ∙ ap (λ (a : App). subcommand_of a words) made in
    let none : subcommand_rows_of matches ≡ None = none_of (out-ArgMatches matches).subcommand
    (sym c.subcommand.ensures.name ∙ ap (option_map (λ p. p.0.now)) c.in_default-subcommand.is) in
    let entered : subcommand_of tsp words ≡ None = sym stated ∙ none in
    (clean, subst (λ o. IsJobOf o c.no_job.result) (sym entered) c.no_job.ensures)

pub returns-in-Err : goal.returns-in-Err
returns-in-Err c =
    let words : List Text = map (λ word. word.now) c.args.words.now in
    let made = c.in-Ok.ensures.0 in
    let fails = c.in-Err.ensures.kinds (ap is_simple_and_free made) in
    word_refused words c.in-Err.refusal c.of.result c.of.ensures (subst (λ (a : App). HasKind (fault_of a words) c.in-Err.refusal) made fails)
