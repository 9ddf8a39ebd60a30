-- For src/grammar.rt: which values the words of each command give, which words are refused, and that one line has one
-- meaning.
use Rattle.tsp_tool.proofs.Prelude.{◌≡◌, false, IfOk, Result, Ok, Err, ◌⊎◌, ◌∙◌, inl, inr, List, sym, subst, ap₂, unwrap_or, Bool, true, [], ◌∷◌, Option, Some, None, refl, ap, codes, fold, is_some, option_map, ℕ, suc, zero, ◌<◌, ◌/◌, ◌%◌, ◌==◌, ◌++◌, rules, arith, Box, ◌&&◌, not, decimal, if◌then◌else◌, walk_stopped, subcommand_of, Row, App, HasKind, IsAmong, Text, fault_of, kind_of}
use Rattle.std.proofs.Math.Nat.{mod-lt}
use Rattle.std.proofs.lemmas.Bool.{true≢false}
use Rattle.std.proofs.lemmas.List.Folds.{list_all-append}
use Rattle.std.proofs.lemmas.Slice.Eq.{bytes_eq-Decides}
use Rattle.std.specs.Box.{box_value}
use Rattle.std.specs.Fmt.{digits, digits_onto, digit_glyph}
use Rattle.std.specs.Str.{bytes_eq}
use Rattle.tsp_number.specs.NumberWord.{number_fault_text}
use Rattle.tsp_number.specs.declared.number_word.NumberFault.{NumberFault}
use Rattle.tsp_number.specs.declared.number_word.NumberFault.TheVariants as numbers
use Rattle.tsp_io.specs.Streams.{write_fault_text}
use Rattle.tsp_format.specs.Words.{field_word}
use Rattle.tsp_format.specs.declared.keyword.Field.{Field}
use Rattle.tsp_format.specs.declared.keyword.Field.TheVariants as fields
use Rattle.tsp_file.specs.Relayout.{relayout_fault_text}
use Rattle.tsp_file.specs.Rules.{end_fault_text}
use Rattle.tsp_text.specs.ParsesTo.{line_fault_text, read_fault_text}
use Rattle.tsp_judge.specs.RunStatus.{run_fault_text}
use Rattle.tsp_judge.specs.declared.EndFault.{EndFault}
use Rattle.tsp_judge.specs.declared.EndFault.TheVariants as ends
use Rattle.tsp_judge.specs.declared.LineFault.{LineFault}
use Rattle.tsp_judge.specs.declared.LineFault.TheVariants as line_faults
use Rattle.tsp_judge.specs.declared.ReadFault.{ReadFault}
use Rattle.tsp_judge.specs.declared.ReadFault.TheVariants as reads
use Rattle.tsp_judge.specs.declared.RelayoutFault.{RelayoutFault}
use Rattle.tsp_judge.specs.declared.RelayoutFault.TheVariants as relayouts
use Rattle.tsp_judge.specs.declared.WriteFault.{WriteFault}
use Rattle.tsp_judge.specs.declared.WriteFault.TheVariants as writes
use Rattle.tsp_judge.specs.declared.run_status.RunFault.{RunFault}
use Rattle.tsp_judge.specs.declared.run_status.RunFault.TheVariants as runs
use Rattle.clap.specs.Faults.{walk_fault, turn_fault, word_fault, other_fault}
use Rattle.clap.specs.Kinds.{Kinds, or_else}
use Rattle.clap.specs.Lexer.{long_of, short_of}
use Rattle.clap.specs.Simple.{Shape, built, entered, names_of, subcommand_rows}
use Rattle.clap.specs.Walk.{Rule, Names, Held, Walk, Waiting, Outcome, idle, option, positional, done, waits, plain, refused, after_step, after_flag, arg_by_index, arg_by_long, bundle, long_met, long_or_other, nothing_held, plain_word, short_or_plain, stop_after, subcommand_met, subcommand_or_other, to_positional, walk_from, walked, word_met}
use Rattle.clap.specs.declared.builder.command.Command.{Command}
use Rattle.clap.specs.declared.error.Error.{Error}
use Rattle.clap.specs.declared.error.kind.ErrorKind.TheVariants.{DisplayHelp, InvalidSubcommand}
use Rattle.clap.specs.declared.error.kind.ErrorKind.TheVariants as kinds
use Rattle.clap.specs.declared.parser.matches.ArgMatches.TheViews.{out-SubCommand}
use Rattle.clap.specs.declared.parser.matches.SubCommand.{SubCommand}
use Rattle.tsp_tool.specs.Grammar.{IsCommandOf, has_globals, tsp, IsFaultOf, GivesJob, IsVerbOf, word_of}
use Rattle.tsp_tool.specs.RunEnd.{is_one_line}
use Rattle.tsp_tool.specs.declared.job.JobFault.{JobFault}
use Rattle.tsp_tool.specs.declared.job.JobFault.TheVariants.{Refused, OutOfMemory}
use Rattle.tsp_tool.specs.declared.job.Verb.{Verb}
use Rattle.tsp_tool.specs.declared.job.Verb.TheVariants.{Show, Convert, Check, Compare, Bound, Solution}

-- from the definition of a command to the premise of the next call that adds to it
pub free : {E : Type 0} (app : App) (o : Result Command E) → IfOk o (IsCommandOf app) → IfOk o (λ made. has_globals made ≡ false)
free app (Ok made) is = is.1
free app (Err e) is = tt

-- ---- a refusal of clap is the fault of the command line

pub word_refused : (words : List Text) (refusal : Error) (fault : JobFault) → IsFaultOf (kind_of refusal) fault
    → HasKind (fault_of tsp words) refusal
    → GivesJob words (Err fault)
word_refused words refusal (Refused other) is has = by_cause has
  where
    by_cause : (kind_of refusal ≡ kinds.OutOfMemory) ⊎ IsAmong (kind_of refusal) (fault_of tsp words) → GivesJob words (Err (Refused other))
    by_cause (inl memory) = absurd (is.1 memory)
    by_cause (inr among) = (subst (λ k. IsAmong k (fault_of tsp words)) (sym is.0) among, λ memory. is.1 (sym is.0 ∙ memory))
word_refused words refusal OutOfMemory is has = tt

-- ---- the subcommand that a parse with no fault enters is never `help`

-- the walk hasn't met a subcommand
abbrev GoesOn : Walk → Type 0
GoesOn w = w.stopped ≡ None

module _ (c : List Rule) (word : Text) (w : Walk) (on : GoesOn w) where
  taken_goes : (h : Held) (a : Option Rule) → GoesOn (to_positional c a word w h)
  taken_goes h None = on
  taken_goes h (Some a) = refl

  plain_goes : (h : Held) (waiting : Waiting) → GoesOn (after_step c word w (plain_word c waiting word h).0 (plain_word c waiting word h).1)
  plain_goes h idle = taken_goes h (arg_by_index c w.position)
  plain_goes h (option id) = on
  plain_goes h positional = taken_goes h (arg_by_index c w.position)

  flag_goes : (h : Held) (waiting : Waiting) (o : Outcome) → GoesOn (after_step c word w (after_flag c waiting word h o).0 (after_flag c waiting word h o).1)
  flag_goes h waiting done = on
  flag_goes h waiting (waits id) = on
  flag_goes h waiting plain = plain_goes h waiting
  flag_goes h waiting refused = plain_goes h waiting

  short_goes : (h : Held) (waiting : Waiting) (flags : Option Text)
      → GoesOn (after_step c word w (short_or_plain c waiting word flags h).0 (short_or_plain c waiting word flags h).1)
  short_goes h waiting None = plain_goes h waiting
  short_goes h waiting (Some flags) = flag_goes (bundle c flags h).0 waiting (bundle c flags h).1

  long_goes : (h : Held) (waiting : Waiting) (long : Option (Text × Option Text))
      → GoesOn (after_step c word w (long_or_other c waiting word long h).0 (long_or_other c waiting word long h).1)
  long_goes h waiting None = short_goes h waiting (short_of word)
  long_goes h waiting (Some p) = flag_goes (long_met c (arg_by_long c p.0) p.1 h).0 waiting (long_met c (arg_by_long c p.0) p.1 h).1

  -- a word that names no subcommand
  other_goes : (h : Held) (waiting : Waiting) (dashes : Bool) → bytes_eq word (45 ∷ 45 ∷ []) ≡ dashes
      → GoesOn (after_step c word w (subcommand_or_other c None waiting w.position word h).0 (subcommand_or_other c None waiting w.position word h).1)
  other_goes h waiting true is = rw is on
  other_goes h waiting false is = rw is (long_goes h waiting (long_of word))

first_none : (a b : Kinds) → or_else a b ≡ [] → a ≡ []
first_none [] b clean = refl
first_none (k ∷ ks) b clean = cc

second_none : (a b : Kinds) → or_else a b ≡ [] → b ≡ []
second_none [] b clean = clean
second_none (k ∷ ks) b clean = cc

-- the walk goes on, or has met a subcommand other than `help`
abbrev Goes : Walk → Type 0
Goes w = GoesOn w ⊎ ((name : Text) × (w.stopped ≡ Some (name, [])) × (bytes_eq name (codes "help") ≡ false))

module _ (s : Shape) (names : Names) (w : Walk) (word : Text) (enabled : s.disable_help_subcommand ≡ false) where
  abbrev here : Walk
  here = record w { stopped = None }

  not_help : (name : Text) (same : Bool) → bytes_eq name (codes "help") ≡ same → other_fault s (Some name) word w.held ≡ []
      → bytes_eq name (codes "help") ≡ false
  not_help name false is clean = is
  not_help name true is clean = let bad : DisplayHelp ∷ InvalidSubcommand ∷ [] ≡ [] = rw (is, enabled) at clean in cc

  met_goes : (o : Option Text) → other_fault s o word w.held ≡ []
      → Goes (after_step s.rules word here (subcommand_or_other s.rules o w.waiting w.position word w.held).0 (subcommand_or_other s.rules o w.waiting w.position word w.held).1)
  met_goes None clean = inl (other_goes s.rules word here refl w.held w.waiting (bytes_eq word (45 ∷ 45 ∷ [])) refl)
  met_goes (Some name) clean = inr (name, refl, not_help name (bytes_eq name (codes "help")) refl clean)

  word_goes : (trailing : Bool) → word_fault s names trailing w.waiting word w.held ≡ []
      → Goes (after_step s.rules word here (word_met s.rules names trailing w.waiting w.position word w.held).0 (word_met s.rules names trailing w.waiting w.position word w.held).1)
  word_goes true clean = inl (taken_goes s.rules word here refl w.held (arg_by_index s.rules w.position))
  word_goes false clean = met_goes (subcommand_met names w.waiting word) clean

  step_goes : turn_fault s names here word ≡ [] → Goes (walked s.rules names here word)
  unfolding walked
  step_goes clean = word_goes w.is_trailing (first_none _ _ clean)

-- if the walk has no fault, the subcommand that it stops at isn't `help`
stops : (s : Shape) (names : Names) → s.disable_help_subcommand ≡ false → (words : List Text) (w : Walk) (p : Text × List Text)
    → walk_fault s names (record w { stopped = None }) words ≡ []
    → (fold (walked s.rules names) (record w { stopped = None }) words).stopped ≡ Some p
    → bytes_eq p.0 (codes "help") ≡ false
unfolding walk_fault
stops s names enabled [] w p clean stop = cc
stops s names enabled (word ∷ rest) w p clean stop =
    let after : Walk = walked s.rules names (record w { stopped = None }) word in
    elim (step_goes s names w word enabled (first_none _ _ clean)) [
      | inl on ↦
          let same : after ≡ record after { stopped = None } = ap (λ o. record after { stopped = o }) on in
          stops s names enabled rest after p (subst (λ v. walk_fault s names v rest ≡ []) same (second_none _ _ clean))
          (subst (λ v. (fold (walked s.rules names) v rest).stopped ≡ Some p) same stop)
      | inr met ↦
          let same : after ≡ record after { stopped = Some (met.0, []) } = ap (λ o. record after { stopped = o }) met.1 in
          let kept = ap (λ v. v.stopped) (walk_stopped s.rules names after met.0 [] rest) in
          let one : Some (met.0, rest) ≡ Some p = kept ∙ subst (λ v. (fold (walked s.rules names) v rest).stopped ≡ Some p) same stop in
          let name : met.0 ≡ p.0 = ap (λ o. (unwrap_or o p).0) one in
          rw (← name) met.2
    ]

abbrev program : App
program = built tsp

-- the subcommand that answers to the word is one of the six
pick : (p : Text × List Text) (name : Text) (rows : List Row) (a b c d e f g : Bool) → bytes_eq p.0 (codes "help") ≡ false
    → bytes_eq (codes "show") p.0 ≡ a → bytes_eq (codes "convert") p.0 ≡ b → bytes_eq (codes "check") p.0 ≡ c
    → bytes_eq (codes "compare") p.0 ≡ d → bytes_eq (codes "bound") p.0 ≡ e → bytes_eq (codes "solution") p.0 ≡ f
    → bytes_eq (codes "help") p.0 ≡ g → entered program (Some p) ≡ Some (name, rows) → (verb : Verb) × (name ≡ word_of verb)
pick p name rows true b c d e f g differs is_a is_b is_c is_d is_e is_f is_g found =
    let one = rw is_a at found in
    (Show, ap (λ (o : Option (Text × List Row)). (unwrap_or o (name, rows)).0) (sym one))
pick p name rows false true c d e f g differs is_a is_b is_c is_d is_e is_f is_g found =
    let one = rw (is_a, is_b) at found in
    (Convert, ap (λ (o : Option (Text × List Row)). (unwrap_or o (name, rows)).0) (sym one))
pick p name rows false false true d e f g differs is_a is_b is_c is_d is_e is_f is_g found =
    let one = rw (is_a, is_b, is_c) at found in
    (Check, ap (λ (o : Option (Text × List Row)). (unwrap_or o (name, rows)).0) (sym one))
pick p name rows false false false true e f g differs is_a is_b is_c is_d is_e is_f is_g found =
    let one = rw (is_a, is_b, is_c, is_d) at found in
    (Compare, ap (λ (o : Option (Text × List Row)). (unwrap_or o (name, rows)).0) (sym one))
pick p name rows false false false false true f g differs is_a is_b is_c is_d is_e is_f is_g found =
    let one = rw (is_a, is_b, is_c, is_d, is_e) at found in
    (Bound, ap (λ (o : Option (Text × List Row)). (unwrap_or o (name, rows)).0) (sym one))
pick p name rows false false false false false true g differs is_a is_b is_c is_d is_e is_f is_g found =
    let one = rw (is_a, is_b, is_c, is_d, is_e, is_f) at found in
    (Solution, ap (λ (o : Option (Text × List Row)). (unwrap_or o (name, rows)).0) (sym one))
pick p name rows false false false false false false true differs is_a is_b is_c is_d is_e is_f is_g found =
    let help : codes "help" ≡ p.0 = (bytes_eq-Decides _ _).0 is_g in
    let same : bytes_eq p.0 (codes "help") ≡ true = (bytes_eq-Decides _ _).1 (sym help) in
    absurd (true≢false (sym same ∙ differs))
pick p name rows false false false false false false false differs is_a is_b is_c is_d is_e is_f is_g found =
    let none = rw (is_a, is_b, is_c, is_d, is_e, is_f, is_g) at found in
    absurd (true≢false (ap (λ (o : Option (Text × List Row)). is_some o) (sym none)))

-- the subcommand that a parse without a fault enters has the word of a verb
pub named : (words : List Text) (name : Text) (rows : List Row) → fault_of tsp words ≡ []
    → subcommand_of tsp words ≡ Some (name, rows)
    → (verb : Verb) × (name ≡ word_of verb)
named words name rows clean found = go (stop_after program.top.rules (names_of program) words) refl found
  where
    go : (stop : Option (Text × List Text)) → stop_after program.top.rules (names_of program) words ≡ stop → entered program stop ≡ Some (name, rows)
        → (verb : Verb) × (name ≡ word_of verb)
    go None is none = cc
    go (Some p) is some =
        let differs = stops program.top (names_of program) refl words (walk_from nothing_held) p (first_none _ _ clean) is in
        pick p name rows _ _ _ _ _ _ _ differs refl refl refl refl refl refl refl some

-- a subcommand's name and rows, from both
pub both : {Z : Type 0} (o : Option (Box SubCommand Z)) (name : Text) (rows : List Row)
    → option_map (λ b. (out-SubCommand (box_value b)).name.now) o ≡ Some name
    → option_map (λ p. p.1) (subcommand_rows o) ≡ Some rows
    → subcommand_rows o ≡ Some (name, rows)
both None name rows named has = cc
both (Some b) name rows named has =
    let one = ap (λ o. unwrap_or o name) named in
    let two = ap (λ o. unwrap_or o rows) has in
    ap₂ (λ n r. Some (n, r)) one two

-- a word that is some verb's is that of the verb found by it
pub verb_found : (name : Text) (found : Option Verb) (verb : Verb) → name ≡ word_of verb → IsVerbOf name found
    → option_map word_of found ≡ Some name
verb_found name None verb is none = absurd (none verb is)
verb_found name (Some v) verb is some = ap (λ n. Some n) (sym some)

-- ---- the text of each fault is one line

pub is_one : List ℕ → Type 0
is_one text = is_one_line text ≡ true

one : (text : List ℕ) → is_one_line text ≡ true → is_one text
unfolding is_one
one text is = is

pub both_lines : (front rest : List ℕ) → is_one front → is_one rest → is_one (front ++ rest)
unfolding is_one
both_lines front rest a b = list_all-append (λ byte. not (byte == 10)) front rest ∙ ap (λ x. x && is_one_line rest) a ∙ b

glyph : (d : ℕ) → d < 10 → not (digit_glyph false d == 10) ≡ true
glyph d small = search rules

onto : (d : ℕ) (rest : List ℕ) → d < 10 → is_one rest → is_one (digit_glyph false d ∷ rest)
unfolding is_one
onto d rest small b = ap (λ x. x && is_one_line rest) (glyph d small) ∙ b

either : (stops : Bool) (a b : List ℕ) → is_one a → is_one b → is_one (if stops then a else b)
either true a b x y = x
either false a b x y = y

digits_are : (k n : ℕ) (rest : List ℕ) → is_one rest → is_one (digits_onto k 10 false n rest)
digits_are zero n rest b = b
digits_are (suc k) n rest b =
    let more = onto (n % 10) rest (mod-lt n (omega arith)) b in
    either (n / 10 == 0) _ _ more (digits_are k (n / 10) _ more)

pub number : (n : ℕ) → is_one (decimal n)
unfolding digits
number n = digits_are 64 n [] (one [] refl)

-- ---- the texts, from the inner ones to the outer

of_field : (field : Field) → is_one (field_word field)
of_field fields.NameKey = one _ refl
of_field fields.TypeKey = one _ refl
of_field fields.CommentKey = one _ refl
of_field fields.OtherKey = one _ refl
of_field fields.DimensionKey = one _ refl
of_field fields.CapacityKey = one _ refl
of_field fields.ScaleKey = one _ refl
of_field fields.LoadUnitKey = one _ refl
of_field fields.EdgeWeightTypeKey = one _ refl
of_field fields.EdgeWeightFormatKey = one _ refl
of_field fields.NodeCoordTypeKey = one _ refl
of_field fields.DisplayDataTypeKey = one _ refl
of_field fields.NodeCoordPart = one _ refl
of_field fields.DisplayDataPart = one _ refl
of_field fields.DemandPart = one _ refl
of_field fields.DepotPart = one _ refl
of_field fields.FixedEdgesPart = one _ refl
of_field fields.EdgeWeightPart = one _ refl
of_field fields.TourPart = one _ refl
of_field fields.NodePotentialPart = one _ refl
of_field fields.RowPotentialPart = one _ refl
of_field fields.ColumnPotentialPart = one _ refl
of_field fields.FixedEdgePotentialPart = one _ refl
of_field fields.FamilyPart = one _ refl
of_field fields.MemoryPart = one _ refl
of_field fields.SubsetRowPart = one _ refl
of_field fields.BranchPart = one _ refl

of_number : (fault : NumberFault) → is_one (number_fault_text fault)
of_number numbers.LongWord = one _ refl
of_number numbers.BadNumber = one _ refl
of_number numbers.TooFine = one _ refl
of_number numbers.OutOfRange = one _ refl
of_number numbers.NotWhole = one _ refl

of_end : (fault : EndFault) → is_one (end_fault_text fault)
of_end (ends.Missing field) = both_lines (codes "Missing ") _ (one _ refl) (of_field field)
of_end (ends.Incomplete field) = both_lines (codes "Incomplete ") _ (one _ refl) (of_field field)
of_end ends.WrongFormat = one _ refl
of_end ends.WrongCount = one _ refl

of_line : (fault : LineFault) → is_one (line_fault_text fault)
of_line line_faults.LongLine = one _ refl
of_line line_faults.UnknownLine = one _ refl
of_line line_faults.Repeated = one _ refl
of_line line_faults.Outside = one _ refl
of_line line_faults.BadValue = one _ refl
of_line line_faults.SectionValue = one _ refl
of_line line_faults.SectionEarly = one _ refl
of_line line_faults.TooManyNodes = one _ refl
of_line line_faults.StrayNumber = one _ refl
of_line (line_faults.Number fault) = both_lines (codes "Number ") _ (one _ refl) (of_number fault)
of_line line_faults.RepeatedNode = one _ refl
of_line line_faults.SelfEdge = one _ refl
of_line line_faults.Surplus = one _ refl
of_line line_faults.AfterEnd = one _ refl
of_line line_faults.LateSpace = one _ refl

of_read : (fault : ReadFault) → is_one (read_fault_text fault)
of_read (reads.Line line word fault) = both_lines (codes "line ") _ (one _ refl) (both_lines (decimal line) _ (number line)
    (both_lines (codes " word ") _ (one _ refl) (both_lines (decimal word) _ (number word) (both_lines (codes ": ") _ (one _ refl) (of_line fault)))))
of_read (reads.End fault) = both_lines (codes "end: ") _ (one _ refl) (of_end fault)
of_read reads.OutOfMemory = one _ refl
of_read reads.Device = one _ refl
of_read reads.TooLong = one _ refl

of_write : (fault : WriteFault) → is_one (write_fault_text fault)
of_write writes.Device = one _ refl
of_write writes.OutOfMemory = one _ refl

of_relayout : (fault : RelayoutFault) → is_one (relayout_fault_text fault)
of_relayout relayouts.NotExplicit = one _ refl
of_relayout (relayouts.NotSymmetric i j) = both_lines (codes "NotSymmetric ") _ (one _ refl) (both_lines (decimal i) _ (number i)
    (both_lines (codes " ") _ (one _ refl) (number j)))
of_relayout (relayouts.DiagonalLost i) = both_lines (codes "DiagonalLost ") _ (one _ refl) (number i)
of_relayout relayouts.OutOfMemory = one _ refl

pub of_run : (fault : RunFault) → is_one (run_fault_text fault)
of_run (runs.File file fault) = both_lines (codes "file ") _ (one _ refl) (both_lines (decimal file) _ (number file)
    (both_lines (codes ": ") _ (one _ refl) (of_read fault)))
of_run runs.WrongKind = one _ refl
of_run (runs.Write fault) = both_lines (codes "output: ") _ (one _ refl) (of_write fault)
of_run runs.OutOfMemory = one _ refl
of_run (runs.Relayout fault) = both_lines (codes "relayout: ") _ (one _ refl) (of_relayout fault)

-- what a fault's text says of its bytes
pub line_of_run : (fault : RunFault) → is_one_line (run_fault_text fault) ≡ true
unfolding is_one
line_of_run fault = of_run fault
