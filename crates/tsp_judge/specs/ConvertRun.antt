-- Runs of `tsp show` and `tsp convert`: the file that is read, and the bytes that are written. src/convert_run.rt
-- promises them. They print no `yes`, so this is in no circle of docs/trust.md. tsp_c imports it, too.
use Rattle.tsp_judge.specs.Prelude.{Result, Ok, Err, Option, None, Some, ReadTrace, Sink, IsUnwritten, HasWritten, HasStopped, Fields, IsFile, StopsAt}
use Rattle.std.specs.Prelude.{◌≡◌}
use Rattle.tsp_io.specs.declared.piece.WriteFault.TheVariants as write_faults
use Rattle.tsp_judge.specs.declared.run_status.RunFault.{RunFault}
use Rattle.tsp_judge.specs.declared.run_status.RunFault.TheVariants.{File, Write, Relayout}
use Rattle.tsp_format.specs.declared.layout.Layout.{Layout}
use Rattle.tsp_file.specs.CanonicalText.{text_of}
use Rattle.tsp_file.specs.Relayout.{IsRelaid, IsRefused}
use Rattle.tsp_file.specs.Rules.{fault_of}
use Rattle.tsp_file.specs.declared.relayout.RelayoutFault.{RelayoutFault}
use Rattle.tsp_report.specs.Show.{shown}

-- The result of `show`. Ok: all its lines were written. If the file isn't valid, nothing is written. Memory may run out
-- during reading; writing takes none. If the writer fails, a prefix of the lines was written.
abbrev pub IsShowRun : ReadTrace → Sink → Result (Unit {0}) RunFault → Type 0
IsShowRun read_trace sink (Ok done) = (file : Fields) × IsFile read_trace file × HasWritten sink (shown file)
IsShowRun read_trace sink (Err (File place fault)) = (place ≡ 1) × StopsAt fault read_trace × IsUnwritten sink
IsShowRun read_trace sink (Err (Write write_faults.Device)) = (file : Fields) × IsFile read_trace file × HasStopped sink (shown file)
IsShowRun read_trace sink (Err other) = ⊥

-- ---- a run of `tsp convert`

-- The file in the wanted layout, or why it can't have it. If no layout is wanted, it stays as it is.
abbrev pub Becomes : Option Layout → Fields → Result Fields RelayoutFault → Type 0
Becomes None old (Ok new) = new ≡ old
Becomes None old (Err fault) = ⊥
Becomes (Some to) old (Ok new) = IsRelaid old to new
Becomes (Some to) old (Err fault) = IsRefused old to fault

-- the reader's bytes parse to a file that becomes this one, and this one is valid
pub record IsConverted (to : Option Layout) (read_trace : ReadTrace) (new : Fields) : Type 0 where
  pub old : Fields
  pub whole : IsFile read_trace old
  pub becomes : Becomes to old (Ok new)
  pub valid : fault_of new ≡ None

-- The result of a conversion. Ok: the canonical text of the new file was written. If the file isn't valid, or can't
-- have the layout, nothing is written. Memory may run out during reading or for the layout; writing takes none. If the
-- writer fails, a prefix of the text was written.
abbrev pub IsConvertRun : Option Layout → ReadTrace → Sink → Result (Unit {0}) RunFault → Type 0
IsConvertRun to read_trace sink (Ok done) = (new : Fields) × IsConverted to read_trace new × HasWritten sink (text_of new)
IsConvertRun to read_trace sink (Err (File place fault)) = (place ≡ 1) × StopsAt fault read_trace × IsUnwritten sink
IsConvertRun to read_trace sink (Err (Relayout fault)) =
    (old : Fields) × IsFile read_trace old × Becomes to old (Err fault) × IsUnwritten sink
IsConvertRun to read_trace sink (Err (Write write_faults.Device)) =
    (new : Fields) × IsConverted to read_trace new × HasStopped sink (text_of new)
IsConvertRun to read_trace sink (Err other) = ⊥
