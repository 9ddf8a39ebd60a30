-- Names of other crates, passed on to the files of this crate alone. It defines nothing: add or remove names freely;
-- `tests/repository/names` sees that each is imported from here.
pub use Rattle.std.specs.Prelude.{Bool, Err, IfOk, IsTrue, List, MatchResult, None, Ok, Option, Result, Some, SomeIff, codes, cond, drop, false, is_ok, is_some, length, map, min, negsuc, option_map, pos, slice_index, slice_index_or, suc, true, unsigned_abs, unwrap_or, zero, ℕ, ℤ, []}
pub use Rattle.tsp_file.specs.Cost.{origin, point_of}
unfoldable pub use Rattle.tsp_file.specs.Cost.{cost, distance}
pub use Rattle.tsp_file.specs.Fields.{Fields, blank_fields, nodes_of}
pub use Rattle.tsp_judge.specs.RunStatus.{run_fault_text, status_of, status_of_fault}
pub use Rattle.tsp_judge.specs.Open.{IsBoundTo, IsHeldVerdict, IsNotJudged, IsOpened, IsTextFault, IsUnbound, IsUnopened, Open}
pub use Rattle.tsp_judge.specs.declared.run_status.RunFault.{RunFault}
pub use Rattle.tsp_judge.specs.declared.run_status.RunFault.TheVariants.{File, OutOfMemory, Relayout, Write, WrongKind}
pub use Rattle.tsp_number.specs.declared.decimal.Point.{Point}
pub use Rattle.tsp_report.specs.Report.{IsGapSized, IsSized, bound_report_of, report_of}
pub use Rattle.tsp_report.specs.Verdicts.{BoundVerdict, is_yes, number_of_reason, row_of_reason}
pub use Rattle.tsp_report.specs.declared.task.CertificateKind.{CertificateKind}
pub use Rattle.tsp_text.specs.ParsesTo.{ParsesTo, fault}
