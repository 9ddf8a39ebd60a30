-- Names of other crates, passed on to the files of this crate alone. It defines nothing: add or remove names freely;
-- `tests/repository/names` sees that each is imported from here.
pub use Rattle.std.specs.Prelude.{Bool, Err, IsTrue, List, MatchResult, None, Ok, Option, Result, Some, codes, decimal, false, is_ok, length, max, option_map, pos, slice_index_or, suc, true, zero, ℕ, ℤ, []}
pub use Rattle.tsp_cost.specs.Problems.{IsProblem, IsProblemOf, IsRoutingOf}
pub use Rattle.tsp_file.specs.Fields.{Fields}
pub use Rattle.tsp_io.specs.Streams.{HasStopped, HasWritten, IsUnread, IsUnwritten, ReadTrace, Sink, TakesAtMost, write_fault_text}
pub use Rattle.tsp_io.specs.states.Output.{FailsByWrite, output_failed, sink_of}
pub use Rattle.tsp_io.specs.states.Watched.{read_trace_of}
pub use Rattle.tsp_read.specs.Reads.{HasReads, IsFile, IsReadOn, Reads, StopsAt, most_taken}
pub use Rattle.tsp_report.specs.Report.{IsSized, bound_report_of, head_of, report_of, solution_line}
pub use Rattle.tsp_report.specs.Verdicts.{BoundVerdict, is_clear, is_yes}
pub use Rattle.tsp_report.specs.declared.task.CertificateKind.{CertificateKind}
pub use Rattle.tsp_report.specs.declared.verdict.Verdict.{Verdict}
pub use Rattle.tsp_verdict.specs.Certified.{IsBoundOf, IsBoundVerdict, NoneAgainstInstance, NoneWithoutMemory, is_bounded, kind_of}
pub use Rattle.tsp_verdict.specs.SolutionVerdict.{HasKnownBound, IsBoundAsked, IsKnownBound, IsKnownBoundAsked, IsVerdictAsked, IsVerdictWith, NoneBeforeRepeatsOn, NoneOfKnownBoundWithoutMemory, is_judged}
pub use Rattle.tsp_verdict.specs.Strict.{IsJudgedWhole}
