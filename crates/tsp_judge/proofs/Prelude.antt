-- Names of other crates, passed on to the files of this crate alone. It defines nothing: add or remove names freely;
-- `tests/repository/names` sees that each is imported from here.
pub use Rattle.std.proofs.Common.{Bool, Err, List, None, Ok, Option, Some, add-one, ap, append-nil, append_assoc, arith, eqb, false, inl, inr, length, refl, rules, subst, subst₂, suc, sym, take, true, ℕ, [], ◌++◌, ◌+◌, ◌<◌, ◌||◌, ◌∙◌, ◌∷◌, ◌≡◌, ◌≢◌, ◌⊎◌}
pub use Rattle.std.proofs.KnownBytes.{Appends-kept, Appends-nil, Appends-trans, Keeps-refl}
pub use Rattle.std.specs.Prelude.{IfOk, IsTrue, Result, codes, if◌then◌else◌, is_ok, max, negsuc, pos, slice_index_or, unsigned_abs, unwrap_or, ℤ, ◌^◌, ◌≤ℤ◌, ◌≤◌}
pub use Rattle.tsp_cost.specs.Problems.{IsProblem, depot_of, depots_of, problem_of, routing_of}
pub use Rattle.tsp_file.specs.Fields.{Fields, nodes_of}
pub use Rattle.tsp_io.specs.Streams.{HasStopped, HasWritten, IsUnread, IsUnwritten, ReadTrace, Sink, Writes}
pub use Rattle.tsp_io.specs.states.Output.{output_failed, sink_of, writer_of}
pub use Rattle.tsp_io.specs.states.Watched.{has_failed, read_trace_of, watched}
pub use Rattle.tsp_read.proofs.BegunSteps.{propagated}
pub use Rattle.tsp_read.proofs.PieceSteps.{read_none}
pub use Rattle.tsp_read.specs.Reads.{HasReads, IsFile, IsReadOn, StopsAt, most_taken}
pub use Rattle.tsp_read.specs.declared.ReadFault.{ReadFault}
pub use Rattle.tsp_report.specs.Report.{IsGapSized, IsSized, bound_report_of, head_of, report_of, solution_line}
pub use Rattle.tsp_report.specs.Verdicts.{BoundVerdict, is_clear, is_yes}
pub use Rattle.tsp_report.specs.declared.task.CertificateKind.{CertificateKind}
pub use Rattle.tsp_verdict.specs.Certified.{AppliesToBounded, AppliesToCertificate, AppliesToCertificateBy, AppliesToInstanceBy, AppliesToRouting, AppliesToTouring, BoundsSolutions, BoundsSolutionsBy, HasNoSolution, HasNoSolutionBy, IsBoundFitting, IsBoundVerdict, IsCertifiedRoutesVerdict, IsCertifiedTourVerdict, IsCertifiedVerdict, IsCertifiedVerdictBy, is_bounded, kind_of}
pub use Rattle.tsp_verdict.specs.SolutionVerdict.{HasLength, IsAsClaimed, IsFoundWith, IsKnownBound, IsKnownBoundAsked, IsUnclaimedVerdict, IsVerdictAsked, IsVerdictBy, IsVerdictFrom, IsVerdictWith, is_judged}
pub use Rattle.tsp_verdict.specs.Strict.{IsJudgedWhole, strict_known_bound, strict_reason, strict_verdict}
