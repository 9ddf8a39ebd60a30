-- Names of other crates, passed on to the files of this crate alone. It defines nothing: add or remove names freely;
-- `tests/repository/names` sees that each is imported from here.
pub use Rattle.std.proofs.Common.{Bool, Err, FitsSigned, List, Ok, Result, add-one, ap, arith, below_more, cond, drop, drop-cons, false, get_or-set_other, get_or-set_same, inl, inr, length, length-drop, ltb-false, ltb-true, refl, rules, subst, subst₂, suc, sym, take, true, w64, zero, ℕ, [], ◌%◌, ◌+◌, ◌-◌, ◌/◌, ◌<◌, ◌∙◌, ◌∷◌, ◌≡◌, ◌≢◌, ◌≤◌}
pub use Rattle.std.proofs.lemmas.Int.{to_z-of_z}
pub use Rattle.std.specs.Prelude.{IfOk, IfSome, IsErr, None, Option, Some, is_ok, nat_lt, not, option_map, pos, slice_index_or, unwrap_or, ℤ, ◌==◌}
pub use Rattle.std_alloc.proofs.BoxSteps.Form.{B, Bx, D, P, R, args, box_ty, box_typed, word, τ}
pub use Rattle.std_alloc.proofs.BoxSteps.Steps.{box_in, box_out}
pub use Rattle.tsp_file.specs.Cost.{origin}
unfoldable pub use Rattle.tsp_file.specs.Cost.{cost, distance}
pub use Rattle.tsp_file.specs.Fields.{Fields, nodes_of}
pub use Rattle.tsp_io.specs.Streams.{HasWritten, ReadTrace, Sink}
pub use Rattle.tsp_io.specs.states.Output.{sink_of, writer_of}
pub use Rattle.tsp_io.specs.states.Watched.{read_trace_of}
pub use Rattle.tsp_judge.specs.CheckRun.{AreRead, EndsWithout, Given, IsFaultOfRun, IsFileIn, IsRun, IsSomeFile, JudgesFiles, acceptance}
pub use Rattle.tsp_judge.specs.BoundRun.{BoundsFiles, EndsUnbounded, IsBoundRun, IsBoundRunOf, SaysBound}
pub use Rattle.tsp_judge.specs.RunStatus.{status_of, status_of_fault}
pub use Rattle.tsp_judge.specs.Open.{IsHeldVerdict, IsNotJudged, IsTextFault, Open}
pub use Rattle.tsp_judge.specs.declared.run_status.RunFault.{RunFault}
pub use Rattle.tsp_judge.specs.declared.run_status.RunFault.TheVariants.{File, OutOfMemory, Relayout, Write, WrongKind}
pub use Rattle.tsp_report.specs.Verdicts.{BoundVerdict, is_yes}
pub use Rattle.tsp_report.specs.declared.task.CertificateKind.{CertificateKind}
pub use Rattle.tsp_report.specs.declared.verdict.Verdict.{Verdict}
