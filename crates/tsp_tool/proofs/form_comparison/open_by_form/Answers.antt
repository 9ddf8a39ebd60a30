-- The goals of `open_by_form` in src/form_comparison.rt, which reads a solution and rewrites it: what it ensures.
use Rattle.std.specs.Prelude.{◌≢◌, ℕ, List, Option, Some, Result, Ok, Err, MatchResult, ⊤}
use Rattle.std.proofs.Common.{inl, inr, sym, subst}
use Rattle.std.specs.declared.alloc.AllocError.{AllocError}
use Rattle.std.specs.declared.io.Error.{Error}
use Rattle.tsp_judge.specs.declared.Watched.{Watched}
use Rattle.tsp_text.specs.declared.fault.ReadFault.TheVariants.{Device}
use Rattle.tsp_solution.specs.declared.fault.SolutionFault.{SolutionFault}
use Rattle.tsp_solution.specs.declared.fault.SolutionFault.TheVariants.{File}
use Rattle.tsp_solution.specs.declared.hints.Hints.{Hints}
use Rattle.tsp_tool.specs.FormCheck.{GivesWhole, LacksBytes}
use Rattle.tsp_tool.specs.FormComparison.{HoldsSolution, HoldsUnread, OpensByForm}
use Rattle.tsp_tool.specs.ProgramRun.{IsFresh}
use Rattle.tsp_tool.specs.declared.held_text.HeldText.{HeldText}
use Rattle.tsp_tool.specs.declared.job.InputPath.{InputPath}
use Rattle.tsp_tool.proofs.form_comparison.open_by_form.Goals as goal

module _ {F : Type 0} (remaining : F → Option (List ℕ)) (gives : F → List ℕ → Result ℕ Error → List ℕ → F → Type 0)
    (begins : InputPath → Watched F → Type 0) (hints : Hints) (place : InputPath) where
  -- the file was read whole
  of_whole : (solution : List ℕ) (opened : Result HeldText AllocError) → GivesWhole remaining gives begins place solution
      → MatchResult opened (λ held. HoldsSolution hints solution held) (λ _. ⊤) → OpensByForm remaining gives begins (Some hints) place opened
  of_whole solution (Ok held) whole holds = inl (solution, whole, holds)
  of_whole solution (Err refused) whole holds = inl (solution, whole)

  -- its bytes can't be had
  of_lacking : (fault : SolutionFault) (opened : Result HeldText AllocError) → LacksBytes remaining gives begins place fault
      → MatchResult opened (HoldsUnread fault) (λ _. fault ≢ File Device) → OpensByForm remaining gives begins (Some hints) place opened
  of_lacking fault (Ok held) lacks holds = inr (fault, lacks, holds)
  of_lacking fault (Err refused) lacks other = inr (fault, lacks, other)

-- plan: nothing is known; or the file was read (`of_whole`), or not (`of_lacking`)
pub returns-in-Ok : goal.returns-in-Ok
returns-in-Ok g c =
    subst (λ known. OpensByForm g.F.Read.remaining g.F.Gives.gives (IsFresh (g.O.Open.opens c.args.files.now)) known c.args.place c.rewritten.result) (sym c.in-Some.is)
    (of_whole g.F.Read.remaining g.F.Gives.gives (IsFresh (g.O.Open.opens c.args.files.now)) c.in-Some.hints c.args.place c.in-Ok.solution.items c.rewritten.result
    c.in-Ok.ensures c.rewritten.ensures)

pub returns-in-Err : goal.returns-in-Err
returns-in-Err g c =
    subst (λ known. OpensByForm g.F.Read.remaining g.F.Gives.gives (IsFresh (g.O.Open.opens c.args.files.now)) known c.args.place c.unread.result) (sym c.in-Some.is)
    (of_lacking g.F.Read.remaining g.F.Gives.gives (IsFresh (g.O.Open.opens c.args.files.now)) c.in-Some.hints c.args.place c.in-Err.fault c.unread.result
    c.in-Err.ensures c.unread.ensures)
