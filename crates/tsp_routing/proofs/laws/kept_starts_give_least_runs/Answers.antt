-- The goals of `kept_starts_give_least_runs` in src/laws.rt: what it ensures.
use Rattle.tsp_routing.proofs.KeptStarts.{completions_tell_kept_states, completions_are_below_rests, runs_below_are_kept, kept_starts_give_least_runs}
use Rattle.tsp_routing.proofs.laws.kept_starts_give_least_runs.Goals as goal

-- plan: without memory and rows a run may go on in the same way, and pays no charge; so its own rest is a way home
pub returns : goal.returns
returns c = record {
  told = completions_tell_kept_states;
  rests = completions_are_below_rests;
  kept = runs_below_are_kept;
  least = kept_starts_give_least_runs;
}
