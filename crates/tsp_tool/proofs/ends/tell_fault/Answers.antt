-- The goals of `tell_fault` in src/ends.rt. The text of a fault is written as one line.
use Rattle.tsp_tool.proofs.Prelude.{◌≡◌, ◌∙◌, ap, subst, ℕ, List, [], ◌∷◌, ◌++◌, OnOk}
use Rattle.std.specs.Io.KnownBytes.{Appends}
use Rattle.std.proofs.lemmas.Fmt.{contents_after_writes}
use Rattle.tsp_judge.specs.RunStatus.{run_fault_text}
use Rattle.tsp_tool.proofs.ends.tell_fault.Goals as goal

-- plan: the text fits the buffer, which is written with its end
pub returns-in-Ok : goal.returns-in-Ok
returns-in-Ok g c =
    let line : List ℕ = run_fault_text c.args.fault ++ 10 ∷ [] in
    let written : c.writeln.new.self.bytes ≡ c.new-text.result.bytes ++ line =
    contents_after_writes _ (λ s. s.bytes) (λ w l v t. t) _ line _ c.in-Ok.ensures.writes in
    let same : c.as_bytes.result.now ≡ line =
    c.as_bytes.ensures.value ∙ c.as_str.ensures.value ∙ written ∙ ap (λ (front : List ℕ). front ++ line) c.new-text.ensures in
    subst (λ (bytes : List ℕ). OnOk c.write_all.result (Appends (g.W.Write.contents c.args.errors.now) (g.W.Write.contents c.write_all.new.self) bytes)) same
    c.write_all.ensures.bytes
