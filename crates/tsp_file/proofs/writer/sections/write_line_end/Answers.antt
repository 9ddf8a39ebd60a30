-- The goals of `write_line_end` in src/writer/sections.rt, which writes the third coordinate, if any, and the end of
-- the line: what it ensures.
use Rattle.tsp_file.proofs.Prelude.{◌≡◌, ◌∷◌, ◌++◌, ℕ, List, length, drop, set, ap, sym, ◌∙◌, append-nil, arith, rules, drop-set, drop_all, spelling}
use Rattle.tsp_file.specs.CanonicalText.{line_end}
use Rattle.tsp_file.proofs.writer.sections.write_line_end.Goals as goal

last : (line : List ℕ) → length line ≡ 87 → drop 86 (set line 86 10) ≡ line_end
last line long = drop-set line 86 10 (omega (arith, long)) ∙ ap (λ (t : List ℕ). 10 ∷ t) (drop_all 87 line (omega (arith, long)))

-- plan: by whether the file is spatial: the third coordinate is written, or only the line's end
pub returns-then-spatial-clause-written : goal.returns-then-spatial-clause-written
returns-then-spatial-clause-written c =
    let long : length c.args.line.now ≡ 87 = search rules in
    let word : List ℕ = 32 ∷ spelling c.args.third in
    rw c.if-spatial.true
    (c.write_coordinate.ensures.written ∙ ap (λ (t : List ℕ). word ++ t) (last c.args.line.now long)
    ∙ ap (λ (t : List ℕ). t ++ line_end) (sym (append-nil word)))

pub returns-clause-written : goal.returns-clause-written
returns-clause-written c =
    let long : length c.args.line.now ≡ 87 = search rules in
    rw c.if-spatial.false (last c.args.line.now long)
