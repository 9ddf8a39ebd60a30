-- The goals of `is_too_long_to_keep` in src/line.rt, which says whether a keyword and its value are too long: what it
-- ensures.
use Rattle.tsp_read.proofs.Prelude.{◌+◌, ◌-◌, length, refl, arith, Decides-ltb, same_from_decides}
use Rattle.tsp_read.proofs.line.is_too_long_to_keep.Goals as goal

pub returns-then-line-gt-MOST_KEPT_BYTES : goal.returns-then-line-gt-MOST_KEPT_BYTES
returns-then-line-gt-MOST_KEPT_BYTES c =
    let keyword = length c.args.line.now.keyword.now in
    let both = keyword + length c.args.line.now.value.now in
    let more = (Decides-ltb 4000 both).1 (omega (arith, c.if-line-gt-MOST_KEPT_BYTES.true)) in
    rw ((Decides-ltb 4000 keyword).1 c.if-line-gt-MOST_KEPT_BYTES.true, more) refl

-- plan: the line is short enough, or its keyword and value are counted
pub returns-else-line-gt-MOST_KEPT_BYTES : goal.returns-else-line-gt-MOST_KEPT_BYTES
returns-else-line-gt-MOST_KEPT_BYTES c =
    let keyword = length c.args.line.now.keyword.now in
    let value = length c.args.line.now.value.now in
    let both = Decides-ltb 4000 (keyword + value) in
    let few = c.if-line-gt-MOST_KEPT_BYTES.false in
    same_from_decides _ _ (Decides-ltb (4000 - keyword) value) (λ e. omega (arith, both.0 e, few), λ more. both.1 (omega (arith, more, few)))
