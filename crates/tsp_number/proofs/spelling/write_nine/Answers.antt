-- The goals of `write_nine` in src/spelling.rt, which writes nine digits so that they end at a place: what it ensures.
use Rattle.tsp_number.proofs.Prelude.{◌≡◌, ◌+◌, ◌-◌, ◌/◌, ◌%◌, ◌∷◌, ◌++◌, ℕ, List, drop, set, ap, ◌∙◌, arith, drop-set}
use Rattle.tsp_number.proofs.Spelled.{pair, nine_digits}
use Rattle.tsp_number.proofs.spelling.write_nine.Goals as goal

-- plan: from the end: a digit, then four pairs, each before what the last call left; `nine_digits` puts them together
pub returns : goal.returns
returns c =
    let n : ℕ = c.args.number in
    let end : ℕ = c.args.end in
    let old : List ℕ = c.args.block.now in
    let room = c.requires.room in
    let e1 : end - 1 + 1 ≡ end = omega (arith, room) in
    let e3 : end - 3 + 2 ≡ end - 1 = omega (arith, room) in
    let e5 : end - 5 + 2 ≡ end - 3 = omega (arith, room) in
    let e7 : end - 7 + 2 ≡ end - 5 = omega (arith, room) in
    let e9 : end - 9 + 2 ≡ end - 7 = omega (arith, room) in
    let last : List ℕ = set old (end - 1) (48 + n % 10) in
    let low : List ℕ = pair (n / 10 % 10000 % 100) in
    let second : List ℕ = pair (n / 10 % 10000 / 100) in
    let third : List ℕ = pair (n / 10 / 10000 % 100) in
    let high : List ℕ = pair (n / 10 / 10000 / 100) in
    let one : drop (end - 1) last ≡ (48 + n % 10) ∷ drop end old =
    drop-set old (end - 1) (48 + n % 10) (omega (arith, room, c.requires.within))
    ∙ ap (λ (k : ℕ). (48 + n % 10) ∷ drop k old) e1 in
    let three : drop (end - 3) c.write_pair.new.block ≡ low ++ ((48 + n % 10) ∷ drop end old) =
    c.write_pair.ensures ∙ ap (λ (k : ℕ). low ++ drop k last) e3 ∙ ap (λ (t : List ℕ). low ++ t) one in
    let five : drop (end - 5) c.write_pair-2.new.block ≡ second ++ (low ++ ((48 + n % 10) ∷ drop end old)) =
    c.write_pair-2.ensures ∙ ap (λ (k : ℕ). second ++ drop k c.write_pair.new.block) e5 ∙ ap (λ (t : List ℕ). second ++ t) three in
    let seven : drop (end - 7) c.write_pair-3.new.block ≡ third ++ (second ++ (low ++ ((48 + n % 10) ∷ drop end old))) =
    c.write_pair-3.ensures ∙ ap (λ (k : ℕ). third ++ drop k c.write_pair-2.new.block) e7 ∙ ap (λ (t : List ℕ). third ++ t) five in
    c.write_pair-4.ensures ∙ ap (λ (k : ℕ). high ++ drop k c.write_pair-3.new.block) e9
    ∙ ap (λ (t : List ℕ). high ++ t) seven ∙ nine_digits n (drop end old) c.requires.few
