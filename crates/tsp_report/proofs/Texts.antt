-- Reports are written part by part: what the writes in src/report.rt, src/compared.rt and src/shown.rt append is the
-- text of the whole line or report (`two_parts`, `then_named`).
use Rattle.tsp_report.proofs.Prelude.{◌≡◌, ℕ, ◌+◌, ◌<◌, List, [], ◌∷◌, ◌++◌, length, take, map, get_or, false, Some, refl, sym, ap, subst, ◌∙◌, append-nil, append_assoc, arith, Option, None, length-map, get_or-map, flat_map, enumerate_from, codes, ◌==◌, IsTrue, carried_then, carried_node, Way, Carried}
use Rattle.std.proofs.lemmas.Bool.{false≢true}
use Rattle.tsp_format.specs.declared.kinds.Kind.{Kind}
use Rattle.tsp_format.specs.declared.kinds.Kind.TheVariants as kinds
use Rattle.tsp_file.specs.Fields.{Fields}
use Rattle.tsp_file.specs.Rules.{is_instance}
use Rattle.tsp_report.specs.Report.{not_judged}
use Rattle.tsp_report.specs.Show.{name_line, lines_by_type, cost_lines}

-- two parts, and then the piece is handed over
pub two_parts : (a b c d : Way) (x y : List ℕ) → Carried a b x → Carried b c y → Carried c d [] → Carried a d (x ++ y)
two_parts a b c d x y h k m =
    subst (Carried a d) (append-nil (x ++ y)) (carried_then a c d (x ++ y) [] (carried_then a b c x y h k) m)

-- a text, then a path with the end of its line, and then the piece is handed over
pub with_path : (a b c d : Way) (x path : List ℕ) → Carried a b x → Carried b c (codes " " ++ path ++ codes "\n") → Carried c d []
    → Carried a d (x ++ codes " " ++ path ++ codes "\n")
with_path a b c d x path h k m = subst (Carried a d) (sym whole) (two_parts a b c d x (codes " " ++ path ++ codes "\n") h k m)
  where
    whole : x ++ codes " " ++ path ++ codes "\n" ≡ x ++ (codes " " ++ path ++ codes "\n")
    whole = ap (λ t. t ++ codes "\n") (append_assoc x (codes " ") path) ∙ append_assoc x (codes " " ++ path) (codes "\n")

-- the part of the next node, if the entries are seen by g
pub next_mapped : {X Y : Type 0} (f : ℕ × Y → List ℕ) (g : X → Y) (xs : List X) (i : ℕ) (x : X) (a b c : Way) → i < length xs
    → x ≡ get_or xs i x
    → Carried a b (flat_map f (take i (enumerate_from 1 (map g xs)))) → Carried b c (f (i + 1, g x))
    → Carried a c (flat_map f (take (i + 1) (enumerate_from 1 (map g xs))))
next_mapped f g xs i x a b c lt is h k = carried_node f (map g xs) i (g x) a b c (omega (arith, length-map xs g))
    (ap g is ∙ sym (get_or-map g xs i x (g x) lt)) h k

-- the line of an unknown keyword
abbrev pub unknown_line : List ℕ × List ℕ → List ℕ
unknown_line other = codes "not judged " ++ other.0 ++ codes "\n"

-- the lines of unknown keywords, one after the other
pub not_judged_each : (others : List (List ℕ × List ℕ)) → flat_map unknown_line others ≡ not_judged others
not_judged_each [] = refl
not_judged_each (other ∷ others) = ap (λ t. unknown_line other ++ t) (not_judged_each others)

-- the line of a name that isn't empty
pub named : (name : List ℕ) → (length name == 0) ≡ false → codes "name " ++ name ++ codes "\n" ≡ name_line (Some name)
named [] none = absurd cc
named (first ∷ rest) none = refl

-- a text, some words and a number
pub then_named : (a b c : Way) (x words number : List ℕ) → Carried a b x → Carried b c (words ++ number)
    → Carried a c (x ++ words ++ number)
then_named a b c x words number h k =
    subst (Carried a c) (sym (append_assoc x words number)) (carried_then a b c x (words ++ number) h k)

-- ---- the lines of `show` after the head: for an instance, and for another file

-- its lines by TYPE
lines_of_instance : (kind : Option Kind) (f : Fields) → IsTrue (is_instance kind) → lines_by_type kind f ≡ cost_lines f
lines_of_instance (Some kinds.Tsp) f is = refl
lines_of_instance (Some kinds.Atsp) f is = refl
lines_of_instance (Some kinds.Cvrp) f is = refl
lines_of_instance (Some kinds.Tour) f is = absurd (false≢true is)
lines_of_instance (Some kinds.Potentials) f is = absurd (false≢true is)
lines_of_instance (Some kinds.Branches) f is = absurd (false≢true is)
lines_of_instance None f is = absurd (false≢true is)

-- these, and then the lines of unknown keywords
pub rest_of_instance : (file instance : Fields) (others : List (List ℕ × List ℕ)) (a b c : Way) → instance ≡ file
    → IsTrue (is_instance file.kind)
    → others ≡ instance.others → Carried a b (cost_lines instance) → Carried b c (not_judged others)
    → Carried a c (lines_by_type file.kind file ++ not_judged file.others)
rest_of_instance file instance others a b c same is kept h k =
    let costs : Carried a b (lines_by_type file.kind file) = subst (Carried a b) (ap cost_lines same ∙ sym (lines_of_instance file.kind file is)) h in
    let rest : Carried b c (not_judged file.others) = subst (Carried b c) (ap not_judged (kept ∙ ap (λ (f : Fields). f.others) same)) k in
    carried_then a b c (lines_by_type file.kind file) (not_judged file.others) costs rest

-- those of another file, and then the lines of unknown keywords
pub rest_of_other : (file other : Fields) (others : List (List ℕ × List ℕ)) (a b c : Way) → other ≡ file → others ≡ other.others
    → Carried a b (lines_by_type other.kind other) → Carried b c (not_judged others)
    → Carried a c (lines_by_type file.kind file ++ not_judged file.others)
rest_of_other file other others a b c same kept h k =
    let lines : Carried a b (lines_by_type file.kind file) = subst (λ (f : Fields). Carried a b (lines_by_type f.kind f)) same h in
    let rest : Carried b c (not_judged file.others) = subst (Carried b c) (ap not_judged (kept ∙ ap (λ (f : Fields). f.others) same)) k in
    carried_then a b c (lines_by_type file.kind file) (not_judged file.others) lines rest
