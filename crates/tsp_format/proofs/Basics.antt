-- Small lemmas on truth values, options and lists that std lacks. They have nothing to do with TSPLIB. Proofs in most
-- crates above use them.
use Rattle.std.proofs.Common.{◌≡◌, refl, Option, None, Some, ◌≢◌, ℕ, zero, suc, ◌<◌, List, ◌∷◌, length, get_or, arith, true, false, Bool, ◌+◌, [], ◌++◌}
use Rattle.std.proofs.lemmas.Bool.{false≢true, true≢false}
use Rattle.std.specs.List.{Contains, AllByRecursion}
use Rattle.std.specs.Option.{option_or, option_map}
use Rattle.std.specs.Prelude.{◌&&◌, ◌||◌}

pub none_or : {A : Type 0} (a b : Option A) → option_or a b ≡ None → (a ≡ None) × (b ≡ None)
none_or None b e = (refl, e)
none_or (Some x) b e = absurd cc

pub none_map : {A B : Type 0} (f : A → B) (o : Option A) → option_map f o ≡ None → o ≡ None
none_map f None e = refl
none_map f (Some x) e = absurd cc

pub in_tail : {X : Type 0} (x : X) (zs : List X) (w : X) (k : ℕ) → k < length (x ∷ zs) → get_or (x ∷ zs) k w ≡ w → x ≢ w
    → Contains zs w
in_tail x zs w zero lt is other = absurd (other is)
in_tail x zs w (suc k) lt is other = (k, omega arith, is)

pub and_right_from : (stands wants : Bool) → stands ≡ true → (stands && wants) ≡ false → wants ≡ false
and_right_from true wants e f = f
and_right_from false wants e f = absurd (false≢true e)

pub or_right_from : (section points : Bool) → (section || points) ≡ true → section ≡ false → points ≡ true
or_right_from true points e s = absurd (true≢false s)
or_right_from false points e s = e

pub both_all : {X : Type 0} (P : X → Type 0) (xs ys : List X) → AllByRecursion P xs → AllByRecursion P ys → AllByRecursion P (xs ++ ys)
both_all P [] ys h k = k
both_all P (x ∷ xs) ys h k = (h.0, both_all P xs ys h.1 k)
