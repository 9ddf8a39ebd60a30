-- For src/strict.rt: what is accepted with `strict` was accepted without, and every line of the instance is judged.
-- Proofs in tsp_judge and tsp_c use it, too.
use Rattle.tsp_verdict.proofs.Prelude.{Bool, true, false, List, [], ◌∷◌, Option, None, Some, ap, ◌≡◌, ◌&&◌, refl, sym, subst, cond, ℕ, IsTrue, false≢true, Fields, Reason, Verdict, Ok, Err, is_ok, BoundVerdict}
use Rattle.std.proofs.lemmas.Option.{none-some, same_Some}
use Rattle.std.specs.List.{find}
use Rattle.std.specs.Option.{option_map_or}
use Rattle.std.specs.Str.{bytes_eq}
use Rattle.tsp_format.specs.Words.{field_found, field_word, fields_in_order}
use Rattle.tsp_format.specs.declared.keyword.Field.{Field}
use Rattle.tsp_file.specs.Fields.{stands_in}
use Rattle.tsp_report.specs.Verdicts.{is_clear, is_yes}
use Rattle.tsp_report.specs.declared.verdict.KnownBound.{KnownBound}
use Rattle.tsp_report.specs.declared.verdict.Verdict.TheVariants as verdicts
use Rattle.tsp_verdict.specs.Strict.{IsJudgedWhole, UsesItsFields, first_unused, leaves_unused, reason_by, stands_unused, strict_bound, strict_found, strict_known_bound, strict_reason, strict_verdict}

-- ---- if there is no reason by `strict`, every line is judged

-- one element more
fails_more : {V : Type 0} (test : V → Bool) (passes is_it : Bool) (value first : V) (left found : Option V)
    → test first ≡ passes → cond passes (Some first) left ≡ None → cond is_it (Some first) found ≡ Some value
    → (left ≡ None → found ≡ Some value → test value ≡ false) → test value ≡ false
fails_more test true is_it value first left found is none is_found others = absurd (none-some first (sym none))
fails_more test false true value first left found is none is_found others =
    subst (λ other. test other ≡ false) (same_Some first value is_found) is
fails_more test false false value first left found is none is_found others = others none is_found

-- if no element passes a test, the one that another search finds doesn't
found_fails : {V : Type 0} (test is_it : V → Bool) (value : V) (values : List V) → find test values ≡ None
    → find is_it values ≡ Some value → test value ≡ false
found_fails test is_it value [] none is_found = absurd (none-some value is_found)
found_fails test is_it value (first ∷ values) none is_found =
    fails_more test (test first) (is_it first) value first (find test values) (find is_it values) refl none is_found
    (found_fails test is_it value values)

second_false : (stands unused : Bool) → (stands && unused) ≡ false → IsTrue stands → unused ≡ false
second_false true unused none is = none
second_false false unused none is = absurd (false≢true is)

uses_its_fields : (instance : Fields) → first_unused instance ≡ None → UsesItsFields instance
uses_its_fields instance none = λ field stands.
    second_false (stands_in instance field) (leaves_unused instance field)
    (found_fails (stands_unused instance) (λ other. bytes_eq (field_word field) (field_word other)) field fields_in_order none
    (field_found field)) stands

no_reason : (lines : List (List ℕ × List ℕ)) (field : Option Field) → reason_by lines field ≡ None → (lines ≡ []) × (field ≡ None)
no_reason [] None none = (refl, refl)
no_reason [] (Some field) none = absurd (none-some _ (sym none))
no_reason (line ∷ lines) field none = absurd (none-some _ (sym none))

pub judged_whole : (strict : Bool) (instance : Fields) → strict_reason strict instance ≡ None → strict ≡ true
    → IsJudgedWhole instance
judged_whole false instance none is = absurd (false≢true is)
judged_whole true instance none is =
    let both = no_reason instance.others (first_unused instance) none in
    (both.0, uses_its_fields instance both.1)

-- ---- what is accepted was accepted before, and there is no such reason

pub accepted_before : (strict : Option Reason) (plain : Verdict) → is_yes (strict_verdict strict plain) ≡ true
    → (strict_verdict strict plain ≡ plain) × (strict ≡ None)
accepted_before None plain is = (refl, refl)
accepted_before (Some reason) (verdicts.Tour length bound) is = absurd (false≢true is)
accepted_before (Some reason) (verdicts.Routes length routes least bound) is = absurd (false≢true is)
accepted_before (Some reason) (verdicts.No other) is = absurd (false≢true is)

pub bounded_before : (strict : Option Reason) (plain : BoundVerdict) → is_ok (strict_bound strict plain) ≡ true
    → (strict_bound strict plain ≡ plain) × (strict ≡ None)
bounded_before None plain is = (refl, refl)
bounded_before (Some reason) (Ok bound) is = absurd (false≢true is)
bounded_before (Some reason) (Err other) is = absurd (false≢true is)

clear_found : (strict : Option Reason) (found : Option BoundVerdict) → option_map_or is_ok (strict_found strict found) true ≡ true
    → (strict_found strict found ≡ found) × (strict ≡ None)
clear_found None found is = (refl, refl)
clear_found (Some reason) None is = absurd (false≢true is)
clear_found (Some reason) (Some (Ok bound)) is = absurd (false≢true is)
clear_found (Some reason) (Some (Err other)) is = absurd (false≢true is)

pub clear_before : (strict : Option Reason) (plain : KnownBound) → is_clear (strict_known_bound strict plain) ≡ true
    → (strict_known_bound strict plain ≡ plain) × (strict ≡ None)
clear_before strict plain is =
    let found = clear_found strict plain.found is in
    (ap (λ (it : Option BoundVerdict). record plain { found = it }) found.0, found.1)
