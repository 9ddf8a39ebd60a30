-- The reason against a certificate for tours that lists memories or subset rows, which are for routes alone, and which
-- reason comes first if a family is bad, too. Only `src/certificate.rt` uses it. You may change it with the code,
-- because `AppliesToCertificate` defines when a reason applies.
use Rattle.tsp_verdict.specs.Prelude.{ℕ, List, [], length, slice_index_or, Option, None, Some, Reason, BadFamily, BadMemory, BadRow}
use Rattle.std.specs.Prelude.{◌≡◌, ◌≤◌, ◌<◌, ◌⊎◌}
use Rattle.tsp_format.specs.Steps.{SubsetRow}
use Rattle.tsp_cases.specs.Families.{IsFirstBadFamily, IsGoodFamily}
use Rattle.tsp_routing.specs.RunTrees.{owner_of}

-- the first node of the first list; without lists the first row; None if there is neither
abbrev pub IsMemoryReason : List (List ℕ) → List SubsetRow → Option Reason → Type 0
IsMemoryReason lists rows None = (lists ≡ []) × (rows ≡ [])
IsMemoryReason lists rows (Some reason) = ((1 ≤ length lists) × (reason ≡ BadMemory (owner_of (slice_index_or lists 0 []))))
    ⊎ ((lists ≡ []) × (1 ≤ length rows) × (reason ≡ BadRow 1))

-- the first bad family; None if all are good
abbrev pub IsBadFamilyIfAny : ℕ → List (List (List ℕ)) → Option ℕ → Type 0
IsBadFamilyIfAny n families None =
    (family : ℕ) → family < length families → IsGoodFamily n (slice_index_or families family [])
IsBadFamilyIfAny n families (Some index) = IsFirstBadFamily n families index

-- the reason that it is bad; or else the other reason
abbrev pub family_or : Option ℕ → Reason → Reason
family_or None reason = reason
family_or (Some index) reason = BadFamily index
