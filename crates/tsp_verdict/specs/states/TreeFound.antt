-- What a certificate with a tree of cases gives, by the verdict on the tree (`TreeVerdict`): its bound, or the reason
-- against it, in one table for tours and routes. Only `src/certificate.rt` uses it, whose function `found_by_tree` is
-- this table in code. A new variant of `TreeVerdict` needs its row in both.
use Rattle.tsp_verdict.specs.Prelude.{None, Some, BadFamily, BadMemory, BadRow, BadBranch, BranchTwice, BadLeaf, TooManyLoads, TooManyStates, Ok, Err, BoundVerdict}
use Rattle.std.specs.Prelude.{◌<◌, ◌^◌}
use Rattle.tsp_cases.specs.declared.judged.TreeVerdict.{TreeVerdict}
use Rattle.tsp_cases.specs.declared.judged.TreeVerdict.TheVariants as trees

-- its bound, that there is no solution, or the reason against it
abbrev pub found_by_tree : TreeVerdict → BoundVerdict
found_by_tree (trees.Bound bound) = Ok bound
found_by_tree (trees.BadFamily index) = Err (BadFamily index)
found_by_tree (trees.BadMemory node) = Err (BadMemory node)
found_by_tree (trees.BadRow index) = Err (BadRow index)
found_by_tree (trees.BadBranch index) = Err (BadBranch index)
found_by_tree (trees.BranchTwice index) = Err (BranchTwice index)
found_by_tree (trees.BadLeaf index) = Err (BadLeaf index)
found_by_tree trees.TooManyLoads = Err TooManyLoads
found_by_tree (trees.TooManyStates index) = Err (TooManyStates index)

-- its number fits 32 bits
abbrev pub IsNumbered : TreeVerdict → Type 0
IsNumbered (trees.BadFamily index) = index < 2 ^ 32
IsNumbered (trees.BadRow index) = index < 2 ^ 32
IsNumbered (trees.BadBranch index) = index < 2 ^ 32
IsNumbered (trees.BranchTwice index) = index < 2 ^ 32
IsNumbered (trees.BadLeaf index) = index < 2 ^ 32
IsNumbered (trees.TooManyStates index) = index < 2 ^ 32
IsNumbered other = Unit {0}
