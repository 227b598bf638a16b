-- Lists of which only so many members are kept, and of each kind fewer.
use Rattle.std.specs.Prelude.{ℕ, ℤ, Bool, ◌&&◌, nat_lt, List, [], ◌∷◌, ◌++◌, length, fold, count_by, if◌then◌else◌}
use Rattle.std.specs.Ordering.{int_eq}
use lib.Pointwise.{pointwise}

-- two lists of values are the same
abbrev pub same_values : List ℤ → List ℤ → Bool
same_values = pointwise int_eq

-- one is kept where fewer than `most` were kept before it, and fewer than `quota` of those are like it
abbrev pub kept_with : {X : Type 0} → (X → X → Bool) → ℕ → ℕ → List X → X → List X
kept_with alike most quota done x =
    if nat_lt (length done) most && nat_lt (count_by (alike x) done) quota then done ++ x ∷ [] else done

-- those that are kept of a list, whose members come in turn
abbrev pub limited : {X : Type 0} → (X → X → Bool) → ℕ → ℕ → List X → List X
limited alike most quota xs = fold (kept_with alike most quota) [] xs
