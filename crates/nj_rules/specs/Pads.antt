-- Which pads may come next, in which order. All of it is this project's own.
use Rattle.std.specs.Prelude.{ℕ, ◌==◌, not, List, [], ◌∷◌, ◌++◌, filter, flat_map, if◌then◌else◌}
use Rattle.nj_property.specs.Condition.{all_hold_in}
use Rattle.nj_rules.specs.declared.record.InputSet.{InputSet}

-- the numbers of the list in order, each at its first place only
abbrev pub distinct : List ℕ → List ℕ
distinct [] = []
distinct (x ∷ xs) = x ∷ filter (λ y. not (y == x)) (distinct xs)

-- the pads of the sets whose conditions hold, in order, up to and including a set with `stop`
abbrev pub offered_pads : List InputSet → List ℕ → List ℕ
offered_pads [] ram = []
offered_pads (set ∷ sets) ram =
    if all_hold_in ram set.when then set.pads ++ (if set.stop then [] else offered_pads sets ram)
    else offered_pads sets ram

-- the pads that may come next
unfoldable pub allowed_pads : List InputSet → List ℕ → List ℕ
allowed_pads sets ram = distinct (offered_pads sets ram)

-- the different pads that any of the sets names
unfoldable pub named_pads : List InputSet → List ℕ
named_pads sets = distinct (flat_map (λ set. set.pads) sets)
