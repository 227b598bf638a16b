-- The order in which candidates are preferred, and lists in an order.
use Rattle.std.specs.Prelude.{ℕ, ℤ, Bool, List, [], ◌∷◌, if◌then◌else◌}
use Rattle.std.specs.Ordering.{is_lt, ordering_then, int_cmp, nat_cmp}

-- a candidate of this reward and number is preferred to the other: by greater reward, then by smaller number
abbrev pub is_preferred : ℤ → ℕ → ℤ → ℕ → Bool
is_preferred reward number other_reward other_number =
    is_lt (ordering_then (int_cmp other_reward reward) (nat_cmp number other_number))

-- a list in order with x put behind all that is not after it
abbrev pub put_in : {X : Type 0} → (X → X → Bool) → X → List X → List X
put_in before x [] = x ∷ []
put_in before x (y ∷ ys) = if before x y then x ∷ y ∷ ys else y ∷ put_in before x ys

-- the members of a list, in the order of `before`
abbrev pub in_order : {X : Type 0} → (X → X → Bool) → List X → List X
in_order before [] = []
in_order before (x ∷ xs) = put_in before x (in_order before xs)
