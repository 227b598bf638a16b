-- Conditions: a property compared with a number or with another property.
use Rattle.std.specs.Prelude.{ℕ, List, Bool, not, ℤ, int_lt}
use Rattle.std.specs.List.{list_all}
use Rattle.std.specs.Ordering.{int_eq}
use Rattle.nj_property.specs.declared.Cmp.{Cmp}
use Rattle.nj_property.specs.declared.Cmp.TheVariants.{Eq, Ne, Lt, Le, Gt, Ge}
use Rattle.nj_property.specs.declared.Side.{Side}
use Rattle.nj_property.specs.declared.Side.TheVariants.{Number, Other}
use Rattle.nj_property.specs.declared.Condition.{Condition}
use Rattle.nj_property.specs.Property.{IsPlaced, value_of}

-- whether the comparison holds of two numbers
abbrev pub compare : Cmp → ℤ → ℤ → Bool
compare Eq a b = int_eq a b
compare Ne a b = not (int_eq a b)
compare Lt a b = int_lt a b
compare Le a b = not (int_lt b a)
compare Gt a b = int_lt b a
compare Ge a b = not (int_lt a b)

-- the number on a condition's right side
abbrev pub side_of : Side → List ℕ → ℤ
side_of (Number value) ram = value
side_of (Other property) ram = value_of property ram

-- a property on the right side is placed
abbrev pub IsPlacedSide : Side → Type 0
IsPlacedSide (Number value) = Unit {0}
IsPlacedSide (Other property) = IsPlaced property

-- each property of the condition is placed
abbrev pub IsPlacedCondition : Condition → Type 0
IsPlacedCondition c = IsPlaced c.left × IsPlacedSide c.right

-- whether the condition holds in working memory
unfoldable pub holds_in : List ℕ → Condition → Bool
holds_in ram c = compare c.op (value_of c.left ram) (side_of c.right ram)

-- whether each of the conditions holds in working memory; of no conditions this is true
unfoldable pub all_hold_in : List ℕ → List Condition → Bool
all_hold_in ram conditions = list_all (holds_in ram) conditions
