-- Lists whose members are read in order; the first refusal counts.
use Rattle.std.specs.Prelude.{List, [], ◌∷◌, ◌++◌, Ok}
use Rattle.serde_json.specs.Data.{Data, Items, no_items, item}
use Rattle.nj_fields.specs.Reading.{Reading, then_read}

-- the values of a JSON array, each read with what was made of those before it
abbrev pub each : {A : Type 0} → (List A → Data → Reading A) → List A → Items → Reading (List A)
each reading made no_items = Ok made
each reading made (item value items) = then_read (reading made value) (λ a. each reading (made ++ a ∷ []) items)

-- a reading of each element of a list, behind what is made
abbrev pub collected : {X A : Type 0} → (X → Reading A) → List A → List X → Reading (List A)
collected reading made [] = Ok made
collected reading made (x ∷ xs) = then_read (reading x) (λ a. collected reading (made ++ a ∷ []) xs)
