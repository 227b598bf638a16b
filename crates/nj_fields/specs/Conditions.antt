-- The conditions of a script, each as what its members are read as, in order. The layout is this project's own.
use Rattle.std.specs.Prelude.{Bool, List, [], ◌∷◌, ℕ, pos, neg_ℤ, is_some, codes, Ok, if◌then◌else◌}
use Rattle.serde_json.specs.Data.{Data}
use Rattle.serde_json.specs.Find.{get}
use Rattle.nj_property.specs.declared.Cmp.{Cmp}
use Rattle.nj_property.specs.declared.Side.{Side}
use Rattle.nj_property.specs.declared.Side.TheVariants.{Number, Other}
use Rattle.nj_property.specs.declared.Condition.{Condition}
use Rattle.nj_fields.specs.declared.names.Named.{Named}
use Rattle.nj_fields.specs.Reading.{Reading, then_read, if_there}
use Rattle.nj_fields.specs.Fields.{opened, integer, text, text_in, list_or_none}
use Rattle.nj_fields.specs.Lists.{each}
use Rattle.nj_fields.specs.Names.{property_named, comparison_named}
use Rattle.nj_fields.specs.Properties.{property_at}

-- the keys that a condition may have: `value` only where there is no `other`
abbrev pub condition_keys : Bool → List (List ℕ)
condition_keys other =
    if other then codes "property" ∷ codes "op" ∷ codes "other" ∷ []
    else codes "property" ∷ codes "op" ∷ codes "other" ∷ codes "value" ∷ []

-- a condition's comparison
unfoldable pub comparison_in : Data → Reading Cmp
comparison_in d = then_read (text (codes "op") d) comparison_named

-- the right side: a property where there is `other`, else a number
unfoldable pub side_in : List Named → Data → Reading Side
side_in properties d =
    if_there (get (codes "other") d)
    (then_read (integer (codes "value") (neg_ℤ (pos 65536)) (pos 65535) d) (λ n. Ok (Number n)))
    (λ value. then_read (text_in (codes "other") value) (λ name.
    then_read (property_named properties name) (λ p. Ok (Other p))))

-- a condition
unfoldable pub condition_in : List Named → Data → Reading Condition
condition_in properties d =
    then_read (opened (codes "when") (condition_keys (is_some (get (codes "other") d))) d) (λ _.
    then_read (property_at (codes "property") properties d) (λ left.
    then_read (comparison_in d) (λ op.
    then_read (side_in properties d) (λ right.
    Ok (record { left = left; op = op; right = right })))))

-- the conditions of an input set or a rule
unfoldable pub conditions_in : List Named → Data → Reading (List Condition)
conditions_in properties d = then_read (list_or_none (codes "when") 16 d) (each (λ _. condition_in properties) [])
