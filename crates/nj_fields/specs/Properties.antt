-- The properties of a script, each as what its members are read as, in order. The layout is this project's own.
use Rattle.std.specs.Prelude.{ℕ, ◌-◌, List, [], ◌∷◌, codes, bytes_eq, Ok}
use Rattle.std.specs.List.{list_any}
use Rattle.serde_json.specs.Data.{Data}
use Rattle.nj_property.specs.Property.{size_of}
use Rattle.nj_property.specs.declared.Kind.{Kind}
use Rattle.nj_property.specs.declared.Property.{Property}
use Rattle.nj_fields.specs.declared.names.Named.{Named}
use Rattle.nj_fields.specs.Reading.{Reading, then_read}
use Rattle.nj_fields.specs.Fields.{opened, natural, text}
use Rattle.nj_fields.specs.Names.{free_name, property_named, kind_named}

-- a property's kind
unfoldable pub kind_in : Data → Reading Kind
kind_in d = then_read (text (codes "kind") d) kind_named

-- a property, where these are before it
unfoldable pub property_in : List Named → Data → Reading Named
property_in before d =
    then_read (opened (codes "properties") (codes "name" ∷ codes "kind" ∷ codes "at" ∷ []) d) (λ _.
    then_read (text (codes "name") d) (λ name.
    then_read (free_name (list_any (λ n. bytes_eq n.name name) before) name) (λ name.
    then_read (kind_in d) (λ kind.
    then_read (natural (codes "at") 0 (2048 - size_of kind) d) (λ at.
    Ok (record { name = name; property = record { at = at; kind = kind } }))))))

-- the property that the member names
unfoldable pub property_at : List ℕ → List Named → Data → Reading Property
property_at key properties d = then_read (text key d) (property_named properties)
