-- Names in a script: of properties, rules, kinds of property, comparisons and pads. All of them are this project's own.
use Rattle.std.specs.Prelude.{ℕ, Bool, List, find, position, bytes_eq, codes, Ok, Err, if◌then◌else◌}
use Rattle.nj_pad.specs.Pad.{pad_of_text}
use Rattle.nj_property.specs.declared.Property.{Property}
use Rattle.nj_property.specs.declared.Kind.{Kind}
use Rattle.nj_property.specs.declared.Kind.TheVariants.{U8, I8, U16, I16}
use Rattle.nj_property.specs.declared.Cmp.{Cmp}
use Rattle.nj_property.specs.declared.Cmp.TheVariants.{Eq, Ne, Lt, Le, Gt, Ge}
use Rattle.nj_fields.specs.declared.names.Named.{Named}
use Rattle.nj_fields.specs.declared.refusal.ScriptRefused.TheVariants.{UnknownName, TwiceNamed}
use Rattle.nj_fields.specs.Reading.{Reading, if_there}

-- a name that is not taken yet
unfoldable pub free_name : Bool → List ℕ → Reading (List ℕ)
free_name taken name = if taken then Err (TwiceNamed name) else Ok name

-- the property of that name
unfoldable pub property_named : List Named → List ℕ → Reading Property
property_named properties name =
    if_there (find (λ n. bytes_eq n.name name) properties) (Err (UnknownName name)) (λ n. Ok n.property)

-- the number of the rule of that name, from 0
unfoldable pub number_of : List (List ℕ) → List ℕ → Reading ℕ
number_of names name = if_there (position (λ n. bytes_eq n name) names) (Err (UnknownName name)) (λ k. Ok k)

-- the kind of property of that name
unfoldable pub kind_named : List ℕ → Reading Kind
kind_named name =
    if bytes_eq name (codes "u8") then Ok U8
    else if bytes_eq name (codes "i8") then Ok I8
    else if bytes_eq name (codes "u16") then Ok U16
    else if bytes_eq name (codes "i16") then Ok I16
    else Err (UnknownName name)

-- the comparison of that name
unfoldable pub comparison_named : List ℕ → Reading Cmp
comparison_named name =
    if bytes_eq name (codes "==") then Ok Eq
    else if bytes_eq name (codes "!=") then Ok Ne
    else if bytes_eq name (codes "<") then Ok Lt
    else if bytes_eq name (codes "<=") then Ok Le
    else if bytes_eq name (codes ">") then Ok Gt
    else if bytes_eq name (codes ">=") then Ok Ge
    else Err (UnknownName name)

-- the pad that eight characters show, as in a line of a movie
unfoldable pub pad_named : List ℕ → Reading ℕ
pad_named name = if_there (pad_of_text name) (Err (UnknownName name)) (λ pad. Ok pad)
