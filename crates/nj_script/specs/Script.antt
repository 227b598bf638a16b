-- A whole script: what its text says, or the first refusal. The layout is this project's own; JSON is RFC 8259.
use Rattle.std.specs.Prelude.{◌≡◌, ℕ, ⊤, ◌<◌, ◌≤◌, All, List, [], ◌∷◌, ◌++◌, length, map, pos, codes, Option, None, Ok, Err, option_and_then, if◌then◌else◌}
use Rattle.std.specs.Str.{is_utf8}
use Rattle.std.specs.Ordering.{int_eq}
use Rattle.serde_json.specs.Data.{Data}
use Rattle.serde_json.specs.Find.{as_object, as_number, as_i64}
use Rattle.serde_json.specs.Read.{read}
use Rattle.nj_property.specs.declared.Property.{Property}
use Rattle.nj_property.specs.Property.{IsPlaced}
use Rattle.nj_rules.specs.declared.record.Rule.{Rule}
use Rattle.nj_rules.specs.declared.record.Rules.{Rules}
use Rattle.nj_rules.specs.declared.record.InputSet.{InputSet}
use Rattle.nj_rules.specs.declared.record.InputSets.{InputSets}
use Rattle.nj_rules.specs.declared.record.HashItem.{HashItem}
use Rattle.nj_rules.specs.declared.record.HashItems.{HashItems}
use Rattle.nj_rules.specs.Limits.{AreRulesInRange, AreSetsInRange, AreItemsInRange}
use Rattle.nj_fields.specs.declared.names.Named.{Named}
use Rattle.nj_script.specs.declared.rules.Body.{Body}
use Rattle.nj_script.specs.declared.rules.NamedRule.{NamedRule}
use Rattle.nj_script.specs.declared.script.ScriptVersion.{ScriptVersion}
use Rattle.nj_script.specs.declared.script.ScriptVersion.TheVariants.{One, Two}
use Rattle.nj_fields.specs.declared.refusal.ScriptRefused.TheVariants.{NotJson, WrongKind, Version}
use Rattle.nj_fields.specs.Reading.{Reading, then_read, if_there}
use Rattle.nj_fields.specs.Fields.{opened, required, natural_or, list, list_or_none, text_in}
use Rattle.nj_fields.specs.Lists.{each, collected}
use Rattle.nj_fields.specs.Names.{number_of, property_named}
use Rattle.nj_fields.specs.Properties.{property_in}
use Rattle.nj_script.specs.Kinds.{item_in, set_in, rule_in}

-- what a script says; names are gone, and the properties stand in order. The values of the properties of `bucket` are
-- a state's bucket, and `quota` is how many states that are kept may have one bucket
pub record Record : Type 0 where
  pub properties : List Property
  pub hash : HashItems
  pub hold : ℕ
  pub tolerance : ℕ
  pub inputs : InputSets
  pub rules : Rules
  pub bucket : List Property
  pub quota : ℕ

-- the numbers of a script are in their ranges
pub record IsInRange (script : Record) : Type 0 where
  pub properties : length script.properties ≤ 64
  pub placed : All IsPlaced script.properties
  pub hash : AreItemsInRange script.hash.items
  pub hold_low : 1 ≤ script.hold
  pub hold_high : script.hold ≤ 60
  pub tolerance : script.tolerance ≤ 1048576
  pub inputs : AreSetsInRange script.inputs.sets
  pub rules : AreRulesInRange script.rules.rules
  pub bucket_few : length script.bucket ≤ 4
  pub bucket : All IsPlaced script.bucket
  pub quota_low : 1 ≤ script.quota
  pub quota_high : script.quota ≤ 1048576

-- ---- the lists of a script

-- the properties, each with its name
unfoldable pub properties_in : Data → Reading (List Named)
properties_in d = then_read (list (codes "properties") 64 d) (each property_in [])

-- the items of `hash`
unfoldable pub items_in : List Named → Data → Reading (List HashItem)
items_in properties d = then_read (list (codes "hash") 64 d) (each (λ _. item_in properties) [])

-- the input sets
unfoldable pub sets_in : List Named → Data → Reading (List InputSet)
sets_in properties d = then_read (list (codes "inputs") 32 d) (each (λ _. set_in properties) [])

-- the rules, each with its name and the names in its `also`
unfoldable pub named_rules_in : List Named → Data → Reading (List NamedRule)
named_rules_in properties d = then_read (list (codes "rules") 128 d) (each (rule_in properties) [])

-- the numbers of the rules that have these names
unfoldable pub numbers_of : List (List ℕ) → List (List ℕ) → Reading (List ℕ)
numbers_of names also = collected (number_of names) [] also

-- the rule, where these are the names of all rules
unfoldable pub rule_of : List (List ℕ) → Body → Reading Rule
rule_of names body =
    then_read (numbers_of names body.also) (λ also.
    Ok (record {
      when = body.when;
      win = body.flags.win;
      fail = body.flags.fail;
      checkpoint = body.flags.checkpoint;
      reward = body.reward;
      weights = body.weights;
      also = also;
    }))

-- the rules, whose names in `also` are looked up once all were read
unfoldable pub rules_in : List Named → Data → Reading (List Rule)
rules_in properties d =
    then_read (named_rules_in properties d) (λ named.
    collected (rule_of (map (λ r. r.name) named)) [] (map (λ r. r.body) named))

-- a property that `bucket` names
unfoldable pub bucket_property_in : List Named → Data → Reading Property
bucket_property_in properties d = then_read (text_in (codes "bucket") d) (property_named properties)

-- the properties whose values are a state's bucket
unfoldable pub bucket_in : List Named → Data → Reading (List Property)
bucket_in properties d = then_read (list_or_none (codes "bucket") 4 d) (each (λ _. bucket_property_in properties) [])

-- ---- the whole

-- the version, which is 1 or 2
unfoldable pub version_in : Data → Reading ScriptVersion
version_in d =
    then_read (required (codes "version") d) (λ value.
    if_there (option_and_then as_i64 (as_number value)) (Err (WrongKind (codes "version")))
    (λ n. if int_eq n (pos 1) then Ok One else if int_eq n (pos 2) then Ok Two else Err (Version n)))

-- the keys that a script of either version may have
abbrev pub common_keys : List (List ℕ)
common_keys =
    codes "version" ∷ codes "properties" ∷ codes "hash" ∷ codes "hold" ∷ codes "tolerance" ∷ codes "inputs"
    ∷ codes "rules" ∷ []

-- the keys that a script of the version may have
abbrev pub script_keys : ScriptVersion → List (List ℕ)
script_keys One = common_keys
script_keys Two = common_keys ++ codes "bucket" ∷ codes "quota" ∷ []

-- an object of a version, without keys unknown to it
unfoldable pub head_in : Data → Reading ⊤
head_in d =
    if_there (as_object d) (Err (WrongKind []))
    (λ _. then_read (version_in d) (λ version. opened [] (script_keys version) d))

-- the script that a JSON value is
unfoldable pub script_in : Data → Reading Record
script_in d =
    then_read (head_in d) (λ _.
    then_read (properties_in d) (λ named.
    then_read (items_in named d) (λ items.
    then_read (natural_or (codes "hold") 1 60 1 d) (λ hold.
    then_read (natural_or (codes "tolerance") 0 1048576 0 d) (λ tolerance.
    then_read (sets_in named d) (λ sets.
    then_read (rules_in named d) (λ rules.
    then_read (bucket_in named d) (λ bucket.
    then_read (natural_or (codes "quota") 1 1048576 1048576 d) (λ quota.
    Ok (record {
      properties = map (λ n. n.property) named;
      hash = record { items = items };
      hold = hold;
      tolerance = tolerance;
      inputs = record { sets = sets };
      rules = record { rules = rules };
      bucket = bucket;
      quota = quota;
    }))))))))))

-- the JSON value of a text of bytes, where it is one
unfoldable pub json_of : List ℕ → Option Data
json_of bytes = if is_utf8 bytes then read bytes else None

-- what a text of bytes says as a script
unfoldable pub script_of : List ℕ → Reading Record
script_of bytes = if_there (json_of bytes) (Err NotJson) script_in

-- the numbers of each script that is read are in their ranges, and its pads are bytes
abbrev pub WhatIsReadIsInRange : Type 0
WhatIsReadIsInRange = (bytes : List ℕ) (script : Record) → script_of bytes ≡ Ok script
    → IsInRange script × All (λ set. All (λ pad. pad < 256) set.pads) script.inputs.sets
