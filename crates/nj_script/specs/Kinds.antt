-- The kinds of object in a script beside its properties and conditions, each as what its members are read as, in order.
-- The layout is this project's own.
use Rattle.std.specs.Prelude.{ℕ, ◌+◌, ◌-◌, ◌^◌, List, [], ◌∷◌, pos, neg_ℤ, codes, bytes_eq, Ok}
use Rattle.std.specs.List.{list_any}
use Rattle.serde_json.specs.Data.{Data}
use Rattle.serde_json.specs.Find.{as_str}
use Rattle.nj_property.specs.Property.{size_of}
use Rattle.nj_property.specs.declared.Property.{Property}
use Rattle.nj_rules.specs.declared.record.HashItem.{HashItem}
use Rattle.nj_rules.specs.declared.record.InputSet.{InputSet}
use Rattle.nj_rules.specs.declared.record.Weight.{Weight}
use Rattle.nj_script.specs.declared.rules.Flags.{Flags}
use Rattle.nj_script.specs.declared.rules.Body.{Body}
use Rattle.nj_script.specs.declared.rules.NamedRule.{NamedRule}
use Rattle.nj_fields.specs.declared.names.Named.{Named}
use Rattle.nj_fields.specs.Reading.{Reading, then_read, if_there}
use Rattle.nj_fields.specs.Fields.{opened, integer, integer_or, natural, truth, text, text_in, list, list_or_none}
use Rattle.nj_fields.specs.Lists.{each}
use Rattle.nj_fields.specs.Names.{free_name, property_named, pad_named}
use Rattle.nj_fields.specs.Properties.{property_at}
use Rattle.nj_fields.specs.Conditions.{conditions_in}

-- ---- items of `hash`

-- a range of working memory
unfoldable pub range_in : Data → Reading HashItem
range_in d =
    then_read (opened (codes "hash") (codes "from" ∷ codes "to" ∷ []) d) (λ _.
    then_read (natural (codes "from") 0 2047 d) (λ from.
    then_read (natural (codes "to") from 2047 d) (λ to.
    Ok (record { from = from; to = to }))))

-- the range of a property's bytes
abbrev pub range_of : Property → HashItem
range_of p = record { from = p.at; to = p.at + size_of p.kind - 1 }

-- an item of `hash`: a property's name, or a range
unfoldable pub item_in : List Named → Data → Reading HashItem
item_in properties d =
    if_there (as_str d) (range_in d) (λ name. then_read (property_named properties name) (λ p. Ok (range_of p)))

-- ---- input sets

-- a pad of an input set
unfoldable pub pad_in : Data → Reading ℕ
pad_in d = then_read (text_in (codes "pads") d) pad_named

-- the pads of an input set
unfoldable pub pads_in : Data → Reading (List ℕ)
pads_in d = then_read (list (codes "pads") 256 d) (each (λ _. pad_in) [])

-- an input set
unfoldable pub set_in : List Named → Data → Reading InputSet
set_in properties d =
    then_read (opened (codes "inputs") (codes "when" ∷ codes "pads" ∷ codes "stop" ∷ []) d) (λ _.
    then_read (conditions_in properties d) (λ when.
    then_read (pads_in d) (λ pads.
    then_read (truth (codes "stop") d) (λ stop.
    Ok (record { when = when; pads = pads; stop = stop })))))

-- ---- rules

-- a rule's truth values
unfoldable pub flags_in : Data → Reading Flags
flags_in d =
    then_read (truth (codes "win") d) (λ win.
    then_read (truth (codes "fail") d) (λ fail.
    then_read (truth (codes "checkpoint") d) (λ checkpoint.
    Ok (record { win = win; fail = fail; checkpoint = checkpoint }))))

-- a weight of a rule
unfoldable pub weight_in : List Named → Data → Reading Weight
weight_in properties d =
    then_read (opened (codes "weights") (codes "property" ∷ codes "weight" ∷ []) d) (λ _.
    then_read (property_at (codes "property") properties d) (λ property.
    then_read (integer (codes "weight") (neg_ℤ (pos (2 ^ 20))) (pos (2 ^ 20)) d) (λ weight.
    Ok (record { property = property; weight = weight }))))

-- the weights of a rule
unfoldable pub weights_in : List Named → Data → Reading (List Weight)
weights_in properties d = then_read (list_or_none (codes "weights") 4 d) (each (λ _. weight_in properties) [])

-- the names in `also`, which are looked up after all rules were read
unfoldable pub also_in : Data → Reading (List (List ℕ))
also_in d = then_read (list_or_none (codes "also") 128 d) (each (λ _. text_in (codes "also")) [])

-- what a rule has beside its name
unfoldable pub body_in : List Named → Data → Reading Body
body_in properties d =
    then_read (conditions_in properties d) (λ when.
    then_read (flags_in d) (λ flags.
    then_read (integer_or (codes "reward") (neg_ℤ (pos (2 ^ 30))) (pos (2 ^ 30)) (pos 0) d) (λ reward.
    then_read (weights_in properties d) (λ weights.
    then_read (also_in d) (λ also.
    Ok (record { when = when; flags = flags; reward = reward; weights = weights; also = also }))))))

-- the keys that a rule may have
abbrev pub rule_keys : List (List ℕ)
rule_keys =
    codes "name" ∷ codes "when" ∷ codes "win" ∷ codes "fail" ∷ codes "checkpoint" ∷ codes "reward" ∷ codes "weights"
    ∷ codes "also" ∷ []

-- a rule, where these are before it
unfoldable pub rule_in : List Named → List NamedRule → Data → Reading NamedRule
rule_in properties before d =
    then_read (opened (codes "rules") rule_keys d) (λ _.
    then_read (text (codes "name") d) (λ name.
    then_read (free_name (list_any (λ r. bytes_eq r.name name) before) name) (λ name.
    then_read (body_in properties d) (λ body.
    Ok (record { name = name; body = body })))))
