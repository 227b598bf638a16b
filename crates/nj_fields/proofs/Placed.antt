-- Properties and conditions that a script's lists accept are placed in working memory.
use Rattle.std.proofs.Common.{ℕ, ◌-◌, ◌≤◌, Bool, true, false, arith, List, [], ◌∷◌, length, All, Some, Ok, Err, IfOk, pos, neg_ℤ, find, bytes_eq, codes, cond, is_some}
use Rattle.std.specs.List.{list_any}
use Rattle.serde_json.specs.Data.{Data}
use Rattle.serde_json.specs.Find.{get}
use Rattle.nj_property.specs.Property.{IsPlaced, size_of}
use Rattle.nj_property.specs.Condition.{IsPlacedCondition, IsPlacedSide}
use Rattle.nj_property.specs.declared.Kind.{Kind}
use Rattle.nj_property.specs.declared.Kind.TheVariants.{U8, I8, U16, I16}
use Rattle.nj_property.specs.declared.Property.{Property}
use Rattle.nj_property.specs.declared.Side.TheVariants.{Number, Other}
use Rattle.nj_fields.specs.declared.names.Named.{Named}
use Rattle.nj_fields.specs.declared.refusal.ScriptRefused.TheVariants.{UnknownName}
use Rattle.nj_fields.specs.Reading.{if_there}
use Rattle.nj_fields.specs.Fields.{opened, integer, natural, text, text_in, list_or_none}
use Rattle.nj_fields.specs.Names.{free_name, property_named}
use Rattle.nj_fields.specs.Properties.{kind_in, property_in, property_at}
use Rattle.nj_fields.specs.Conditions.{condition_keys, comparison_in, side_in, condition_in, conditions_in}
use Rattle.nj_fields.proofs.Accepted.{ok_then, ok_after, ok_if_there, ok_members, ok_natural, ok_list_or_none, All-head, All-tail}

-- each named property is placed
abbrev pub ArePlaced : List Named → Type 0
ArePlaced properties = All (λ n. IsPlaced n.property) properties

size_at_most : (kind : Kind) → size_of kind ≤ 2
size_at_most U8 = omega arith
size_at_most I8 = omega arith
size_at_most U16 = omega arith
size_at_most I16 = omega arith

pub ok_property_in : (before : List Named) (d : Data) → IfOk (property_in before d) (λ n. IsPlaced n.property)
unfolding property_in
ok_property_in before d =
    ok_after (opened (codes "properties") (codes "name" ∷ codes "kind" ∷ codes "at" ∷ []) d) _
    (λ n. IsPlaced n.property) (λ _.
    ok_after (text (codes "name") d) _ (λ n. IsPlaced n.property) (λ name.
    ok_after (free_name (list_any (λ n. bytes_eq n.name name) before) name) _ (λ n. IsPlaced n.property) (λ own_name.
    ok_after (kind_in d) _ (λ n. IsPlaced n.property) (λ kind.
    ok_then (natural (codes "at") 0 (2048 - size_of kind) d) _ (λ at. (0 ≤ at) × (at ≤ 2048 - size_of kind))
    (λ n. IsPlaced n.property)
    (ok_natural (codes "at") 0 (2048 - size_of kind) d) (λ at h. omega (arith, h.1, size_at_most kind))))))

found_placed : (p : Named → Bool) (properties : List Named) (name : List ℕ) → ArePlaced properties
    → IfOk {T = Property} (if_there (find p properties) (Err (UnknownName name)) (λ n. Ok n.property)) IsPlaced
found_placed p [] name h = tt
found_placed p (n ∷ ns) name h = by_test (p n) (found_placed p ns name (All-tail (λ m. IsPlaced m.property) n ns h))
  where
    by_test : (b : Bool)
        → IfOk {T = Property} (if_there (find p ns) (Err (UnknownName name)) (λ m. Ok m.property)) IsPlaced
        → IfOk {T = Property}
        (if_there (cond b (Some n) (find p ns)) (Err (UnknownName name)) (λ m. Ok m.property)) IsPlaced
    by_test true ih = All-head (λ m. IsPlaced m.property) n ns h
    by_test false ih = ih

pub ok_property_named : (properties : List Named) (name : List ℕ) → ArePlaced properties
    → IfOk (property_named properties name) IsPlaced
unfolding property_named
ok_property_named properties name h = found_placed (λ n. bytes_eq n.name name) properties name h

pub ok_property_at : (key : List ℕ) (properties : List Named) (d : Data) → ArePlaced properties
    → IfOk (property_at key properties d) IsPlaced
unfolding property_at
ok_property_at key properties d h =
    ok_after (text key d) (property_named properties) IsPlaced (λ name. ok_property_named properties name h)

ok_side_in : (properties : List Named) (d : Data) → ArePlaced properties → IfOk (side_in properties d) IsPlacedSide
unfolding side_in
ok_side_in properties d h =
    ok_if_there (get (codes "other") d) _ _ IsPlacedSide
    (ok_after (integer (codes "value") (neg_ℤ (pos 65536)) (pos 65535) d) (λ n. Ok (Number n)) IsPlacedSide (λ n. tt))
    (λ value. ok_after (text_in (codes "other") value) _ IsPlacedSide (λ name.
    ok_then (property_named properties name) (λ p. Ok (Other p)) IsPlaced IsPlacedSide
    (ok_property_named properties name h) (λ p placed. placed)))

ok_condition_in : (properties : List Named) → ArePlaced properties → (d : Data)
    → IfOk (condition_in properties d) IsPlacedCondition
unfolding condition_in
ok_condition_in properties h d =
    ok_after (opened (codes "when") (condition_keys (is_some (get (codes "other") d))) d) _ IsPlacedCondition (λ _.
    ok_then (property_at (codes "property") properties d) _ IsPlaced IsPlacedCondition
    (ok_property_at (codes "property") properties d h) (λ left placed.
    ok_after (comparison_in d) _ IsPlacedCondition (λ op.
    ok_then (side_in properties d) _ IsPlacedSide IsPlacedCondition (ok_side_in properties d h)
    (λ right side. (placed, side)))))

pub ok_conditions_in : (properties : List Named) (d : Data) → ArePlaced properties
    → IfOk (conditions_in properties d) (λ cs. All IsPlacedCondition cs × (length cs ≤ 16))
unfolding conditions_in
ok_conditions_in properties d h =
    ok_members (λ _. condition_in properties) IsPlacedCondition (list_or_none (codes "when") 16 d) 16
    (λ _. ok_condition_in properties h) (ok_list_or_none (codes "when") 16 d)
