-- What holds of the items, the input sets and the rules that a script's lists accept.
use Rattle.std.proofs.Common.{ℕ, ◌^◌, ◌≤◌, arith, List, [], ◌∷◌, length, All, Ok, IfOk, ℤ, pos, negsuc, neg_ℤ, unsigned_abs, ◌≤ℤ◌, bytes_eq, codes}
use Rattle.std.proofs.lemmas.Int.{ints}
use Rattle.std.specs.List.{list_any}
use Rattle.serde_json.specs.Data.{Data}
use Rattle.serde_json.specs.Find.{as_str}
use Rattle.nj_property.specs.Property.{IsPlaced, size_of}
use Rattle.nj_property.specs.Condition.{IsPlacedCondition}
use Rattle.nj_property.specs.declared.Kind.{Kind}
use Rattle.nj_property.specs.declared.Kind.TheVariants.{U8, I8, U16, I16}
use Rattle.nj_rules.specs.Limits.{IsItemInRange, IsSetInRange, IsWeightInRange}
use Rattle.nj_script.specs.declared.rules.Body.{Body}
use Rattle.nj_script.specs.declared.rules.NamedRule.{NamedRule}
use Rattle.nj_fields.specs.declared.names.Named.{Named}
use Rattle.nj_fields.specs.Reading.{then_read}
use Rattle.nj_fields.specs.Fields.{opened, integer, integer_or, natural, truth, text, text_in, list, list_or_none}
use Rattle.nj_fields.specs.Lists.{each}
use Rattle.nj_fields.specs.Names.{free_name, property_named}
use Rattle.nj_fields.specs.Properties.{property_at}
use Rattle.nj_fields.specs.Conditions.{conditions_in}
use Rattle.nj_script.specs.Kinds.{range_in, range_of, item_in, pad_in, pads_in, set_in, flags_in, weight_in, weights_in, also_in, body_in, rule_keys, rule_in}
use Rattle.nj_fields.proofs.Accepted.{ok_then, ok_after, ok_any, ok_if_there, ok_weaker, ok_members, ok_natural, ok_integer, ok_integer_or, ok_list, ok_list_or_none}
use Rattle.nj_fields.proofs.Placed.{ArePlaced, ok_property_named, ok_property_at, ok_conditions_in}

-- ---- items of `hash`

size_at_least : (kind : Kind) → 1 ≤ size_of kind
size_at_least U8 = omega arith
size_at_least I8 = omega arith
size_at_least U16 = omega arith
size_at_least I16 = omega arith

ok_range_in : (d : Data) → IfOk (range_in d) IsItemInRange
unfolding range_in
ok_range_in d =
    ok_after (opened (codes "hash") (codes "from" ∷ codes "to" ∷ []) d) _ IsItemInRange (λ _.
    ok_after (natural (codes "from") 0 2047 d) _ IsItemInRange (λ from.
    ok_then (natural (codes "to") from 2047 d) _ (λ to. (from ≤ to) × (to ≤ 2047)) IsItemInRange
    (ok_natural (codes "to") from 2047 d)
    (λ to h. record { ordered = h.0; below = omega (arith, h.1) })))

pub ok_item_in : (properties : List Named) (d : Data) → ArePlaced properties → IfOk (item_in properties d) IsItemInRange
unfolding item_in
ok_item_in properties d h =
    ok_if_there (as_str d) (range_in d)
    (λ name. then_read (property_named properties name) (λ p. Ok (range_of p))) IsItemInRange (ok_range_in d)
    (λ name. ok_then (property_named properties name) (λ p. Ok (range_of p)) IsPlaced IsItemInRange
    (ok_property_named properties name h)
    (λ p placed.
    record { ordered = omega (arith, size_at_least p.kind); below = omega (arith, placed, size_at_least p.kind) }))

-- ---- input sets

ok_pads_in : (d : Data) → IfOk (pads_in d) (λ pads. length pads ≤ 256)
unfolding pads_in
ok_pads_in d =
    ok_weaker (then_read (list (codes "pads") 256 d) (each (λ _. pad_in) []))
    (λ pads. All (λ _. Unit {0}) pads × (length pads ≤ 256)) (λ pads. length pads ≤ 256) (λ pads both. both.1)
    (ok_members (λ _. pad_in) (λ _. Unit {0}) (list (codes "pads") 256 d) 256 (λ _ v. ok_any (pad_in v))
    (ok_list (codes "pads") 256 d))

pub ok_set_in : (properties : List Named) → ArePlaced properties → (d : Data) → IfOk (set_in properties d) IsSetInRange
unfolding set_in
ok_set_in properties h d =
    ok_after (opened (codes "inputs") (codes "when" ∷ codes "pads" ∷ codes "stop" ∷ []) d) _ IsSetInRange (λ _.
    ok_then (conditions_in properties d) _ (λ cs. All IsPlacedCondition cs × (length cs ≤ 16)) IsSetInRange
    (ok_conditions_in properties d h) (λ when both.
    ok_then (pads_in d) _ (λ pads. length pads ≤ 256) IsSetInRange (ok_pads_in d) (λ pads few.
    ok_after (truth (codes "stop") d) _ IsSetInRange
    (λ stop. record { when_length = both.1; when = both.0; pads_length = few }))))

-- ---- rules

-- what a rule has beside its name is in range, as far as it is known before names are looked up
pub record IsBodyInRange (body : Body) : Type 0 where
  pub when_length : length body.when ≤ 16
  pub when : All IsPlacedCondition body.when
  pub reward : unsigned_abs body.reward ≤ 2 ^ 30
  pub weights_length : length body.weights ≤ 4
  pub weights : All IsWeightInRange body.weights
  pub also_length : length body.also ≤ 128

within : (m : ℕ) (z : ℤ) → neg_ℤ (pos m) ≤ℤ z → z ≤ℤ pos m → unsigned_abs z ≤ m
within m (pos n) low high = omega (arith, ints)
within m (negsuc n) low high = omega (arith, ints)

ok_weight_in : (properties : List Named) → ArePlaced properties → (d : Data)
    → IfOk (weight_in properties d) IsWeightInRange
unfolding weight_in
ok_weight_in properties h d =
    ok_after (opened (codes "weights") (codes "property" ∷ codes "weight" ∷ []) d) _ IsWeightInRange (λ _.
    ok_then (property_at (codes "property") properties d) _ IsPlaced IsWeightInRange
    (ok_property_at (codes "property") properties d h) (λ property placed.
    ok_then (integer (codes "weight") (neg_ℤ (pos (2 ^ 20))) (pos (2 ^ 20)) d) _
    (λ n. (neg_ℤ (pos (2 ^ 20)) ≤ℤ n) × (n ≤ℤ pos (2 ^ 20))) IsWeightInRange
    (ok_integer (codes "weight") (neg_ℤ (pos (2 ^ 20))) (pos (2 ^ 20)) d)
    (λ weight both. record { placed = placed; weight = within (2 ^ 20) weight both.0 both.1 })))

ok_weights_in : (properties : List Named) (d : Data) → ArePlaced properties
    → IfOk (weights_in properties d) (λ ws. All IsWeightInRange ws × (length ws ≤ 4))
unfolding weights_in
ok_weights_in properties d h =
    ok_members (λ _. weight_in properties) IsWeightInRange (list_or_none (codes "weights") 4 d) 4
    (λ _. ok_weight_in properties h) (ok_list_or_none (codes "weights") 4 d)

ok_also_in : (d : Data) → IfOk (also_in d) (λ also. length also ≤ 128)
unfolding also_in
ok_also_in d =
    ok_weaker (then_read (list_or_none (codes "also") 128 d) (each (λ _. text_in (codes "also")) []))
    (λ also. All (λ _. Unit {0}) also × (length also ≤ 128)) (λ also. length also ≤ 128) (λ also both. both.1)
    (ok_members (λ _. text_in (codes "also")) (λ _. Unit {0}) (list_or_none (codes "also") 128 d) 128
    (λ _ v. ok_any (text_in (codes "also") v)) (ok_list_or_none (codes "also") 128 d))

ok_body_in : (properties : List Named) (d : Data) → ArePlaced properties → IfOk (body_in properties d) IsBodyInRange
unfolding body_in
ok_body_in properties d h =
    ok_then (conditions_in properties d) _ (λ cs. All IsPlacedCondition cs × (length cs ≤ 16)) IsBodyInRange
    (ok_conditions_in properties d h) (λ when conditions.
    ok_after (flags_in d) _ IsBodyInRange (λ flags.
    ok_then (integer_or (codes "reward") (neg_ℤ (pos (2 ^ 30))) (pos (2 ^ 30)) (pos 0) d) _
    (λ n. (neg_ℤ (pos (2 ^ 30)) ≤ℤ n) × (n ≤ℤ pos (2 ^ 30))) IsBodyInRange
    (ok_integer_or (codes "reward") (neg_ℤ (pos (2 ^ 30))) (pos (2 ^ 30)) (pos 0) d (omega (arith, ints))
    (omega (arith, ints))) (λ reward both.
    ok_then (weights_in properties d) _ (λ ws. All IsWeightInRange ws × (length ws ≤ 4)) IsBodyInRange
    (ok_weights_in properties d h) (λ weights worths.
    ok_then (also_in d) _ (λ also. length also ≤ 128) IsBodyInRange (ok_also_in d) (λ also few.
    record {
      when_length = conditions.1;
      when = conditions.0;
      reward = within (2 ^ 30) reward both.0 both.1;
      weights_length = worths.1;
      weights = worths.0;
      also_length = few;
    })))))

pub ok_rule_in : (properties : List Named) → ArePlaced properties → (before : List NamedRule) (d : Data)
    → IfOk (rule_in properties before d) (λ r. IsBodyInRange r.body)
unfolding rule_in
ok_rule_in properties h before d =
    ok_after (opened (codes "rules") rule_keys d) _ (λ r. IsBodyInRange r.body) (λ _.
    ok_after (text (codes "name") d) _ (λ r. IsBodyInRange r.body) (λ name.
    ok_after (free_name (list_any (λ r. bytes_eq r.name name) before) name) _ (λ r. IsBodyInRange r.body) (λ own_name.
    ok_then (body_in properties d) _ IsBodyInRange (λ r. IsBodyInRange r.body) (ok_body_in properties d h)
    (λ body range. range))))
