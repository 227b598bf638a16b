-- The numbers of an accepted script are in their ranges.
use Rattle.std.proofs.Common.{◌≡◌, ℕ, ◌<◌, ◌≤◌, Bool, true, false, refl, sym, ◌∙◌, arith, List, [], length, map, All, Some, None, Ok, Err, IfOk, nat_lt, bytes_eq, codes, cond, subst}
use Rattle.std.specs.List.{position_or_len}
use Rattle.std.proofs.lemmas.Bool.Decides.{nat_tests}
use Rattle.std.proofs.lemmas.List.{length-map}
use Rattle.std.proofs.lemmas.List.Elements.{All-map}
use Rattle.serde_json.specs.Data.{Data}
use Rattle.nj_property.specs.Property.{IsPlaced}
use Rattle.nj_rules.specs.declared.record.Rule.{Rule}
use Rattle.nj_rules.specs.Limits.{IsItemInRange, IsSetInRange, IsRuleInRange, AreItemsInRange, AreSetsInRange, AreRulesInRange}
use Rattle.nj_fields.specs.declared.names.Named.{Named}
use Rattle.nj_script.specs.declared.rules.Body.{Body}
use Rattle.nj_script.specs.declared.rules.NamedRule.{NamedRule}
use Rattle.nj_fields.specs.declared.refusal.ScriptRefused.TheVariants.{UnknownName}
use Rattle.nj_fields.specs.Reading.{then_read, if_there}
use Rattle.nj_fields.specs.Fields.{natural_or, list, list_or_none, text_in}
use Rattle.nj_fields.specs.Lists.{each, collected}
use Rattle.nj_fields.specs.Names.{number_of, property_named}
use Rattle.nj_fields.specs.Properties.{property_in}
use Rattle.nj_script.specs.Kinds.{item_in, set_in, rule_in}
use Rattle.nj_script.specs.Script.{IsInRange, properties_in, items_in, sets_in, named_rules_in, numbers_of, rule_of, rules_in, bucket_property_in, bucket_in, head_in, script_in}
use Rattle.nj_fields.proofs.Accepted.{ok_then, ok_after, ok_weaker, ok_members, ok_collected, ok_natural_or, ok_list, ok_list_or_none}
use Rattle.nj_fields.proofs.Placed.{ArePlaced, ok_property_in, ok_property_named}
use Rattle.nj_script.proofs.Members.{IsBodyInRange, ok_item_in, ok_set_in, ok_rule_in}

pub ok_properties_in : (d : Data) → IfOk (properties_in d) (λ ps. ArePlaced ps × (length ps ≤ 64))
unfolding properties_in
ok_properties_in d = ok_members property_in (λ n. IsPlaced n.property)
    (list (codes "properties") 64 d) 64 ok_property_in (ok_list (codes "properties") 64 d)

ok_items_in : (properties : List Named) (d : Data) → ArePlaced properties → IfOk (items_in properties d) AreItemsInRange
unfolding items_in
ok_items_in properties d h =
    ok_weaker (then_read (list (codes "hash") 64 d) (each (λ _. item_in properties) [])) (λ xs. All IsItemInRange xs
    × (length xs ≤ 64)) AreItemsInRange (λ xs both. record { few = both.1; each = both.0 })
    (ok_members (λ _. item_in properties) IsItemInRange (list (codes "hash") 64 d) 64 (λ _ v. ok_item_in properties v h)
    (ok_list (codes "hash") 64 d))

ok_sets_in : (properties : List Named) (d : Data) → ArePlaced properties → IfOk (sets_in properties d) AreSetsInRange
unfolding sets_in
ok_sets_in properties d h =
    ok_weaker (then_read (list (codes "inputs") 32 d) (each (λ _. set_in properties) []))
    (λ xs. All IsSetInRange xs × (length xs ≤ 32)) AreSetsInRange (λ xs both. record { few = both.1; each = both.0 })
    (ok_members (λ _. set_in properties) IsSetInRange (list (codes "inputs") 32 d) 32 (λ _. ok_set_in properties h)
    (ok_list (codes "inputs") 32 d))

ok_named_rules_in : (properties : List Named) (d : Data) → ArePlaced properties
    → IfOk (named_rules_in properties d) (λ rs. All (λ r. IsBodyInRange r.body) rs × (length rs ≤ 128))
unfolding named_rules_in
ok_named_rules_in properties d h =
    ok_members (rule_in properties) (λ r. IsBodyInRange r.body) (list (codes "rules") 128 d) 128
    (ok_rule_in properties h) (ok_list (codes "rules") 128 d)

ok_number_of : (names : List (List ℕ)) (name : List ℕ) → IfOk (number_of names name) (λ n. n < length names)
unfolding number_of
ok_number_of names name = by_test (nat_lt (position_or_len (λ n. bytes_eq n name) names) (length names)) refl
  where
    by_test : (b : Bool) → nat_lt (position_or_len (λ n. bytes_eq n name) names) (length names) ≡ b
        → IfOk {T = ℕ} (if_there (cond b (Some (position_or_len (λ n. bytes_eq n name) names)) None)
        (Err (UnknownName name)) (λ k. Ok k)) (λ n. n < length names)
    by_test true e = grind (arith, nat_tests)
    by_test false e = tt

All-any : {A : Type 0} (xs : List A) → All (λ _. Unit {0}) xs
All-any xs k d h = tt

ok_numbers_of : (names also : List (List ℕ))
    → IfOk (numbers_of names also) (λ ns. All (λ n. n < length names) ns × (length ns ≡ length also))
unfolding numbers_of
ok_numbers_of names also = ok_collected (number_of names) (λ _. Unit {0}) (λ n. n < length names)
    (λ name _. ok_number_of names name) also (All-any also)

ok_rule_of : (names : List (List ℕ)) (body : Body) → IsBodyInRange body
    → IfOk (rule_of names body) (IsRuleInRange (length names))
unfolding rule_of
ok_rule_of names body range =
    ok_then (numbers_of names body.also) _ (λ ns. All (λ n. n < length names) ns × (length ns ≡ length body.also))
    (IsRuleInRange (length names)) (ok_numbers_of names body.also)
    (λ also both. record {
      when_length = range.when_length;
      when = range.when;
      reward = range.reward;
      weights_length = range.weights_length;
      weights = range.weights;
      also_length = omega (arith, both.1, range.also_length);
      also = both.0;
    })

ok_rules_in : (properties : List Named) (d : Data) → ArePlaced properties → IfOk (rules_in properties d) AreRulesInRange
unfolding rules_in
ok_rules_in properties d h =
    ok_then (named_rules_in properties d) _
    (λ rs. All (λ r. IsBodyInRange r.body) rs × (length rs ≤ 128)) AreRulesInRange (ok_named_rules_in properties d h)
    (λ named both. ok_weaker (collected (rule_of (map (λ r. r.name) named)) [] (map (λ r. r.body) named))
    (λ rules. All (IsRuleInRange (length (map (λ r. r.name) named))) rules
    × (length rules ≡ length (map (λ r. r.body) named))) AreRulesInRange
    (λ rules range. numbered named rules both.1 range.0 range.1)
    (ok_collected (rule_of (map (λ r. r.name) named)) IsBodyInRange (IsRuleInRange (length (map (λ r. r.name) named)))
    (ok_rule_of (map (λ r. r.name) named))
    (map (λ r. r.body) named) (All-map IsBodyInRange (λ r. r.body) named both.0)))
  where
    numbered : (named : List NamedRule) (rules : List Rule) → length named ≤ 128
        → All (IsRuleInRange (length (map (λ r. r.name) named))) rules
        → length rules ≡ length (map (λ r. r.body) named) → AreRulesInRange rules
    numbered named rules few each count =
        let same : length (map (λ r. r.name) named) ≡ length rules =
        length-map named (λ r. r.name) ∙ sym (length-map named (λ r. r.body)) ∙ sym count in
        record {
          few = omega (arith, count, length-map named (λ r. r.body));
          each = subst (λ n. All (IsRuleInRange n) rules) same each;
        }

ok_bucket_property_in : (properties : List Named) (d : Data) → ArePlaced properties
    → IfOk (bucket_property_in properties d) IsPlaced
unfolding bucket_property_in
ok_bucket_property_in properties d h = ok_after (text_in (codes "bucket") d) (property_named properties) IsPlaced
    (λ name. ok_property_named properties name h)

ok_bucket_in : (properties : List Named) (d : Data) → ArePlaced properties
    → IfOk (bucket_in properties d) (λ ps. All IsPlaced ps × (length ps ≤ 4))
unfolding bucket_in
ok_bucket_in properties d h =
    ok_members (λ _. bucket_property_in properties) IsPlaced (list_or_none (codes "bucket") 4 d) 4
    (λ _ v. ok_bucket_property_in properties v h) (ok_list_or_none (codes "bucket") 4 d)

-- what a whole script accepts
pub ok_script_in : (d : Data) → IfOk (script_in d) IsInRange
unfolding script_in
ok_script_in d =
    ok_after (head_in d) _ IsInRange (λ _.
    ok_then (properties_in d) _ (λ ps. ArePlaced ps × (length ps ≤ 64)) IsInRange (ok_properties_in d) (λ named placed.
    ok_then (items_in named d) _ AreItemsInRange IsInRange (ok_items_in named d placed.0) (λ items item_ranges.
    ok_then (natural_or (codes "hold") 1 60 1 d) _ (λ n. (1 ≤ n) × (n ≤ 60)) IsInRange
    (ok_natural_or (codes "hold") 1 60 1 d (omega arith) (omega arith)) (λ hold hold_range.
    ok_then (natural_or (codes "tolerance") 0 1048576 0 d) _ (λ n. (0 ≤ n) × (n ≤ 1048576)) IsInRange
    (ok_natural_or (codes "tolerance") 0 1048576 0 d (omega arith) (omega arith)) (λ tolerance tolerance_range.
    ok_then (sets_in named d) _ AreSetsInRange IsInRange (ok_sets_in named d placed.0) (λ sets set_ranges.
    ok_then (rules_in named d) _ AreRulesInRange IsInRange (ok_rules_in named d placed.0) (λ rules rule_ranges.
    ok_then (bucket_in named d) _ (λ ps. All IsPlaced ps × (length ps ≤ 4)) IsInRange (ok_bucket_in named d placed.0)
    (λ bucket bucket_ranges.
    ok_then (natural_or (codes "quota") 1 1048576 1048576 d) _ (λ n. (1 ≤ n) × (n ≤ 1048576)) IsInRange
    (ok_natural_or (codes "quota") 1 1048576 1048576 d (omega arith) (omega arith)) (λ quota quota_range.
    record {
      properties = omega (arith, placed.1, length-map named (λ n. n.property));
      placed = All-map IsPlaced (λ n. n.property) named placed.0;
      hash = item_ranges;
      hold_low = hold_range.0;
      hold_high = hold_range.1;
      tolerance = tolerance_range.1;
      inputs = set_ranges;
      rules = rule_ranges;
      bucket_few = bucket_ranges.1;
      bucket = bucket_ranges.0;
      quota_low = quota_range.0;
      quota_high = quota_range.1;
    })))))))))
