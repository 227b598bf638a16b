-- What the calls ask of a script's record: that its numbers are in their ranges.
use Rattle.std.specs.Prelude.{ℕ, ◌^◌, ◌<◌, ◌≤◌, List, length, All, unsigned_abs}
use Rattle.nj_property.specs.Property.{IsPlaced}
use Rattle.nj_property.specs.Condition.{IsPlacedCondition}
use Rattle.nj_rules.specs.declared.record.Rule.{Rule}
use Rattle.nj_rules.specs.declared.record.Weight.{Weight}
use Rattle.nj_rules.specs.declared.record.InputSet.{InputSet}
use Rattle.nj_rules.specs.declared.record.HashItem.{HashItem}

-- the property is placed, and the weight is from -2^20 to 2^20
pub record IsWeightInRange (w : Weight) : Type 0 where
  pub placed : IsPlaced w.property
  pub weight : unsigned_abs w.weight ≤ 2 ^ 20

-- the rule's lists have at most their lengths and its numbers are in their ranges, among this many rules
pub record IsRuleInRange (count : ℕ) (rule : Rule) : Type 0 where
  pub when_length : length rule.when ≤ 16
  pub when : All IsPlacedCondition rule.when
  pub reward : unsigned_abs rule.reward ≤ 2 ^ 30
  pub weights_length : length rule.weights ≤ 4
  pub weights : All IsWeightInRange rule.weights
  pub also_length : length rule.also ≤ 128
  pub also : All (λ n. n < count) rule.also

-- the rules are at most 128, each in range
pub record AreRulesInRange (rules : List Rule) : Type 0 where
  pub few : length rules ≤ 128
  pub each : All (IsRuleInRange (length rules)) rules

-- the set's lists have at most their lengths, and its conditions are placed
pub record IsSetInRange (set : InputSet) : Type 0 where
  pub when_length : length set.when ≤ 16
  pub when : All IsPlacedCondition set.when
  pub pads_length : length set.pads ≤ 256

-- the input sets are at most 32, each in range
pub record AreSetsInRange (sets : List InputSet) : Type 0 where
  pub few : length sets ≤ 32
  pub each : All IsSetInRange sets

-- the item is a range of working memory, not empty
pub record IsItemInRange (item : HashItem) : Type 0 where
  pub ordered : item.from ≤ item.to
  pub below : item.to < 2048

-- the items are at most 64, each in range
pub record AreItemsInRange (items : List HashItem) : Type 0 where
  pub few : length items ≤ 64
  pub each : All IsItemInRange items
