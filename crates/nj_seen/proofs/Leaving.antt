-- What is left of the seen keys once the oldest generations have gone.
use Rattle.std.proofs.Common.{◌≡◌, ℕ, ◌+◌, ◌-◌, ◌<◌, ◌≤◌, ⊎_elim, max, List, length, drop, sym, ap, ◌∙◌, arith, length-drop}
use Rattle.std.proofs.lemmas.Bool.{cases_lt}
use Rattle.std.proofs.lemmas.List.{drop_all}
use Rattle.nj_search_defs.specs.Pruning.{Seen, forgotten, key_count}
use Rattle.nj_claims.specs.Tables.{slot_count}
use Rattle.nj_seen.specs.Held.{HoldsSeen, IsOldestKept, entries_since, oldest_step}
use Rattle.nj_seen.proofs.Keys.{all_stay}
use Rattle.nj_seen.proofs.Counting.{NumbersFit, IsMap, count_since_is, forgets}

-- no generation behind the last is kept
from_within : NumbersFit → (words : List ℕ) (seen : Seen) (step room from : ℕ) → IsMap words → HoldsSeen words seen step
    → room ≤ slot_count words
    → IsOldestKept words room from → from ≤ step + 1
from_within law words seen step room from is holds fits oldest =
    ⊎_elim
    (λ (lt : step + 1 < from).
    let few : length seen ≤ step + 1 = holds.few in
    let over : slot_count words < length (entries_since (step + 1) words) + room = oldest.over (step + 1) lt in
    let count = count_since_is law words seen step (step + 1) is holds in
    let none : key_count (drop (step + 1 - oldest_step step seen) seen) ≡ 0 =
    ap key_count (drop_all (step + 1 - oldest_step step seen) seen (omega arith)) in
    absurd (omega arith))
    (λ (le : from ≤ step + 1). le) (cases_lt (step + 1) from)

module _ (law : NumbersFit) (words : List ℕ) (seen : Seen) (step room from oldest : ℕ) (is : IsMap words)
    (holds : HoldsSeen words seen step)
    (fits : room ≤ slot_count words) (kept : IsOldestKept words room from)
    (first : oldest ≡ oldest_step step seen) where
  gone : forgotten (slot_count words) room seen ≡ drop (from - oldest_step step seen) seen
  gone = forgets law words seen step room from is holds kept

  pub left_gone : drop (max from oldest - oldest) seen ≡ forgotten (slot_count words) room seen
  left_gone = let at : max from oldest - oldest ≡ from - oldest_step step seen =
      omega (arith, first) in ap (λ n. drop n seen) at ∙ sym gone

  pub left_oldest : max from oldest ≡ oldest_step step (forgotten (slot_count words) room seen)
  left_oldest =
      let few : length seen ≤ step + 1 = holds.few in
      let within : from ≤ step + 1 = from_within law words seen step room from is holds fits kept in
      let long : length (forgotten (slot_count words) room seen) ≡ length seen - (from - oldest_step step seen) =
      ap length gone ∙ length-drop (from - oldest_step step seen) seen in
      omega (arith, first, few, within, long)

  pub left_count : (count : ℕ) → count ≡ length (entries_since from words)
      → count ≡ key_count (forgotten (slot_count words) room seen)
  left_count count e = e ∙ count_since_is law words seen step from is holds ∙ ap key_count (sym gone)

-- where all keys have room
pub stay : (slots room count : ℕ) (seen : Seen) → count ≡ key_count seen → count + room ≤ slots
    → seen ≡ forgotten slots room seen
stay slots room count seen same fits = sym (all_stay slots room seen (omega (arith, same, fits)))

pub none_gone : (n : ℕ) (seen : Seen) → drop (n - n) seen ≡ seen
none_gone n seen = let none : n - n ≡ 0 = omega arith in ap (λ k. drop k seen) none
