-- Taking the mark of an end, before or after dots.
use Rattle.std.proofs.Common.{◌≡◌, ℕ, ◌<◌, true, false, List, ap, sym, ◌∙◌, inl, inr}
use Rattle.std.proofs.lemmas.Bool.{cases_Bool}
use Rattle.nj_dots.specs.declared.screen.Screen.{Screen}
use Rattle.nj_dots.specs.Screen.{IsScreen}
use Rattle.nj_dots.specs.Dots.{after_dots, to_event}
use Rattle.nj_catchup.proofs.Sums.{dots-none}
use Rattle.nj_catchup.proofs.Calm.{ended-after, unmarked-same}

-- it commutes with dots, since none are pending where it is set
pub unmarked-after : (k : ℕ) (p : List ℕ) (s e : Screen) → IsScreen s → k < to_event s → (s.ended ≡ true → k ≡ 0)
    → e ≡ record s { ended = false } → after_dots k p e ≡ record (after_dots k p s) { ended = false }
unmarked-after k p s e fits below none taken = elim (cases_Bool s.ended) [
  | inl marked ↦ (
      let zero_pending : k ≡ 0 = none marked in
      ap (λ n. after_dots n p e) zero_pending ∙ dots-none p e ∙ taken
      ∙ ap (λ (x : Screen). record x { ended = false }) (sym (dots-none p s))
      ∙ ap (λ n. let x : Screen = after_dots n p s in record x { ended = false }) (sym zero_pending))
  | inr unmarked ↦ (
      let same : e ≡ s = taken ∙ sym (unmarked-same s unmarked) in
      ap (after_dots k p) same ∙ unmarked-same (after_dots k p s) (ended-after k p s fits below ∙ unmarked))
]
