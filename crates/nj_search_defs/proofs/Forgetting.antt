-- What is left of the seen keys once the oldest are forgotten.
use Rattle.std.proofs.Common.{◌≡◌, ◌≢◌, ℕ, suc, ◌+◌, ◌*◌, ◌≤◌, true, false, cond, nat_le, List, [], ◌∷◌, ◌++◌, length, map, refl, sym, ap, ◌∙◌, arith}
use Rattle.std.specs.List.{All, AllPairs, concat}
use Rattle.std.proofs.lemmas.Bool.{leb-true}
use Rattle.std.proofs.lemmas.List.Elements.{All-tail}
use Rattle.nj_search_defs.specs.Game.{Game, Bounds}
use Rattle.nj_search_defs.specs.Candidates.{Candidate, word_of}
use Rattle.nj_search_defs.specs.Pruning.{Seen, key_count, forgotten, winner, fresh, kept, generation, raised}
use Rattle.nj_search_defs.specs.Outcome.{State, Next, won_or, exhausted_or, lives_of, seen_of, fresh_of, kept_of, state_after, next, then_go_on, searched}
use Rattle.nj_search_defs.specs.Going.{forgetful, AForgottenStateGoesOnAlike}
use Rattle.nj_search_defs.proofs.Pairs.{AllPairs-right}

module _ (slots room : ℕ) where
  -- forgetting again forgets no more
  pub forgotten_again : (seen : Seen) → forgotten slots room (forgotten slots room seen) ≡ forgotten slots room seen
  forgotten_again [] = refl
  forgotten_again (keys ∷ rest) =
      elim (nat_le (key_count (keys ∷ rest) + room) slots) as (λ b. nat_le (key_count (keys ∷ rest) + room) slots ≡ b
      → forgotten slots room (cond b (keys ∷ rest) (forgotten slots room rest))
      ≡ cond b (keys ∷ rest) (forgotten slots room rest)) [
        | true ↦ λ e. ap (λ b. cond b (keys ∷ rest) (forgotten slots room rest)) e
        | false ↦ λ e. forgotten_again rest
      ] refl

  -- what holds of each generation holds of what is left
  pub All-forgotten : (P : List ℕ → Type 0) (seen : Seen) → All P seen → All P (forgotten slots room seen)
  All-forgotten P [] all = all
  All-forgotten P (keys ∷ rest) all =
      elim (nat_le (key_count (keys ∷ rest) + room) slots) as (λ b.
      All P (cond b (keys ∷ rest) (forgotten slots room rest))) [
        | true ↦ all
        | false ↦ All-forgotten P rest (All-tail P keys rest all)
      ]

  -- no key comes twice in what is left
  pub forgotten_once : (seen : Seen) → AllPairs (λ a b. a ≢ b) (concat seen)
      → AllPairs (λ a b. a ≢ b) (concat (forgotten slots room seen))
  forgotten_once [] once = once
  forgotten_once (keys ∷ rest) once =
      elim (nat_le (key_count (keys ∷ rest) + room) slots) as (λ b.
      AllPairs (λ a b. a ≢ b) (concat (cond b (keys ∷ rest) (forgotten slots room rest)))) [
        | true ↦ once
        | false ↦ forgotten_once rest (AllPairs-right (λ a b. a ≢ b) keys (concat rest) once)
      ]

  pub forgotten_few : (seen : Seen) → length (forgotten slots room seen) ≤ length seen
  forgotten_few [] = omega arith
  forgotten_few (keys ∷ rest) =
      let less : length (forgotten slots room rest) ≤ length rest = forgotten_few rest in
      elim (nat_le (key_count (keys ∷ rest) + room) slots) as (λ b.
      length (cond b (keys ∷ rest) (forgotten slots room rest)) ≤ length (keys ∷ rest)) [
        | true ↦ omega arith
        | false ↦ omega (arith, less)
      ]

  -- what is left has room for as many keys more, where these have room alone
  pub forgotten_fits : (n : ℕ) → n ≤ room → n ≤ slots → (seen : Seen)
      → key_count (forgotten slots room seen) + n ≤ slots
  forgotten_fits n less alone [] = omega (arith, alone)
  forgotten_fits n less alone (keys ∷ rest) =
      elim (nat_le (key_count (keys ∷ rest) + room) slots) as (λ b. nat_le (key_count (keys ∷ rest) + room) slots ≡ b
      → key_count (cond b (keys ∷ rest) (forgotten slots room rest)) + n ≤ slots) [
        | true ↦ λ e. let fits : key_count (keys ∷ rest) + room ≤ slots =
            leb-true (key_count (keys ∷ rest) + room) slots e in omega (arith, fits, less)
        | false ↦ λ e. forgotten_fits n less alone rest
      ] refl

-- a state that has forgotten takes the same step
same_seen : (bounds : Bounds) (state : State) → seen_of bounds (forgetful bounds state) ≡ seen_of bounds state
unfolding seen_of
same_seen bounds state = forgotten_again bounds.slots (length state.front * bounds.inputs) state.seen

same_step : (game : Game) (bounds : Bounds) (state : State)
    → next game bounds (forgetful bounds state) ≡ next game bounds state
unfolding next kept_of fresh_of state_after lives_of
same_step game bounds state =
    ap (λ (seen : Seen). won_or (winner game (lives_of game state))
    (exhausted_or (kept game bounds.most bounds.quota (fresh game seen (lives_of game state)))
    (λ (ks : List Candidate). record {
      step = state.step + 1;
      front = map word_of ks;
      seen = seen ++ generation game (fresh game seen (lives_of game state)) ∷ [];
      mark = raised game (state.step + 1) bounds.tolerance ks state.mark;
    }))) (same_seen bounds state)

pub a_forgotten_state_goes_on_alike : AForgottenStateGoesOnAlike
unfolding searched
a_forgotten_state_goes_on_alike game bounds limit state =
    let more : limit + 1 ≡ suc limit = omega arith in
    ap (λ n. searched game bounds n (forgetful bounds state)) more
    ∙ (ap (λ (n : Next). then_go_on (state.step + 1) n (searched game bounds limit)) (same_step game bounds state)
    ∙ ap (λ n. searched game bounds n state) (sym more))
