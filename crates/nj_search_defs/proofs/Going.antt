-- The laws of a search that goes on from a state.
use Rattle.std.proofs.Common.{◌≡◌, ◌≢◌, ℕ, zero, suc, ◌+◌, ◌*◌, ◌^◌, ◌<◌, ◌≤◌, true, false, cond, nat_lt, List, [], ◌∷◌, ◌++◌, length, refl, sym, ap, ◌∙◌, subst, arith}
use Rattle.std.specs.List.{All, AllPairs, concat}
use Rattle.std.specs.List.Sorted.{IsStrictlyIncreasing}
use Rattle.std.proofs.Math.Nat.{max-le, mul-le-mul_right}
use Rattle.std.proofs.lemmas.List.{length_push}
use Rattle.std.proofs.lemmas.List.Elements.{All-nil, All-cons, All-append}
use Rattle.std.proofs.lemmas.List.Sums.{sum_by_push}
use Rattle.nj_search_defs.specs.Game.{Word, Game, Bounds}
use Rattle.nj_search_defs.specs.Candidates.{Candidate, word_of}
use Rattle.nj_search_defs.specs.Pruning.{Mark, Seen, key_count, forgotten, generation, top_level, raised}
use Rattle.nj_search_defs.specs.Outcome.{State, Next, Won, Exhausted, Goes, seen_of, fresh_of, kept_of, state_after, next, Outcome, WonAt, ExhaustedAt, LimitAt, then_go_on, searched, opening}
use Rattle.nj_search_defs.specs.Sound.{IsWellMade, IsSound}
use Rattle.nj_search_defs.specs.Going.{OpeningsAreSound, LimitsAreSound, ForgettingIsSound, LimitsHaveSeen}
use Rattle.nj_search_defs.proofs.Pairs.{AllPairs-append, concat_push, up_differ, up_from_0}
use Rattle.nj_search_defs.proofs.Forgetting.{All-forgotten, forgotten_once, forgotten_few, forgotten_fits}
use Rattle.nj_search_defs.proofs.Generations.{All-generation, generation_up, generation_new, generation_few, generation_some}
use Rattle.nj_search_defs.proofs.Moves.{goes_to, front_is_bounded, words_are_equally_long}
use Rattle.nj_search_defs.proofs.Lengths.{some_kept, some_word, steps_are_counted}

-- ---- what holds of the seen keys behind so many steps

record AreSound (slots step : ℕ) (seen : Seen) : Type 0 where
  generations : length seen ≤ step + 1
  filled : All (λ keys. 1 ≤ length keys) seen
  rising : All (λ keys. IsStrictlyIncreasing (0 ∷ keys)) seen
  once : AllPairs (λ a b. a ≢ b) (concat seen)
  fit : All (All (λ key. key < 2 ^ 64)) seen
  room : key_count seen ≤ slots

-- what is left where room is made for so many keys
module _ (slots room old step : ℕ) (seen : Seen) (sound : AreSound old step seen) where
  left_sound : AreSound slots step (forgotten slots room seen)
  left_sound = record {
    generations = omega (arith, forgotten_few slots room seen, sound.generations);
    filled = All-forgotten slots room (λ keys. 1 ≤ length keys) seen sound.filled;
    rising = All-forgotten slots room (λ keys. IsStrictlyIncreasing (0 ∷ keys)) seen sound.rising;
    once = forgotten_once slots room seen sound.once;
    fit = All-forgotten slots room (All (λ key. key < 2 ^ 64)) seen sound.fit;
    room = let few : key_count (forgotten slots room seen) + 0 ≤ slots =
        forgotten_fits slots room 0 (omega arith) (omega arith) seen in omega (arith, few);
  }

-- the seen keys of a sound state
of_state : (most slots levels latest : ℕ) (state : State) → IsSound most slots levels latest state
    → AreSound slots state.step state.seen
of_state most slots levels latest state sound = record {
  generations = sound.generations;
  filled = sound.filled;
  rising = sound.rising;
  once = sound.once;
  fit = sound.fit;
  room = sound.room;
}

pub forgetting_is_sound : ForgettingIsSound
unfolding seen_of
forgetting_is_sound bounds slots levels latest state sound =
    let seen : AreSound bounds.slots state.step (seen_of bounds state) =
    left_sound bounds.slots (length state.front * bounds.inputs) slots state.step state.seen
    (of_state bounds.most slots levels latest state sound) in
    record {
      some = sound.some;
      few = sound.few;
      long = sound.long;
      generations = seen.generations;
      filled = seen.filled;
      rising = seen.rising;
      once = seen.once;
      fit = seen.fit;
      room = seen.room;
      level = sound.level;
      until = sound.until;
    }

-- with a generation more
module _ (slots step : ℕ) (seen : Seen) (keys : List ℕ) (sound : AreSound slots step seen) (some : 1 ≤ length keys)
    (up : AllPairs (λ a b. a < b) keys)
    (keyed : All (λ key. key ≢ 0) keys) (fit : All (λ key. key < 2 ^ 64) keys)
    (new : All (λ a. All (λ b. a ≢ b) keys) (concat seen)) (few : key_count seen + length keys ≤ slots) where
  with_generation : AreSound slots (step + 1) (seen ++ keys ∷ [])
  with_generation = record {
    generations = omega (arith, length_push seen keys, sound.generations);
    filled = All-append (λ ks. 1 ≤ length ks) seen (keys ∷ []) sound.filled
        (All-cons (λ ks. 1 ≤ length ks) keys [] some (All-nil (λ ks. 1 ≤ length ks)));
    rising = All-append (λ ks. IsStrictlyIncreasing (0 ∷ ks)) seen (keys ∷ []) sound.rising
        (All-cons (λ ks. IsStrictlyIncreasing (0 ∷ ks)) keys [] (up_from_0 keys up keyed)
        (All-nil (λ ks. IsStrictlyIncreasing (0 ∷ ks))));
    once = subst (AllPairs (λ a b. a ≢ b)) (sym (concat_push seen keys))
        (AllPairs-append (λ a b. a ≢ b) (concat seen) keys sound.once (up_differ keys up) new);
    fit = All-append (All (λ key. key < 2 ^ 64)) seen (keys ∷ []) sound.fit
        (All-cons (All (λ key. key < 2 ^ 64)) keys [] fit (All-nil (All (λ key. key < 2 ^ 64))));
    room = let more : key_count (seen ++ keys ∷ []) ≡ key_count seen + length keys =
        sum_by_push length seen keys in omega (arith, more, few);
  }

-- ---- what holds of the mark

top_within : (game : Game) (levels : ℕ) → ((word : Word) → (game.judged word).level ≤ levels) → (cs : List Candidate)
    → top_level game cs ≤ levels
top_within game levels few [] = omega arith
top_within game levels few (c ∷ cs) = max-le (few (word_of c)) (top_within game levels few cs)

module _ (game : Game) (levels latest step tolerance : ℕ) (cs : List Candidate) (mark : Mark) where
  mark_level : ((word : Word) → (game.judged word).level ≤ levels) → mark.level ≤ levels
      → (raised game step tolerance cs mark).level ≤ levels
  unfolding raised
  mark_level few low =
      elim (nat_lt mark.level (top_level game cs)) as (λ b.
      (cond b (record { level = top_level game cs; until = step + tolerance }) mark).level ≤ levels) [
        | true ↦ top_within game levels few cs
        | false ↦ low
      ]

  mark_until : step + tolerance ≤ latest → mark.until ≤ latest → (raised game step tolerance cs mark).until ≤ latest
  unfolding raised
  mark_until within low =
      elim (nat_lt mark.level (top_level game cs)) as (λ b.
      (cond b (record { level = top_level game cs; until = step + tolerance }) mark).until ≤ latest) [
        | true ↦ within
        | false ↦ low
      ]

-- ---- a step keeps a state sound

module _ (game : Game) (bounds : Bounds) (levels latest : ℕ) (made : IsWellMade game bounds levels) where
  few_bytes : (word : Word) → length (game.allowed word) ≤ 256
  few_bytes word = omega (arith, made.allowed word, made.inputs)

  -- the keys of the candidates have slots
  candidates_fit : (front : List Word) → length front ≤ bounds.most → length front * bounds.inputs ≤ bounds.slots
  candidates_fit front few =
      let less : length front * bounds.inputs ≤ bounds.most * bounds.inputs = mul-le-mul_right bounds.inputs few in
      omega (arith, less, made.room)

  seen_after : (state new : State) → IsSound bounds.most bounds.slots levels latest state
      → next game bounds state ≡ Goes new
      → AreSound bounds.slots (state.step + 1)
      (seen_of bounds state ++ generation game (fresh_of game bounds state) ∷ [])
  unfolding seen_of
  seen_after state new sound goes =
      let room : ℕ = length state.front * bounds.inputs in
      let few : length (generation game (fresh_of game bounds state)) ≤ length state.front * bounds.inputs =
      generation_few game bounds state bounds.inputs made.allowed in
      let fits : key_count (seen_of bounds state) + length (generation game (fresh_of game bounds state))
      ≤ bounds.slots =
      forgotten_fits bounds.slots room (length (generation game (fresh_of game bounds state))) few
      (omega (arith, few, candidates_fit state.front sound.few)) state.seen in
      with_generation bounds.slots state.step (seen_of bounds state) (generation game (fresh_of game bounds state))
      (left_sound bounds.slots room bounds.slots state.step state.seen
      (of_state bounds.most bounds.slots levels latest state sound))
      (generation_some game bounds state (some_kept game bounds state new goes))
      (generation_up game bounds state few_bytes)
      (All-generation game bounds state (λ key. key ≢ 0) made.keyed)
      (All-generation game bounds state (λ key. key < 2 ^ 64) made.fit)
      (generation_new game bounds state) fits

  step_is_sound : (state new : State) → state.step + 1 + bounds.tolerance ≤ latest
      → IsSound bounds.most bounds.slots levels latest state
      → next game bounds state ≡ Goes new → IsSound bounds.most bounds.slots levels latest new
  unfolding state_after
  step_is_sound state new within sound goes =
      let to : state_after game bounds state (kept_of game bounds state) ≡ new = goes_to game bounds state new goes in
      let seen : AreSound bounds.slots new.step new.seen =
      subst (λ (s : State). AreSound bounds.slots s.step s.seen) to (seen_after state new sound goes) in
      record {
        some = some_word game bounds state new goes;
        few = front_is_bounded game bounds state new goes;
        long = words_are_equally_long game bounds state new sound.long goes;
        generations = seen.generations;
        filled = seen.filled;
        rising = seen.rising;
        once = seen.once;
        fit = seen.fit;
        room = seen.room;
        level = subst (λ (s : State). s.mark.level ≤ levels) to
            (mark_level game levels latest (state.step + 1) bounds.tolerance (kept_of game bounds state)
            state.mark made.level sound.level);
        until = subst (λ (s : State). s.mark.until ≤ latest) to
            (mark_until game levels latest (state.step + 1) bounds.tolerance (kept_of game bounds state)
            state.mark within sound.until);
      }

-- ---- the first step of a search that comes to its limit

goes_first : (step : ℕ) (n : Next) (f : State → Outcome) (state : State) → then_go_on step n f ≡ LimitAt state
    → (new : State) × (n ≡ Goes new) × (f new ≡ LimitAt state)
goes_first step (Won c) f state h = absurd (cc)
goes_first step Exhausted f state h = absurd (cc)
goes_first step (Goes new) f state h = (new, refl, h)

first_step : (game : Game) (bounds : Bounds) (limit : ℕ) (from state : State)
    → searched game bounds (suc limit) from ≡ LimitAt state
    → (new : State) × (next game bounds from ≡ Goes new) × (searched game bounds limit new ≡ LimitAt state)
unfolding searched
first_step game bounds limit from state h =
    goes_first (from.step + 1) (next game bounds from) (searched game bounds limit) state h

limit_of : State → Outcome → State
limit_of other (LimitAt state) = state
limit_of other (WonAt step word) = other
limit_of other (ExhaustedAt step) = other

no_step : (game : Game) (bounds : Bounds) (from state : State) → searched game bounds zero from ≡ LimitAt state
    → from ≡ state
unfolding searched limit_of
no_step game bounds from state h = ap (limit_of from) h

-- ---- the laws

pub limits_are_sound : LimitsAreSound
limits_are_sound game bounds levels latest zero from state made within sound h =
    subst (IsSound bounds.most bounds.slots levels latest) (no_step game bounds from state h) sound
limits_are_sound game bounds levels latest (suc limit) from state made within sound h =
    let first = first_step game bounds limit from state h in
    let new : State = first.0 in
    let more : new.step ≡ from.step + 1 = steps_are_counted game bounds from first.0 first.1 in
    limits_are_sound game bounds levels latest limit first.0 state made (omega (arith, more, within))
    (step_is_sound game bounds levels latest made from first.0 (omega (arith, within)) sound first.1) first.2

pub openings_are_sound : OpeningsAreSound
unfolding opening
openings_are_sound game bounds levels latest made =
    let keys : List ℕ = game.key [] ∷ [] in
    let up : AllPairs (λ a b. a < b) (game.key [] ∷ []) = λ i j d lt within. absurd (omega (arith, lt, within)) in
    let keyed : All (λ key. key ≢ 0) (game.key [] ∷ []) =
    All-cons (λ key. key ≢ 0) (game.key []) [] (made.keyed []) (All-nil (λ key. key ≢ 0)) in
    let fit : All (λ key. key < 2 ^ 64) (game.key [] ∷ []) =
    All-cons (λ key. key < 2 ^ 64) (game.key []) [] (made.fit []) (All-nil (λ key. key < 2 ^ 64)) in
    record {
      some = omega arith;
      few = omega (arith, made.some);
      long = All-cons (λ word. length word ≡ 0) [] [] refl (All-nil (λ word. length word ≡ 0));
      generations = omega arith;
      filled = All-cons (λ ks. 1 ≤ length ks) (game.key [] ∷ []) [] (omega arith) (All-nil (λ ks. 1 ≤ length ks));
      rising = All-cons (λ ks. IsStrictlyIncreasing (0 ∷ ks)) (game.key [] ∷ []) []
          (up_from_0 (game.key [] ∷ []) up keyed) (All-nil (λ ks. IsStrictlyIncreasing (0 ∷ ks)));
      once = up_differ (game.key [] ∷ []) up;
      fit = All-cons (All (λ key. key < 2 ^ 64)) (game.key [] ∷ []) [] fit (All-nil (All (λ key. key < 2 ^ 64)));
      room = omega (arith, made.slots);
      level = made.level [];
      until = omega arith;
    }

has_seen : (game : Game) (bounds : Bounds) (state new : State) → next game bounds state ≡ Goes new → 1 ≤ length new.seen
unfolding state_after
has_seen game bounds state new goes =
    subst (λ (s : State). 1 ≤ length s.seen) (goes_to game bounds state new goes)
    (omega (arith, length_push (seen_of bounds state) (generation game (fresh_of game bounds state))))

seen_from : (game : Game) (bounds : Bounds) (limit : ℕ) (from state : State) → 1 ≤ length from.seen
    → searched game bounds limit from ≡ LimitAt state → 1 ≤ length state.seen
seen_from game bounds zero from state some h =
    subst (λ (s : State). 1 ≤ length s.seen) (no_step game bounds from state h) some
seen_from game bounds (suc limit) from state some h =
    let first = first_step game bounds limit from state h in
    seen_from game bounds limit first.0 state (has_seen game bounds from first.0 first.1) first.2

pub limits_have_seen : LimitsHaveSeen
limits_have_seen game bounds limit from state h =
    let more : limit + 1 ≡ suc limit = omega arith in
    let first = first_step game bounds limit from state (ap (λ n. searched game bounds n from) (sym more) ∙ h) in
    seen_from game bounds limit first.0 state (has_seen game bounds from first.0 first.1) first.2
