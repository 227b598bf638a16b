-- The generation that a step adds.
use Rattle.std.proofs.Common.{◌≡◌, ◌≢◌, ℕ, suc, ◌+◌, ◌*◌, ◌<◌, ◌≤◌, Bool, true, false, cond, not, ◌&&◌, ◌==◌, nat_lt, List, [], ◌∷◌, length, map, get_or, refl, ap, ◌∙◌, arith, lt-ltb, eq-eqb, length-append}
use Rattle.std.specs.Prelude.{filter}
use Rattle.std.specs.List.{All, AllPairs, Contains, concat, list_any}
use Rattle.std.proofs.Math.Nat.{suc-mul}
use Rattle.std.proofs.lemmas.Bool.{and_parts, not-true, both_ways, false_from_ne_true}
use Rattle.std.proofs.lemmas.List.{length-map}
use Rattle.std.proofs.lemmas.List.Elements.{All-head, All-tail, All-weaker, All-filter, All-map, All-contains_itself, filter_passes}
use Rattle.std.proofs.lemmas.List.Folds.{list_any_at}
use Rattle.std.proofs.lemmas.List.Kept.{AllPairs-cons}
use Rattle.nj_search_defs.specs.Game.{Word, Game, Bounds}
use Rattle.nj_search_defs.specs.Candidates.{Candidate, word_of, extensions, candidates_from, candidates}
use Rattle.nj_search_defs.specs.Order.{in_order}
use Rattle.nj_search_defs.specs.Pruning.{Seen, key_of, is_seen, is_fresh, live, fresh, kept, generation}
use Rattle.nj_search_defs.specs.Outcome.{State, lives_of, seen_of, fresh_of, kept_of}
use Rattle.nj_search_defs.proofs.Orders.{All-in_order}
use Rattle.nj_search_defs.proofs.Pairs.{AllPairs-nil, in_order_up, length-in_order, All-concat}
use Rattle.nj_search_defs.proofs.Numbers.{AreRising, lives_rise}

-- ---- the keys of the fresh differ

-- no test passes at a member of a list at which it never passes
none_passes : {X : Type 0} (p : X → Bool) (xs : List X) → list_any p xs ≡ false → All (λ x. p x ≡ false) xs
none_passes p xs none k d lt =
    false_from_ne_true (p (get_or xs k d)) (λ t. both_ways (list_any p xs) none (list_any_at p xs k d lt t))

module _ (game : Game) (seen : Seen) (lives : List Candidate) where
  -- a candidate has not the key of a fresh one of greater number
  first_differs : (c d : Candidate) → Contains lives c → c.number < d.number → is_fresh game seen lives d ≡ true
      → key_of game c ≢ key_of game d
  first_differs c d stood less is same =
      let q : Candidate → Bool = λ e. nat_lt e.number d.number && (key_of game e == key_of game d) in
      let none : list_any q lives ≡ false =
      not-true (list_any q lives) (and_parts (not (is_seen seen (key_of game d))) (not (list_any q lives)) is).1 in
      let here : q c ≡ true =
      ap (λ b. b && (key_of game c == key_of game d)) (lt-ltb c.number d.number less)
      ∙ eq-eqb (key_of game c) (key_of game d) same in
      both_ways (list_any q lives) none (list_any_at q lives stood.0 c stood.1 (ap q stood.2 ∙ here))

  fresh_apart : (cs : List Candidate) → All (Contains lives) cs → AreRising cs
      → AllPairs (λ a b. a ≢ b) (map (key_of game) (filter (is_fresh game seen lives) cs))
  fresh_apart [] stood up = AllPairs-nil (λ a b. a ≢ b)
  fresh_apart (c ∷ cs) stood up =
      let rest : AllPairs (λ a b. a ≢ b) (map (key_of game) (filter (is_fresh game seen lives) cs)) =
      fresh_apart cs (All-tail (Contains lives) c cs stood) up.1 in
      elim (is_fresh game seen lives c) as (λ b.
      AllPairs (λ a b. a ≢ b) (map (key_of game)
      (cond b (c ∷ filter (is_fresh game seen lives) cs) (filter (is_fresh game seen lives) cs)))) [
        | true ↦ AllPairs-cons (λ a b. a ≢ b) (key_of game c) (map (key_of game) (filter (is_fresh game seen lives) cs))
            (All-map (λ k. key_of game c ≢ k) (key_of game) (filter (is_fresh game seen lives) cs)
            (λ k e lt. first_differs c (get_or (filter (is_fresh game seen lives) cs) k e)
            (All-head (Contains lives) c cs stood)
            (All-filter (is_fresh game seen lives) (λ later. c.number < later.number) cs up.0 k e lt)
            (filter_passes (is_fresh game seen lives) cs k e lt))) rest
        | false ↦ rest
      ]

  -- nor a seen one
  fresh_unseen : (cs : List Candidate)
      → All (λ c. is_seen seen (key_of game c) ≡ false) (filter (is_fresh game seen lives) cs)
  fresh_unseen cs =
      All-weaker (λ c. is_fresh game seen lives c ≡ true) (λ c. is_seen seen (key_of game c) ≡ false)
      (λ c is. not-true (is_seen seen (key_of game c))
      (and_parts (not (is_seen seen (key_of game c)))
      (not (list_any (λ d. nat_lt d.number c.number && (key_of game d == key_of game c)) lives)) is).0)
      (filter (is_fresh game seen lives) cs) (filter_passes (is_fresh game seen lives) cs)

-- a key that is not seen is none of the seen keys
not_among : (seen : Seen) (key : ℕ) → is_seen seen key ≡ false → All (λ k. k ≢ key) (concat seen)
not_among seen key none =
    All-concat (λ k. k ≢ key) seen
    (All-weaker (λ keys. list_any (λ k. k == key) keys ≡ false) (All (λ k. k ≢ key))
    (λ keys no. All-weaker (λ k. (k == key) ≡ false) (λ k. k ≢ key)
    (λ k e same. both_ways (k == key) e (eq-eqb k key same)) keys (none_passes (λ k. k == key) keys no))
    seen (none_passes (list_any (λ k. k == key)) seen none))

-- ---- how many candidates there are

length-extensions : (number : ℕ) (word : Word) (pads : List ℕ) → length (extensions number word pads) ≡ length pads
length-extensions number word [] = refl
length-extensions number word (pad ∷ pads) = ap suc (length-extensions (number + 1) word pads)

few_candidates : (game : Game) (inputs : ℕ) → ((word : Word) → length (game.allowed word) ≤ inputs)
    → (i : ℕ) (words : List Word)
    → length (candidates_from game i words) ≤ length words * inputs
few_candidates game inputs few i [] = omega arith
few_candidates game inputs few i (word ∷ words) =
    let own : length (extensions (256 * i) word (game.allowed word)) ≡ length (game.allowed word) =
    length-extensions (256 * i) word (game.allowed word) in
    let most : length (game.allowed word) ≤ inputs = few word in
    let rest : length (candidates_from game (i + 1) words) ≤ length words * inputs =
    few_candidates game inputs few (i + 1) words in
    let both : length (candidates_from game i (word ∷ words)) ≡ length (extensions (256 * i) word (game.allowed word))
    + length (candidates_from game (i + 1) words) =
    length-append (extensions (256 * i) word (game.allowed word)) (candidates_from game (i + 1) words) in
    let times : length (word ∷ words) * inputs ≡ length words * inputs + inputs = suc-mul (length words) inputs in
    omega (arith, own, most, rest, both, times)

filter_few : {X : Type 0} (p : X → Bool) (xs : List X) → length (filter p xs) ≤ length xs
filter_few p [] = omega arith
filter_few p (x ∷ xs) =
    let rest : length (filter p xs) ≤ length xs = filter_few p xs in
    elim (p x) as (λ b. length (cond b (x ∷ filter p xs) (filter p xs)) ≤ length (x ∷ xs)) [
      | true ↦ omega (arith, rest)
      | false ↦ omega (arith, rest)
    ]

-- where some are kept there are some
kept_from : (game : Game) (most quota : ℕ) (cs : List Candidate) → 1 ≤ length (kept game most quota cs) → 1 ≤ length cs
unfolding kept
kept_from game most quota [] h = absurd (omega (arith, h))
kept_from game most quota (c ∷ cs) h = omega arith

-- ---- the generation

module _ (game : Game) (bounds : Bounds) (state : State) where
  -- what is true of every key is true of those of the generation
  pub All-generation : (P : ℕ → Type 0) → ((word : Word) → P (game.key word))
      → All P (generation game (fresh_of game bounds state))
  unfolding generation
  All-generation P every =
      All-in_order nat_lt P (map (key_of game) (fresh_of game bounds state))
      (All-map P (key_of game) (fresh_of game bounds state)
      (λ k d lt. every (word_of (get_or (fresh_of game bounds state) k d))))

  keys_differ : ((word : Word) → length (game.allowed word) ≤ 256)
      → AllPairs (λ a b. a ≢ b) (map (key_of game) (fresh_of game bounds state))
  unfolding fresh_of fresh
  keys_differ few =
      fresh_apart game (seen_of bounds state) (lives_of game state) (lives_of game state)
      (All-contains_itself (lives_of game state)) (lives_rise game state few)

  -- each key of the generation is below all later ones
  pub generation_up : ((word : Word) → length (game.allowed word) ≤ 256)
      → AllPairs (λ a b. a < b) (generation game (fresh_of game bounds state))
  unfolding generation
  generation_up few = in_order_up (map (key_of game) (fresh_of game bounds state)) (keys_differ few)

  -- none of them is among those that are seen
  pub generation_new : All (λ a. All (λ b. a ≢ b) (generation game (fresh_of game bounds state)))
      (concat (seen_of bounds state))
  unfolding generation fresh_of fresh
  generation_new =
      let new : List Candidate =
      filter (is_fresh game (seen_of bounds state) (lives_of game state)) (lives_of game state) in
      let each : All (λ b. All (λ a. a ≢ b) (concat (seen_of bounds state))) (in_order nat_lt (map (key_of game) new)) =
      All-in_order nat_lt (λ b. All (λ a. a ≢ b) (concat (seen_of bounds state))) (map (key_of game) new)
      (All-map (λ b. All (λ a. a ≢ b) (concat (seen_of bounds state))) (key_of game) new
      (All-weaker (λ c. is_seen (seen_of bounds state) (key_of game c) ≡ false)
      (λ c. All (λ a. a ≢ key_of game c) (concat (seen_of bounds state)))
      (λ c e. not_among (seen_of bounds state) (key_of game c) e) new
      (fresh_unseen game (seen_of bounds state) (lives_of game state) (lives_of game state)))) in
      λ k d kl j e jl. each j e jl k d kl

  length-generation : length (generation game (fresh_of game bounds state)) ≡ length (fresh_of game bounds state)
  unfolding generation
  length-generation =
      length-in_order nat_lt (map (key_of game) (fresh_of game bounds state))
      ∙ length-map (fresh_of game bounds state) (key_of game)

  fresh_few : (inputs : ℕ) → ((word : Word) → length (game.allowed word) ≤ inputs)
      → length (fresh_of game bounds state) ≤ length state.front * inputs
  unfolding fresh_of fresh lives_of live candidates
  fresh_few inputs few =
      let all : length (candidates game state.front) ≤ length state.front * inputs =
      few_candidates game inputs few 0 state.front in
      let some : length (lives_of game state) ≤ length (candidates game state.front) =
      filter_few _ (candidates game state.front) in
      let fewer : length (fresh_of game bounds state) ≤ length (lives_of game state) =
      filter_few _ (lives_of game state) in
      omega (arith, all, some, fewer)

  -- its keys are no more than the pads that may follow the front's words
  pub generation_few : (inputs : ℕ) → ((word : Word) → length (game.allowed word) ≤ inputs)
      → length (generation game (fresh_of game bounds state)) ≤ length state.front * inputs
  generation_few inputs few = omega (arith, length-generation, fresh_few inputs few)

  -- it has a key where a candidate is kept
  pub generation_some : 1 ≤ length (kept_of game bounds state)
      → 1 ≤ length (generation game (fresh_of game bounds state))
  unfolding kept_of
  generation_some some =
      let fresh_some : 1 ≤ length (fresh_of game bounds state) =
      kept_from game bounds.most bounds.quota (fresh_of game bounds state) some in
      omega (arith, length-generation, fresh_some)
