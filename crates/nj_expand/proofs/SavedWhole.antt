-- A state is found again in what was saved of it.
use Rattle.std.proofs.Common.{◌≡◌, ℕ, zero, suc, ◌+◌, ◌*◌, ◌/◌, ◌<◌, ◌≤◌, List, [], ◌∷◌, ◌++◌, length, map, take, drop, get_or, refl, sym, ap, ◌∙◌, arith, zero-mul, suc-mul, length-append, ap₂, append-nil}
use Rattle.std.specs.List.{All, concat, range_with_len}
use Rattle.std.proofs.lemmas.Nat.{div-mul-add}
use Rattle.std.proofs.lemmas.List.{take_at, take_more, drop_at, drop-drop}
use Rattle.std.proofs.lemmas.List.Folds.{concat-append}
use Rattle.std.proofs.lemmas.List.Elements.{All-head, All-tail}
use Rattle.std.proofs.lemmas.List.FromFn.{fill_by_all}
use Rattle.nj_search_defs.specs.Game.{Word}
use Rattle.nj_search_defs.specs.Outcome.{State}
use Rattle.nj_candidate.specs.SavedFront.{word_at, front_in}
use Rattle.nj_expand.specs.Saving.{saved_of, state_in, CanBeSaved}

-- words of n pads each have n pads for each word
pub concat_long : (n : ℕ) (front : List Word) → All (λ word. length word ≡ n) front
    → length (concat front) ≡ length front * n
concat_long n [] long = sym (zero-mul n)
concat_long n (word ∷ words) long =
    let here : length word ≡ n = All-head (λ w. length w ≡ n) word words long in
    let rest : length (concat words) ≡ length words * n =
    concat_long n words (All-tail (λ w. length w ≡ n) word words long) in
    let both = length-append word (concat words) in
    let more : suc (length words) * n ≡ length words * n + n = suc-mul (length words) n in
    omega (arith, here, rest, both, more)

-- the first word of these
first_word : (n : ℕ) (word : Word) (rest : List ℕ) → length word ≡ n → word ≡ take n (drop (0 * n) (word ++ rest))
first_word n word rest long = sym (ap (λ k. take n (drop k (word ++ rest))) (zero-mul n) ∙ take_at word rest n long)

-- a later one
later_word : (n k : ℕ) (word : Word) (rest : List ℕ) → length word ≡ n
    → take n (drop (k * n) rest) ≡ take n (drop (suc k * n) (word ++ rest))
later_word n k word rest long =
    let first : suc k * n ≡ n + k * n = omega (arith, suc-mul k n) in
    let skipped : drop (suc k * n) (word ++ rest) ≡ drop (k * n) rest =
    ap (λ m. drop m (word ++ rest)) first ∙ sym (drop-drop (k * n) n (word ++ rest))
    ∙ ap (drop (k * n)) (drop_at word rest n long) in
    ap (take n) (sym skipped)

-- the word at a place of these
word_here : (n : ℕ) (front : List Word) → All (λ word. length word ≡ n) front → (k : ℕ) → k < length front
    → get_or front k [] ≡ word_at (concat front) n k
word_here n [] long k lt = absurd (omega (arith, lt))
word_here n (word ∷ words) long zero lt =
    first_word n word (concat words) (All-head (λ w. length w ≡ n) word words long)
word_here n (word ∷ words) long (suc k) lt =
    word_here n words (All-tail (λ w. length w ≡ n) word words long) k (omega (arith, lt))
    ∙ later_word n k word (concat words) (All-head (λ w. length w ≡ n) word words long)

-- as many words as before
count_words : (n : ℕ) (front : List Word) → 1 ≤ n → All (λ word. length word ≡ n) front
    → length (concat front) / n ≡ length front
count_words n front some long =
    let long' : length (concat front) ≡ length front * n + 0 = omega (arith, concat_long n front long) in
    ap (λ k. k / n) long' ∙ div-mul-add (length front) n 0 (omega (arith, some))

pub front_again : (state : State) → CanBeSaved state → front_in (saved_of state) ≡ state.front
unfolding front_in saved_of
front_again state can =
    let count : length (concat state.front) / state.step ≡ length state.front =
    count_words state.step state.front can.some can.long in
    ap (λ n. map (word_at (concat state.front) state.step) (range_with_len 0 n)) count
    ∙ sym (fill_by_all (word_at (concat state.front) state.step) state.front (length state.front) [] refl
    (word_here state.step state.front can.long))

pub state_again : (state : State) → CanBeSaved state → state_in (saved_of state) ≡ state
unfolding state_in saved_of
state_again state can =
    λ i. record { step = state.step; front = front_again state can i; seen = state.seen; mark = state.mark }

-- ---- the words of a front, one behind the other

-- one word more
pub concat_more : (words : List Word) (i : ℕ) (word done all : List ℕ) → i < length words → word ≡ get_or words i []
    → done ≡ concat (take i words)
    → all ≡ done ++ word → all ≡ concat (take (i + 1) words)
concat_more words i word done all lt here was more =
    more
    ∙ ap₂ (λ d w. d ++ w) was (here ∙ sym (append-nil (get_or words i [])))
    ∙ sym (ap concat (take_more words i [] lt) ∙ concat-append (take i words) (get_or words i [] ∷ []))
