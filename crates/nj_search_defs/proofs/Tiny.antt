-- Small searches, computed. Each game counts the presses of Right in a word, x, and the frames, t, as a
-- program does that reads the pad once a frame; the answers were found by hand.
use Rattle.std.proofs.Common.{◌≡◌, ℕ, pos, ◌+◌, ◌*◌, Bool, true, false, cond, ◌==◌, List, [], ◌∷◌, length, replicate, refl}
use Rattle.std.specs.Prelude.{count_by, fold, nat_le, ◌&&◌}
use Rattle.nj_search_defs.specs.Game.{Word, Go, Win, Fail, Judged, Game, Bounds}
use Rattle.nj_search_defs.specs.Candidates.{candidates}
use Rattle.nj_search_defs.specs.Pruning.{live, winner, forgotten, fresh, kept, generation, raised}
use Rattle.nj_search_defs.specs.Outcome.{Outcome, WonAt, ExhaustedAt, LimitAt, lives_of, seen_of, fresh_of, kept_of, state_after, next, searched, opening, outcome}

-- how often Right, of the value 128, is pressed in a word
abbrev x_of : Word → ℕ
x_of word = count_by (λ pad. pad == 128) word

abbrev judgement : Bool → Bool → ℕ → ℕ → Judged
judgement wins fails reward level = record {
  verdict = cond fails Fail (cond wins Win Go);
  reward = pos reward;
  level = level;
}

-- one point for each press, and a hundred and the win for five; the key is x
abbrev five_presses : Game
five_presses = record {
  judged = λ word. judgement (x_of word == 5) false (x_of word + cond (x_of word == 5) 100 0) 0;
  allowed = λ word. 0 ∷ 128 ∷ [];
  key = x_of;
  bucket = λ word. [];
}

-- the same where the first frame reads no pad
abbrev late_presses : Game
late_presses = record {
  judged = λ word. five_presses.judged word;
  allowed = λ word. 0 ∷ 128 ∷ [];
  key = λ word. cond (nat_le (length word) 1) 0 1;
  bucket = λ word. [];
}

-- no rules; the key is of x and t
abbrev no_rules : List ℕ → Game
no_rules pads = record {
  judged = λ word. judgement false false 0 0;
  allowed = λ word. pads;
  key = λ word. 1000 * x_of word + length word;
  bucket = λ word. [];
}

-- the empty word wins, and may fail too
abbrev at_once : Bool → Game
at_once fails = record {
  judged = λ word. judgement (x_of word == 0) fails 100 0;
  allowed = λ word. 0 ∷ 128 ∷ [];
  key = x_of;
  bucket = λ word. [];
}

-- a press is a checkpoint; so many frames without one win a hundred
abbrev checkpoint : ℕ → Game
checkpoint frames = record {
  judged = λ word. judgement ((x_of word == 0) && (length word == frames)) false
      (x_of word + cond ((x_of word == 0) && (length word == frames)) 100 0) (cond (nat_le 1 (x_of word)) 1 0);
  allowed = λ word. 0 ∷ 128 ∷ [];
  key = λ word. 1000 * x_of word + length word;
  bucket = λ word. [];
}

-- one point for each press; the key tells all words apart, and a bucket has the words of one number of presses
abbrev buckets_by_presses : Game
buckets_by_presses = record {
  judged = λ word. judgement false false (x_of word) 0;
  allowed = λ word. 0 ∷ 128 ∷ [];
  key = λ word. fold (λ n pad. 2 * n + pad) 1 word;
  bucket = λ word. pos (x_of word) ∷ [];
}

abbrev bounds : ℕ → ℕ → Bounds
bounds most tolerance = record { most = most; quota = 1048576; slots = 1048576; inputs = 2; tolerance = tolerance }

-- the front's first word at the limit
abbrev first_word : Outcome → List Word
first_word (LimitAt state) = state.front
first_word ended = []

-- five presses win at step five
won_by_five : outcome five_presses (bounds 7463 0) 5 ≡ WonAt 5 (replicate 5 128)
unfolding candidates live winner fresh kept generation raised lives_of seen_of fresh_of kept_of state_after
    next searched opening outcome
won_by_five = refl

-- a front of one word finds them too
won_in_one_word : outcome five_presses (bounds 1 0) 5 ≡ WonAt 5 (replicate 5 128)
unfolding candidates live winner fresh kept generation raised lives_of seen_of fresh_of kept_of state_after
    next searched opening outcome
won_in_one_word = refl

-- both candidates repeat the start's key, so nothing is kept
exhausted_at_once : outcome late_presses (bounds 7463 0) 5 ≡ ExhaustedAt 1
unfolding candidates live winner fresh kept generation raised lives_of seen_of fresh_of kept_of state_after
    next searched opening outcome
exhausted_at_once = refl

-- equal rewards go by the smaller number, so by the order of the pads
first_pad_first : first_word (outcome (no_rules (128 ∷ 0 ∷ [])) (bounds 1 0) 1) ≡ (128 ∷ []) ∷ []
unfolding candidates live winner fresh kept generation raised lives_of seen_of fresh_of kept_of state_after
    next searched opening outcome
first_pad_first = refl

-- and with the pads exchanged by the other
first_pad_first_exchanged : first_word (outcome (no_rules (0 ∷ 128 ∷ [])) (bounds 1 0) 1) ≡ (0 ∷ []) ∷ []
unfolding candidates live winner fresh kept generation raised lives_of seen_of fresh_of kept_of state_after
    next searched opening outcome
first_pad_first_exchanged = refl

-- the empty word may win
won_at_once : outcome (at_once false) (bounds 7463 0) 5 ≡ WonAt 0 []
unfolding candidates live winner fresh kept generation raised lives_of seen_of fresh_of kept_of state_after
    next searched opening outcome
won_at_once = refl

-- a fail goes before a win
failed_at_once : outcome (at_once true) (bounds 7463 0) 5 ≡ ExhaustedAt 0
unfolding candidates live winner fresh kept generation raised lives_of seen_of fresh_of kept_of state_after
    next searched opening outcome
failed_at_once = refl

-- with no tolerance the word behind a checkpoint is cut at the next step
cut_at_once : first_word (outcome (checkpoint 2) (bounds 4 0) 2) ≡ (128 ∷ 128 ∷ []) ∷ (128 ∷ 0 ∷ []) ∷ []
unfolding candidates live winner fresh kept generation raised lives_of seen_of fresh_of kept_of state_after
    next searched opening outcome
cut_at_once = refl

-- with a tolerance of two steps it lives on and wins
kept_by_tolerance : outcome (checkpoint 2) (bounds 4 2) 2 ≡ WonAt 2 (0 ∷ 0 ∷ [])
unfolding candidates live winner fresh kept generation raised lives_of seen_of fresh_of kept_of state_after
    next searched opening outcome
kept_by_tolerance = refl

-- of the four words of two frames two have one press: with a quota of one the first of them is kept
quota_of_one : first_word (outcome buckets_by_presses (record (bounds 4 0) { quota = 1 }) 2)
    ≡ (128 ∷ 128 ∷ []) ∷ (128 ∷ 0 ∷ []) ∷ (0 ∷ 0 ∷ []) ∷ []
unfolding candidates live winner fresh kept generation raised lives_of seen_of fresh_of kept_of state_after
    next searched opening outcome
quota_of_one = refl

-- with a quota of two all four are kept
quota_of_two : first_word (outcome buckets_by_presses (record (bounds 4 0) { quota = 2 }) 2)
    ≡ (128 ∷ 128 ∷ []) ∷ (128 ∷ 0 ∷ []) ∷ (0 ∷ 128 ∷ []) ∷ (0 ∷ 0 ∷ []) ∷ []
unfolding candidates live winner fresh kept generation raised lives_of seen_of fresh_of kept_of state_after
    next searched opening outcome
quota_of_two = refl

-- behind the tolerance it is cut
cut_behind_tolerance : length (first_word (outcome (checkpoint 4) (bounds 4 2) 4)) ≡ 4
unfolding candidates live winner fresh kept generation raised lives_of seen_of fresh_of kept_of state_after
    next searched opening outcome
cut_behind_tolerance = refl

-- generations are forgotten one by one until the rest and the room fit
forgotten_by_room : forgotten 1024 400 (replicate 1 1 ∷ replicate 300 2 ∷ replicate 400 3 ∷ []) ≡ replicate 400 3 ∷ []
unfolding candidates live winner fresh kept generation raised lives_of seen_of fresh_of kept_of state_after
    next searched opening outcome
forgotten_by_room = refl
