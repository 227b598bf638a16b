-- What is told of a movie.
use Rattle.std.proofs.Common.{◌≡◌, ℕ, ℤ, zero, suc, ◌+◌, ◌-◌, ◌*◌, ◌^◌, ◌<◌, ◌≤◌, ◌⊎◌, inl, inr, IfOk, Bool, true, false, Option, Some, None, Result, Ok, Err, List, [], ◌∷◌, ◌++◌, length, drop, All, refl, ap, ap₂, sym, ◌∙◌, subst, arith, length-append, if◌then◌else◌}
use Rattle.nj_rules.specs.declared.record.Verdict.{Verdict}
use Rattle.nj_rules.specs.declared.record.Verdict.TheVariants.{Go, Win, Fail}
use Rattle.nj_search_defs.specs.Game.{Word}
use Rattle.nj_game.specs.Plan.{Plan, held_pads, movie_of}
use Rattle.nj_game.specs.Words.{judged_of}
use Rattle.nj_replay.specs.declared.ReplayRefused.{ReplayRefused}
use Rattle.nj_replay.specs.declared.Replayed.{Replayed}
use Rattle.nj_replay.specs.Reading.{first_left, first_from, first_pads, refused_or, word_of}
use Rattle.nj_replay.specs.Replay.{replayed_of, told_of, replay_of}
use Rattle.nj_clean.specs.declared.CleanEnd.{CleanEnd}
use Rattle.nj_clean.specs.declared.CleanEnd.TheVariants.{Cleaned, NotWon}
use Rattle.nj_clean.specs.Presses.{presses}
use Rattle.nj_clean.specs.Sweeps.{is_win, wins, cleaned}
use Rattle.nj_clean.specs.declared.sweeping.Won.{Won}
use Rattle.nj_clean.specs.Bench.{IsWon}
use Rattle.nj_clean.specs.Clean.{told_clean, end_of, end_told, clean_of, frames_of, frames_told, clean_frames}
use Rattle.nj_clean.proofs.Words.{AreBytes}
use Rattle.nj_clean.proofs.Sweeps.{cleaned_long}
use Rattle.nj_clean.proofs.Frames.{movie_long, movies_long}

-- ---- the word of a replay

-- a replay that is told is that of a word
pub told_word : (plan : Plan) (movie : List ℕ) (replayed : Replayed) → replay_of plan movie ≡ Ok replayed →
    (word : Word) × (word_of plan.script.hold plan.start movie ≡ Ok word) × (replayed_of plan word ≡ replayed)
unfolding replay_of
told_word plan movie replayed e = by_reading (word_of plan.script.hold plan.start movie) refl e
  where
    by_reading : (r : Result Word ReplayRefused) → word_of plan.script.hold plan.start movie ≡ r →
        told_of plan r ≡ Ok replayed →
        (word : Word) × (word_of plan.script.hold plan.start movie ≡ Ok word) × (replayed_of plan word ≡ replayed)
    by_reading (Ok word) is told = (word, is, cc)
    by_reading (Err refused) is told = cc

read_by : (a b : Option ℕ) (f g : ℕ → ReplayRefused) (first word : Word)
    → refused_or a f (refused_or b g (Ok first)) ≡ Ok word → first ≡ word
read_by None None f g first word e = cc
read_by None (Some frame) f g first word e = cc
read_by (Some frame) b f g first word e = cc

-- a word that is read is that of the steps' first pads
pub read_first : (hold : ℕ) (start movie : List ℕ) (word : Word) → word_of hold start movie ≡ Ok word
    → first_pads hold (drop (length start) movie) ≡ word
unfolding word_of
read_first hold start movie word e =
    read_by (first_left start movie)
    (first_left (start ++ held_pads hold (first_pads hold (drop (length start) movie))) movie) _ _
    (first_pads hold (drop (length start) movie)) word e

-- ---- bytes

cons_bytes : (pad : ℕ) (word : Word) → pad < 256 → AreBytes word → AreBytes (pad ∷ word)
cons_bytes pad word below bytes zero d h = below
cons_bytes pad word below bytes (suc k) d h = bytes k d (omega (arith, h))

tail_bytes : (pad : ℕ) (word : Word) → AreBytes (pad ∷ word) → AreBytes word
tail_bytes pad word bytes k d h = bytes (suc k) d (omega (arith, h))

head_byte : (pad : ℕ) (word : Word) → AreBytes (pad ∷ word) → pad < 256
head_byte pad word bytes = bytes 0 0 (omega arith)

pub first_bytes : (hold left : ℕ) (pads : List ℕ) → AreBytes pads → AreBytes (first_from hold left pads)
first_bytes hold left [] bytes = bytes
first_bytes hold zero (pad ∷ pads) bytes = cons_bytes pad (first_from hold (hold - 1) pads) (head_byte pad pads bytes)
    (first_bytes hold (hold - 1) pads (tail_bytes pad pads bytes))
first_bytes hold (suc left) (pad ∷ pads) bytes = first_bytes hold left pads (tail_bytes pad pads bytes)

pub drop_bytes : (n : ℕ) (pads : List ℕ) → AreBytes pads → AreBytes (drop n pads)
drop_bytes zero pads bytes = bytes
drop_bytes (suc n) [] bytes = bytes
drop_bytes (suc n) (pad ∷ pads) bytes = drop_bytes n pads (tail_bytes pad pads bytes)

-- a word is no longer than its movie
held_at_least : (hold : ℕ) (word : Word) → 1 ≤ hold → length word ≤ hold * length word
held_at_least hold word some =
    let whole : hold ≡ 1 + (hold - 1) = omega (arith, some) in
    let parts : (1 + (hold - 1)) * length word ≡ length word + (hold - 1) * length word = grind arith in
    omega (arith, ap (λ h. h * length word) whole, parts)

pub word_few : (plan : Plan) (word : Word) → 1 ≤ plan.script.hold → length word ≤ length (movie_of plan word)
word_few plan word some = omega (arith, movie_long plan word, held_at_least plan.script.hold word some)

-- ---- what is told

only_win : (v : Verdict) → is_win v ≡ true → v ≡ Win
only_win Go e = cc
only_win Win e = refl
only_win Fail e = cc

-- what is told of a cleaned word is what its replay tells
replay_told : (plan : Plan) (word kept : Word) (replayed : Replayed) (reward : ℤ) → replayed_of plan word ≡ replayed →
    kept ≡ cleaned plan word → wins plan kept ≡ true →
    reward ≡ (let r = replayed_of plan kept in r.reward) →
    replayed_of plan kept ≡ record { step = replayed.step; frames = replayed.frames; reward = reward; verdict = Win }
unfolding replayed_of wins
replay_told plan word kept replayed reward told is won rewarded =
    let long : length kept ≡ length word = ap length is ∙ cleaned_long plan word in
    let step : length kept ≡ replayed.step = long ∙ ap (λ r. r.step) told in
    let frames : length (movie_of plan kept) ≡ replayed.frames =
    movies_long plan kept word long ∙ ap (λ r. r.frames) told in
    let verdict : (let r = replayed_of plan kept in r.verdict) ≡ Win =
    only_win (let r = replayed_of plan kept in r.verdict) won in
    ap₂ (λ n m. (let j = judged_of plan kept in
    record { step = n; frames = m; reward = j.reward; verdict = j.verdict })) step frames
    ∙ ap₂ (λ r v. record { step = replayed.step; frames = replayed.frames; reward = r; verdict = v })
    (sym rewarded) verdict

won_end : (plan : Plan) (word : Word) → wins plan word ≡ true
    → end_of plan word ≡ told_clean plan word (cleaned plan word)
unfolding end_of
won_end plan word won = rw won refl

lost_end : (plan : Plan) (word : Word) → wins plan word ≡ false → end_of plan word ≡ NotWon (replayed_of plan word)
unfolding end_of
lost_end plan word lost = rw lost refl

pub cleaned_told : (plan : Plan) (movie : List ℕ) (word kept : Word) (given : ℕ) (replayed : Replayed) (reward : ℤ) →
    word_of plan.script.hold plan.start movie ≡ Ok word →
    wins plan word ≡ true → replayed_of plan word ≡ replayed → given ≡ length (presses word) →
    kept ≡ cleaned plan word → wins plan kept ≡ true →
    reward ≡ (let r = replayed_of plan kept in r.reward) →
    clean_of plan movie ≡ Ok (Cleaned (movie_of plan kept) (given - length (presses kept))
    (record { step = replayed.step; frames = replayed.frames; reward = reward; verdict = Win }))
unfolding clean_of
cleaned_told plan movie word kept given replayed reward read won told count is kept_wins rewarded =
    ap (end_told plan) read
    ∙ ap Ok
    (won_end plan word won
    ∙ ap (told_clean plan word) (sym is)
    ∙ ap₂ (λ n r. Cleaned (movie_of plan kept) (n - length (presses kept)) r) (sym count)
    (replay_told plan word kept replayed reward told is kept_wins rewarded))

-- a movie that does not win
pub not_won_told : (plan : Plan) (movie : List ℕ) (replayed : Replayed) → replay_of plan movie ≡ Ok replayed
    → is_win replayed.verdict ≡ false → clean_of plan movie ≡ Ok (NotWon replayed)
unfolding clean_of wins
not_won_told plan movie replayed told lost =
    let found = told_word plan movie replayed told in
    ap (end_told plan) found.1
    ∙ ap Ok (lost_end plan found.0 (ap (λ r. is_win r.verdict) found.2 ∙ lost) ∙ ap NotWon found.2)

-- a movie that is refused
pub refused_told : (plan : Plan) (movie : List ℕ) (refused : ReplayRefused) → replay_of plan movie ≡ Err refused
    → clean_of plan movie ≡ Err refused
unfolding clean_of replay_of
refused_told plan movie refused e = by_reading (word_of plan.script.hold plan.start movie) refl e
  where
    by_reading : (r : Result Word ReplayRefused) → word_of plan.script.hold plan.start movie ≡ r
        → told_of plan r ≡ Err refused → end_told plan (word_of plan.script.hold plan.start movie) ≡ Err refused
    by_reading (Ok word) is told = cc
    by_reading (Err other) is told = ap (end_told plan) is ∙ cc

-- ---- frames

pub frames_of_word : (plan : Plan) (movie : List ℕ) (word : Word) → word_of plan.script.hold plan.start movie ≡ Ok word
    → clean_frames plan movie ≡ frames_of (length (movie_of plan word)) (length (presses word))
unfolding clean_frames
frames_of_word plan movie word read = ap (frames_told plan) read

-- the frames of a movie that is read are at most those of its cleaning
pub frames_at_least : (plan : Plan) (movie : List ℕ) (word : Word) → word_of plan.script.hold plan.start movie ≡ Ok word
    → length (movie_of plan word) ≤ clean_frames plan movie
frames_at_least plan movie word read =
    let size = length (movie_of plan word) in
    let p = length (presses word) in
    let parts : size * (1 + p * (p + 1)) ≡ size + size * (p * (p + 1)) = grind arith in
    omega (arith, frames_of_word plan movie word read, parts)

-- the frames of a replay, whatever it answers
pub replay_frames : (plan : Plan) (movie : List ℕ) (s t : ℕ) → ((word : Word) →
    word_of plan.script.hold plan.start movie ≡ Ok word → movie ≡ plan.start ++ held_pads plan.script.hold word) →
    t ≤ s + length movie → ((refused : ReplayRefused) → replay_of plan movie ≡ Err refused → t ≡ s)
    → t ≤ s + clean_frames plan movie
unfolding replay_of movie_of
replay_frames plan movie s t law most none = by_reading (word_of plan.script.hold plan.start movie) refl
  where
    by_reading : (r : Result Word ReplayRefused) → word_of plan.script.hold plan.start movie ≡ r
        → t ≤ s + clean_frames plan movie
    by_reading (Ok word) is = omega (arith, most, ap length (law word is), frames_at_least plan movie word is)
    by_reading (Err refused) is = omega (arith, none refused (ap (told_of plan) is))

-- what is told of a movie's word
pub told_of_word : (plan : Plan) (movie : List ℕ) (word : Word) (replayed : Replayed) →
    word_of plan.script.hold plan.start movie ≡ Ok word →
    replay_of plan movie ≡ Ok replayed → replayed_of plan word ≡ replayed
unfolding replay_of
told_of_word plan movie word replayed read e = let same : told_of plan (Ok word) ≡ Ok replayed =
    sym (ap (told_of plan) read) ∙ e in cc

-- a word whose replay tells a win, and its reward
pub is_won : (plan : Plan) (word : Word) (won : Won) (replayed : Replayed) → won.word.items ≡ word →
    won.reward ≡ replayed.reward → replayed_of plan word ≡ replayed →
    is_win replayed.verdict ≡ true → IsWon plan won
unfolding wins
is_won plan word won replayed same reward told win = record {
  wins_is = ap (λ w. is_win (let r = replayed_of plan w in r.verdict)) same ∙ ap (λ r. is_win r.verdict) told ∙ win;
  reward_is = reward ∙ ap (λ r. r.reward) (sym told) ∙ ap (λ w. (let r = replayed_of plan w in r.reward)) (sym same);
}

-- a word that is read is no longer than its movie
pub read_few : (plan : Plan) (movie : List ℕ) (word : Word) → 1 ≤ plan.script.hold
    → movie ≡ plan.start ++ held_pads plan.script.hold word → length word ≤ length movie
unfolding movie_of
read_few plan movie word some is = omega (arith, ap length is, word_few plan word some)

pub refused_or_none : (plan : Plan) (movie : List ℕ) (e none : ReplayRefused)
    → (e ≡ none) ⊎ (replay_of plan movie ≡ Err e) → (e ≡ none) ⊎ (clean_of plan movie ≡ Err e)
refused_or_none plan movie e none (inl h) = inl h
refused_or_none plan movie e none (inr h) = inr (refused_told plan movie e h)

-- the frames of a replay that was told
pub told_frames : (plan : Plan) (movie : List ℕ) (replayed : Replayed) → ((word : Word) →
    word_of plan.script.hold plan.start movie ≡ Ok word → movie ≡ plan.start ++ held_pads plan.script.hold word) →
    replay_of plan movie ≡ Ok replayed → length movie ≤ clean_frames plan movie
unfolding movie_of
told_frames plan movie replayed law e =
    let found = told_word plan movie replayed e in
    omega (arith, ap length (law found.0 found.1), frames_at_least plan movie found.0 found.1)

-- the frames of all sweeps
pub end_frames : (plan : Plan) (movie : List ℕ) (word : Word) (s t : ℕ) →
    word_of plan.script.hold plan.start movie ≡ Ok word → movie ≡ plan.start ++ held_pads plan.script.hold word →
    t + (length plan.start + plan.script.hold * length word)
    ≤ s + frames_of (length plan.start + plan.script.hold * length word) (length (presses word)) →
    t + length movie ≤ s + clean_frames plan movie
unfolding movie_of
end_frames plan movie word s t read is most =
    let size : length movie ≡ length plan.start + plan.script.hold * length word =
    ap length is ∙ movie_long plan word in
    let all : clean_frames plan movie
    ≡ frames_of (length plan.start + plan.script.hold * length word) (length (presses word)) =
    frames_of_word plan movie word read ∙ ap (λ n. frames_of n (length (presses word))) (movie_long plan word) in
    omega (arith, size, all, most)

-- what holds of an answer
pub ok_weaker : {A E : Type 0} (r : Result A E) (P Q : A → Type 0) → ((x : A) → P x → Q x) → IfOk r P → IfOk r Q
ok_weaker (Ok x) P Q f h = f x h
ok_weaker (Err e) P Q f h = tt
