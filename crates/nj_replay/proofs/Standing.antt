-- The machine and the judgement after a word.
use Rattle.std.proofs.Common.{◌≡◌, ℕ, zero, suc, ◌+◌, ◌<◌, ◌≤◌, Bool, List, [], ◌∷◌, ◌++◌, length, take, drop, replicate, get_or, Ok, Err, refl, ap, ap₂, sym, ◌∙◌, inl, inr, arith, length-append, eq-or-lt_of_le}
use Rattle.std.proofs.lemmas.List.{drop_all, drop_at, length-replicate}
use Rattle.std.proofs.Math.Seq.{drop-cons, take-suc}
use Rattle.nj_search_defs.specs.Game.{Word}
use Rattle.nj_machine.specs.State.{State, ram_of, is_jammed}
use Rattle.nj_rules.specs.declared.record.Rules.{Rules}
use Rattle.nj_rules.specs.declared.record.Judged.{Judged}
use Rattle.nj_rules.specs.Rules.{judged_of as judged_in}
use Rattle.nj_game.specs.Plan.{Plan, held_pads, movie_of}
use Rattle.nj_game.specs.Words.{state_of, status_of, judged_of}
use Rattle.nj_replay.specs.declared.ReplayRefused.{ReplayRefused}
use Rattle.nj_replay.specs.Reading.{word_of}
use Rattle.nj_replay.specs.Replay.{replayed_of, told_of, replay_of}
use Rattle.nj_replay.proofs.WordLemmas.{read_is_played}

-- the status in a word's judgement
status_in :
    (plan : Plan) (word : Word) (judged : Judged) → judged ≡ judged_of plan word → judged.status.0 ≡ status_of plan word
unfolding judged_of
status_in plan word judged e = ap (λ j. j.status.0) e

-- the rules judge the state at the end of a step
pub judged_next :
    (plan : Plan) (word child : Word) (rules : Rules) (machine : State) (ram : List ℕ) (jammed : Bool)
    (old new : Judged) →
    plan.script.rules ≡ rules → old ≡ judged_of plan word → machine ≡ state_of plan child → ram ≡ ram_of machine →
    jammed ≡ is_jammed machine →
    judged_of plan child
    ≡ judged_in plan.script.rules.rules (ram_of (state_of plan child)) (status_of plan word)
    (is_jammed (state_of plan child)) →
    new ≡ judged_in rules.rules ram old.status.0 jammed → new ≡ judged_of plan child
judged_next plan word child rules machine ram jammed old new same before state is_ram is_jam law is_new =
    is_new
    ∙ ap₂ (λ r s. judged_in r ram s jammed) (ap (λ r. r.rules) (sym same)) (status_in plan word old before)
    ∙ ap₂ (λ m j. judged_in plan.script.rules.rules m (status_of plan word) j) (is_ram ∙ ap ram_of state)
    (is_jam ∙ ap is_jammed state)
    ∙ sym law

-- ---- the steps of a word, one after another

-- behind so many steps of a word stands another
pub record IsNextStep (hold : ℕ) (word : Word) (count pad : ℕ) (rest : List ℕ) : Type 0 where
  pub more : count < length word
  pub long : hold ≤ length rest
  pub behind : drop hold rest ≡ held_pads hold (drop (count + 1) word)
  pub grown : take (count + 1) word ≡ take count word ++ pad ∷ []

-- the steps from one on
steps_from : (hold count : ℕ) (word : Word) → count < length word →
    held_pads hold (drop count word) ≡ replicate hold (get_or word count 0) ++ held_pads hold (drop (count + 1) word)
steps_from hold count word h =
    ap (held_pads hold)
    (drop-cons word count 0 h
    ∙ ap (λ n. get_or word count 0 ∷ drop n word) (let e : suc count ≡ count + 1 = omega arith in e))

-- where frames are left, steps are left
more_steps :
    (hold count : ℕ) (word : Word) (rest : List ℕ) → rest ≡ held_pads hold (drop count word) → 0 < length rest →
    count ≤ length word → count < length word
more_steps hold count word rest e some within =
    elim (eq-or-lt_of_le within) [
      | inl same ↦
          (let none : length rest ≡ 0 =
          ap length (e ∙ ap (held_pads hold) (drop_all count word (omega (arith, same)))) in
          absurd (omega (arith, none, some)))
      | inr h ↦ h
    ]

-- the first frame of steps
first_frame : (hold pad : ℕ) (pads : List ℕ) (d : ℕ) → 1 ≤ hold → get_or (replicate hold pad ++ pads) 0 d ≡ pad
first_frame zero pad pads d h = absurd (omega (arith, h))
first_frame (suc n) pad pads d h = refl

pub next_step :
    (hold count pad : ℕ) (word : Word) (rest : List ℕ) → 1 ≤ hold → rest ≡ held_pads hold (drop count word) →
    0 < length rest → count ≤ length word →
    pad ≡ get_or rest 0 pad → IsNextStep hold word count pad rest
next_step hold count pad word rest some e frames within first =
    let more = more_steps hold count word rest e frames within in
    let next = get_or word count 0 in
    let parts : rest ≡ replicate hold next ++ held_pads hold (drop (count + 1) word) =
    e ∙ steps_from hold count word more in
    let is : pad ≡ next =
    first ∙ ap (λ xs. get_or xs 0 pad) parts
    ∙ first_frame hold next (held_pads hold (drop (count + 1) word)) pad some in
    let size : length rest ≡ hold + length (held_pads hold (drop (count + 1) word)) =
    ap length parts ∙ length-append (replicate hold next) (held_pads hold (drop (count + 1) word))
    ∙ ap (λ n. n + length (held_pads hold (drop (count + 1) word))) (length-replicate hold next) in
    record {
      more = more;
      long = omega (arith, size);
      behind =
          ap (drop hold) parts
          ∙ drop_at (replicate hold next) (held_pads hold (drop (count + 1) word)) hold (length-replicate hold next);
      grown =
          ap (λ n. take n word) (let one : count + 1 ≡ suc count = omega arith in one)
          ∙ take-suc word count 0 more
          ∙ ap (λ x. take count word ++ x ∷ []) (sym is);
    }

-- where no frame is left, no step is
pub all_steps :
    (hold count : ℕ) (word : Word) (rest : List ℕ) → 1 ≤ hold → rest ≡ held_pads hold (drop count word) →
    length rest ≡ 0 → count ≤ length word → count ≡ length word
all_steps hold count word rest some e none within =
    elim (eq-or-lt_of_le within) [
      | inl same ↦ same
      | inr h ↦ (
          let size : length rest ≡ hold + length (held_pads hold (drop (count + 1) word)) =
          ap length (e ∙ steps_from hold count word h)
          ∙ length-append (replicate hold (get_or word count 0)) (held_pads hold (drop (count + 1) word))
          ∙ ap (λ n. n + length (held_pads hold (drop (count + 1) word))) (length-replicate hold (get_or word count 0))
          in
          absurd (omega (arith, size, none, some)))
    ]

-- ---- what is told

pub told : (plan : Plan) (movie : List ℕ) (word : Word) (judged : Judged) (step frames : ℕ) → 1 ≤ plan.script.hold →
    word_of plan.script.hold plan.start movie ≡ Ok word → step ≡ length word → frames ≡ length movie →
    judged ≡ judged_of plan word →
    replay_of plan movie
    ≡ Ok (record { step = step; frames = frames; reward = judged.reward; verdict = judged.verdict })
unfolding replay_of replayed_of movie_of
told plan movie word judged step frames some read is_step is_frames is_judged =
    let size : length (plan.start ++ held_pads plan.script.hold word) ≡ frames =
    ap length (sym (read_is_played plan.script.hold plan.start movie word some read)) ∙ sym is_frames in
    ap (told_of plan) read
    ∙ ap₂
    (λ n m. Ok
    (record {
      step = n;
      frames = m;
      reward = (let j = judged_of plan word in j.reward);
      verdict =
          (let j = judged_of plan word in j.verdict);
    })) (sym is_step) size
    ∙ ap (λ j. Ok (record { step = step; frames = frames; reward = j.reward; verdict = j.verdict })) (sym is_judged)

pub refused :
    (plan : Plan) (movie : List ℕ) (e : ReplayRefused) → word_of plan.script.hold plan.start movie ≡ Err e →
    replay_of plan movie ≡ Err e
unfolding replay_of
refused plan movie e read = ap (told_of plan) read

-- the reading of the same start and movie
pub word_at :
    {hold other : ℕ} {start shown movie played : List ℕ} → other ≡ hold → shown ≡ start → played ≡ movie →
    word_of hold start movie ≡ word_of other shown played
word_at {hold} {other} {start} {shown} {movie} {played} e f g =
    ap (λ h. word_of h start movie) (sym e) ∙ ap₂ (λ s m. word_of other s m) (sym f) (sym g)
