-- The movie of a word that won is read and replayed.
use Rattle.std.proofs.Common.{◌≡◌, ℕ, ◌+◌, ◌*◌, ◌^◌, ◌≤◌, List, [], ◌∷◌, ◌++◌, length, Ok, refl, ap, ◌∙◌, arith, length-append}
use Rattle.std.specs.Prelude.{◌↔◌, Option, Some, None, IfSome}
use Rattle.std.proofs.lemmas.List.{length-replicate}
use Rattle.std.proofs.Math.Nat.{mul-le-mul_left}
use Rattle.nj_search_defs.specs.Game.{Word, Win as Wins}
use Rattle.nj_search_defs.specs.Outcome.{WonAt}
use Rattle.nj_search_defs.specs.Laws.{IsWonWithin, WonWins, WonWordsAreAsLong}
use Rattle.nj_search_defs.specs.Going.{WonWordsAreAsLongFrom, WonWinsFrom}
use Rattle.nj_rules.specs.declared.record.Verdict.{Verdict}
use Rattle.nj_rules.specs.declared.record.Verdict.TheVariants.{Go, Win, Fail}
use Rattle.nj_game.specs.Plan.{Plan, held_pads, movie_of}
use Rattle.nj_game.specs.Words.{judged_of, search_verdict, game_of}
use Rattle.nj_replay.specs.Reading.{word_of}
use Rattle.nj_replay.specs.Replay.{replayed_of, replay_of}
use Rattle.nj_saved.specs.declared.saved.Saved.{Saved}
use Rattle.nj_saved.specs.Ranges.{IsInRange}
use Rattle.nj_expand.specs.Saving.{state_in, state_from}
use Rattle.nj_plan.specs.Plans.{Planned, total_steps, bounds_in}
use Rattle.nj_plan.specs.Outcomes.{outcome_from, outcome_of, reward_in}
use Rattle.nj_plan.specs.Laws.{AWonWordReplays}
use Rattle.nj_plan.proofs.Accepted.{accepted}
use Rattle.nj_plan.proofs.Sound.{front_even}

-- a movie is read as its word
abbrev pub MoviesAreRead : Type 0
MoviesAreRead =
    (hold : ℕ) (start movie : List ℕ) (word : Word) → 1 ≤ hold
    → (word_of hold start movie ≡ Ok word) ↔ (movie ≡ start ++ held_pads hold word)

-- a replay tells of its word
abbrev pub ReplaysTell : Type 0
ReplaysTell =
    (plan : Plan) (word : Word) → 1 ≤ plan.script.hold
    → replay_of plan (movie_of plan word) ≡ Ok (replayed_of plan word)

-- each pad of a word is held for the frames of a step
length-held : (hold : ℕ) (word : Word) → length (held_pads hold word) ≡ hold * length word
length-held hold [] = omega arith
length-held hold (pad ∷ word) = grind (arith, length-append, length-replicate, length-held hold word)

length-movie :
    (plan : Plan) (word : Word) → length (movie_of plan word) ≡ length plan.start + plan.script.hold * length word
unfolding movie_of
length-movie plan word =
    length-append plan.start (held_pads plan.script.hold word)
    ∙ ap (λ n. length plan.start + n) (length-held plan.script.hold word)

-- the search's win is the rules' win
wins_too : (verdict : Verdict) → search_verdict verdict ≡ Wins → verdict ≡ Win
wins_too Go h = absurd (cc)
wins_too Win h = refl
wins_too Fail h = absurd (cc)

won_by : (plan : Plan) (word : Word) → ((game_of plan).judged word).verdict ≡ Wins → (judged_of plan word).verdict ≡ Win
unfolding game_of
won_by plan word h = wins_too (judged_of plan word).verdict h

won_as : (plan : Plan) (word : Word) (step : ℕ) → length word ≡ step → (judged_of plan word).verdict ≡ Win
    → replayed_of plan word
    ≡ record { step = step; frames = length (movie_of plan word); reward = reward_in plan word; verdict = Win }
unfolding replayed_of
won_as plan word step long win =
    λ i. record { step = long i; frames = length (movie_of plan word); reward = reward_in plan word; verdict = win i }

-- a word that won: its length, its verdict and its step
record IsWonBy (planned : Planned) (saved : Option Saved) (step : ℕ) (word : Word) : Type 0 where
  within : IsWonWithin (total_steps planned.limits saved) step word
  wins : ((game_of planned.plan).judged word).verdict ≡ Wins

won_from :
    WonWordsAreAsLong → WonWins → WonWordsAreAsLongFrom → WonWinsFrom
    → (planned : Planned) (saved : Option Saved) (step : ℕ) (word : Word)
    → IfSome saved IsInRange → outcome_from planned saved ≡ WonAt step word → IsWonBy planned saved step word
unfolding state_from state_in
won_from lengths wins lengths_from wins_from planned None step word ranges won =
    let ends = lengths (game_of planned.plan) (bounds_in planned) planned.limits.steps step word won in record {
      within = record { long = ends.long; within = omega (arith, ends.within) };
      wins = wins (game_of planned.plan) (bounds_in planned) planned.limits.steps step word won;
    }
won_from lengths wins lengths_from wins_from planned (Some saved) step word ranges won =
    let from = state_from (bounds_in planned) saved in
    let ends = lengths_from (game_of planned.plan) (bounds_in planned) planned.limits.steps from step word
    (front_even saved ranges (bounds_in planned)) won in record {
      within = record { long = ends.long; within = omega (arith, ends.within) };
      wins = wins_from (game_of planned.plan) (bounds_in planned) planned.limits.steps from step word won;
    }

pub won_replays :
    WonWordsAreAsLong → WonWins → WonWordsAreAsLongFrom → WonWinsFrom → MoviesAreRead → ReplaysTell → AWonWordReplays
unfolding outcome_of movie_of
won_replays lengths wins lengths_from wins_from read tell planned step word hold ranges none won =
    let by = won_from lengths wins lengths_from wins_from planned planned.saved step word ranges won in
    let plan = planned.plan in
    let within : length word ≤ total_steps planned.limits planned.saved =
    omega (arith, by.within.long, by.within.within) in
    let fits :
    length planned.plan.start + planned.plan.script.hold * total_steps planned.limits planned.saved ≤ 2 ^ 20 =
    (accepted planned.plan planned.limits planned.saved none).movie in
    record {
      long = by.within.long;
      short_enough = omega (arith, length-movie plan word, fits, mul-le-mul_left plan.script.hold within);
      read = (read plan.script.hold plan.start (movie_of plan word) word hold).1 refl;
      replayed = tell plan word hold ∙ ap Ok (won_as plan word step by.within.long (won_by plan word by.wins));
    }
