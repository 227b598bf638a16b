-- The text is a movie within its limit, and its replay is told by the line that the text begins with.
use Rattle.std.proofs.Common.{◌≡◌, ◌<◌, ◌≤◌, ◌++◌, ℕ, ℤ, List, length, false, nat_lt, None, IfSome, Result, Ok, codes, refl, ap, sym, ◌∙◌, arith, subst}
use Rattle.std.proofs.lemmas.Bool.Decides.{nat_tests}
use Rattle.std.proofs.lemmas.List.Elements.{All-cons, All-nil}
use Rattle.nj_game.specs.Plan.{Plan, movie_of as movie_of_word}
use Rattle.nj_movie.specs.Says.{Says, nothing, skip, press}
use Rattle.nj_movie.specs.Text.{movie_of, movie_text}
use Rattle.nj_replay.specs.Replay.{replay_of}
use Rattle.nj_replay.specs.declared.Replayed.{Replayed}
use Rattle.nj_replay.specs.declared.ReplayRefused.{ReplayRefused}
use Rattle.nj_rules.specs.declared.record.Verdict.TheVariants.{Win}
use Rattle.nj_saved.specs.Ranges.{IsInRange}
use Rattle.nj_search_defs.specs.Game.{Word}
use Rattle.nj_search_defs.specs.Outcome.{WonAt}
use Rattle.nj_plan.specs.Outcomes.{outcome_of, reward_in}
use Rattle.nj_search.specs.Ends.{told_of as told_end}
use Rattle.nj_plan.specs.Plans.{Planned}
use Rattle.nj_search.specs.declared.searching.Outcome.{Outcome}
use Rattle.nj_search.specs.declared.searching.Outcome.TheVariants.{Won}
use Rattle.nj_tasks.specs.Formats.{movie_format, reading_of}
use Rattle.nj_texts.specs.Laws.{WonTextIsShort}
use Rattle.nj_texts.specs.Lines.{outcome_line}
use Rattle.nj_texts.specs.Refusals.{movie_refusal, replay_refusal}
use Rattle.nj_texts.specs.declared.kinds.Kind.TheVariants as kinds
use Rattle.nj_app.specs.Laws.{told}
use Rattle.nj_app.specs.Outcomes.{outcome_head, outcome_text}
use Rattle.nj_commands.specs.Replay.{replay_finding}
use Rattle.nj_tasks.specs.declared.formats.TheConstants.{MOVIE}
use Rattle.nj_tasks.specs.Work.{Done, accepted, done, answered_by, found_in, refusal_told}
use Rattle.nj_app.proofs.Bytes.{AreBytes, won_movie_bytes}
use Rattle.nj_app.proofs.laws.won_text_replays.Goals as goal

-- what the definitions of the outcome come to where it is won
told_won : (planned : Planned) (step : ℕ) (word : Word) → outcome_of planned ≡ WonAt step word →
    told planned ≡ Won step (reward_in planned.plan word) (movie_of_word planned.plan word)
unfolding told_end
told_won planned step word won = ap (told_end planned.plan) won

text_won : (step : ℕ) (reward : ℤ) (pads : List ℕ) →
    outcome_text (Won step reward pads) ≡ outcome_line (codes "won") step (length pads) reward ++ movie_text pads
unfolding outcome_text
text_won step reward pads = refl

-- bytes within the limit are read as the movie that they are
reading_within : (bytes pads : List ℕ) → length bytes ≤ MOVIE.limit → movie_of bytes ≡ Ok pads →
    reading_of movie_format bytes ≡ Ok pads
unfolding movie_format
reading_within bytes pads short read =
    let test : nat_lt MOVIE.limit (length bytes) ≡ false = grind (arith, nat_tests) in
    rw test (ap (refusal_told movie_refusal) read)

won_read : (step : ℕ) (reward : ℤ) (pads : List ℕ) → length pads ≤ 1048576 → WonTextIsShort →
    movie_of (outcome_line (codes "won") step (length pads) reward ++ movie_text pads) ≡ Ok pads →
    reading_of movie_format (outcome_text (Won step reward pads)) ≡ Ok pads
won_read step reward pads few short read =
    ap (reading_of movie_format) (text_won step reward pads)
    ∙ reading_within (outcome_line (codes "won") step (length pads) reward ++ movie_text pads) pads
    (omega (arith, short step (length pads) reward pads))
    read

won_answered : (plan : Plan) (step : ℕ) (reward : ℤ) (pads : List ℕ) →
    replay_of plan pads ≡ Ok (record { step = step; frames = length pads; reward = reward; verdict = Win }) →
    found_in replay_finding ((plan.cartridge, plan.script), (plan.start, pads))
    ≡ Done (done 0 (outcome_line (codes "won") step (length pads) reward) None (length pads))
unfolding replay_finding
won_answered plan step reward pads replayed =
    ap (λ (r : Result Replayed ReplayRefused). accepted kinds.Movie
    (answered_by replay_finding ((plan.cartridge, plan.script), (plan.start, pads))) (refusal_told replay_refusal r))
    replayed

-- the pads that lines say are bytes
said_bytes : (parts : List (List ℕ)) (pads : List ℕ) → Says parts pads → AreBytes pads
said_bytes parts whole nothing = All-nil (λ pad. pad < 256)
said_bytes parts whole (skip line rest pads skipped says) = said_bytes rest pads says
said_bytes parts whole (press line rest pad pads frame says) = All-cons (λ pad. pad < 256) pad pads frame.0
    (said_bytes rest pads says)

pub returns : goal.returns
returns c = λ planned step word script start script_read start_read fresh none won.
    let in_range = c.what_is_read_is_in_range.ensures script planned.plan.script script_read in
    let says = (c.a_text_says_its_pads.ensures.said start planned.plan.start start_read).0 in
    let bytes =
    won_movie_bytes c.parents_stood_before.ensures c.winner_is_best.ensures planned step word fresh won
    (said_bytes _ planned.plan.start says)
    in_range.1 in
    let replays = c.a_won_word_replays.ensures planned step word in_range.0.hold_low
    (subst (λ s. IfSome s IsInRange) (sym fresh) tt) none won in
    let pads = movie_of_word planned.plan word in
    let reward = reward_in planned.plan word in
    let is_told = told_won planned step word won in
    let few : length pads ≤ 1048576 = replays.short_enough in
    record {
      read =
          ap (λ (o : Outcome). reading_of movie_format (outcome_text o)) is_told
          ∙ won_read step reward pads few c.won_text_is_short.ensures
          (c.won_text_is_a_movie.ensures step (length pads) reward pads bytes few);
      is_of_word = replays.read;
      replayed = replays.replayed;
      answered =
          won_answered planned.plan step reward pads replays.replayed
          ∙ ap (λ (o : Outcome). Done (done 0 (outcome_head o) None (length pads))) (sym is_told);
    }
