use Rattle.std.proofs.Common.{◌≡◌, Ok, length, ap, sym, ◌∙◌, arith}
use Rattle.nj_clean.specs.Presses.{presses}
use Rattle.nj_clean.specs.Clean.{clean_of}
use Rattle.nj_clean.specs.Bench.{plan_in}
use Rattle.nj_clean.proofs.Sweeps.{cleaned_long, cleaned_fewer}
use Rattle.nj_clean.proofs.Told.{told_of_word, told_frames, end_frames, cleaned_told, ok_weaker}
use Rattle.nj_clean.proofs.cleaning.cleaned_end.Goals as goal

pub returns-in_err-won-clause-frames : goal.returns-in_err-won-clause-frames
returns-in_err-won-clause-frames g c =
    let plan = plan_in c.args.setting in
    omega (
      arith,
      told_frames plan c.args.movie.now c.args.replayed
          (c.a_read_movie_is_its_words.ensures plan.start c.args.movie.now) c.requires.told,
    )

pub returns-in_err-clear-clause-frames : goal.returns-in_err-clear-clause-frames
returns-in_err-clear-clause-frames g c =
    let plan = plan_in c.args.setting in
    let word = c.in_ok-won.won.word.items in
    let read = c.in_ok-won.ensures.word in
    end_frames plan c.args.movie.now word c.args.steps.now c.clear.new.steps read
    (c.a_read_movie_is_its_words.ensures plan.start c.args.movie.now word read)
    c.clear.ensures.frames

pub told_clean-requires-clause-few : goal.told_clean-requires-clause-few
told_clean-requires-clause-few g c =
    omega (
      arith,
      ap length c.in_ok-clear.ensures.word,
      cleaned_long (plan_in c.args.setting) c.in_ok-won.won.word.items,
      c.in_ok-won.ensures.few,
    )

pub told_clean-requires-clause-fewer : goal.told_clean-requires-clause-fewer
told_clean-requires-clause-fewer g c =
    let word = c.in_ok-won.won.word.items in
    let count = c.press_count-given.ensures ∙ ap (λ w. length (presses w)) c.as_slice.ensures.value in
    omega (
      arith,
      ap (λ w. length (presses w)) c.in_ok-clear.ensures.word,
      cleaned_fewer (plan_in c.args.setting) word c.in_ok-won.ensures.bytes,
      count,
    )

pub returns-clause-answer : goal.returns-clause-answer
returns-clause-answer g c =
    let plan = plan_in c.args.setting in
    let movie = c.args.movie.now in
    let word = c.in_ok-won.won.word.items in
    let kept = c.clear.new.won in
    let count = c.press_count-given.ensures ∙ ap (λ w. length (presses w)) c.as_slice.ensures.value in
    let told = told_of_word plan movie word c.args.replayed c.in_ok-won.ensures.word c.requires.told in
    let whole =
    cleaned_told plan movie word kept.word.items c.press_count-given.result c.args.replayed kept.reward
    c.in_ok-won.ensures.word
    c.in_ok-won.ensures.won.wins_is told count c.in_ok-clear.ensures.word c.clear.ensures.won.wins_is
    c.clear.ensures.won.reward_is in
    ok_weaker c.told_clean.result _ (λ end. clean_of plan movie ≡ Ok end)
    (λ end is. whole ∙ ap Ok (sym is)) c.told_clean.ensures

pub returns-clause-frames : goal.returns-clause-frames
returns-clause-frames g c =
    let plan = plan_in c.args.setting in
    let word = c.in_ok-won.won.word.items in
    let read = c.in_ok-won.ensures.word in
    end_frames plan c.args.movie.now word c.args.steps.now c.clear.new.steps read
    (c.a_read_movie_is_its_words.ensures plan.start c.args.movie.now word read)
    c.clear.ensures.frames
