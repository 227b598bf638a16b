use Rattle.std.proofs.Common.{sym, ◌∙◌}
use Rattle.std.proofs.lemmas.Result.{err_from_is_err_and}
use Rattle.nj_game.specs.Plan.{plan_of}
use Rattle.nj_clean.proofs.Told.{not_won_told, refused_or_none, replay_frames}
use Rattle.nj_clean.proofs.clean.Goals as goal

pub returns-in_err-replayed-clause-answer : goal.returns-in_err-replayed-clause-answer
returns-in_err-replayed-clause-answer g c =
    let p = err_from_is_err_and c.from_residual.result c.from_residual.ensures.1 in
    let plan = plan_of c.args.cart.now c.args.script.now c.args.start.now in
    rw (p.1, p.2) (refused_or_none plan c.args.movie.now _ _ c.in_err-replayed.ensures.answer)

pub returns-in_err-replayed-clause-frames : goal.returns-in_err-replayed-clause-frames
returns-in_err-replayed-clause-frames g c =
    let plan = plan_of c.args.cart.now c.args.script.now c.args.start.now in
    replay_frames plan c.args.movie.now c.args.steps.now c.replay.new.steps
    (c.a_read_movie_is_its_words.ensures plan.start c.args.movie.now)
    c.replay.ensures.frames c.replay.ensures.refused

pub returns-then-not-is_win-clause-answer : goal.returns-then-not-is_win-clause-answer
returns-then-not-is_win-clause-answer g c =
    let plan = plan_of c.args.cart.now c.args.script.now c.args.start.now in
    not_won_told plan c.args.movie.now c.in_ok-replayed.replayed c.in_ok-replayed.ensures.answer
    (sym c.is_win.ensures ∙ c.if-not-is_win.true)

pub returns-then-not-is_win-clause-frames : goal.returns-then-not-is_win-clause-frames
returns-then-not-is_win-clause-frames g c =
    let plan = plan_of c.args.cart.now c.args.script.now c.args.start.now in
    replay_frames plan c.args.movie.now c.args.steps.now c.replay.new.steps
    (c.a_read_movie_is_its_words.ensures plan.start c.args.movie.now)
    c.replay.ensures.frames c.replay.ensures.refused
