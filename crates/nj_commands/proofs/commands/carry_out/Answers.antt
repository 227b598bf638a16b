-- Each command's work is what it reads and does.
use Rattle.std.proofs.Common.{◌+◌, ◌≤◌, ap, subst}
use Rattle.nj_tasks.specs.Stops.{Ends, Serves}
use Rattle.nj_tasks.specs.Work.{frames_of, given}
use Rattle.nj_commands.proofs.Works.{asm_is, clean_is, is_other, play_is, replay_is, trace_is, watch_is}
use Rattle.nj_commands.proofs.commands.carry_out.Goals as goal

pub returns-in-Play-clause-serves : goal.returns-in-Play-clause-serves
returns-in-Play-clause-serves g c = λ files told.
    subst (λ work. Serves files work (g.S.Shelf.failed_read c.serve.new.shelf) c.serve.result)
    (play_is c.args.command.now _ _ _ _ c.in-Play.is c.played.ensures.cart c.played.ensures.movie)
    (c.serve.ensures.serves files told)

pub returns-in-Play-clause-frames : goal.returns-in-Play-clause-frames
returns-in-Play-clause-frames g c = λ files told.
    subst (λ work. c.serve.new.steps ≤ c.args.steps.now + frames_of (given files work))
    (play_is c.args.command.now _ _ _ _ c.in-Play.is c.played.ensures.cart c.played.ensures.movie)
    (c.serve.ensures.frames files told)

pub returns-in-Replay-clause-serves : goal.returns-in-Replay-clause-serves
returns-in-Replay-clause-serves g c = λ files told.
    subst (λ work. Serves files work (g.S.Shelf.failed_read c.serve-in-Replay.new.shelf) c.serve-in-Replay.result)
    (replay_is c.args.command.now _ _ _ _ _ _ _ _ c.in-Replay.is c.replayed.ensures.cart c.replayed.ensures.script
    c.replayed.ensures.start c.replayed.ensures.movie)
    (c.serve-in-Replay.ensures.serves files told)

pub returns-in-Replay-clause-frames : goal.returns-in-Replay-clause-frames
returns-in-Replay-clause-frames g c = λ files told.
    subst (λ work. c.serve-in-Replay.new.steps ≤ c.args.steps.now + frames_of (given files work))
    (replay_is c.args.command.now _ _ _ _ _ _ _ _ c.in-Replay.is c.replayed.ensures.cart c.replayed.ensures.script
    c.replayed.ensures.start c.replayed.ensures.movie)
    (c.serve-in-Replay.ensures.frames files told)

pub returns-in-Asm-clause-serves : goal.returns-in-Asm-clause-serves
returns-in-Asm-clause-serves g c = λ files told.
    subst (λ work. Serves files work (g.S.Shelf.failed_read c.serve-in-Asm.new.shelf) c.serve-in-Asm.result)
    (asm_is c.args.command.now _ _ c.in-Asm.is c.assembled.ensures.source)
    (c.serve-in-Asm.ensures.serves files told)

pub returns-in-Asm-clause-frames : goal.returns-in-Asm-clause-frames
returns-in-Asm-clause-frames g c = λ files told.
    subst (λ work. c.serve-in-Asm.new.steps ≤ c.args.steps.now + frames_of (given files work))
    (asm_is c.args.command.now _ _ c.in-Asm.is c.assembled.ensures.source)
    (c.serve-in-Asm.ensures.frames files told)

pub returns-in-Clean-clause-serves : goal.returns-in-Clean-clause-serves
returns-in-Clean-clause-serves g c = λ files told.
    subst (λ work. Serves files work (g.S.Shelf.failed_read c.serve-in-Clean.new.shelf) c.serve-in-Clean.result)
    (clean_is c.args.command.now _ _ _ _ _ _ _ _ c.in-Clean.is c.cleaned.ensures.cart c.cleaned.ensures.script
    c.cleaned.ensures.start c.cleaned.ensures.movie)
    (c.serve-in-Clean.ensures.serves files told)

pub returns-in-Clean-clause-frames : goal.returns-in-Clean-clause-frames
returns-in-Clean-clause-frames g c = λ files told.
    subst (λ work. c.serve-in-Clean.new.steps ≤ c.args.steps.now + frames_of (given files work))
    (clean_is c.args.command.now _ _ _ _ _ _ _ _ c.in-Clean.is c.cleaned.ensures.cart c.cleaned.ensures.script
    c.cleaned.ensures.start c.cleaned.ensures.movie)
    (c.serve-in-Clean.ensures.frames files told)

pub returns-in-Trace-clause-serves : goal.returns-in-Trace-clause-serves
returns-in-Trace-clause-serves g c = λ files told.
    subst (λ work. Serves files work (g.S.Shelf.failed_read c.serve-in-Trace.new.shelf) c.serve-in-Trace.result)
    (trace_is c.args.command.now _ _ _ _ _ _ c.in-Trace.is c.traced.ensures.cart c.traced.ensures.movie
    c.traced.ensures.frame)
    (c.serve-in-Trace.ensures.serves files told)

pub returns-in-Trace-clause-frames : goal.returns-in-Trace-clause-frames
returns-in-Trace-clause-frames g c = λ files told.
    subst (λ work. c.serve-in-Trace.new.steps ≤ c.args.steps.now + frames_of (given files work))
    (trace_is c.args.command.now _ _ _ _ _ _ c.in-Trace.is c.traced.ensures.cart c.traced.ensures.movie
    c.traced.ensures.frame)
    (c.serve-in-Trace.ensures.frames files told)

pub returns-in-Watch-clause-serves : goal.returns-in-Watch-clause-serves
returns-in-Watch-clause-serves g c = λ files told.
    subst (λ work. Serves files work (g.S.Shelf.failed_read c.serve-in-Watch.new.shelf) c.serve-in-Watch.result)
    (watch_is c.args.command.now _ _ _ _ _ _ c.in-Watch.is c.watched.ensures.cart c.watched.ensures.script
    c.watched.ensures.movie)
    (c.serve-in-Watch.ensures.serves files told)

pub returns-in-Watch-clause-frames : goal.returns-in-Watch-clause-frames
returns-in-Watch-clause-frames g c = λ files told.
    subst (λ work. c.serve-in-Watch.new.steps ≤ c.args.steps.now + frames_of (given files work))
    (watch_is c.args.command.now _ _ _ _ _ _ c.in-Watch.is c.watched.ensures.cart c.watched.ensures.script
    c.watched.ensures.movie)
    (c.serve-in-Watch.ensures.frames files told)

pub returns-in_default-clause-serves : goal.returns-in_default-clause-serves
unfolding Serves Ends
returns-in_default-clause-serves g c = λ files told.
    ap (given files) (is_other c.args.command.now c.in_default.not-Play c.in_default.not-Replay c.in_default.not-Asm
    c.in_default.not-Clean c.in_default.not-Trace c.in_default.not-Watch).work

pub returns-in_default-clause-not_words : goal.returns-in_default-clause-not_words
returns-in_default-clause-not_words g c = λ e.
    (is_other c.args.command.now c.in_default.not-Play c.in_default.not-Replay c.in_default.not-Asm
    c.in_default.not-Clean c.in_default.not-Trace c.in_default.not-Watch).needs
