-- A stop of the loading ends the work, and the reply to what was found is its answer.
use Rattle.std.proofs.Common.{◌∙◌, Err, ap}
use Rattle.std.proofs.lemmas.Result.{err_from_is_err_and}
use Rattle.nj_tasks.specs.Work.{found_in}
use Rattle.nj_tasks.proofs.Serving.{frames_found, serves_loaded, serves_unloaded}
use Rattle.nj_tasks.proofs.jobs.serve.Goals as goal

pub returns-in_err-said-clause-serves : goal.returns-in_err-said-clause-serves
returns-in_err-said-clause-serves g c = λ files told.
    let p = err_from_is_err_and c.from_residual.result c.from_residual.ensures.1 in
    serves_unloaded files (g.A.Source.work c.args.task.now.source) (found_in (g.J.Job.finding c.args.task.now.job)) _
    c.in_err-said.field-0.0 c.from_residual.result (p.1 ∙ ap Err p.2) (c.in_err-said.ensures.loads files told)

pub returns-clause-serves : goal.returns-clause-serves
returns-clause-serves g c = λ files told.
    serves_loaded files (g.A.Source.work c.args.task.now.source) (found_in (g.J.Job.finding c.args.task.now.job)) _ _
    c.in_ok-said.said _ (c.in_ok-said.ensures.loads files told)
    (c.reply_of.ensures.serves files c.in_ok-said.said _ c.find-found.ensures.reads)

pub returns-clause-frames : goal.returns-clause-frames
returns-clause-frames g c = λ files told.
    rw (frames_found files (g.A.Source.work c.args.task.now.source) (g.J.Job.finding c.args.task.now.job) _
    c.in_ok-said.said (c.in_ok-said.ensures.loads files told)) c.find-found.ensures.frames
