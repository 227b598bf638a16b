-- A stop of the loading ends the work, and the reply to what was found is its answer.
use Rattle.std.proofs.Common.{◌∙◌, Err, ap}
use Rattle.std.proofs.lemmas.Result.{err_from_is_err_and}
use Rattle.nj_tasks.specs.Work.{found_in}
use Rattle.nj_tasks.proofs.Serving.{frames_found, serves_loaded, serves_unloaded}
use Rattle.nj_app.specs.Search.{search_finding, works_of}
use Rattle.nj_app.proofs.Counters.{none_counted, none_fell}
use Rattle.nj_app.proofs.search.share.Goals as goal

pub returns-in_err-said-clause-serves : goal.returns-in_err-said-clause-serves
returns-in_err-said-clause-serves g c = λ files told.
    let p = err_from_is_err_and c.from_residual.result c.from_residual.ensures.1 in
    serves_unloaded files (works_of c.args.files.now) (found_in (search_finding c.args.options.now)) _
    c.in_err-said.field-0.0 c.from_residual.result (p.1 ∙ ap Err p.2) (c.in_err-said.ensures.loads files told)

pub returns-in_err-said-clause-frames : goal.returns-in_err-said-clause-frames
returns-in_err-said-clause-frames g c = λ files told. none_counted _ _ _

pub returns-in_err-said-clause-never_falls : goal.returns-in_err-said-clause-never_falls
returns-in_err-said-clause-never_falls g c = none_fell _

pub returns-clause-serves : goal.returns-clause-serves
returns-clause-serves g c = λ files told.
    serves_loaded files (works_of c.args.files.now) (found_in (search_finding c.args.options.now)) _ _
    c.in_ok-said.said _ (c.in_ok-said.ensures.loads files told)
    (c.reply_of.ensures.serves files c.in_ok-said.said _ c.found_by_workers-found.ensures.reads)

pub returns-clause-frames : goal.returns-clause-frames
returns-clause-frames g c = λ files told.
    rw (frames_found files (works_of c.args.files.now) (search_finding c.args.options.now) _ c.in_ok-said.said
    (c.in_ok-said.ensures.loads files told)) c.found_by_workers-found.ensures.frames

pub returns-clause-never_falls : goal.returns-clause-never_falls
returns-clause-never_falls g c = c.found_by_workers-found.ensures.frames.none_falls
