-- A stop of the finding is its refusal's, and what is told of what was found is the answer.
use Rattle.std.proofs.Common.{◌∙◌, Err, ap, subst}
use Rattle.std.proofs.lemmas.Result.{err_from_is_err_and}
use Rattle.nj_tasks.specs.Stops.{Reads}
use Rattle.nj_tasks.specs.Work.{answered_by}
use Rattle.nj_tasks.proofs.Serving.{reading_serves, reading_stops, serves_no_memory, serves_reply}
use Rattle.nj_tasks.proofs.jobs.reply_of.Goals as goal

pub returns-in_err-found-clause-serves : goal.returns-in_err-found-clause-serves
returns-in_err-found-clause-serves g c = λ files said failed reads.
    let p = err_from_is_err_and c.from_residual.result c.from_residual.ensures.1 in
    let finding = g.J.Job.finding c.args.job.now in
    reading_stops files finding.kind (finding.reading said) (answered_by finding said) failed c.in_err-found.field-0.0
    c.from_residual.result (p.1 ∙ ap Err p.2)
    (subst (λ r. Reads finding.kind (finding.reading said) r) c.in_err-found.was reads)

pub returns-in_err-reply-clause-serves : goal.returns-in_err-reply-clause-serves
returns-in_err-reply-clause-serves g c = λ files said failed reads.
    let p = err_from_is_err_and c.from_residual-in_err-reply.result c.from_residual-in_err-reply.ensures.1 in
    serves_no_memory files _ _ c.from_residual-in_err-reply.result _ p.1 p.2

pub returns-clause-serves : goal.returns-clause-serves
returns-clause-serves g c = λ files said failed reads.
    let finding = g.J.Job.finding c.args.job.now in
    reading_serves files finding.kind (finding.reading said) (answered_by finding said) failed
    c.in_ok-found.found _ (subst (λ r. Reads finding.kind (finding.reading said) r) c.in_ok-found.was reads)
    (serves_reply files _ _ (finding.frames said) _ _ c.in_ok-reply.field-0 c.in_ok-reply.ensures.status
    c.in_ok-reply.ensures.text c.in_ok-reply.ensures.file)
