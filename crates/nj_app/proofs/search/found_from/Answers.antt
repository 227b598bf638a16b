-- A stop of the planning stays, and what the search answers is told as what is found.
use Rattle.std.proofs.Common.{◌∙◌, Err, ap, subst}
use Rattle.std.proofs.lemmas.Result.{err_from_is_err_and}
use Rattle.nj_tasks.specs.Stops.{Reads}
use Rattle.nj_tasks.proofs.Serving.{reads_no_memory, told_reads, told_stops}
use Rattle.nj_texts.specs.declared.kinds.Kind.TheVariants as kinds
use Rattle.nj_app.specs.Search.{found_of}
use Rattle.nj_app.proofs.search.found_from.Goals as goal

pub returns-in_err-ended-clause-reads : goal.returns-in_err-ended-clause-reads
returns-in_err-ended-clause-reads c = λ reading reads.
    let p = err_from_is_err_and c.from_residual.result c.from_residual.ensures.1 in
    told_stops kinds.Plan (found_of c.args.cart c.args.script) reading c.from_residual.result c.in_err-ended.field-0.0
    (p.1 ∙ ap Err p.2) (subst (λ r. Reads kinds.Plan reading r) c.in_err-ended.was reads)

pub returns-in_err-found_of-clause-reads : goal.returns-in_err-found_of-clause-reads
returns-in_err-found_of-clause-reads c = λ reading reads.
    let p = err_from_is_err_and c.from_residual-in_err-found_of.result c.from_residual-in_err-found_of.ensures.1 in
    reads_no_memory _ _ c.from_residual-in_err-found_of.result _ p.1 p.2

pub returns-clause-reads : goal.returns-clause-reads
returns-clause-reads c = λ reading reads.
    told_reads kinds.Plan (found_of c.args.cart c.args.script) reading c.in_ok-ended.ended _
    (subst (λ r. Reads kinds.Plan reading r) c.in_ok-ended.was reads) c.in_ok-found_of.ensures
