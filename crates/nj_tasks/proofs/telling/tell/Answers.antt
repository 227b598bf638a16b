-- A reply is handed over, and a stop has its line.
use Rattle.std.proofs.Common.{Err, lit<, refl, ap, ◌∙◌, subst}
use Rattle.std.specs.Prelude.{IfOk}
use Rattle.nj_outside.specs.Told.{appended}
use Rattle.nj_tasks.specs.Causes.{IsSavedAs}
use Rattle.nj_tasks.specs.Stops.{Serves}
use Rattle.nj_tasks.proofs.Statuses.{carried_out_reply, failed_either, reply_answers, reply_fails, reply_saves, stop_completes, stop_line, stop_reaches, stop_saves, stop_settles, unless_failed, unsaved_files}
use Rattle.nj_tasks.proofs.telling.tell.Goals as goal

pub returns-in-Ok-hand_over-clause-known : goal.returns-in-Ok-hand_over-clause-known
returns-in-Ok-hand_over-clause-known g c = carried_out_reply c.args.reply c.in-Ok.reply c.in-Ok.is c.requires.done

pub returns-in-Ok-hand_over-clause-content : goal.returns-in-Ok-hand_over-clause-content
returns-in-Ok-hand_over-clause-content g c = λ name saved limit eight.
    unsaved_files name c.in-Ok.reply _ _ (subst (λ r. IfOk r (IsSavedAs name)) c.in-Ok.is saved) limit
    c.in-Ok-hand_over.ensures.saved

pub returns-in-Ok-hand_over-clause-saved : goal.returns-in-Ok-hand_over-clause-saved
returns-in-Ok-hand_over-clause-saved g c = λ files work failed serves plain.
    reply_saves files work failed c.in-Ok.reply _ _ (subst (λ r. Serves files work failed r) c.in-Ok.is serves)
    c.in-Ok-hand_over.ensures.saved

pub returns-in-Ok-hand_over-clause-settled : goal.returns-in-Ok-hand_over-clause-settled
returns-in-Ok-hand_over-clause-settled g c = λ files work failed serves plain.
    reply_answers files work failed c.in-Ok.reply _ _ (subst (λ r. Serves files work failed r) c.in-Ok.is serves)
    c.in-Ok-hand_over.ensures.written

pub returns-in-Ok-hand_over-clause-complete : goal.returns-in-Ok-hand_over-clause-complete
returns-in-Ok-hand_over-clause-complete g c = λ files work failed serves reads writes puts memory.
    reply_answers files work failed c.in-Ok.reply _ _ (subst (λ r. Serves files work failed r) c.in-Ok.is serves)
    c.in-Ok-hand_over.ensures.written

pub returns-in-Ok-clause-known : goal.returns-in-Ok-clause-known
returns-in-Ok-clause-known g c = (8, lit< tt, refl)

pub returns-in-Ok-clause-write_fault : goal.returns-in-Ok-clause-write_fault
returns-in-Ok-clause-write_fault g c = λ name saved eight.
    failed_either name c.in-Ok.reply _ _ _ (subst (λ r. IfOk r (IsSavedAs name)) c.in-Ok.is saved)
    c.in-Err-hand_over.ensures.fault

pub returns-in-Ok-clause-cut_short : goal.returns-in-Ok-clause-cut_short
returns-in-Ok-clause-cut_short g c = λ files work failed serves eight.
    reply_fails files work failed c.in-Ok.reply _ _ _ _ _ (subst (λ r. Serves files work failed r) c.in-Ok.is serves)
    c.in-Err-hand_over.ensures.fault

pub returns-in-Ok-clause-line : goal.returns-in-Ok-clause-line
returns-in-Ok-clause-line g c = λ files work failed serves never.
    unless_failed c.write_all.result c.write_all.ensures.ok c.write_all.ensures.fault never

pub returns-in-Ok-clause-fixed_line : goal.returns-in-Ok-clause-fixed_line
returns-in-Ok-clause-fixed_line g c = λ line fixed never.
    unless_failed c.write_all.result c.write_all.ensures.ok c.write_all.ensures.fault never
    ∙ ap (λ bytes. appended (g.E.Sink.written c.args.err.now) bytes) (cc fixed)

pub returns-clause-saved : goal.returns-clause-saved
returns-clause-saved g c = λ files work failed serves plain.
    stop_saves files work failed c.in-Err.stop c.status.result _
    (subst (λ r. Serves files work failed r) c.in-Err.is serves) c.status.ensures plain

pub returns-clause-settled : goal.returns-clause-settled
returns-clause-settled g c = λ files work failed serves plain.
    stop_settles files work failed c.in-Err.stop c.status.result _
    (subst (λ r. Serves files work failed r) c.in-Err.is serves) c.status.ensures plain

pub returns-clause-complete : goal.returns-clause-complete
returns-clause-complete g c = λ files work failed serves reads writes puts memory.
    stop_completes files work failed c.in-Err.stop c.status.result _
    (subst (λ r. Serves files work failed r) c.in-Err.is serves) c.status.ensures
    (λ e. reads (c.in-Err.is ∙ ap Err e)) memory

pub returns-clause-read_in_order : goal.returns-clause-read_in_order
returns-clause-read_in_order g c = λ files work failed serves seven.
    stop_reaches files work failed c.in-Err.stop c.status.result
    (subst (λ r. Serves files work failed r) c.in-Err.is serves) c.status.ensures seven

pub returns-clause-line : goal.returns-clause-line
returns-clause-line g c = λ files work failed serves never.
    unless_failed c.write_all-in-Err.result c.write_all-in-Err.ensures.ok c.write_all-in-Err.ensures.fault never
    ∙ ap (λ bytes. appended (g.E.Sink.written c.args.err.now) bytes)
    (stop_line files work failed c.in-Err.stop c.status.result c.line.result.now
    (subst (λ r. Serves files work failed r) c.in-Err.is serves) c.status.ensures c.line.ensures)
