-- What is told of the reply is told of the answer; the reply read the shelf and left all else of it.
use Rattle.std.proofs.Common.{◌∙◌, map, string_bytes, subst, sym}
use Rattle.nj_outside.specs.Rise.{Rose}
use Rattle.nj_app.specs.Answer.{IsOfCommand, work_for}
use Rattle.nj_tasks.specs.Work.{Reaches}
use Rattle.nj_words.specs.Commands.{reading}
use Rattle.nj_app.proofs.Lines.{either}
use Rattle.nj_app.proofs.sharing.run.Goals as goal

pub returns-clause-settled : goal.returns-clause-settled
returns-clause-settled g c =
    λ files told. c.tell.ensures.settled files _ _ (c.reply_by_workers-reply.ensures.serves files told)

pub returns-clause-saved : goal.returns-clause-saved
returns-clause-saved g c = λ files told plain.
    rw c.reply_by_workers-reply.ensures.content at
    (c.tell.ensures.saved files _ _ (c.reply_by_workers-reply.ensures.serves files told) plain)

pub returns-clause-complete : goal.returns-clause-complete
returns-clause-complete g c = λ files told reads writes puts memory.
    c.tell.ensures.complete files _ _ (c.reply_by_workers-reply.ensures.serves files told)
    (λ e. reads (subst (λ n. Rose (g.S.Shelf.read_faults c.args.shelf.now) n) (sym c.tell.ensures.read_faults)
    (c.reply_by_workers-reply.ensures.fault e))) writes
    (λ rose. puts (subst (λ n. Rose n (g.S.Shelf.put_faults c.tell.new.shelf))
    c.reply_by_workers-reply.ensures.put_faults rose)) memory

pub returns-clause-read_in_order : goal.returns-clause-read_in_order
returns-clause-read_in_order g c = λ files told seven.
    subst (λ hash. Reaches files (work_for (map string_bytes c.args.words.now)) hash) (sym c.tell.ensures.failed_read)
    (c.tell.ensures.read_in_order files _ _ (c.reply_by_workers-reply.ensures.serves files told) seven)

pub returns-clause-cut_short : goal.returns-clause-cut_short
returns-clause-cut_short g c = λ files told eight.
    rw (c.reply_by_workers-reply.ensures.content, c.reply_by_workers-reply.ensures.put_faults) at
    (c.tell.ensures.cut_short files _ _ (c.reply_by_workers-reply.ensures.serves files told) eight)

pub returns-clause-line : goal.returns-clause-line
returns-clause-line g c = λ files told never.
    c.tell.ensures.line files _ _ (c.reply_by_workers-reply.ensures.serves files told) never

pub returns-clause-known : goal.returns-clause-known
returns-clause-known g c = c.tell.ensures.known

pub returns-clause-content : goal.returns-clause-content
returns-clause-content g c = λ not_two not_eight.
    c.tell.ensures.content _ c.reply_by_workers-reply.ensures.saved not_two not_eight
    ∙ c.reply_by_workers-reply.ensures.content

pub returns-clause-usage : goal.returns-clause-usage
returns-clause-usage g c = λ three. c.reply_by_workers-reply.ensures.usage (c.tell.ensures.usage three)

pub returns-clause-unread : goal.returns-clause-unread
returns-clause-unread g c = λ none.
    either c.tell.ensures.unread c.tell.ensures.no_memory (c.reply_by_workers-reply.ensures.unread none)

pub returns-clause-read_of_command : goal.returns-clause-read_of_command
returns-clause-read_of_command g c = λ seven.
    subst (λ hash. IsOfCommand (reading (map string_bytes c.args.words.now)) hash) (sym c.tell.ensures.failed_read)
    (c.reply_by_workers-reply.ensures.fault_name (c.tell.ensures.read_fault seven))

pub returns-clause-no_read_fault : goal.returns-clause-no_read_fault
returns-clause-no_read_fault g c = λ not_seven.
    c.tell.ensures.read_faults ∙ c.reply_by_workers-reply.ensures.no_fault (c.tell.ensures.no_read_fault not_seven)

pub returns-clause-write_fault : goal.returns-clause-write_fault
returns-clause-write_fault g c = λ eight.
    rw c.reply_by_workers-reply.ensures.put_faults at (c.tell.ensures.write_fault _ c.reply_by_workers-reply.ensures.saved eight)

pub returns-clause-no_write_fault : goal.returns-clause-no_write_fault
returns-clause-no_write_fault g c = c.tell.ensures.no_write_fault

pub returns-clause-no_put_fault : goal.returns-clause-no_put_fault
returns-clause-no_put_fault g c = λ not_eight.
    c.tell.ensures.no_put_fault not_eight ∙ c.reply_by_workers-reply.ensures.put_faults

pub returns-clause-silent : goal.returns-clause-silent
returns-clause-silent g c = c.tell.ensures.silent

pub returns-clause-fixed_line : goal.returns-clause-fixed_line
returns-clause-fixed_line g c = c.tell.ensures.fixed_line

pub returns-clause-frames : goal.returns-clause-frames
returns-clause-frames g c = c.reply_by_workers-reply.ensures.frames

pub returns-clause-no_frames : goal.returns-clause-no_frames
returns-clause-no_frames g c = c.reply_by_workers-reply.ensures.no_frames

pub returns-clause-never_falls : goal.returns-clause-never_falls
returns-clause-never_falls g c = c.reply_by_workers-reply.ensures.never_falls
