-- What is told of the reply is told of the answer; the reply read the shelf and left all else of it.
use Rattle.std.proofs.Common.{map, string_bytes, subst, sym}
use Rattle.nj_outside.specs.Rise.{Rose}
use Rattle.nj_app.specs.Answer.{work_for}
use Rattle.nj_tasks.specs.Work.{Reaches}
use Rattle.nj_app.proofs.running.run_plain.Goals as goal

pub returns-clause-settled : goal.returns-clause-settled
returns-clause-settled g c = λ files told. c.tell.ensures.settled files _ _ (c.reply_to-reply.ensures.serves files told)

pub returns-clause-saved : goal.returns-clause-saved
returns-clause-saved g c = λ files told plain.
    rw c.reply_to-reply.ensures.content at (c.tell.ensures.saved files _ _
    (c.reply_to-reply.ensures.serves files told) plain)

pub returns-clause-complete : goal.returns-clause-complete
returns-clause-complete g c = λ files told reads writes puts memory.
    c.tell.ensures.complete files _ _ (c.reply_to-reply.ensures.serves files told)
    (λ e. reads (subst (λ n. Rose (g.S.Shelf.read_faults c.args.shelf.now) n) (sym c.tell.ensures.read_faults)
    (c.reply_to-reply.ensures.fault e))) writes
    (λ rose. puts (subst (λ n. Rose n (g.S.Shelf.put_faults c.tell.new.shelf)) c.reply_to-reply.ensures.put_faults
    rose)) memory

pub returns-clause-read_in_order : goal.returns-clause-read_in_order
returns-clause-read_in_order g c = λ files told seven.
    subst (λ hash. Reaches files (work_for (map string_bytes c.args.words.now)) hash) (sym c.tell.ensures.failed_read)
    (c.tell.ensures.read_in_order files _ _ (c.reply_to-reply.ensures.serves files told) seven)

pub returns-clause-cut_short : goal.returns-clause-cut_short
returns-clause-cut_short g c = λ files told eight.
    rw (c.reply_to-reply.ensures.content, c.reply_to-reply.ensures.put_faults) at
    (c.tell.ensures.cut_short files _ _ (c.reply_to-reply.ensures.serves files told) eight)

pub returns-clause-line : goal.returns-clause-line
returns-clause-line g c = λ files told never.
    c.tell.ensures.line files _ _ (c.reply_to-reply.ensures.serves files told) never
