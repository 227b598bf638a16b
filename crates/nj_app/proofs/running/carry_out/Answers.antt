-- Each command's work is what it reads and does.
use Rattle.std.proofs.Common.{◌+◌, ◌≤◌, Contains, map, subst, sym}
use Rattle.std.specs.Prelude.{IfOk}
use Rattle.nj_bytes.specs.Fnv.{fnv_of}
use Rattle.nj_tasks.specs.Causes.{IsSavedAs}
use Rattle.nj_tasks.specs.Stops.{Serves}
use Rattle.nj_tasks.specs.Work.{frames_of, given}
use Rattle.nj_app.proofs.Works.{check_is, resume_is, search_is, without_search}
use Rattle.nj_app.proofs.running.carry_out.Goals as goal

pub returns-in-Search-clause-serves : goal.returns-in-Search-clause-serves
returns-in-Search-clause-serves g c = λ files told.
    subst (λ work. Serves files work (g.S.Shelf.failed_read c.serve.new.shelf) c.serve.result)
    (search_is c.args.command.now _ _ _ _ _ _ c.in-Search.is c.searched.ensures.work c.searched.ensures.options)
    (c.serve.ensures.serves files told)

pub returns-in-Search-clause-frames : goal.returns-in-Search-clause-frames
returns-in-Search-clause-frames g c = λ files told.
    subst (λ work. c.serve.new.steps ≤ c.args.steps.now + frames_of (given files work))
    (search_is c.args.command.now _ _ _ _ _ _ c.in-Search.is c.searched.ensures.work c.searched.ensures.options)
    (c.serve.ensures.frames files told)

pub returns-in-Resume-clause-serves : goal.returns-in-Resume-clause-serves
returns-in-Resume-clause-serves g c = λ files told.
    subst (λ work. Serves files work (g.S.Shelf.failed_read c.serve-in-Resume.new.shelf) c.serve-in-Resume.result)
    (resume_is c.args.command.now _ _ _ _ _ _ _ c.in-Resume.is c.resumed-task.ensures.work
    c.resumed-task.ensures.options)
    (c.serve-in-Resume.ensures.serves files told)

pub returns-in-Resume-clause-frames : goal.returns-in-Resume-clause-frames
returns-in-Resume-clause-frames g c = λ files told.
    subst (λ work. c.serve-in-Resume.new.steps ≤ c.args.steps.now + frames_of (given files work))
    (resume_is c.args.command.now _ _ _ _ _ _ _ c.in-Resume.is c.resumed-task.ensures.work
    c.resumed-task.ensures.options)
    (c.serve-in-Resume.ensures.frames files told)

pub returns-in-Check-clause-serves : goal.returns-in-Check-clause-serves
returns-in-Check-clause-serves g c = λ files told.
    subst (λ work. Serves files work (g.S.Shelf.failed_read c.serve-in-Check.new.shelf) c.serve-in-Check.result)
    (check_is c.args.command.now _ _ _ _ c.in-Check.is c.checked.ensures.cart c.checked.ensures.script)
    (c.serve-in-Check.ensures.serves files told)

pub returns-in-Check-clause-frames : goal.returns-in-Check-clause-frames
returns-in-Check-clause-frames g c = λ files told.
    subst (λ work. c.serve-in-Check.new.steps ≤ c.args.steps.now + frames_of (given files work))
    (check_is c.args.command.now _ _ _ _ c.in-Check.is c.checked.ensures.cart c.checked.ensures.script)
    (c.serve-in-Check.ensures.frames files told)

pub returns-in_default-clause-serves : goal.returns-in_default-clause-serves
returns-in_default-clause-serves g c = λ files told.
    subst (λ work. Serves files work (g.S.Shelf.failed_read c.carry_out.new.shelf) c.carry_out.result)
    (without_search c.args.command.now c.in_default.not-Search c.in_default.not-Resume c.in_default.not-Check
    c.in_default.not-Workload).work
    (c.carry_out.ensures.serves files told)

pub returns-in_default-clause-saved : goal.returns-in_default-clause-saved
returns-in_default-clause-saved g c =
    subst (λ name. IfOk c.carry_out.result (IsSavedAs name))
    (sym (without_search c.args.command.now c.in_default.not-Search c.in_default.not-Resume c.in_default.not-Check
    c.in_default.not-Workload).saves)
    c.carry_out.ensures.saved

pub returns-in_default-clause-not_words : goal.returns-in_default-clause-not_words
returns-in_default-clause-not_words g c = λ e.
    (without_search c.args.command.now c.in_default.not-Search c.in_default.not-Resume c.in_default.not-Check
    c.in_default.not-Workload).needs (c.carry_out.ensures.not_words e)

pub returns-in_default-clause-fault_name : goal.returns-in_default-clause-fault_name
returns-in_default-clause-fault_name g c = λ e.
    subst (λ names. Contains (map fnv_of names) (g.S.Shelf.failed_read c.carry_out.new.shelf))
    (without_search c.args.command.now c.in_default.not-Search c.in_default.not-Resume c.in_default.not-Check
    c.in_default.not-Workload).names
    (c.carry_out.ensures.fault_name e)

pub returns-in_default-clause-frames : goal.returns-in_default-clause-frames
returns-in_default-clause-frames g c = λ files told.
    subst (λ work. c.carry_out.new.steps ≤ c.args.steps.now + frames_of (given files work))
    (without_search c.args.command.now c.in_default.not-Search c.in_default.not-Resume c.in_default.not-Check
    c.in_default.not-Workload).work
    (c.carry_out.ensures.frames files told)
