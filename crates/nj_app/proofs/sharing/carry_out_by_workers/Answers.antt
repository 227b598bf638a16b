-- A search is shared; every other command is carried out on the first counter.
use Rattle.std.proofs.Common.{arith, refl, subst}
use Rattle.nj_words.specs.Commands.{IsInRange}
use Rattle.nj_workers.specs.Counted.{AreCounted}
use Rattle.nj_tasks.specs.Stops.{Serves}
use Rattle.nj_tasks.specs.Work.{frames_of, given}
use Rattle.nj_app.specs.declared.sharing.TheConstants.{COUNTERS}
use Rattle.nj_app.proofs.Works.{resume_is, search_is}
use Rattle.nj_app.proofs.Counters.{by_more, first_counted}
use Rattle.nj_app.proofs.sharing.carry_out_by_workers.Goals as goal

pub share-requires-clause-options : goal.share-requires-clause-options
unfolding IsInRange
share-requires-clause-options g c = λ lifetimes rule. subst IsInRange c.in-Search.is c.requires.range

pub returns-in-Search-clause-serves : goal.returns-in-Search-clause-serves
returns-in-Search-clause-serves g c = λ files told.
    subst (λ work. Serves files work (g.S.Shelf.failed_read c.share.new.shelf) c.share.result)
    (search_is c.args.command.now _ _ _ _ _ _ c.in-Search.is c.searched-task.ensures.work refl)
    (c.share.ensures.serves files told)

pub returns-in-Search-clause-frames : goal.returns-in-Search-clause-frames
returns-in-Search-clause-frames g c = λ files told.
    subst (λ work. AreCounted COUNTERS c.args.steps.now.items c.share.new.steps.items (frames_of (given files work)))
    (search_is c.args.command.now _ _ _ _ _ _ c.in-Search.is c.searched-task.ensures.work refl)
    (c.share.ensures.frames files told)

pub share-requires-in-Resume-clause-options : goal.share-requires-in-Resume-clause-options
unfolding IsInRange
share-requires-in-Resume-clause-options g c = λ lifetimes rule. subst IsInRange c.in-Resume.is c.requires.range

pub returns-in-Resume-clause-serves : goal.returns-in-Resume-clause-serves
returns-in-Resume-clause-serves g c = λ files told.
    subst (λ work. Serves files work (g.S.Shelf.failed_read c.share-in-Resume.new.shelf) c.share-in-Resume.result)
    (resume_is c.args.command.now _ _ _ _ _ _ _ c.in-Resume.is c.resumed-task.ensures.work refl)
    (c.share-in-Resume.ensures.serves files told)

pub returns-in-Resume-clause-frames : goal.returns-in-Resume-clause-frames
returns-in-Resume-clause-frames g c = λ files told.
    subst (λ work. AreCounted COUNTERS c.args.steps.now.items c.share-in-Resume.new.steps.items
    (frames_of (given files work)))
    (resume_is c.args.command.now _ _ _ _ _ _ _ c.in-Resume.is c.resumed-task.ensures.work refl)
    (c.share-in-Resume.ensures.frames files told)

pub returns-in_default-clause-frames : goal.returns-in_default-clause-frames
returns-in_default-clause-frames g c = λ files told.
    by_more 1 COUNTERS _ _ _ (omega arith)
    (first_counted _ _ _ _ _ (omega (arith, c.requires.counters)) c.index_mut.ensures.value
    c.carry_out.ensures.never_falls (c.carry_out.ensures.frames files told))

pub returns-in_default-clause-never_falls : goal.returns-in_default-clause-never_falls
returns-in_default-clause-never_falls g c =
    (first_counted _ _ _ _ c.carry_out.new.steps (omega (arith, c.requires.counters)) c.index_mut.ensures.value
    c.carry_out.ensures.never_falls (omega arith)).none_falls
