-- The counters of the candidates, and of those that are kept.
use Rattle.nj_workers.proofs.Counters.{counted_whole}
use Rattle.nj_workers.proofs.next.by_workers.Goals as goal

pub returns-in_err-parts-in-Keeps-clause-frames : goal.returns-in_err-parts-in-Keeps-clause-frames
returns-in_err-parts-in-Keeps-clause-frames g c =
    counted_whole c.args.workers c.args.search.now c.in_ok-stepped.field-0 c.in-Keeps.kept c.as_slice.result.now
    c.args.steps.now.items c.made.new.steps.items c.run_kept.new.steps.items c.in_ok-stepped.ensures c.in-Keeps.is
    c.as_slice.ensures.value c.made.ensures.frames c.run_kept.ensures.frames

pub returns-in_err-go_on-in-Keeps-clause-frames : goal.returns-in_err-go_on-in-Keeps-clause-frames
returns-in_err-go_on-in-Keeps-clause-frames g c =
    counted_whole c.args.workers c.args.search.now c.in_ok-stepped.field-0 c.in-Keeps.kept c.as_slice.result.now
    c.args.steps.now.items c.made.new.steps.items c.run_kept.new.steps.items c.in_ok-stepped.ensures c.in-Keeps.is
    c.as_slice.ensures.value c.made.ensures.frames c.run_kept.ensures.frames

pub returns-in_ok-go_on-in-Keeps-clause-frames : goal.returns-in_ok-go_on-in-Keeps-clause-frames
returns-in_ok-go_on-in-Keeps-clause-frames g c =
    counted_whole c.args.workers c.args.search.now c.in_ok-stepped.field-0 c.in-Keeps.kept c.as_slice.result.now
    c.args.steps.now.items c.made.new.steps.items c.run_kept.new.steps.items c.in_ok-stepped.ensures c.in-Keeps.is
    c.as_slice.ensures.value c.made.ensures.frames c.run_kept.ensures.frames
