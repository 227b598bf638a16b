-- A plan that is not refused is searched, and the frames of all workers are the search's.
use Rattle.nj_texts.specs.declared.kinds.Kind.TheVariants as kinds
use Rattle.nj_app.specs.Refusals.{plan_refusal}
use Rattle.nj_app.specs.Search.{planned, search_reading}
use Rattle.nj_app.specs.declared.sharing.TheConstants.{COUNTERS}
use Rattle.nj_app.proofs.Counters.{by_more, none_counted}
use Rattle.nj_app.proofs.Searching.{found_frames, is_found, is_refused}
use Rattle.nj_tasks.proofs.Serving.{refused_reads}
use Rattle.nj_app.proofs.planning.searched_by_workers.Goals as goal

pub returns-in_err-search_shared-in-Ok-clause-frames : goal.returns-in_err-search_shared-in-Ok-clause-frames
returns-in_err-search_shared-in-Ok-clause-frames g c =
    rw (found_frames (planned c.args.setting c.args.limits) c.args.keep c.in-Ok.plan c.in-Ok.ensures.0
    c.in-Ok.ensures.1)
    (by_more c.args.workers COUNTERS _ _ _ c.requires.workers.1 c.search_shared.ensures.frames)

pub returns-in_ok-search_shared-in-Ok-clause-reads : goal.returns-in_ok-search_shared-in-Ok-clause-reads
returns-in_ok-search_shared-in-Ok-clause-reads g c =
    is_found (planned c.args.setting c.args.limits) c.args.keep c.in-Ok.plan _ c.in-Ok.ensures.0 c.in-Ok.ensures.1
    c.in_ok-search_shared-in-Ok.ensures.ended

pub returns-in_ok-search_shared-in-Ok-clause-frames : goal.returns-in_ok-search_shared-in-Ok-clause-frames
returns-in_ok-search_shared-in-Ok-clause-frames g c =
    rw (found_frames (planned c.args.setting c.args.limits) c.args.keep c.in-Ok.plan c.in-Ok.ensures.0
    c.in-Ok.ensures.1)
    (by_more c.args.workers COUNTERS _ _ _ c.requires.workers.1 c.search_shared.ensures.frames)

pub returns-in-Err-clause-reads : goal.returns-in-Err-clause-reads
returns-in-Err-clause-reads g c =
    refused_reads kinds.Plan (search_reading (planned c.args.setting c.args.limits) c.args.keep)
    (plan_refusal c.in-Err.refusal) c.refused.result
    (is_refused (planned c.args.setting c.args.limits) c.args.keep c.in-Err.refusal c.in-Err.ensures) c.refused.ensures

pub returns-in-Err-clause-frames : goal.returns-in-Err-clause-frames
returns-in-Err-clause-frames g c = none_counted COUNTERS _ _
