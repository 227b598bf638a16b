-- What the search answers is told as what is found.
use Rattle.std.specs.Option.{is_some}
use Rattle.nj_plan.specs.Outcomes.{frames_most}
use Rattle.nj_texts.specs.declared.kinds.Kind.TheVariants as kinds
use Rattle.nj_tasks.proofs.Serving.{told_frames}
use Rattle.nj_app.specs.Search.{found_of, limits_of, planned, search_finding, search_reading}
use Rattle.nj_app.proofs.search.SearchJobSearchInput.find.Goals as goal

pub returns-clause-reads : goal.returns-clause-reads
unfolding search_finding
returns-clause-reads g c =
    c.found_from.ensures.reads
    (search_reading (planned c.args.said.setting (limits_of c.args.self.now.options.now))
    (is_some c.args.self.now.options.now.save))
    (rw (c.limits_of.ensures.value, c.is_some-keep.ensures) at c.searched-ended.ensures.reads)

pub returns-clause-frames : goal.returns-clause-frames
unfolding search_finding
returns-clause-frames g c =
    rw (told_frames kinds.Plan (found_of c.args.said.cart_hash c.args.said.script_hash)
    (search_reading (planned c.args.said.setting (limits_of c.args.self.now.options.now))
    (is_some c.args.self.now.options.now.save))
    (frames_most (planned c.args.said.setting (limits_of c.args.self.now.options.now))))
    (rw (c.limits_of.ensures.value, c.is_some-keep.ensures) at c.searched-ended.ensures.frames)
