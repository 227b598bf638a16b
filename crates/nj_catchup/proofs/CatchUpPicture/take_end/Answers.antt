-- Where dots are pending no end is marked.
use Rattle.std.proofs.Common.{sym, ap, ◌∙◌}
use Rattle.nj_dots.specs.Dots.{after_dots}
use Rattle.nj_catchup.specs.Limit.{pending_of}
use Rattle.nj_catchup.proofs.Calm.{ended-after, unmarked-same}
use Rattle.nj_catchup.proofs.Limits.{none-marked}
use Rattle.nj_catchup.proofs.Marks.{unmarked-after}
use Rattle.nj_catchup.proofs.CatchUpPicture.take_end.Goals as goal

pub returns-then-ended-clause-told : goal.returns-then-ended-clause-told
returns-then-ended-clause-told c = λ p.
    let s = c.args.self.now in
    sym (ended-after (pending_of s.lull) p s.screen s.fits s.lulls.before_event)

pub returns-then-ended-clause-taken : goal.returns-then-ended-clause-taken
returns-then-ended-clause-taken c = λ p.
    let s = c.args.self.now in
    let e = c.take_mark.new.self in
    let none = none-marked s.lull s.screen s.lulls in
    ap (λ k. after_dots k p e.screen) (c.take_mark.ensures.pending ∙ sym (none c.if-ended.true))
    ∙ unmarked-after (pending_of s.lull) p s.screen e.screen s.fits s.lulls.before_event none c.take_mark.ensures.screen

pub returns-else-ended-clause-told : goal.returns-else-ended-clause-told
returns-else-ended-clause-told c = λ p.
    let s = c.args.self.now in
    sym (ended-after (pending_of s.lull) p s.screen s.fits s.lulls.before_event)

pub returns-else-ended-clause-taken : goal.returns-else-ended-clause-taken
returns-else-ended-clause-taken c = λ p.
    let s = c.args.self.now in
    unmarked-same (after_dots (pending_of s.lull) p s.screen)
    (ended-after (pending_of s.lull) p s.screen s.fits s.lulls.before_event ∙ c.if-ended.false)
