-- Pending dots leave the mark of an end.
use Rattle.std.proofs.Common.{sym}
use Rattle.nj_catchup.specs.Limit.{pending_of}
use Rattle.nj_catchup.proofs.Calm.{ended-after}
use Rattle.nj_catchup.proofs.CatchUpPicture.has_ended.Goals as goal

pub returns : goal.returns
returns c = λ p.
    let s = c.args.self.now in
    sym (ended-after (pending_of s.lull) p s.screen s.fits s.lulls.before_event)
