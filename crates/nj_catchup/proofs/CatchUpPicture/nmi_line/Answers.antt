-- Pending dots leave the line.
use Rattle.std.proofs.Common.{sym, ◌∙◌}
use Rattle.nj_catchup.specs.Limit.{pending_of}
use Rattle.nj_catchup.proofs.Calm.{nmi_line-after}
use Rattle.nj_catchup.proofs.CatchUpPicture.nmi_line.Goals as goal

pub returns : goal.returns
returns c = λ p.
    let s = c.args.self.now in
    s.lulls.line ∙ sym (nmi_line-after (pending_of s.lull) p s.screen s.fits s.lulls.before_event)
