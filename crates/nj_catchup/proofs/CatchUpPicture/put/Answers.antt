-- No dot is pending.
use Rattle.std.proofs.Common.{ap, sym, ◌∙◌}
use Rattle.nj_dots.specs.Image.{with_picture}
use Rattle.nj_catchup.specs.Limit.{pending_of}
use Rattle.nj_catchup.proofs.Sums.{dots-zero}
use Rattle.nj_catchup.proofs.CatchUpPicture.put.Goals as goal

pub returns : goal.returns
returns c = λ p.
    let s = c.args.self.now in
    c.put.ensures
    ∙ ap (λ e. with_picture e c.args.image.now) (sym (dots-zero (pending_of s.lull) p s.screen c.requires.pending))
