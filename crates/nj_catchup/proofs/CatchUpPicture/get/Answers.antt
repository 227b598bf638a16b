-- No dot changes the mirroring, and then none is pending.
use Rattle.std.proofs.Common.{◌∙◌}
use Rattle.nj_dots.proofs.Mirroring.{after_dots-vertical}
use Rattle.nj_catchup.specs.Limit.{pending_of}
use Rattle.nj_catchup.proofs.Sums.{dots-zero}
use Rattle.nj_catchup.proofs.CatchUpPicture.get.Goals as goal

pub get-requires-clause-stored : goal.get-requires-clause-stored
get-requires-clause-stored c =
    let s = c.args.self.now in
    let h = c.requires.stored in
    (h.1.0, (h.1.1.0, h.1.1.1 ∙ after_dots-vertical (pending_of s.lull) h.0 s.screen))

pub returns-clause-state : goal.returns-clause-state
returns-clause-state c = λ p s holds mirrored.
    let old = c.args.self.now in
    dots-zero (pending_of c.of-self.result) p c.get.new.self c.of-self.ensures.pending
    ∙ c.get.ensures.state s holds (mirrored ∙ after_dots-vertical (pending_of old.lull) p old.screen)
