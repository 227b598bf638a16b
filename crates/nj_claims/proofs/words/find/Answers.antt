-- One slot more holds another key.
use Rattle.std.proofs.Common.{ap, ◌∙◌}
use Rattle.nj_claims.specs.Tables.{key_at}
use Rattle.nj_claims.proofs.Walking.{passed_one}
use Rattle.nj_claims.proofs.words.find.Goals as goal

pub loop-distance-preserved : goal.loop-distance-preserved
loop-distance-preserved c = let same = ap (key_at c.args.words.now) c.slot_of-slot.ensures.slot in
    passed_one c.args.slots c.args.words.now c.args.key c.loop-distance.distance c.loop-distance.invariant
    (λ z. c.if-held-eq0.false (same ∙ z)) (λ z. c.if-held-key.false (same ∙ z))
