-- The first empty slot is met.
use Rattle.std.proofs.Common.{ap, ◌∙◌}
use Rattle.nj_claims.specs.Tables.{key_at}
use Rattle.nj_claims.proofs.Walking.{passed_one}
use Rattle.nj_claims.proofs.Inserting.{passes_all}
use Rattle.nj_claims.proofs.placing.free_slot.Goals as goal

pub loop-distance-preserved : goal.loop-distance-preserved
loop-distance-preserved c = let same = ap (key_at c.args.words.now) c.slot_of-slot.ensures.slot in
    passed_one c.args.slots c.args.words.now c.args.key c.loop-distance.distance c.loop-distance.invariant
    (λ z. c.if-words-slot-eq0.false (same ∙ z)) (λ z.
    c.requires.key.1 c.slot_of-slot.result c.slot_of-slot.ensures.inside (same ∙ z))

pub unreachable-requires : goal.unreachable-requires
unreachable-requires c = passes_all c.args.slots c.loop-distance.distance c.args.words.now c.args.key c.requires.slots.0
    c.requires.room c.loop-distance-test.false c.loop-distance.invariant
