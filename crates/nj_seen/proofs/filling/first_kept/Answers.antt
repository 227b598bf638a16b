-- The rest has room, and with one generation more it has none.
use Rattle.std.proofs.Common.{◌≡◌, ◌-◌, drop, ap, ◌∙◌, arith}
use Rattle.nj_seen.proofs.Keys.{stopped, none_goes}
use Rattle.nj_seen.proofs.filling.first_kept.Goals as goal

pub returns-then-more-slots-clause-place : goal.returns-then-more-slots-clause-place
returns-then-more-slots-clause-place c =
    let held = c.loop-place.invariant in
    stopped c.args.slots c.args.room (c.args.slots - c.args.room - c.loop-place.count) c.args.generations.now
    c.loop-place.place c.at.result.now
    c.loop-place-test.true held.within c.at.ensures (omega (arith, held.count, held.fits))
    (omega (arith, c.if-more-slots.true, c.len-more.ensures))

pub returns-clause-place : goal.returns-clause-place
returns-clause-place c =
    let held = c.loop-place.invariant in
    let none : c.loop-place.place ≡ 0 = omega (arith, c.loop-place-test.false) in
    ap (λ n. drop n c.args.generations.now) none
    ∙ none_goes c.args.slots c.args.room (c.args.slots - c.args.room - c.loop-place.count) c.args.generations.now
    c.loop-place.place c.loop-place-test.false
    (omega (arith, held.count, held.fits))
