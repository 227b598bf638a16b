-- A unit more, and the turn that is found.
use Rattle.std.proofs.Common.{refl, add-one}
use Rattle.nj_turns.proofs.Found.{ran-none, ran-more, found}
use Rattle.nj_turns.proofs.turn.turn_cycles.Goals as goal

pub loop-init : goal.loop-init
loop-init c = ran-none _ _ refl

pub loop-preserved : goal.loop-preserved
loop-preserved c =
    let dry = c.if-not-run_unit.false in
    rw add-one (ran-more _ _ _ _ _ _ _ c.loop.invariant (c.run_unit.ensures.unit dry) (c.run_unit.ensures.kept dry))

pub returns-then-is_back-clause-turn : goal.returns-then-is_back-clause-turn
returns-then-is_back-clause-turn c = λ some.
    let dry = c.if-not-run_unit.false in
    let kept = c.run_unit.ensures.kept dry in
    let more = ran-more _ _ _ _ _ _ _ c.loop.invariant (c.run_unit.ensures.unit dry) kept in
    found _ _ _ _ _ more (c.is_back.ensures.cpu c.if-is_back.true) (c.is_back.ensures.byte c.if-is_back.true) kept.kept

pub returns-then-is_back-clause-few : goal.returns-then-is_back-clause-few
returns-then-is_back-clause-few c =
    let dry = c.if-not-run_unit.false in
    let more = ran-more _ _ _ _ _ _ _ c.loop.invariant (c.run_unit.ensures.unit dry) (c.run_unit.ensures.kept dry) in
    more.keeps.few
