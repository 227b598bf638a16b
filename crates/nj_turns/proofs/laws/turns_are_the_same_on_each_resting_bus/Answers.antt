-- Dry turns are turns on a resting bus.
use Rattle.nj_turns.proofs.Turning.{turns}
use Rattle.nj_turns.proofs.laws.turns_are_the_same_on_each_resting_bus.Goals as goal

pub returns : goal.returns
returns g c = λ place ram board status line limit rests cpu last cycles n turn within.
    turns g.B.Bus.acts place ram board status line limit rests cpu last cycles n turn within
