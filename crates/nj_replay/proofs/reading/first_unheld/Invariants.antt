use Rattle.std.proofs.Common.{◌≡◌, drop}
use Rattle.nj_game.specs.Plan.{held_pads}
use Rattle.nj_replay.specs.Reading.{moved, first_left, first_pads}
use Rattle.nj_replay.proofs.Holding.{unheld}
use Rattle.nj_replay.proofs.reading.first_unheld.Given as goal

-- up to this frame each step holds its pad, and of the last one so many frames are left
abbrev pub invariant-loop-frame : goal.invariant-loop-frame
invariant-loop-frame l =
    first_left (held_pads l.hold (first_pads l.hold l.behind)) l.behind
    ≡ moved l.frame (unheld l.hold l.left l.held (drop l.frame l.behind))
