use Rattle.std.proofs.Common.{◌≡◌, ◌≤◌, length, drop}
use Rattle.nj_replay.specs.Reading.{moved, first_left}
use Rattle.nj_replay.proofs.reading.first_left.Given as goal

-- up to this frame both movies are the same
abbrev pub invariant-loop-frame : goal.invariant-loop-frame
invariant-loop-frame l =
    (l.frame ≤ length l.movie)
    × (first_left l.whole l.movie ≡ moved l.frame (first_left (drop l.frame l.whole) (drop l.frame l.movie)))
