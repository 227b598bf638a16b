use Rattle.std.proofs.Common.{◌≡◌, ◌++◌, replicate}
use Rattle.nj_candidate.proofs.movies.push_pad.Given as goal

-- so many frames were added
abbrev pub invariant-loop-frame : goal.invariant-loop-frame
invariant-loop-frame l = l.movie ≡ l.fn.movie ++ replicate l._frame l.pad
