use Rattle.std.proofs.Common.{◌≡◌, ◌++◌, drop}
use Rattle.nj_game.specs.Plan.{held_pads}
use Rattle.nj_clean.proofs.presses.movie_of.Given as goal

-- the steps that are left bring what is missing
abbrev pub invariant-loop-pad : goal.invariant-loop-pad
invariant-loop-pad l = l.movie ++ held_pads l.hold (drop l.pad-index l.word) ≡ l.start ++ held_pads l.hold l.word
