use Rattle.std.proofs.Common.{◌≡◌, ◌++◌, take}
use Rattle.nj_game.specs.Plan.{held_pads}
use Rattle.nj_candidate.proofs.movies.push_word.Given as goal

-- the pads so far were added, each for the frames of a step
abbrev pub invariant-loop-pad : goal.invariant-loop-pad
invariant-loop-pad l = l.movie ≡ l.fn.movie ++ held_pads l.hold (take l.pad-index l.word)
