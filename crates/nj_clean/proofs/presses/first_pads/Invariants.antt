use Rattle.std.proofs.Common.{◌≡◌, ◌++◌, drop}
use Rattle.nj_replay.specs.Reading.{first_from, first_pads}
use Rattle.nj_clean.proofs.presses.first_pads.Given as goal

-- the frames that are left bring what is missing
abbrev pub invariant-loop-pad : goal.invariant-loop-pad
invariant-loop-pad l = l.word.items ++ first_from l.hold l.left (drop l.pad-index l.behind) ≡ first_pads l.hold l.behind
