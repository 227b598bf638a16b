-- The ledger of each call is the one that its blank names.
use Rattle.nj_replay_tests.proofs.tracing.jams_and_frames_that_are_not_there.Given as goal

abbrev pub ghosts-traced : goal.ghosts-traced
ghosts-traced g a = record { name = a.blank.name; parts = a.blank.parts }
