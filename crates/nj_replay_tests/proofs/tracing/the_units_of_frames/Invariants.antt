-- The ledger of each call is the one that its blank names.
use Rattle.nj_replay_tests.proofs.tracing.the_units_of_frames.Given as goal

abbrev pub ghosts-traced : goal.ghosts-traced
ghosts-traced g a = record { name = a.blank.name; parts = a.blank.parts }
