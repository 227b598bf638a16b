-- The ledger of the call is the one that its blank names.
use Rattle.nj_replay_tests.proofs.tracing.the_properties_after_frames.Given as goal

abbrev pub ghosts-watched : goal.ghosts-watched
ghosts-watched g a = record { name = a.blank.name; parts = a.blank.parts }
