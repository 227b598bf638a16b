-- The ledger of each call is the one that its blank names.
use Rattle.nj_machine_tests.proofs.frames.saved_and_loaded.Given as goal

abbrev pub ghosts-played : goal.ghosts-played
ghosts-played g a = record { name = a.blank.name; parts = a.blank.parts }

abbrev pub ghosts-played-2 : goal.ghosts-played-2
ghosts-played-2 g a = record { name = a.blank.name; parts = a.blank.parts }
