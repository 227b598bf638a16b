-- The ledger of each call is the one that its blank names.
use Rattle.nj_machine_tests.proofs.frames.walked.Given as goal

abbrev pub ghosts-played : goal.ghosts-played
ghosts-played g a = record { name = a.blank.name; parts = a.blank.parts }
