-- The ledger of the call is the one that its blank names.
use Rattle.nj_workers_tests.proofs.tests.win.Given as goal

abbrev pub ghosts-ended : goal.ghosts-ended
ghosts-ended g a = record { name = a.blank.name; parts = a.blank.parts }
