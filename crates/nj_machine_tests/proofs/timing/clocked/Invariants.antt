-- The ledger of each call is the one that its blank names.
use Rattle.nj_machine_tests.proofs.timing.clocked.Given as goal

abbrev pub ghosts-after_units : goal.ghosts-after_units
ghosts-after_units a = record { name = a.blank.name; parts = a.blank.parts }
