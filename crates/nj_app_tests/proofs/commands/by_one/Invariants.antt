-- The ledger is the one that the blank names.
use Rattle.nj_app_tests.proofs.commands.by_one.Given as goal

abbrev pub ghosts-run_alone : goal.ghosts-run_alone
ghosts-run_alone a = record { name = a.blank.name; parts = a.blank.parts }
