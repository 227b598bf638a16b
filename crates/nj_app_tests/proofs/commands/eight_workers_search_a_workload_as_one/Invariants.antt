-- The ledger is the one that the blank names.
use Rattle.nj_app_tests.proofs.commands.eight_workers_search_a_workload_as_one.Given as goal

abbrev pub ghosts-eight_as_one : goal.ghosts-eight_as_one
ghosts-eight_as_one g a = record { name = a.blank.name; parts = a.blank.parts }
