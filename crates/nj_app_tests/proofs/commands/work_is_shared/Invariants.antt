-- The ledger is the one that the blank names.
use Rattle.nj_app_tests.proofs.commands.work_is_shared.Given as goal

abbrev pub ghosts-met : goal.ghosts-met
ghosts-met g a = record { name = a.blank.name; parts = a.blank.parts }
