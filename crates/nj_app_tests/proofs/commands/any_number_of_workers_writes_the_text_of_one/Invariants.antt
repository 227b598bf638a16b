-- The ledger is the one that the blank names.
use Rattle.nj_app_tests.proofs.commands.any_number_of_workers_writes_the_text_of_one.Given as goal

abbrev pub ghosts-all_are_shared : goal.ghosts-all_are_shared
ghosts-all_are_shared g a = record { name = a.blank.name; parts = a.blank.parts }
