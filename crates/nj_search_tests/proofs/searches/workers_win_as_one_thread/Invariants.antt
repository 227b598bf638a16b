-- The ledger of each call is the one that its blank names.
use Rattle.nj_search_tests.proofs.searches.workers_win_as_one_thread.Given as goal

abbrev pub ghosts-found_by : goal.ghosts-found_by
ghosts-found_by g a = record { name = a.blank.name; parts = a.blank.parts }
