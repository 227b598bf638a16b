-- The ledger of each call is the one that its blank names.
use Rattle.nj_search_tests.proofs.searches.one_thread_searches.Given as goal

abbrev pub ghosts-found : goal.ghosts-found
ghosts-found g a = record { name = a.blank.name; parts = a.blank.parts }
