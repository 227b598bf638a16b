-- The ledger of each call is the one that its blank names.
use Rattle.nj_search_tests.proofs.searches.a_saved_search_goes_on.Given as goal

abbrev pub ghosts-saved_at : goal.ghosts-saved_at
ghosts-saved_at g a = record { name = a.blank.name; parts = a.blank.parts }

abbrev pub ghosts-found_by : goal.ghosts-found_by
ghosts-found_by g a = record { name = a.blank.name; parts = a.blank.parts }
