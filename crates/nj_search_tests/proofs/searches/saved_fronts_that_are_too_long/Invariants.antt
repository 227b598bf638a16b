-- The ledger of each call is the one that its blank names.
use Rattle.nj_search_tests.proofs.searches.saved_fronts_that_are_too_long.Given as goal

abbrev pub ghosts-saved_at : goal.ghosts-saved_at
ghosts-saved_at g a = record { name = a.blank.name; parts = a.blank.parts }
