-- The ledger of each call is the one that its blank names.
use Rattle.nj_search_tests.proofs.searches.workers_share_fronts_of_two_pieces.Given as goal

abbrev pub ghosts-found_by : goal.ghosts-found_by
ghosts-found_by g a = record { name = a.blank.name; parts = a.blank.parts }
