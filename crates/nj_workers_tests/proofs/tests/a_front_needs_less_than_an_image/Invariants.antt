-- The ledger of the call is the one that its blank names.
use Rattle.nj_workers_tests.proofs.tests.a_front_needs_less_than_an_image.Given as goal

abbrev pub ghosts-front_of_one_step : goal.ghosts-front_of_one_step
ghosts-front_of_one_step g a = record { name = a.blank.name; parts = a.blank.parts }
