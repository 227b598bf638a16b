-- The ledger of each call is the one that its blank names.
use Rattle.nj_replay_tests.proofs.cleaning.what_is_not_cleaned.Given as goal

abbrev pub ghosts-outcome : goal.ghosts-outcome
ghosts-outcome g a = record { name = a.blank.name; parts = a.blank.parts }
