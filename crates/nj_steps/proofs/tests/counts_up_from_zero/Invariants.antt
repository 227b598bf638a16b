-- The ledger of each call is the one that its blank names.
use Rattle.nj_steps.proofs.tests.counts_up_from_zero.Given as goal

abbrev pub ghosts-ticked : goal.ghosts-ticked
ghosts-ticked g a = record { name = a.blank.name; parts = a.blank.parts }

abbrev pub ghosts-ticked_once : goal.ghosts-ticked_once
ghosts-ticked_once g a = record { name = a.blank.name; parts = a.blank.parts }
