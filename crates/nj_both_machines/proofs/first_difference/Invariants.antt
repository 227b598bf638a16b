-- The ledger is the one that the blank names.
use Rattle.nj_both_machines.proofs.first_difference.Given as goal

abbrev pub ghosts-differs_after : goal.ghosts-differs_after
ghosts-differs_after a = record { name = a.blank.name; parts = a.blank.parts }
