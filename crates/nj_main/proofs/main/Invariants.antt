-- The ledger is the one that the blank names.
use Rattle.nj_main.proofs.main.Given as goal

abbrev pub ghosts-carry_out : goal.ghosts-carry_out
ghosts-carry_out g a = record { name = a.blank.name; parts = a.blank.parts }
