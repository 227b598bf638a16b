-- The ledger of each call is the one that its blank names.
use Rattle.nj_machine_tests.proofs.units.units_of_the_walk.Given as goal

abbrev pub ghosts-frame_seen : goal.ghosts-frame_seen
ghosts-frame_seen g a = record { name = a.blank.name; parts = a.blank.parts }
