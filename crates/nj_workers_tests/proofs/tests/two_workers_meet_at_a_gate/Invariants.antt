-- The ledger of the call is the one that its blank names.
use Rattle.nj_workers_tests.proofs.tests.two_workers_meet_at_a_gate.Given as goal

abbrev pub ghosts-met : goal.ghosts-met
ghosts-met g a = record { name = a.blank.name; parts = a.blank.parts }
