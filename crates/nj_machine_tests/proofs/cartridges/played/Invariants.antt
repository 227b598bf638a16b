-- The cartridge is the one that it was.
use Rattle.std.proofs.Common.{◌≡◌}
use Rattle.nj_machine.specs.State.{rom_of}
use Rattle.nj_machine_tests.proofs.cartridges.played.Given as goal

abbrev pub invariant-loop-pad : goal.invariant-loop-pad
invariant-loop-pad g l = rom_of l.machine ≡ rom_of l.fn.machine
