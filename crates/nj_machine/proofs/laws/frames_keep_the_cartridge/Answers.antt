use Rattle.nj_machine.proofs.Begins.{begun_ready, begun_rom}
use Rattle.nj_machine.proofs.Fuel.{frame_leaves, played}
use Rattle.nj_machine.proofs.laws.frames_keep_the_cartridge.Goals as goal

pub returns-clause-begun : goal.returns-clause-begun
returns-clause-begun c = begun_ready

pub returns-clause-cartridge : goal.returns-clause-cartridge
returns-clause-cartridge c = begun_rom

pub returns-clause-ready : goal.returns-clause-ready
returns-clause-ready c s pad h = let left = frame_leaves s pad h in left.ready

pub returns-clause-kept : goal.returns-clause-kept
returns-clause-kept c s pad h = let left = frame_leaves s pad h in left.of_rom

pub returns-clause-played : goal.returns-clause-played
returns-clause-played c cart movie h = let left = played cart movie (begun_ready cart h) in left.ready

pub returns-clause-played_kept : goal.returns-clause-played_kept
returns-clause-played_kept c cart movie h = let left = played cart movie (begun_ready cart h) in left.of_rom
