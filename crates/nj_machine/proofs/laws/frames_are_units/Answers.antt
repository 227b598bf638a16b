use Rattle.std.proofs.Common.{sym}
use Rattle.nj_machine.proofs.Fuel.{frame_ends, frame_goes_on, fewer_left, next_of}
use Rattle.nj_machine.proofs.laws.frames_are_units.Goals as goal

pub returns-clause-ends : goal.returns-clause-ends
returns-clause-ends c s t pad end h e = frame_ends s t end pad h e

pub returns-clause-goes_on : goal.returns-clause-goes_on
returns-clause-goes_on c s t pad h e = sym (frame_goes_on s t pad h e)

pub returns-clause-nearer : goal.returns-clause-nearer
returns-clause-nearer c s t pad h e = fewer_left s t pad h e

pub returns-clause-ready : goal.returns-clause-ready
returns-clause-ready c s t pad h e = let next = next_of pad s t h e in next.ready
