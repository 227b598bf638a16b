use Rattle.nj_cpu.proofs.Cycles.{cycles}
use Rattle.nj_cpu.proofs.laws.cycles_are_published.Goals as goal

-- the lists of accesses are as long as published, and a walk takes a cycle for each
pub returns : goal.returns
returns g c = cycles g.B.Bus.acts c.cycles_are_published.ensures
