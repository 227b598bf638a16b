use Rattle.nj_cpu.proofs.Straight.{unit-jams}
use Rattle.nj_cpu.proofs.laws.jams_are_those_of_the_table.Goals as goal

-- no access jams, and the class of the jams does
pub returns : goal.returns
returns g c = unit-jams g.B.Bus.acts
